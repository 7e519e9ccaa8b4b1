pub mod FirstRead
