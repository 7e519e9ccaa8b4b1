pub mod Backwards
pub mod Searches
