pub mod Promises
pub mod Pieces
