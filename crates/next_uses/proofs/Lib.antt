pub mod Turns
pub mod Walks
pub mod Backing
pub mod Meets
