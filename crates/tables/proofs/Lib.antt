pub mod Locating
pub mod Sorting
pub mod Bridge
