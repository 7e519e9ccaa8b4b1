pub mod Blocks
pub mod Scopes
pub mod Statements
pub mod Choices
pub mod Rooms
pub mod Sheets
pub mod Sanity
