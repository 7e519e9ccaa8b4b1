pub mod Words
pub mod Locals
pub mod Passes
