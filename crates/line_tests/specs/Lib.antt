pub mod Scopes
pub mod Turn
