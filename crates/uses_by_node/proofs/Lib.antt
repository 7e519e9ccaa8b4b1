pub mod ByNode
pub mod Places
pub mod Flags
