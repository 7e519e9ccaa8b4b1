pub mod Sweeps
pub mod Nesting
pub mod Decoded
pub mod Opened
