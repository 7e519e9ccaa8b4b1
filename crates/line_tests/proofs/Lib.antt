pub mod Sweeps
pub mod Nested
pub mod Lows
