pub mod Fits
pub mod Ops
pub mod Scan
pub mod Simple
pub mod Loops
