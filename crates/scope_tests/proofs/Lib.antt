pub mod Sweeps
pub mod Wrong
