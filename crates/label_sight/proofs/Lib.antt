pub mod Named
pub mod Names
pub mod Scan
