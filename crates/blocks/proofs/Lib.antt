pub mod Parse
pub mod Scan
