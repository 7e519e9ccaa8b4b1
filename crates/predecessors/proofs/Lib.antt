pub mod Chains
pub mod Building
pub mod Pushes
