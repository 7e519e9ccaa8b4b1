pub mod Predecessors
pub mod Ways
