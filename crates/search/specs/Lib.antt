pub mod Search
pub mod Worklist
pub mod Stamps
pub mod Lent
pub mod Engines
pub mod Running
