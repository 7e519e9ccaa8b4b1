pub mod Bools
pub mod Count
pub mod Closure
pub mod Engines
pub mod Worklist
pub mod Stamps
pub mod Alike
pub mod Running
