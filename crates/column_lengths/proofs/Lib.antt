pub mod Any
pub mod Long
