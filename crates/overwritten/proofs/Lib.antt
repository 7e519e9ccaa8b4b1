pub mod Judged
pub mod Locals
