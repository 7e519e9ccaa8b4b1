pub mod Laid
pub mod Read
pub mod Widths
