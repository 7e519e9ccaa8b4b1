pub mod Words
pub mod Pass
