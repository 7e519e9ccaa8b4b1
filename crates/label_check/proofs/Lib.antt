pub mod Admission
pub mod Fine
pub mod Walks
