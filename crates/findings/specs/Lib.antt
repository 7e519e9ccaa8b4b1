pub mod Accepted
pub mod Searched
pub mod Loan
