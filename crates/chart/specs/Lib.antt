pub mod Lent
pub mod Loan
