pub mod Ends
pub mod Label
pub mod Numbers
pub mod Starts
pub mod Truths
