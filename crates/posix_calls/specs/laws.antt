pub mod Ending
pub mod Trusting
pub mod Formatted
