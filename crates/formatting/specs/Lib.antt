pub mod Formatting
pub mod laws
