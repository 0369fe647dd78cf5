pub mod Copies
pub mod Fuses
