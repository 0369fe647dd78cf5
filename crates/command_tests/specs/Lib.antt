pub mod Committed
pub mod laws
pub mod Fuses
pub mod Refusals
