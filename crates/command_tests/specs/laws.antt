pub mod Committed
pub mod Fuses
pub mod Refusals
