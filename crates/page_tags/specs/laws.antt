pub mod Bit
pub mod Byte
pub mod Check
pub mod Header
pub mod Slot
pub mod Tag
pub mod Summary
