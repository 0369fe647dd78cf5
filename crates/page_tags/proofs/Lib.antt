pub mod SetBits
pub mod Parts
pub mod Ranges
pub mod Strides
pub mod SlotBytes
pub mod HeaderBytes
pub mod HeaderTests
