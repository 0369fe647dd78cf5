pub mod Sizes
pub mod Slots
pub mod Walks
pub mod Whole
pub mod TrustedWalks
