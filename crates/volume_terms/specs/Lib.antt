pub mod Names
pub mod Sizes
pub mod VolumeSizes
pub mod Rounding
pub mod laws
