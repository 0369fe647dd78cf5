pub mod PlainState
pub mod PlainMeaning
pub mod Listing
pub mod Paths
pub mod Sameness
