pub mod Fact
pub mod Plan
pub mod Room
