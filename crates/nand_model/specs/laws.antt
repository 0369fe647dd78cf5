pub mod Calls
pub mod Changes
pub mod Memory
pub mod Trusted
