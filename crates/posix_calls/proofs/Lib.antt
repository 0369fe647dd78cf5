mod Mounting
mod Unmounting
pub mod Answered
mod Calls
pub mod Called
pub mod Refreshed
pub mod Closed
pub mod Exact
