mod Lasting
mod Doing
mod Ended
mod InPower
mod FailedMount
mod Representing
mod Living
mod Lists
pub mod Walks
pub mod Names
pub mod Keeping
pub mod Calls
pub mod Runs
pub mod Passing
