pub mod Following
pub mod Faults
pub mod Shown
pub mod Searching
pub mod Scanned
pub mod Keeping
