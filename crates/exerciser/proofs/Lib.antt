mod Words
pub mod Seeds
pub mod Sessions
pub mod Covering
pub mod Following
pub mod Causes
pub mod Mounting
