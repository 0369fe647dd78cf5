pub mod Surviving
pub mod Opened
pub mod Tagged
pub mod Latest
pub mod Lost
