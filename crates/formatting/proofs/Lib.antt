pub mod Counting
pub mod Keeping
pub mod Marking
pub mod Writing
pub mod Rooted
pub mod Truth
pub mod Mountable
