pub mod Checkpoint
pub mod Counting
pub mod Committed
pub mod Table
