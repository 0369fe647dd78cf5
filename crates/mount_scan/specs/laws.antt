pub mod Scan
pub mod Keys
pub mod Order
pub mod Listed
pub mod CheckpointReads
pub mod Summarized
