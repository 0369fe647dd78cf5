pub mod Files
pub mod HeadPages
pub mod Heads
pub mod Chunks
pub mod Parts
pub mod Cuts
pub mod Reads
pub mod Writes
