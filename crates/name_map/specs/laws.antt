pub mod NameEntries
pub mod Seen
