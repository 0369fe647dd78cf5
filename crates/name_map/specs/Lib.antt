pub mod NameEntries
pub mod laws
