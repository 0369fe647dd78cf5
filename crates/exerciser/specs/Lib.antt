pub mod Faults
pub mod Causes
pub mod Words
pub mod Draws
pub mod Lines
pub mod Keeping
pub mod Seen
pub mod Cutting
