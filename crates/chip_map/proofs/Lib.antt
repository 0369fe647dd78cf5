pub mod Noted
pub mod Adding
