pub mod Refusing
pub mod laws
