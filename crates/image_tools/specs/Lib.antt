pub mod FirstNames
pub mod Folders
pub mod HostNames
pub mod Leaving
pub mod Refusing
pub mod laws
