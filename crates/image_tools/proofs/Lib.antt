pub mod Escapes
pub mod Going
pub mod Hosts
pub mod Lists
pub mod Reading
