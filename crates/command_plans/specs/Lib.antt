pub mod Paths
pub mod Tables
pub mod Classes
pub mod Places
pub mod Rooms
pub mod Plans
pub mod laws
