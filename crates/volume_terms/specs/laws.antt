pub mod List
pub mod Name
pub mod Number
pub mod Rounding
pub mod Same
