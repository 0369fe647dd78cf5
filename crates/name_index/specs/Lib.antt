pub mod Hashes
pub mod Lists
pub mod Halves
pub mod Standings
pub mod Sets
pub mod Packing
pub mod Names
pub mod Covering
