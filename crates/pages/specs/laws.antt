pub mod Changes
pub mod Faults
pub mod Known
pub mod Maps
pub mod State
pub mod Low
pub mod Mountable
