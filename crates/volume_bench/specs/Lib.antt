pub mod Totaled
