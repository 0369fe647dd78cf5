pub mod Faults
pub mod Trees
pub mod Verdicts
pub mod Found
