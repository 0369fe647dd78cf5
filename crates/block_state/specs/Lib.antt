pub mod Table
pub mod TableOf
pub mod Counting
pub mod Committed
pub mod laws
