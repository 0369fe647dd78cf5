pub mod Going
pub mod Showing
pub mod Lawful
pub mod OnFlash
pub mod Holding
pub mod Settled
pub mod Counting
pub mod Findable
