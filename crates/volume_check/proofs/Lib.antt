pub mod Saying
pub mod Firsts
pub mod Roots
pub mod OnFlash
