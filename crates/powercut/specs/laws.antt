pub mod SameFlash
pub mod SameSummaries
