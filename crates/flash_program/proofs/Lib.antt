pub mod Reporting
pub mod OpenedImages
pub mod Stating
pub mod CutEndings
pub mod Early
pub mod Stopping
mod Reading
mod Adding
