pub mod Sessions
pub mod Statuses
pub mod Spaces
pub mod Images
pub mod Acting
pub mod Stopping
pub mod Program
pub mod Choices
