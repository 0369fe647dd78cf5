pub mod Layout
pub mod Writes
pub mod Quiet
pub mod Images
pub mod ImageState
pub mod Opening
pub mod Readings
pub mod Creation
