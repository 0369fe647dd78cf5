pub mod Sessions
pub mod LifeLaws
