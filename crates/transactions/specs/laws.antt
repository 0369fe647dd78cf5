pub mod Handing
pub mod Newest
pub mod Ready
pub mod Steady
pub mod Truth
