pub mod States
pub mod Valid
pub mod Surveys
pub mod Counting
