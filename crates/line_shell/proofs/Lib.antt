pub mod Words
pub mod Numbers
pub mod Lines
pub mod Reading
pub mod Running
pub mod LineLaws
pub mod WordLaws
pub mod Scripting
