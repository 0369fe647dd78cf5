pub mod Counting
pub mod Reporting
pub mod Few
pub mod OneName
pub mod Edits
pub mod Free
pub mod Applying
pub mod Building
