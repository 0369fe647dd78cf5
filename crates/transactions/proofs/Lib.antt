pub mod CheckLaws
pub mod GroupLaws
pub mod ProgressLaws
pub mod ReadyLaws
pub mod SummaryLaws
