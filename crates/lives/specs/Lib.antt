pub mod Lives
pub mod PlainLives
pub mod LawTerms
pub mod laws
