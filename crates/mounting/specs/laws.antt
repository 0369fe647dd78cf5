pub mod OneProof
pub mod TreeAnswers
