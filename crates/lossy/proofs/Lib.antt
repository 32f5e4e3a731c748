-- Laws that the proofs share.
pub mod LossyText
pub mod LossyPasses
pub mod LossyAnswers
