-- Lemmas that several proofs cite.
pub mod Ranges
pub mod StepTurns
