-- Laws of the definitions that the proofs of a run cite.
pub mod Undecided
pub mod RunTurns
