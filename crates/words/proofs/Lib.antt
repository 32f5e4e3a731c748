-- The laws that the proofs share, in the order in which to read them.
pub mod WordTurns
pub mod Roots
pub mod Filled
