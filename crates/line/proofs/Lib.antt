-- Laws that the proofs of this crate cite, and for callers of `lines` how many there are.
pub mod Spaces
pub mod LineTurns
pub mod Cut
