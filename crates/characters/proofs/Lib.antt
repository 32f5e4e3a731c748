-- Lemmas that several proofs cite, and that the table of RFC 3629 and its grammar agree.
mod Table
pub mod BlankTurns
pub mod Points
