-- What the proof of encoding uses, on lists.
pub mod EncodeTurns
