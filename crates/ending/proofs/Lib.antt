-- What the proofs share.
pub mod BuildEnd
