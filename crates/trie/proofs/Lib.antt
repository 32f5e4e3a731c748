-- What the proofs of this crate share.
pub mod Steps
pub mod Threading
