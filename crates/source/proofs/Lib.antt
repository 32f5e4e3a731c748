-- What the proofs of this crate and the crates above cite.
pub mod Early
pub mod Literals
