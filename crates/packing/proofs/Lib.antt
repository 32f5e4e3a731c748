-- The laws that the proofs share, in the order in which to read them.
pub mod Walked
pub mod Chained
pub mod Answered
