-- The laws that the proofs share, in the order in which to read them.
pub mod Bitwise
pub mod Find
pub mod Starts
pub mod Place
pub mod Chosen
pub mod Onward
