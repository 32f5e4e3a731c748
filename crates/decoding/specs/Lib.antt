-- What the contracts of this crate cite, in the order in which to read it.
pub mod Answers
pub mod Measured
