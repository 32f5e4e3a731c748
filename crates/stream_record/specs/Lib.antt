-- What the contracts of this crate and of the calls of a stream cite beside the definitions of `spec`.
pub mod Answers
