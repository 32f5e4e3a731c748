-- What the contracts of matching cite beside the definitions of `spec`.
pub mod Answers
