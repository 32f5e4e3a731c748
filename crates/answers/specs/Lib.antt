-- What the contracts of `vocabulary` and of the linked calls cite.
pub mod Answers
pub mod LoadParts
