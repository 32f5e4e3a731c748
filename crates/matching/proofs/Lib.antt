-- What the proofs of several functions use, on lists, and what bounds a match.
pub mod WalkBounds
pub mod Walking
pub mod Reading
pub mod Row
pub mod BytesLeft
