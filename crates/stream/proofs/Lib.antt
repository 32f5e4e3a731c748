-- Laws of the definitions that the proofs of the running encoder cite.
pub mod Windows
pub mod Adding
pub mod Calling
pub mod Ending
