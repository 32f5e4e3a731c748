-- What the proofs share, in the order in which to read it.
pub mod CellRuns
pub mod Stores
pub mod PushMeans
pub mod Begun
