-- What the proofs of this crate share, and what whoever places the nodes cites.
pub mod NodeRun
pub mod InsertionCases
pub mod ChildWalk
pub mod Chains
pub mod Linked
pub mod Child
pub mod InsertionMeans
pub mod Tails
pub mod Gathering
pub mod BucketCases
pub mod Queueing
pub mod ThreadingMeans
