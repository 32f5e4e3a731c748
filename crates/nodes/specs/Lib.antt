-- The trie's nodes in lent memory, in the order in which to read it.
pub mod Run
pub mod Work
pub mod Insertion
pub mod Stands
pub mod Links
pub mod Walk
pub mod Gather
pub mod Buckets
pub mod Queue
