-- The definitions that the contracts cite, in the order in which to read them.
pub mod Marks
pub mod Going
pub mod Lent
