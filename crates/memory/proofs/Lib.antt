-- Lemmas of the emptied memory.
pub mod Emptying
