-- Lemmas of the copies.
pub mod Fronts
