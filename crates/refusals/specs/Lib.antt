-- The numbers and places of the refusals.
pub mod Numbers
pub mod Places
