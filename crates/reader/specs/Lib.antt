-- What the contracts of this crate cite.
pub mod Reader
pub mod HeldBytes
