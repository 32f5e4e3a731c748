-- What the contracts of this crate cite beside the definitions of `spec`.
pub mod Running
