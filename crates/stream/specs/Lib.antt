-- What the contracts of the running encoder cite beside the definitions of `spec`.
pub mod Handing
