-- What the contracts of a call's number and report cite beside the definitions of `spec`.
pub mod Report
pub mod Leaves
