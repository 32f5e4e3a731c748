-- The definitions that contracts of this crate name.
pub mod BucketRun
