-- The refusals of a stream call.
pub mod Refusing
