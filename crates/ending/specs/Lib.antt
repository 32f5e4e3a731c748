-- The end of a build.
pub mod EndOfBuild
