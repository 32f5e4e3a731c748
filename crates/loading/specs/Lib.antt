-- What holds of every accepted source.
pub mod Checks
pub mod ByteStrings
pub mod Accepted
pub mod Left
