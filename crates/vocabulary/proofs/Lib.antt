-- What the loop over a source's records keeps; what a build comes to.
pub mod RecordTurns
pub mod Building
