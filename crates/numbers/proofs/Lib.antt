-- Laws that the proofs of this crate, of `escapes` and of `literal` cite.
pub mod HexCode
pub mod Numbers
