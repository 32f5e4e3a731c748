-- Laws that the proofs share.
pub mod LookupLaws
pub mod DecodePasses
pub mod DecodeText
