-- What a token by value means.
pub mod TokenOf
