-- What a token by value means, in the terms of `spec`. Assumes nothing.
use Rattle.spec.specs.Token.{Token}
use Rattle.entry.specs.declared.Entry.{Entry}

-- the token of this id and these bytes
abbrev pub token_of : Entry → Token
token_of e = record { id = e.id; bytes = e.bytes.now }
