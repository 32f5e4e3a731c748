-- What a piece means. Assumes nothing.
use Rattle.std.specs.Prelude.{[], ◌∷◌}
use Rattle.escapes.specs.declared.Piece.{Piece}
use Rattle.spec.specs.Literal.{Piece as PieceAt}
use Rattle.spec.specs.Utf8.{utf8_of}

-- the bytes that it stands for, and how many bytes behind the first belong to it
abbrev pub piece_of : Piece → PieceAt
piece_of (Piece.Byte b n) = record { bytes = b ∷ []; more = n }
piece_of (Piece.Point c n) = record { bytes = utf8_of c; more = n }
