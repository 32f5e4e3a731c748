-- The bytes that std gives a character are those of the table of RFC 3629, section 3; what is no character has none. Assumes nothing.
use mathlib.Core.Path.{◌≡◌}
use mathlib.Core.Logic.{inl, inr}
use mathlib.Core.List.{[]}
use Prim.Native.Nat.{ℕ}
use native.Mathlib.Omega.{arith}
use lib.Utf8.{encode}
use Rattle.std.specs.Char.{InScalarRange, OutOfScalarRange}
use Rattle.std.proofs.lemmas.Bool.Decides.{nat_tests}
use Rattle.spec.specs.Utf8.{utf8_of}
use Rattle.laws.specs.Utf8Laws.{utf8-surrogate, utf8-above}

pub encode-table : (c : ℕ) → InScalarRange c → encode c ≡ utf8_of c
unfolding encode utf8_of
encode-table c h = grind (arith, nat_tests)

pub none_outside : (c : ℕ) → OutOfScalarRange c → utf8_of c ≡ []
none_outside c h = elim h [ inl s ↦ utf8-surrogate c (omega arith) | inr a ↦ utf8-above c (omega arith) ]
