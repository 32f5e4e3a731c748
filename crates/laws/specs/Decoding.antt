-- On loaded memory a list of present ids decodes to its tokens joined; another stops at its first absent id; and a decoding is full where
-- the next token's bytes no longer fit: the theorems `decoding-joins`, `decoding-stops`, `decoding-fills`. Assumes nothing.
use Rattle.std.specs.Prelude.{◌≡◌, true}
use Rattle.std.proofs.Common.{sym, ◌∙◌, zero-add, le-leb}
use Rattle.std.proofs.Math.Path.{ap, ap₂}
use mathlib.Core.List.{List, [], ◌∷◌, ◌++◌, append-nil, append_assoc}
use Prim.Native.Nat.{ℕ, suc, ◌+◌, ◌-◌, ◌≤◌, ◌<◌}
use native.Mathlib.Omega.{arith}
use Rattle.std.proofs.Math.ListN.{length, length-append}
use Rattle.std.proofs.lemmas.Bool.{lt-leb}
use Rattle.spec.specs.Lists.{all, each}
use Rattle.spec.specs.Token.{Token, bytes_of, joined, present}
use Rattle.spec.specs.Memory.{Memory, Loaded}
use Rattle.spec.specs.Decode.{lookup, Decoding, decoded, decode_at, decoding}
use Rattle.spec.specs.Decode as decode
use Rattle.spec.specs.Theorems.{DecodingJoins, DecodingStops, DecodingFills}
use Rattle.laws.specs.Tests.{and_l, and_r}
use Rattle.laws.specs.Spans.{not-present, present-bytes, looking}

-- ---- the equations of `decode_at`

module _ (m : Memory) (n index i : ℕ) (ids : List ℕ) where
  pub decode-absent : lookup m i ≡ [] → decode_at m n index (i ∷ ids) ≡ record { bytes = []; end = decode.absent index i }
  unfolding decode_at
  decode-absent e = rw (e, decode_at)

  pub decode-full : (bs : List ℕ) → lookup m i ≡ bs → 1 ≤ length bs → n < length bs
      → decode_at m n index (i ∷ ids) ≡ record { bytes = []; end = decode.full index }
  unfolding decode_at
  decode-full [] e h f = absurd (omega arith)
  decode-full (b ∷ bs) e h f = rw (e, decode_at) (rw (lt-leb (length (b ∷ bs)) n f))

  pub decode-more : (bs : List ℕ) → lookup m i ≡ bs → 1 ≤ length bs → length bs ≤ n
      → decode_at m n index (i ∷ ids) ≡ decoded bs (decode_at m (n - length bs) (suc index) ids)
  unfolding decode_at
  decode-more [] e h f = absurd (omega arith)
  decode-more (b ∷ bs) e h f = rw (e, decode_at) (rw (le-leb (length (b ∷ bs)) n f))

-- ---- the ids before the end

module _ {m : Memory} {ts : List Token} (L : Loaded m ts) where
  present-front : (ids rest : List ℕ) (n index : ℕ) → all (present ts) ids ≡ true → length (joined ts ids) ≤ n
      → decode_at m n index (ids ++ rest) ≡ decoded (joined ts ids) (decode_at m (n - length (joined ts ids)) (index + length ids) rest)
  unfolding all joined each
  present-front [] rest n index e h =
      let a : n ≡ n - 0 = omega arith in
      let b : index ≡ index + 0 = omega arith in
      ap₂ (λ (x y : ℕ). decode_at m x y rest) a b
  present-front (i ∷ ids) rest n index e h =
      let p = and_l (present ts i) (all (present ts) ids) e in
      let l = length-append (bytes_of ts i) (joined ts ids) in
      let a : n - length (bytes_of ts i) - length (joined ts ids) ≡ n - length (joined ts (i ∷ ids)) = omega arith in
      let b : suc index + length ids ≡ index + suc (length ids) = omega arith in
      decode-more m n index i (ids ++ rest) (bytes_of ts i) (looking m ts L i) (present-bytes ts L.valid i p) (omega arith)
      ∙ ap (decoded (bytes_of ts i))
      (present-front ids rest (n - length (bytes_of ts i)) (suc index) (and_r (present ts i) (all (present ts) ids) e) (omega arith)
      ∙ ap₂ (λ (x y : ℕ). decoded (joined ts ids) (decode_at m x y rest)) a b)
      ∙ ap (λ (bs : List ℕ). record { bytes = bs; end = tail.end }) (sym (append_assoc (bytes_of ts i) (joined ts ids) tail.bytes))
    where
      tail : Decoding
      tail = decode_at m (n - length (joined ts (i ∷ ids))) (index + suc (length ids)) rest

pub decoding-joins : DecodingJoins
unfolding decoding decode_at
decoding-joins m ts L ids e n h = ap (decode_at m n 0) (sym (append-nil ids)) ∙ present-front L ids [] n 0 e h ∙ rw append-nil

pub decoding-stops : DecodingStops
unfolding decoding
decoding-stops m ts L ids e i rest f n h =
    rw (
      present-front L ids (i ∷ rest) n 0 e h,
      zero-add (length ids),
      decode-absent m (n - length (joined ts ids)) (length ids) i rest (looking m ts L i ∙ not-present ts i f),
      append-nil,
    )

pub decoding-fills : DecodingFills
unfolding decoding
decoding-fills m ts L ids e i rest p n h f =
    let short : n - length (joined ts ids) < length (bytes_of ts i) = omega arith in
    let b = present-bytes ts L.valid i p in
    rw (
      present-front L ids (i ∷ rest) n 0 e h,
      zero-add (length ids),
      decode-full m (n - length (joined ts ids)) (length ids) i rest (bytes_of ts i) (looking m ts L i) b short,
      append-nil,
    )
