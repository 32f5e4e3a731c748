-- Whole encoding, one token at a time: what stands in the output before each position, and what an end there answers. Assumes nothing.
use mathlib.Core.Path.{◌≡◌, refl, sym, ap, ◌∙◌, subst, subst₂}
use mathlib.Core.Bool.{Bool, true, false, ◌||◌, true≢false}
use mathlib.Core.List.{List, [], ◌∷◌, ◌++◌, append-nil, append_assoc}
use Prim.Native.Nat.{ℕ, zero, suc, pred, ◌+◌, ◌-◌, ◌≤◌, ◌<◌}
use native.Mathlib.Omega.{arith}
use native.Mathlib.Nat.{add-zero}
use native.Mathlib.Numerals.{add-one}
use lib.Dec.{eqb, ltb}
use lib.ListN.{length, take, drop, set, get_or, length-drop, length-set, drop_of_length-le, take-append-drop}
use lib.Seq.{drop-cons, drop-drop, drop-set-lt, take-suc-set, length-take-le}
use borrow.Author.Tests.{eqb-true, eqb-false, ltb-false}
use Rattle.spec.specs.Lists.{over}
use Rattle.spec.specs.Memory.{Memory, too_short}
use Rattle.spec.specs.Match.{nothing, found, match_on}
use Rattle.spec.specs.LookedOn.{looked_on, sum_on}
use Rattle.spec.specs.Encode.{EncodeEnd, complete, unmatched, full, Encoding, encoded, encode_at, encoding, encode_answer, usable}
use Rattle.spec.specs.Encode.{encode_on, encode_looked, refused}
use Rattle.laws.specs.SumLaws.{looks-short, sum-zero, Summed, summed-first, summed-next, summed-are, summed-short}
use Rattle.tally.specs.declared.Tally.{Tally}
use Rattle.std.specs.Prelude.{Result, Ok, Err}
use Rattle.encoding.specs.declared.EncodeError.{EncodeError}
use Rattle.encoding.specs.declared.EncodeError.TheVariants.{ShortMemory, NoToken, Full}
use Rattle.encoding.specs.Answers.{answer_of, looked_of, Answered}
use Rattle.matching.proofs.WalkBounds.{match_within}
use Rattle.matching.proofs.BytesLeft.{place_of, LeftOf, left_all, left_few, left-byte, left-place, left_on}

-- an end with no further id
abbrev ended_with : EncodeEnd → Encoding
ended_with e = record { ids = []; end = e }

-- ids before those of an encoding
abbrev after : List ℕ → Encoding → Encoding
after p r = record { ids = p ++ r.ids; end = r.end }

-- bytes that belong to the token before are passed over
skip : (m : Memory) (n pos k : ℕ) (s : List ℕ) → encode_at m n pos k s ≡ encode_at m n (pos + k) 0 (drop k s)
unfolding encode_at
skip m n pos zero s = ap (λ (p : ℕ). encode_at m n p 0 s) (sym (add-zero pos))
skip m n pos (suc k) [] = refl
skip m n pos (suc k) (b ∷ s) = skip m n (suc pos) k s ∙ ap (λ (p : ℕ). encode_at m n p 0 (drop k s)) (omega arith)

module _ (m : Memory) (src : List ℕ) (i : ℕ) where
  ends-whole : (n : ℕ) → length src ≤ i → encode_at m n i 0 (drop i src) ≡ ended_with complete
  unfolding encode_at
  ends-whole n h = ap (encode_at m n i 0) (drop_of_length-le src h)

  module _ (here : i < length src) where
    abbrev b : ℕ
    b = get_or src i 0

    cons : drop i src ≡ b ∷ drop (suc i) src
    cons = drop-cons src i 0 here

    ends-unmatched : (n : ℕ) → match_on m (drop i src) ≡ nothing → encode_at m n i 0 (drop i src) ≡ ended_with (unmatched i b)
    unfolding encode_at
    ends-unmatched n e = ap (encode_at m n i 0) cons ∙ rw (ap (match_on m) (sym cons) ∙ e, encode_at)

    module _ (id len : ℕ) (e : match_on m (drop i src) ≡ found id len) where
      -- the position moves, and stays within the input
      moves : (i < i + len) × (i + len ≤ length src)
      moves =
          let w = match_within m (drop i src) id len e in
          let l = length-drop i src in
          (omega (arith, w.0), omega (arith, w.1))

      ends-full : (n : ℕ) → n ≡ 0 → encode_at m n i 0 (drop i src) ≡ ended_with (full i)
      unfolding encode_at
      ends-full n z =
          ap (λ (k : ℕ). encode_at m k i 0 (drop i src)) z
          ∙ ap (encode_at m 0 i 0) cons
          ∙ rw (ap (match_on m) (sym cons) ∙ e, encode_at)

      hands_out : (n : ℕ) → encode_at m (suc n) i 0 (drop i src) ≡ encoded id (encode_at m n (i + len) 0 (drop (i + len) src))
      unfolding encode_at
      hands_out n =
          let step : suc i + pred len ≡ i + len = omega (arith, (match_within m (drop i src) id len e).0) in
          ap (encode_at m (suc n) i 0) cons
          ∙ rw (ap (match_on m) (sym cons) ∙ e, encode_at)
          (ap (encoded id)
          (skip m n (suc i) (pred len) (drop (suc i) src)
          ∙ ap (encode_at m n (suc i + pred len) 0) (drop-drop (pred len) (suc i) src)
          ∙ ap (λ (p : ℕ). encode_at m n p 0 (drop p src)) step))

-- ---- what stands

-- Before the position i, n ids of the encoding stand in the output, whose other cells are as they were lent; for them so many bytes were
-- looked at.
pub record Stands (m : Memory) (src lent out : List ℕ) (i n looked : ℕ) : Type 0 where
  pub place : i ≤ length src
  pub count : n ≤ usable (length lent)
  pub long : length out ≡ length lent
  pub others : drop n out ≡ drop n lent
  pub ids : encoding m (usable (length lent)) src ≡ after (take n out) (encode_at m (usable (length lent) - n) i 0 (drop i src))
  pub sum : Summed m src i n looked

stands_first : (m : Memory) (src lent : List ℕ) → Stands m src lent lent 0 0 0
unfolding encoding
stands_first m src lent =
    let all : usable (length lent) ≡ usable (length lent) - 0 = omega arith in
    record {
      place = omega arith;
      count = omega arith;
      long = refl;
      others = refl;
      ids = ap (λ (n : ℕ). encode_at m n 0 0 src) all;
      sum = summed-first m src;
    }

module _ (m : Memory) (src lent out : List ℕ) (i n looked : ℕ) (st : Stands m src lent out i n looked) where
  -- a token's id is written, and the position moves past it
  stands-next : i < length src → n < usable (length lent) → (id len : ℕ) → match_on m (drop i src) ≡ found id len
      → Stands m src lent (set out n id) (i + len) (n + 1) (looked + looked_on m (drop i src))
  stands-next here room id len e =
      record {
        place = (moves m src i here id len e).1;
        count = omega arith;
        long = length-set out n id ∙ st.long;
        others =
            drop-set-lt (n + 1) out n id (omega arith)
            ∙ sym (drop-drop 1 n out)
            ∙ ap (drop 1) st.others
            ∙ drop-drop 1 n lent;
        ids = st.ids ∙ ap (after (take n out)) (room_for ∙ hands_out m src i here id len e left) ∙ moved;
        sum = summed-next m src i n looked st.sum here id len e (match_within m (drop i src) id len e).0;
      }
    where
      left : ℕ
      left = usable (length lent) - (n + 1)

      more : Encoding
      more = encode_at m left (i + len) 0 (drop (i + len) src)

      one_less : usable (length lent) - n ≡ suc left
      one_less = omega arith

      room_for : encode_at m (usable (length lent) - n) i 0 (drop i src) ≡ encode_at m (suc left) i 0 (drop i src)
      room_for = ap (λ (k : ℕ). encode_at m k i 0 (drop i src)) one_less

      written : take (n + 1) (set out n id) ≡ take n out ++ (id ∷ [])
      written = ap (λ (k : ℕ). take k (set out n id)) (add-one n) ∙ take-suc-set out n id (omega (arith, st.long))

      moved : after (take n out) (encoded id more) ≡ after (take (n + 1) (set out n id)) more
      moved =
          ap (λ (l : List ℕ). record { ids = l; end = more.end })
          (sym (append_assoc (take n out) (id ∷ []) more.ids) ∙ ap (λ (l : List ℕ). l ++ more.ids) (sym written))

  -- an encoding that ends here
  ends-here : (e : EncodeEnd) → encode_at m (usable (length lent) - n) i 0 (drop i src) ≡ ended_with e
      → encoding m (usable (length lent)) src ≡ record { ids = take n out; end = e }
  ends-here e h = st.ids ∙ ap (after (take n out)) h ∙ ap (λ (l : List ℕ). record { ids = l; end = e }) (append-nil (take n out))

  counted : length (take n out) ≡ n
  counted = length-take-le n out (omega (arith, st.long, st.count))

  cells : out ≡ over (take n out) lent
  cells =
      sym (take-append-drop n out)
      ∙ ap (λ (l : List ℕ). take n out ++ l) st.others
      ∙ ap (λ (k : ℕ). take n out ++ drop k lent) (sym counted)

  -- the answer and the cells of an encoding that ends here
  answers : too_short m ≡ false → (e : EncodeEnd) → encode_at m (usable (length lent) - n) i 0 (drop i src) ≡ ended_with e
      → (r : Result Tally EncodeError) → answer_of r ≡ encode_answer n e → looked_of r ≡ looked
      → Answered (encode_on m (length lent) src) (encode_looked m (length lent) src) r lent out
  unfolding encode_looked
  answers t e h r a l =
      let gives : encode_on m (length lent) src ≡ record { answer = encode_answer (length (take n out)) e; cells = take n out } =
      (unfold encode_on in rw (t, encode_on, ends-here e h) refl) in
      rw gives
      (record {
        answer = a ∙ ap (λ (k : ℕ). encode_answer k e) (sym counted);
        sum = l ∙ sym (ap (λ (k : ℕ). sum_on m k 0 src) counted ∙ summed-are m src i n looked st.sum);
        cells = cells;
      })

-- ---- the bytes left

-- the same of the bytes that are left, which are those from the position on
pub record Left (m : Memory) (src lent out rest : List ℕ) (given : Tally) : Type 0 where
  pub bytes : LeftOf src rest
  pub stands : Stands m src lent out (place_of src rest) given.count given.looked

pub left_first : (m : Memory) (src lent : List ℕ) → Left m src lent lent src (record { count = 0; looked = 0 })
left_first m src lent =
    let none : 0 ≡ place_of src src = omega arith in
    record {
      bytes = left_all src;
      stands = subst (λ (i : ℕ). Stands m src lent lent i 0 0) none (stands_first m src lent);
    }

module _ {m : Memory} {src lent out rest : List ℕ} {given : Tally} (l : Left m src lent out rest given) where
  abbrev place : ℕ
  place = place_of src rest

  -- the sum with what is looked at for one more is one of 64 bits
  pub left-sum : given.count < usable (length lent) → given.looked + looked_on m rest ≤ 18446744073709551615
  left-sum room = omega (arith, summed-short m src place given.count given.looked l.stands.sum, (looks-short m rest).0)

  pub left-whole : too_short m ≡ false → length rest ≡ 0
      → Answered (encode_on m (length lent) src) (encode_looked m (length lent) src) (Ok given) lent out
  left-whole t z =
      answers m src lent out place given.count given.looked l.stands t complete
      (ends-whole m src place (usable (length lent) - given.count) (omega arith)) (Ok given) refl refl

  module _ (some : 1 ≤ length rest) where
    here : place < length src
    here = omega (arith, left_few src rest l.bytes)

    pub left-unmatched : too_short m ≡ false → match_on m rest ≡ nothing
        → Answered (encode_on m (length lent) src) (encode_looked m (length lent) src)
        (Err (NoToken given place (get_or rest 0 0))) lent out
    left-unmatched t e =
        answers m src lent out place given.count given.looked l.stands t (unmatched place (get_or src place 0))
        (ends-unmatched m src place here (usable (length lent) - given.count) (ap (match_on m) (sym l.bytes) ∙ e))
        (Err (NoToken given place (get_or rest 0 0)))
        (ap (λ (b : ℕ). encode_answer given.count (unmatched place b)) (left-byte src rest l.bytes some)) refl

    module _ (id len : ℕ) (e : match_on m rest ≡ found id len) where
      matched : match_on m (drop place src) ≡ found id len
      matched = ap (match_on m) (sym l.bytes) ∙ e

      pub left-full : too_short m ≡ false → usable (length lent) ≤ given.count
          → Answered (encode_on m (length lent) src) (encode_looked m (length lent) src) (Err (Full given place)) lent out
      left-full t room =
          answers m src lent out place given.count given.looked l.stands t (full place)
          (ends-full m src place here id len matched (usable (length lent) - given.count) (omega arith))
          (Err (Full given place)) refl refl

      -- a token's id is written, and the bytes after it are left
      pub left-next : given.count < usable (length lent)
          → Left m src lent (set out given.count id) (drop len rest)
          (record { count = given.count + 1; looked = given.looked + looked_on m rest })
      left-next room =
          let w = match_within m rest id len e in
          let next = stands-next m src lent out place given.count given.looked l.stands here room id len matched in
          record {
            bytes = left_on src rest l.bytes len w.1;
            stands =
                subst₂
                (λ (s : List ℕ) (i : ℕ). Stands m src lent (set out given.count id) i (given.count + 1) (given.looked + looked_on m s))
                (sym l.bytes) (sym (left-place src rest l.bytes len w.1)) next;
          }

-- whether bytes are left, by the code's test
module _ {empty : Bool} (rest : List ℕ) (e : empty ≡ eqb (length rest) 0) where
  pub some_left : empty ≡ false → 1 ≤ length rest
  some_left f = let n = eqb-false (length rest) 0 (sym e ∙ f) in omega arith

  pub none_left : empty ≡ true → length rest ≡ 0
  none_left t = eqb-true (length rest) 0 (sym e ∙ t)

-- ---- number 1

-- memory that is not too short
pub long_enough : (m : Memory) → too_short m ≡ false → (256 ≤ length m.single) × (65536 ≤ length m.roots)
unfolding too_short
long_enough m t = (
  ltb-false (length m.single) 256 (or-false-l a (b || d) t),
  ltb-false (length m.roots) 65536 (or-false-r b d (or-false-r a (b || d) t)),
)
  where
    a : Bool
    a = ltb (length m.single) 256

    b : Bool
    b = ltb (length m.offsets) 65537

    d : Bool
    d = ltb (length m.roots) 65536

    or-false-l : (x y : Bool) → (x || y) ≡ false → x ≡ false
    or-false-l true y e = e
    or-false-l false y e = refl

    or-false-r : (x y : Bool) → (x || y) ≡ false → y ≡ false
    or-false-r true y e = absurd (true≢false e)
    or-false-r false y e = e

-- number 1 leaves everything as it was
pub refuses : (m : Memory) (src lent : List ℕ) → too_short m ≡ true
    → Answered (encode_on m (length lent) src) (encode_looked m (length lent) src) (Err ShortMemory) lent lent
unfolding encode_looked
refuses m src lent t =
    let gives : encode_on m (length lent) src ≡ refused 1 = (unfold encode_on in rw (t, encode_on) refl) in
    rw gives (record { answer = refl; sum = sym (sum-zero m src); cells = refl })
