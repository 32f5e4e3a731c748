-- The two passes of decoding: what is known of the ids passed, and how each pass ends. Assumes nothing.
use Rattle.std.proofs.Common.{◌≡◌, refl, ap, sym, ◌∙◌, true, false, List, [], ◌∷◌, ◌++◌, append_assoc, append-nil}
use Rattle.std.proofs.Common.{ℕ, suc, ◌+◌, ◌-◌, ◌≤◌, ◌<◌, arith, add-one, length, take, drop, get_or, length-append, length-drop, drop-cons}
use Prim.Native.Nat.{zero-le}
use native.Mathlib.Nat.{sub-zero}
use lib.ListN.{drop_of_length-le}
use lib.Seq.{take-suc, take-add, take-length, take-take, length-take-le}
use borrow.Author.Count.{below_none, below_more}
use borrow.Rule.Slice.PartMut.{put_mid}
use Rattle.std.specs.Prelude.{Result, Ok, Err}
use Rattle.spec.specs.Lists.{each}
use Rattle.spec.specs.Memory.{Memory, too_short}
use Rattle.spec.specs.Encode.{refused}
use Rattle.spec.specs.Decode.{lookup, Decoding, DecodeEnd, decode_at, decoding, decoded, complete, absent, full, decode_answer}
use Rattle.spec.specs.Decode.{decode_output, decode_on}
use Rattle.decoding.specs.declared.DecodeError.{DecodeError}
use Rattle.decoding.specs.declared.DecodeError.TheVariants.{ShortMemory, Absent, Full}
use Rattle.decoding.specs.Answers.{answer_of, taken_of, Answered}
use Rattle.copies.proofs.Fronts.{put-front}
use Rattle.laws.specs.OneMore.{each_append}
use Rattle.laws.specs.Decoding.{decode-absent, decode-full, decode-more}
use Rattle.decoding.proofs.LookupLaws.{Present, present}
use Rattle.decoding.specs.Measured.{Joined, Measured}

-- ---- the ids joined

module _ (f : ℕ → List ℕ) where
  -- one id more
  pub each_more : (ids : List ℕ) (k : ℕ) → k < length ids → each f (take (k + 1) ids) ≡ each f (take k ids) ++ f (get_or ids k 0)
  unfolding each
  each_more ids k h =
      rw (add-one, take-suc ids k 0 h)
      (each_append f (take k ids) (get_or ids k 0 ∷ []) ∙ ap (λ (r : List ℕ). each f (take k ids) ++ r) (append-nil (f (get_or ids k 0))))

  -- fewer ids have no more bytes
  pub each_fewer : (ids : List ℕ) (k n : ℕ) → k ≤ n → length (each f (take k ids)) ≤ length (each f (take n ids))
  each_fewer ids k n h =
      let e : n ≡ k + (n - k) = omega arith in
      let t : each f (take n ids) ≡ each f (take k ids) ++ each f (take (n - k) (drop k ids)) =
      ap (λ (j : ℕ). each f (take j ids)) e ∙ ap (each f) (take-add k (n - k) ids)
      ∙ each_append f (take k ids) (take (n - k) (drop k ids)) in
      omega (arith, simp length-append at (ap length t))

pub joined-none : (m : Memory) (ids : List ℕ) → Joined m ids 0 0
unfolding each
joined-none m ids = record { within = zero-le; present = below_none _; count = refl }

-- one id more
pub joined-more : (m : Memory) (ids : List ℕ) (k n : ℕ) → Joined m ids k n → k < length ids → 1 ≤ length (lookup m (get_or ids k 0))
    → Joined m ids (k + 1) (n + length (lookup m (get_or ids k 0)))
joined-more m ids k n j h p = record {
  within = omega arith;
  present = below_more _ _ j.present p;
  count = rw (each_more (lookup m) ids k h) (simp length-append (ap (λ (a : ℕ). a + length (lookup m (get_or ids k 0))) j.count));
}

-- ---- the first pass

-- the first k of the ids have been passed, with n bytes, and what decoding is to give follows from the others
pub record Passed (m : Memory) (room : ℕ) (ids : List ℕ) (k n : ℕ) : Type 0 where
  pub joined : Joined m ids k n
  pub fits : n ≤ room
  pub rest : decoding m room ids ≡ decoded (each (lookup m) (take k ids)) (decode_at m (room - n) k (drop k ids))

pub passed_none : (m : Memory) (room : ℕ) (ids : List ℕ) → Passed m room ids 0 0
unfolding decoding each
passed_none m room ids = record { joined = joined-none m ids; fits = zero-le; rest = rw sub-zero }

module _ (m : Memory) (room : ℕ) (ids : List ℕ) (k n : ℕ) (p : Passed m room ids k n) where
  -- the decoding ends here, and r is its answer
  ends : (e : DecodeEnd) (r : Result ℕ DecodeError) → decode_at m (room - n) k (drop k ids) ≡ record { bytes = []; end = e }
      → answer_of r ≡ decode_answer n e → (answer_of r).count ≡ n → taken_of r (length ids) ≡ k → Measured m room ids r
  ends e r here a c t =
      let bytes = each (lookup m) (take k ids) in
      let all : decoding m room ids ≡ record { bytes = bytes; end = e } =
      p.rest ∙ ap (decoded bytes) here ∙ ap (λ (b : List ℕ). record { bytes = b; end = e }) (append-nil bytes) in
      record {
        answer = a ∙ ap (λ (j : ℕ). decode_answer j e) p.joined.count ∙ ap (λ (d : Decoding). (decode_output d).answer) (sym all);
        bytes = ap (λ (d : Decoding). d.bytes) all ∙ ap (λ (j : ℕ). each (lookup m) (take j ids)) (sym t);
        joined = rw (t, c) p.joined;
        fits = rw c p.fits;
      }

  -- at the end: all ids
  pub ends-whole : length ids ≤ k → Measured m room ids (Ok n)
  unfolding decode_at
  ends-whole h =
      let t : length ids ≡ k = omega (arith, p.joined.within) in
      ends complete (Ok n) (rw (drop_of_length-le ids h)) refl refl t

  module _ (h : k < length ids) where
    pub ends-absent : lookup m (get_or ids k 0) ≡ [] → Measured m room ids (Err (Absent n k (get_or ids k 0)))
    ends-absent e =
        ends (absent k (get_or ids k 0)) (Err (Absent n k (get_or ids k 0)))
        (rw (drop-cons ids k 0 h) (decode-absent m (room - n) k (get_or ids k 0) (drop (suc k) ids) e)) refl refl refl

    module _ (some : 1 ≤ length (lookup m (get_or ids k 0))) where
      pub ends-full : room - n < length (lookup m (get_or ids k 0)) → Measured m room ids (Err (Full n k))
      ends-full f =
          ends (full k) (Err (Full n k))
          (rw (drop-cons ids k 0 h)
          (decode-full m (room - n) k (get_or ids k 0) (drop (suc k) ids) (lookup m (get_or ids k 0)) refl some f))
          refl refl refl

      pub passed-more : length (lookup m (get_or ids k 0)) ≤ room - n → Passed m room ids (k + 1) (n + length (lookup m (get_or ids k 0)))
      passed-more f =
          let t = lookup m (get_or ids k 0) in
          let left : room - n - length t ≡ room - (n + length t) = omega arith in
          record {
            joined = joined-more m ids k n p.joined h some;
            fits = omega arith;
            rest =
                p.rest
                ∙ ap (λ (l : List ℕ). decoded (each (lookup m) (take k ids)) (decode_at m (room - n) k l)) (drop-cons ids k 0 h)
                ∙ ap (decoded (each (lookup m) (take k ids)))
                (decode-more m (room - n) k (get_or ids k 0) (drop (suc k) ids) t refl some f)
                ∙ rw (each_more (lookup m) ids k h, add-one, left, append_assoc);
          }

-- ---- the second pass

-- the bytes of the first k ids stand in after, n in all
pub record Written (m : Memory) (ids : List ℕ) (k n : ℕ) (after : List ℕ) : Type 0 where
  pub joined : Joined m ids k n
  pub bytes : take n after ≡ each (lookup m) (take k ids)

-- what is known of the id at k, and that its bytes fit, since those of all ids do
pub record NextToken (m : Memory) (ids : List ℕ) (k n total : ℕ) : Type 0 where
  pub some : 1 ≤ length (lookup m (get_or ids k 0))
  pub token : Present m (get_or ids k 0)
  pub room : n + length (lookup m (get_or ids k 0)) ≤ total

pub next-token : (m : Memory) (ids : List ℕ) (k n total : ℕ) → Joined m ids (length ids) total → Joined m ids k n → k < length ids
    → NextToken m ids k n total
next-token m ids k n total all j h =
    let some = all.present k h in
    let next = joined-more m ids k n j h some in
    let fewer = each_fewer (lookup m) ids (k + 1) (length ids) (omega arith) in
    record {
      some = some;
      token = present m (get_or ids k 0) some;
      room = omega (arith, next.count, all.count);
    }

-- what is left of a list from a place on
pub rest_size : (l : List ℕ) (k : ℕ) → length (take (length l - k) (drop k l)) ≡ length l - k
rest_size l k = length-take-le (length l - k) (drop k l) (simp length-drop (omega arith))

-- a copy out of what is left of the blob is the token
pub token-copied : (m : Memory) (i start len : ℕ) (new : List ℕ) → Present m i → start ≡ get_or m.offsets i 0
    → len ≡ get_or m.offsets (i + 1) 0 - get_or m.offsets i 0
    → take len new ≡ take len (take (length m.blob - start) (drop start m.blob)) → take len new ≡ lookup m i
token-copied m i start len new t es el c =
    c ∙ take-take len (length m.blob - start) (drop start m.blob) (omega (arith, t.inside, t.ordered)) ∙ rw (es, el) (sym t.bytes)

pub written_none : (m : Memory) (ids before : List ℕ) → Written m ids 0 0 before
unfolding each
written_none m ids before = record { joined = joined-none m ids; bytes = refl }

module _ (m : Memory) (ids : List ℕ) (k n : ℕ) (after : List ℕ) (w : Written m ids k n after) where
  -- a token more
  pub written-more : (new : List ℕ) (room len total : ℕ) → k < length ids → n ≤ length after → len ≤ length new
      → NextToken m ids k n total → len ≡ length (lookup m (get_or ids k 0)) → take len new ≡ lookup m (get_or ids k 0)
      → Written m ids (k + 1) (n + len) (put_mid n room after new)
  written-more new room len total h inside l t size e = record {
    joined = rw size (joined-more m ids k n w.joined h t.some);
    bytes = put-front after new _ n room len inside l e ∙ rw (each_more (lookup m) ids k h, w.bytes);
  }

  -- all tokens
  pub written_all : length ids ≤ k → Joined m ids (length ids) (length after) → after ≡ each (lookup m) ids
  written_all h all =
      let last : k ≡ length ids = omega (arith, w.joined.within) in
      let size : n ≡ length after = w.joined.count ∙ ap (λ (j : ℕ). length (each (lookup m) (take j ids))) last ∙ sym all.count in
      sym (take-length after) ∙ ap (λ (j : ℕ). take j after) (sym size) ∙ w.bytes
      ∙ ap (λ (j : ℕ). each (lookup m) (take j ids)) last ∙ ap (each (lookup m)) (take-length ids)

-- ---- both passes

pub on_short : (m : Memory) (n : ℕ) (ids : List ℕ) → too_short m ≡ true → decode_on m n ids ≡ refused 1
unfolding decode_on
on_short m n ids e = rw (e, decode_on)

pub on_enough : (m : Memory) (n : ℕ) (ids : List ℕ) → too_short m ≡ false → decode_on m n ids ≡ decode_output (decoding m n ids)
unfolding decode_on
on_enough m n ids e = rw (e, decode_on)

module _ (m : Memory) (ids before : List ℕ) (n : ℕ) where
  pub answered-short : true ≡ too_short m → Answered (decode_on m n ids) (Err ShortMemory) before before
  answered-short h = rw (on_short m n ids (sym h)) (record { answer = refl; cells = refl })

  pub answered : (r : Result ℕ DecodeError) (part : List ℕ) (total : ℕ) → false ≡ too_short m → Measured m n ids r
      → total ≡ (answer_of r).count → part ≡ each (lookup m) (take (taken_of r (length ids)) ids)
      → Answered (decode_on m n ids) r before (part ++ drop total before)
  answered r part total h d t w =
      rw (on_enough m n ids (sym h))
      (record {
        answer = d.answer;
        cells = rw (t, d.joined.count, w, d.bytes);
      })
