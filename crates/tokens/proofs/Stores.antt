-- What the stores of one token make, in the terms of the contracts. Assumes nothing.
use Rattle.std.proofs.Common.{◌≡◌, ℕ, ◌+◌, ◌-◌, ◌≤◌, ◌<◌, ℤ, pos, List, ◌++◌, length, get_or, set, take, drop, replicate, refl}
use Rattle.std.proofs.Common.{sym, ap, ap₂}
use Rattle.std.proofs.Common.{◌∙◌, arith, eq-eqb, ne_eqb, length-drop, length-take-le}
use Rattle.std.proofs.Math.Seq.{take-length, sets}
use Rattle.std.proofs.lemmas.List.{length-replicate}
use Rattle.std.proofs.lemmas.List.Edits.{sets-eq}
use Rattle.std.proofs.lemmas.Slice.{put_mid-paste}
use borrow.Rule.Slice.PartMut.{put_mid}
use Rattle.laws.specs.Tests.{yes_case, no_case}
use Rattle.tokens.specs.Built.{set_single, set_offsets}

pub single_one : (s : List ℤ) (id : ℕ) (bs : List ℕ) (i : ℕ) (v : ℤ) → length bs ≡ 1 → i ≡ get_or bs 0 0 → v ≡ pos id
    → set s i v ≡ set_single s id bs
unfolding set_single
single_one s id bs i v e a b = ap₂ (set s) a b ∙ sym (yes_case _ _ (eq-eqb (length bs) 1 e))

pub single_other : (s : List ℤ) (id : ℕ) (bs : List ℕ) → (length bs ≡ 1 → ⊥) → s ≡ set_single s id bs
unfolding set_single
single_other s id bs e = sym (no_case _ _ (ne_eqb (length bs) 1 e))

-- a part of a slice that is written is a run of stores
pub part_written : (a k : ℕ) (l ys vs : List ℕ) → ys ≡ vs → length vs ≡ k → a + length vs ≤ length l → put_mid a k l ys ≡ sets l a vs
part_written a k l ys vs e n h =
    put_mid-paste a k l ys vs (length vs) e n refl
    ∙ ap (λ (r : List ℕ). take a l ++ r ++ drop (a + length vs) l) (take-length vs) ∙ sym (sets-eq vs l a h)

-- the same of one value
pub part_filled : (os ys : List ℕ) (previous from id total : ℕ) → from ≡ previous → previous < id → id < length os
    → ys ≡ replicate (length (take (id + 1 - (from + 1)) (drop (from + 1) os))) total
    → put_mid (from + 1) (id + 1 - (from + 1)) os ys ≡ set_offsets os previous id total
part_filled os ys previous from id total ef h k e =
    let a = length-drop (from + 1) os in
    let b = length-take-le (id + 1 - (from + 1)) (drop (from + 1) os) (omega arith) in
    let n : length (take (id + 1 - (from + 1)) (drop (from + 1) os)) ≡ id - previous = omega arith in
    let l = length-replicate (id - previous) total in
    part_written (from + 1) (id + 1 - (from + 1)) os ys (replicate (id - previous) total) (e ∙ ap (λ (x : ℕ). replicate x total) n)
    (omega arith) (omega arith)
    ∙ ap (λ (x : ℕ). sets os (x + 1) (replicate (id - previous) total)) ef
