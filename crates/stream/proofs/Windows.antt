-- A window: the held bytes and as much of the piece as a match from a held byte can reach. At every held byte it looks like the held bytes
-- followed by the whole piece, since a walk reads at most 255 bytes and a run of 255 is decided. Assumes nothing.
use mathlib.Core.Path.{◌≡◌, refl, sym, ap, ◌∙◌, subst}
use mathlib.Core.Bool.{Bool, true, false}
use mathlib.Core.List.{List, [], ◌∷◌, ◌++◌}
use Prim.Native.Nat.{ℕ, zero, suc, ◌+◌, ◌*◌, ◌≤◌, ◌<◌}
use native.Mathlib.Omega.{arith}
use lib.IntN.{pos}
use lib.Dec.{eqb, leb}
use lib.ListN.{length, take, drop, get_or, length-append, length-drop, get_or-append}
use lib.Seq.{take-take, take_all, drop-append-le, length-take-le}
use borrow.Author.Tests.{leb-true, leb-false}
use Rattle.spec.specs.Memory.{Memory}
use Rattle.spec.specs.Match.{Walk, enter, walk_on, Match, found, one, match_on}
use Rattle.spec.specs.LookedOn.{read_from, looked_on}
use Rattle.stream.specs.Handing.{reached}
use Rattle.runs.specs.Running.{Alike}
use Rattle.runs.proofs.Undecided.{long_decided}
use Rattle.runs.proofs.RunTurns.{alike_self}

-- ── A walk sees 255 bytes ────────────────────────────────────────────

walk_cut : (m : Memory) (s : List ℕ) → walk_on m (take 255 s) ≡ walk_on m s
unfolding walk_on
walk_cut m [] = refl
walk_cut m (a ∷ []) = refl
walk_cut m (a ∷ b ∷ s) = ap (enter m.table (get_or m.roots (a * 256 + b) 0)) (take-take 253 253 s (omega arith))

match_cut : (m : Memory) (s : List ℕ) → match_on m (take 255 s) ≡ match_on m s
unfolding match_on
match_cut m [] = refl
match_cut m (a ∷ s) = ap pick (walk_cut m (a ∷ s))
  where
    pick : Walk → Match
    pick k = elim (eqb k.id 0) [ true ↦ one (get_or m.single a (pos 0)) | false ↦ found k.id k.len ]

looked_cut : (m : Memory) (s : List ℕ) → looked_on m (take 255 s) ≡ looked_on m s
unfolding looked_on
looked_cut m [] = refl
looked_cut m (a ∷ []) = refl
looked_cut m (a ∷ b ∷ s) =
    ap (λ (l : List ℕ). 2 + read_from m.table (get_or m.roots (a * 256 + b) 0) l) (take-take 253 253 s (omega arith))

-- ── The window ───────────────────────────────────────────────────────

-- as much of a list's tail as is taken
take-tail : (n k : ℕ) (xs ys : List ℕ) → n ≤ length xs + k → take n (xs ++ take k ys) ≡ take n (xs ++ ys)
take-tail zero k xs ys h = refl
take-tail (suc n) k [] ys h = take-take (suc n) k ys (omega arith)
take-tail (suc n) k (x ∷ xs) ys h = ap (λ (l : List ℕ). x ∷ l) (take-tail n k xs ys (omega arith))

abbrev pub window : List ℕ → List ℕ → List ℕ
window held piece = held ++ take reached piece

module _ (m : Memory) (held piece : List ℕ) where
  pub short-piece : length piece ≤ reached → window held piece ≡ held ++ piece
  short-piece h = ap (λ (l : List ℕ). held ++ l) (take_all reached piece h)

  -- what is told by 255 bytes is told at a held byte as by the whole piece
  told : {A : Type 0} (f : List ℕ → A) → ((s : List ℕ) → f (take 255 s) ≡ f s) → reached ≤ length piece → (i : ℕ) → i < length held
      → f (drop i (held ++ piece)) ≡ f (drop i (window held piece))
  told f cut h i k =
      let d = length-drop i held in
      sym (cut (drop i (held ++ piece)))
      ∙ ap f (ap (take 255) (drop-append-le i held piece (omega arith))
      ∙ sym (take-tail 255 reached (drop i held) piece (omega arith))
      ∙ ap (take 255) (sym (drop-append-le i held (take reached piece) (omega arith))))
      ∙ cut (drop i (window held piece))

  pub window-alike : Alike m (window held piece) (held ++ piece) (length held)
  window-alike = go (leb (length piece) reached) refl
    where
      go : (c : Bool) → leb (length piece) reached ≡ c → Alike m (window held piece) (held ++ piece) (length held)
      go true e =
          let w = short-piece (leb-true (length piece) reached e) in
          subst (λ (l : List ℕ). Alike m l (held ++ piece) (length held)) (sym w) (alike_self m (held ++ piece) (length held))
      go false e =
          let h = leb-false (length piece) reached e in
          let a = length-append held (take reached piece) in
          let b = length-append held piece in
          let c = length-take-le reached piece (omega arith) in
          record {
            long = omega arith;
            undecided = λ i k. let d = length-drop i (held ++ piece) in let f = length-drop i (window held piece) in
                long_decided m (drop i (held ++ piece)) (omega arith) ∙ sym (long_decided m (drop i (window held piece)) (omega arith));
            matched = told (match_on m) (match_cut m) (omega arith);
            looked = told (looked_on m) (looked_cut m) (omega arith);
            byte = λ i k. get_or-append held piece 0 i k ∙ sym (get_or-append held (take reached piece) 0 i k);
          }
