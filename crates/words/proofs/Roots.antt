-- The loop over the roots, on plain lists: the roots after i of them. Assumes nothing.
use Rattle.std.proofs.Common.{◌≡◌, ℕ, ◌+◌, ◌≤◌, ◌<◌, List, ◌++◌, map, length, get_or, set, take, drop, ap, ap₂, ◌∙◌, append-nil, take_all}
use Rattle.std.proofs.lemmas.List.{drop_all}
use Rattle.words.specs.NodeWords.{root_words}
use Rattle.words.proofs.WordTurns.{cell-old, cell-new}

module _ (f : ℕ → ℕ) where
  -- of the cells r₀ the first i are words
  abbrev pub Sofar : List ℕ → List ℕ → ℕ → Type 0
  Sofar r₀ r i = r ≡ map f (take i r₀) ++ drop i r₀

  pub goes_on : (r₀ r : List ℕ) (i w : ℕ) → i < length r₀ → w ≡ f (get_or r i 0) → Sofar r₀ r i → Sofar r₀ (set r i w) (i + 1)
  goes_on r₀ r i w h ew so = cell-new f r₀ i h r w so (ew ∙ ap f (cell-old f r₀ i h r so))

  pub ends : (rs r : List ℕ) (i : ℕ) → length (take 65536 rs) ≤ i → Sofar (take 65536 rs) r i → r ++ drop 65536 rs ≡ root_words f rs
  unfolding root_words
  ends rs r i h so =
      ap (λ (l : List ℕ). l ++ drop 65536 rs)
      (so ∙ ap₂ (λ (x y : List ℕ). map f x ++ y) (take_all i (take 65536 rs) h) (drop_all i (take 65536 rs) h)
      ∙ append-nil (map f (take 65536 rs)))
