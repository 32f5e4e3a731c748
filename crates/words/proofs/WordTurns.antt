-- The turns of the loops over nodes and roots, as equations of the definitions in NodeWords. Assumes nothing.
use mathlib.Core.Path.{◌≡◌, sym, ap, ap₂, ◌∙◌}
use mathlib.Core.List.{List, [], ◌∷◌, ◌++◌, map}
use Prim.Native.Nat.{ℕ, suc, ◌+◌, ◌-◌, ◌*◌, ◌%◌, ◌^◌, ◌≤◌, ◌<◌}
use native.Mathlib.Omega.{arith}
use native.Mathlib.Nat.{mod-eq_of_lt}
use lib.ListN.{length, get_or, set, take, drop}
use lib.Seq.{take-suc, drop-cons, set_at, get_or_at, length-take-le}
use lib.Bits.{bit_xor, bit_or, or_shifted}
use Rattle.spec.specs.Lists.{fold}
use Rattle.spec.specs.Layout.{pack}
use Rattle.laws.specs.OneMore.{fold-append}
use Rattle.laws.specs.Fill.{write}
use Rattle.std.proofs.lemmas.List.{length-map, map-append}
use Rattle.nodes.specs.declared.Node.{Node}
use Rattle.words.specs.NodeWords.{node_word, as_root, child_put, child_puts, child_writes, node_writes, root_word}
use Rattle.std.specs.Prelude.{Option, Some, None}
use Rattle.std.specs.Option.{option_map_or}
use Rattle.nodes.specs.Links.{link}

-- ---- words

pub shifted : (base id l b i x : ℕ) → b ≡ base → i ≡ id → x ≡ l → base < 2 ^ 32 → id < 2 ^ 16 → l < 2 ^ 8
    → bit_or (b * 2 ^ 32 % 2 ^ 64) (bit_or (i * 2 ^ 8 % 2 ^ 64) x) ≡ pack base id l
unfolding pack
shifted base id l b i x eb ei el hb hi hl =
    let h : base * 2 ^ 32 < 2 ^ 64 = omega arith in
    let k : id * 2 ^ 8 < 2 ^ 64 = omega arith in
    rw (eb, ei, el, mod-eq_of_lt h, mod-eq_of_lt k, or_shifted id 8 l hl) (or_shifted base 32 (id * 2 ^ 8 + l) (omega arith))

-- ---- the children of a node

-- one turn: a child is written
pub children-turn : (base i : ℕ) (n : Node) (t : List ℕ) {t' : List ℕ} {xs : List (ℕ × Node)} (ys : List (ℕ × Node)) → xs ≡ (i, n) ∷ ys
    → t' ≡ set t (bit_xor base n.label) (node_word n n.label)
    → fold write t' (child_puts base ys) ≡ fold write t (child_puts base xs)
unfolding fold write child_put
children-turn base i n t ys e et =
    ap (λ (x : List ℕ). fold write x (child_puts base ys)) et
    ∙ sym (ap (λ (l : List (ℕ × Node)). fold write t (child_puts base l)) e)

pub children-done : (base : ℕ) (t : List ℕ) {xs : List (ℕ × Node)} → xs ≡ [] → fold write t (child_puts base xs) ≡ t
unfolding fold
children-done base t e = ap (λ (l : List (ℕ × Node)). fold write t (child_puts base l)) e

-- ---- all nodes

module _ (M : ℕ → Node) (made : ℕ) where
  pub nodes-turn : (t t' : List ℕ) (i b : ℕ) (n : Node) → i < made → n ≡ M i → b ≡ n.tail
      → t' ≡ fold write t (child_writes M made b 256 n.head)
      → fold write t (node_writes M made (made - i) i) ≡ fold write t' (node_writes M made (made - (i + 1)) (i + 1))
  unfolding node_writes
  nodes-turn t t' i b n h en eb et =
      let q : made - i ≡ suc (made - (i + 1)) = omega arith in
      let s : suc i ≡ i + 1 = omega arith in
      ap (λ (k : ℕ). fold write t (node_writes M made k i)) q
      ∙ fold-append write t (child_writes M made (M i).tail 256 (M i).head) (node_writes M made (made - (i + 1)) (suc i))
      ∙ ap (λ (x : Node). fold write (fold write t (child_writes M made x.tail 256 x.head))
      (node_writes M made (made - (i + 1)) (suc i))) (sym en)
      ∙ ap₂ (λ (x : List ℕ) (y : ℕ). fold write x (node_writes M made (made - (i + 1)) y))
      (ap (λ (x : ℕ). fold write t (child_writes M made x 256 n.head)) (sym eb) ∙ sym et) s

  pub nodes-done : (t : List ℕ) (i : ℕ) → made ≤ i → fold write t (node_writes M made (made - i) i) ≡ t
  unfolding node_writes fold
  nodes-done t i h = let q : made - i ≡ 0 = omega arith in ap (λ (k : ℕ). fold write t (node_writes M made k i)) q

  -- ---- roots

  pub root-none : (r : ℕ) → link r made ≡ None → 0 ≡ root_word M made r
  unfolding root_word
  root-none r e = sym (ap (λ (o : Option ℕ). option_map_or (λ i. as_root (M i)) o 0) e)

  pub root-at : (r i : ℕ) → link r made ≡ Some i → as_root (M i) ≡ root_word M made r
  unfolding root_word
  root-at r i e = sym (ap (λ (o : Option ℕ). option_map_or (λ j. as_root (M j)) o 0) e)

-- one cell more is replaced by what f makes of it
module _ (f : ℕ → ℕ) (r : List ℕ) (i : ℕ) (h : i < length r) where
  front : length (map f (take i r)) ≡ i
  front = length-map (take i r) f ∙ length-take-le i r (omega arith)

  pub cell-old : (t : List ℕ) → t ≡ map f (take i r) ++ drop i r → get_or t i 0 ≡ get_or r i 0
  cell-old t e = ap (λ (l : List ℕ). get_or l i 0) (e ∙ ap (λ (l : List ℕ). map f (take i r) ++ l) (drop-cons r i 0 h))
      ∙ get_or_at (map f (take i r)) (get_or r i 0) (drop (suc i) r) 0 i front

  pub cell-new : (t : List ℕ) (v : ℕ) → t ≡ map f (take i r) ++ drop i r → v ≡ f (get_or r i 0)
      → set t i v ≡ map f (take (i + 1) r) ++ drop (i + 1) r
  cell-new t v e ev =
      let s : i + 1 ≡ suc i = omega arith in
      ap (λ (l : List ℕ). set l i v) (e ∙ ap (λ (l : List ℕ). map f (take i r) ++ l) (drop-cons r i 0 h))
      ∙ set_at (map f (take i r)) (get_or r i 0) (drop (suc i) r) v i front
      ∙ ap (λ (z : ℕ). map f (take i r) ++ z ∷ drop (suc i) r) ev
      ∙ sym (ap (λ (k : ℕ). map f (take k r) ++ drop k r) s
      ∙ ap (λ (l : List ℕ). l ++ drop (suc i) r) (ap (map f) (take-suc r i 0 h) ∙ map-append f (take i r) (get_or r i 0 ∷ []))
      ∙ mathlib.Core.List.append_assoc (map f (take i r)) (f (get_or r i 0) ∷ []) (drop (suc i) r))
