-- What one more token, one more node, one more placed node change: the steps of a loader's loops. Assumes nothing.
use Rattle.std.specs.Prelude.{◌≡◌, ◌⊎◌, Bool, true, false, cond, ℕ, ◌+◌, ◌≤◌, eqb, length, take}
use Rattle.std.proofs.Math.Path.{refl, sym, ap}
use Rattle.std.proofs.Common.{◌∙◌, inl, inr, arith, length-append, take_at, eq-eqb, ne_eqb}
use mathlib.Core.List.Memᴰ.{head as here}
use mathlib.Core.List.Memᴰ.{tail as there}
use mathlib.Core.List.{List, [], ◌∷◌, ◌++◌, append-nil, append_assoc, Memᴰ as Mem}
use Rattle.spec.specs.Lists.{each, fold, same}
use Rattle.spec.specs.Token.{Token, id_of}
use Rattle.spec.specs.Trie.{cuts, add_new, nodes, label, labels}
use Rattle.spec.specs.Layout.{put, place}
use Rattle.laws.specs.Numbered.{label-shape}

module _ {A B : Type 0} where
  pub fold-append : (f : B → A → B) (b : B) (s t : List A) → fold f b (s ++ t) ≡ fold f (fold f b s) t
  unfolding fold
  fold-append f b [] t = refl
  fold-append f b (x ∷ s) t = fold-append f (f b x) s t

  pub each_append : (f : A → List B) (s t : List A) → each f (s ++ t) ≡ each f s ++ each f t
  unfolding each
  each_append f [] t = refl
  each_append f (x ∷ s) t = ap (λ (l : List B). f x ++ l) (each_append f s t) ∙ sym (append_assoc (f x) (each f s) (each f t))

-- a token more: its cuts are added one by one
pub nodes-snoc : (ts : List Token) (t : Token) → nodes (ts ++ (t ∷ [])) ≡ fold add_new (nodes ts) (cuts t.bytes)
unfolding nodes each
nodes-snoc ts t =
    ap (fold add_new []) (each_append C ts (t ∷ []) ∙ ap (λ (l : List (List ℕ)). each C ts ++ l) (append-nil (cuts t.bytes)))
    ∙ fold-append add_new [] (each C ts) (cuts t.bytes)
  where
    C : Token → List (List ℕ)
    C u = cuts u.bytes

-- a node more: its parent has one more label, at the end, and no other node has
pub labels-snoc : (ps : List (List ℕ)) (q p : List ℕ) → labels (ps ++ (q ∷ [])) p ≡ labels ps p ++ label p q
unfolding labels each
labels-snoc ps q p = each_append (label p) ps (q ∷ []) ∙ ap (λ (l : List ℕ). labels ps p ++ l) (append-nil (label p q))

pub label-self : (p : List ℕ) (b : ℕ) → label p (p ++ (b ∷ [])) ≡ b ∷ []
unfolding label
label-self [] b = refl
label-self (x ∷ p) b = ap (λ (c : Bool). cond c (label p (p ++ (b ∷ []))) []) (eq-eqb x x refl) ∙ label-self p b

pub snoc_inj : (p q : List ℕ) (a b : ℕ) → p ++ (a ∷ []) ≡ q ++ (b ∷ []) → p ≡ q
snoc_inj p q a b e =
    sym (take_at p (a ∷ []) (length p) refl) ∙ ap (take (length p)) e
    ∙ take_at q (b ∷ []) (length p) (lens (length-append p (a ∷ [])) (length-append q (b ∷ [])) (ap length e))
  where
    lens : length (p ++ (a ∷ [])) ≡ length p + 1 → length (q ++ (b ∷ [])) ≡ length q + 1 → length (p ++ (a ∷ [])) ≡ length (q ++ (b ∷ []))
        → length q ≡ length p
    lens i j k = omega arith

pub label-other : (p q : List ℕ) (b : ℕ) → (p ≡ q → ⊥) → label p (q ++ (b ∷ [])) ≡ []
label-other p q b h = go (label-shape p (q ++ (b ∷ [])))
  where
    go : (label p (q ++ (b ∷ [])) ≡ []) ⊎ ((c : ℕ) × (label p (q ++ (b ∷ [])) ≡ c ∷ []) × (q ++ (b ∷ []) ≡ p ++ (c ∷ [])))
        → label p (q ++ (b ∷ [])) ≡ []
    go (inl z) = z
    go (inr s) = absurd (h (sym (snoc_inj q p b s.0 s.2)))

-- a node placed more
pub place_snoc : (L : List ℕ → List ℕ) (ps : List (List ℕ)) (p : List ℕ) → place L (ps ++ (p ∷ [])) ≡ put L (place L ps) p
unfolding place fold
place_snoc L ps p = fold-append (put L) [] ps (p ∷ [])

-- an id more, where the bytes are new
pub id_snoc : (ts : List Token) (t : Token) (p : List ℕ) → ((u : Token) → Mem u ts → 1 ≤ u.id)
    → id_of (ts ++ (t ∷ [])) p ≡ cond (eqb (id_of ts p) 0) (cond (same p t.bytes) t.id 0) (id_of ts p)
unfolding id_of
id_snoc [] t p low = refl
id_snoc (u ∷ ts) t p low = go (same p u.bytes) (id_snoc ts t p (λ w m. low w (there m)))
  where
    -- the id i, or that of t where i is 0
    or_later : ℕ → ℕ
    or_later i = cond (eqb i 0) (cond (same p t.bytes) t.id 0) i

    go : (c : Bool) → id_of (ts ++ (t ∷ [])) p ≡ or_later (id_of ts p)
        → cond c u.id (id_of (ts ++ (t ∷ [])) p) ≡ or_later (cond c u.id (id_of ts p))
    go true r =
        let ne : eqb u.id 0 ≡ false = ne_eqb u.id 0 (λ z. omega (arith, low u (here refl))) in
        sym (ap (λ (c : Bool). cond c (cond (same p t.bytes) t.id 0) u.id) ne)
    go false r = r
