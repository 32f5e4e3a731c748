-- The nodes are the prefixes of two or more bytes of the tokens. Assumes nothing.
use Rattle.std.specs.Prelude.{◌≡◌, refl, ◌⊎◌, Bool, true, false, ◌&&◌, cond, ◌||◌, take, drop}
use Rattle.std.proofs.Common.{sym, ap, ap₂, ◌∙◌, subst, inl, inr, arith, lit<, length-append, take-append-drop, take_all, take_at}
use Rattle.std.proofs.Math.Bool.{and-false, and-true, or-false}
use mathlib.Core.List.Memᴰ.{head as here}
use mathlib.Core.List.Memᴰ.{tail as there}
use mathlib.Core.List.{List, [], ◌∷◌, ◌++◌, append-nil, append_assoc, Memᴰ as Mem}
use mathlib.Core.List.Memᴰ.{append_cases}
use mathlib.Core.List.Memᴰ.{cases_cons}
use mathlib.Core.List.Memᴰ.{not-nil}
use mathlib.Core.List.Memᴰ.{append_left as mem-left}
use mathlib.Core.List.Memᴰ.{append_right as mem-right}
use mathlib.Core.List.Memᴰ.{eq_of_singleton}
use mathlib.Core.List.Memᴰ.{cast as mem-cast}
use Prim.Native.Nat.{ℕ, zero, suc, ◌+◌, ◌≤◌, ◌<◌}
use Rattle.std.proofs.Math.Dec.{eqb}
use Rattle.std.proofs.Math.ListN.{length}
use Rattle.std.proofs.lemmas.List.{take-append-le}
use borrow.Author.Tests.{eqb-true, eqb-false}
use Rattle.spec.specs.Lists.{any, each, fold, same, has, byte_in}
use Rattle.spec.specs.Token.{Token}
use Rattle.spec.specs.Trie.{extended, cuts, add_new, nodes, label, labels, with_count, falling, order}
use Rattle.spec.specs.Valid.{Valid}
use Rattle.laws.specs.Tests.{Tested, either, any_append, in_mem, mem_in, has-mem, mem_has, each-mem, each-find, keep-mem, keep-find}
use Rattle.laws.specs.Tokens.{byte_at}

-- ---- adding what is new

new_keeps : (ps : List (List ℕ)) (p : List ℕ) {q : List ℕ} → Mem q ps → Mem q (add_new ps p)
unfolding add_new
new_keeps ps p {q} m = go (has ps p)
  where
    go : (c : Bool) → Mem q (cond c ps (ps ++ (p ∷ [])))
    go true = m
    go false = mem-left (p ∷ []) m

new_has : (ps : List (List ℕ)) (p : List ℕ) → Mem p (add_new ps p)
unfolding add_new
new_has ps p = go (has ps p) refl
  where
    go : (c : Bool) → has ps p ≡ c → Mem p (cond c ps (ps ++ (p ∷ [])))
    go true e = has-mem ps p e
    go false e = mem-right ps (here refl)

new_cases : (ps : List (List ℕ)) (p : List ℕ) {q : List ℕ} → Mem q (add_new ps p) → Mem q ps ⊎ (q ≡ p)
unfolding add_new
new_cases ps p {q} m = go (has ps p) m
  where
    go : (c : Bool) → Mem q (cond c ps (ps ++ (p ∷ []))) → Mem q ps ⊎ (q ≡ p)
    go true n = inl n
    go false n = at (append_cases ps n)
      where
        at : Mem q ps ⊎ Mem q (p ∷ []) → Mem q ps ⊎ (q ≡ p)
        at (inl k) = inl k
        at (inr k) = inr (eq_of_singleton k)

all-keeps : (l ps : List (List ℕ)) {q : List ℕ} → Mem q ps → Mem q (fold add_new ps l)
unfolding fold
all-keeps [] ps m = m
all-keeps (p ∷ l) ps m = all-keeps l (add_new ps p) (new_keeps ps p m)

all-has : (l ps : List (List ℕ)) {q : List ℕ} → Mem q l → Mem q (fold add_new ps l)
unfolding fold
all-has [] ps m = absurd (not-nil m)
all-has (p ∷ l) ps {q} m = go (cases_cons m) (all-has l (add_new ps p))
  where
    go : (q ≡ p) ⊎ Mem q l → (Mem q l → Mem q (fold add_new (add_new ps p) l)) → Mem q (fold add_new (add_new ps p) l)
    go (inl e) r = mem-cast e (all-keeps l (add_new ps p) (new_has ps p))
    go (inr n) r = r n

all-cases : (l ps : List (List ℕ)) {q : List ℕ} → Mem q (fold add_new ps l) → Mem q ps ⊎ Mem q l
unfolding fold
all-cases [] ps m = inl m
all-cases (p ∷ l) ps {q} m = go (all-cases l (add_new ps p) m)
  where
    go : Mem q (add_new ps p) ⊎ Mem q l → Mem q ps ⊎ Mem q (p ∷ l)
    go (inr n) = inr (there n)
    go (inl n) = at (new_cases ps p n)
      where
        at : Mem q ps ⊎ (q ≡ p) → Mem q ps ⊎ Mem q (p ∷ l)
        at (inl k) = inl k
        at (inr e) = inr (here e)

-- ---- the prefixes of one token

-- q is s up to some place after the first byte
pub record Cut (q s : List ℕ) : Type 0 where
  pub rest : List ℕ
  pub split : s ≡ q ++ rest
  pub two : 2 ≤ length q

extended-cut : (p bs : List ℕ) {q : List ℕ} → 1 ≤ length p → Mem q (extended p bs) → Cut q (p ++ bs)
unfolding extended
extended-cut p [] h m = absurd (not-nil m)
extended-cut p (b ∷ bs) {q} h m = go (cases_cons m) (extended-cut (p ++ (b ∷ [])) bs)
  where
    len : length (p ++ (b ∷ [])) ≡ length p + 1
    len = length-append p (b ∷ [])

    eq : p ++ (b ∷ bs) ≡ (p ++ (b ∷ [])) ++ bs
    eq = sym (append_assoc p (b ∷ []) bs)

    go : (q ≡ p ++ (b ∷ [])) ⊎ Mem q (extended (p ++ (b ∷ [])) bs)
        → (1 ≤ length (p ++ (b ∷ [])) → Mem q (extended (p ++ (b ∷ [])) bs) → Cut q ((p ++ (b ∷ [])) ++ bs)) → Cut q (p ++ (b ∷ bs))
    go (inl e) r = record { rest = bs; split = eq ∙ ap (λ (z : List ℕ). z ++ bs) (sym e); two = let k = ap length e in omega (arith, len) }
    go (inr n) r = subst (Cut q) (sym eq) (r (omega (arith, len)) n)

cut-extended : (p : List ℕ) (c : ℕ) (cs r : List ℕ) → Mem (p ++ (c ∷ cs)) (extended p ((c ∷ cs) ++ r))
unfolding extended
cut-extended p c [] r = here refl
cut-extended p c (d ∷ cs) r = there (mem-cast (sym (append_assoc p (c ∷ []) (d ∷ cs))) (cut-extended (p ++ (c ∷ [])) d cs r))

pub cuts-cut : (s : List ℕ) {q : List ℕ} → Mem q (cuts s) → Cut q s
unfolding cuts
cuts-cut [] m = absurd (not-nil m)
cuts-cut (a ∷ bs) m = extended-cut (a ∷ []) bs (lit< tt) m

pub cut-cuts : (s q : List ℕ) → Cut q s → Mem q (cuts s)
unfolding cuts
cut-cuts s [] c = let h = c.two in absurd (omega arith)
cut-cuts s (a ∷ []) c = let h = c.two in absurd (omega arith)
cut-cuts s (a ∷ b ∷ q) c = subst (λ (z : List ℕ). Mem (a ∷ b ∷ q) (cuts z)) (sym c.split) (cut-extended (a ∷ []) b q c.rest)

pub cut-length : {q s : List ℕ} → Cut q s → length q ≤ length s
cut-length {q} c = omega (arith, simp length-append at (ap length c.split))

pub cut-append : {q s : List ℕ} (r : List ℕ) → Cut q s → Cut q (s ++ r)
cut-append {q} r c =
    record { rest = c.rest ++ r; split = ap (λ (z : List ℕ). z ++ r) c.split ∙ append_assoc q c.rest r; two = c.two }

-- what begins p ++ r and is no longer than p begins p
pub cut-within : {q : List ℕ} (p r : List ℕ) → Cut q (p ++ r) → length q ≤ length p → Cut q p
cut-within {q} p r c h = record {
  rest = drop (length q) p;
  split = sym (take-append-drop (length q) p) ∙ ap (λ (z : List ℕ). z ++ drop (length q) p) same_start;
  two = c.two;
}
  where
    same_start : take (length q) p ≡ q
    same_start = sym (take-append-le (length q) p r h) ∙ ap (take (length q)) c.split ∙ take_at q c.rest (length q) refl

-- what begins s and is as long is s
pub cut_all : {q s : List ℕ} → Cut q s → length s ≤ length q → q ≡ s
cut_all {q} {s} c h = sym (sym (take_all (length q) s h) ∙ ap (take (length q)) c.split ∙ take_at q c.rest (length q) refl)

-- a string of two or more bytes begins itself
pub cut-self : {q s : List ℕ} → q ≡ s → 2 ≤ length q → Cut q s
cut-self {q} e h = record { rest = []; split = sym e ∙ sym (append-nil q); two = h }

cut-trans : {p q s : List ℕ} → Cut p q → Cut q s → Cut p s
cut-trans {p} c e = record {
  rest = c.rest ++ e.rest;
  split = e.split ∙ ap (λ (z : List ℕ). z ++ e.rest) c.split ∙ append_assoc p c.rest e.rest;
  two = c.two;
}

-- ---- the nodes

pub record IsNode (ts : List Token) (q : List ℕ) : Type 0 where
  pub tok : Token
  pub mem : Mem tok ts
  pub cut : Cut q tok.bytes

module _ (ts : List Token) where
  pub node-is : {q : List ℕ} → Mem q (nodes ts) → IsNode ts q
  unfolding nodes
  node-is {q} m = go (all-cases (each (λ (t : Token). cuts t.bytes) ts) [] m)
    where
      go : Mem q [] ⊎ Mem q (each (λ (t : Token). cuts t.bytes) ts) → IsNode ts q
      go (inl n) = absurd (not-nil n)
      go (inr n) =
          let r = each-find (λ (t : Token). cuts t.bytes) ts n in record { tok = r.0; mem = r.1; cut = cuts-cut r.0.bytes r.2 }

  pub is-node : {q : List ℕ} → IsNode ts q → Mem q (nodes ts)
  unfolding nodes
  is-node {q} n =
      all-has (each (λ (t : Token). cuts t.bytes) ts) []
      (each-mem (λ (t : Token). cuts t.bytes) n.mem (cut-cuts n.tok.bytes q n.cut))

  -- a token that goes on beyond p, which is not empty, makes a node of p and its next byte
  pub token-node : {t : Token} (p : List ℕ) (c : ℕ) (r : List ℕ) → Mem t ts → t.bytes ≡ p ++ (c ∷ r) → 1 ≤ length p
      → Mem (p ++ (c ∷ [])) (nodes ts)
  token-node {t} p c r m e h =
      let len : length (p ++ (c ∷ [])) ≡ length p + 1 = length-append p (c ∷ []) in
      is-node (record { tok = t; mem = m; cut = record { rest = r; split = e ∙ sym (append_assoc p (c ∷ []) r); two = omega arith } })

  -- the beginnings of a node are nodes
  pub node-cut : {p q : List ℕ} → Cut p q → Mem q (nodes ts) → Mem p (nodes ts)
  node-cut {p} c m = let n = node-is m in is-node (record { tok = n.tok; mem = n.mem; cut = cut-trans c n.cut })

-- ---- labels

-- L gives bytes only
abbrev pub ByteLabels : (List ℕ → List ℕ) → Type 0
ByteLabels L = (p : List ℕ) (l : ℕ) → Mem l (L p) → l < 256

label_is : (p q : List ℕ) (b : ℕ) → byte_in (label p q) b ≡ same (p ++ (b ∷ [])) q
unfolding byte_in label same any
label_is [] [] b = refl
label_is [] (c ∷ []) b = or-false (eqb b c) ∙ sym (and-true (eqb b c))
label_is [] (c ∷ d ∷ r) b = sym (and-false (eqb b c))
label_is (x ∷ p) [] b = refl
label_is (x ∷ p) (y ∷ q) b = go (eqb x y) (label_is p q b)
  where
    go : (c : Bool) → byte_in (label p q) b ≡ same (p ++ (b ∷ [])) q → byte_in (cond c (label p q) []) b ≡ (c && same (p ++ (b ∷ [])) q)
    go true e = e
    go false e = refl

-- a byte is a label below p just where p followed by it is a node
pub labels-is : (ps : List (List ℕ)) (p : List ℕ) (b : ℕ) → byte_in (labels ps p) b ≡ has ps (p ++ (b ∷ []))
unfolding byte_in labels has
labels-is [] p b = refl
labels-is (q ∷ ps) p b = any_append (eqb b) (label p q) (each (label p) ps) ∙ ap₂ ◌||◌ (label_is p q b) (labels-is ps p b)

pub label-node : (ps : List (List ℕ)) (p : List ℕ) (b : ℕ) → Mem b (labels ps p) → Mem (p ++ (b ∷ [])) ps
label-node ps p b m = has-mem ps (p ++ (b ∷ [])) (sym (labels-is ps p b) ∙ mem_in m)

pub node_label : (ps : List (List ℕ)) (p : List ℕ) (b : ℕ) → Mem (p ++ (b ∷ [])) ps → Mem b (labels ps p)
node_label ps p b m = in_mem (labels ps p) b (labels-is ps p b ∙ mem_has m)

-- every label is a byte
pub labels-small : (ts : List Token) → Valid ts → ByteLabels (labels (nodes ts))
labels-small ts v p l m =
    let n = node-is ts (label-node (nodes ts) p l m) in
    byte_at (v.bytes n.tok n.mem)
    (subst (λ (z : List ℕ). Mem l z) (sym n.cut.split) (mem-left n.cut.rest (mem-right p (here refl))))

-- ---- the order of placing

label-short : (p q : List ℕ) → length (label p q) ≤ 1
unfolding label
label-short [] [] = omega arith
label-short [] (b ∷ []) = omega arith
label-short [] (b ∷ c ∷ r) = omega arith
label-short (x ∷ p) [] = omega arith
label-short (x ∷ p) (y ∷ q) = go (eqb x y) (label-short p q)
  where
    go : (c : Bool) → length (label p q) ≤ 1 → length (cond c (label p q) []) ≤ 1
    go true h = h
    go false h = omega arith

pub labels-short : (ps : List (List ℕ)) (p : List ℕ) → length (labels ps p) ≤ length ps
unfolding labels each
labels-short [] p = omega arith
labels-short (q ∷ ps) p =
    let a = label-short p q in let b = labels-short ps p in let c = length-append (label p q) (each (label p) ps) in omega arith

module _ (ps : List (List ℕ)) where
  pub with-count : (c : ℕ) {p : List ℕ} → Mem p (with_count ps c) → Mem p ps × (length (labels ps p) ≡ c)
  unfolding with_count
  with-count c {p} m =
      let f = keep-find (λ (q : List ℕ). eqb (length (labels ps q)) c) ps m in
      (f.0, eqb-true (length (labels ps p)) c f.1)

  falling-mem : (n : ℕ) (p : List ℕ) → Mem p ps → 1 ≤ length (labels ps p) → length (labels ps p) ≤ n → Mem p (falling ps n)
  unfolding falling with_count
  falling-mem zero p m a b = absurd (omega arith)
  falling-mem (suc n) p m a b = go (either (eqb (length (labels ps p)) (suc n))) (falling-mem n p m a)
    where
      go : Tested (eqb (length (labels ps p)) (suc n)) → (length (labels ps p) ≤ n → Mem p (falling ps n))
          → Mem p (with_count ps (suc n) ++ falling ps n)
      go (inl e) r = mem-left (falling ps n) (keep-mem (λ (q : List ℕ). eqb (length (labels ps q)) (suc n)) m e)
      go (inr e) r = let ne = eqb-false (length (labels ps p)) (suc n) e in mem-right (with_count ps (suc n)) (r (omega (arith, ne)))

  falling-find : (n : ℕ) {p : List ℕ} → Mem p (falling ps n) → Mem p ps × (1 ≤ length (labels ps p))
  unfolding falling with_count
  falling-find zero m = absurd (not-nil m)
  falling-find (suc n) {p} m = go (append_cases (with_count ps (suc n)) m) (falling-find n)
    where
      go : Mem p (with_count ps (suc n)) ⊎ Mem p (falling ps n) → (Mem p (falling ps n) → Mem p ps × (1 ≤ length (labels ps p)))
          → Mem p ps × (1 ≤ length (labels ps p))
      go (inl k) r = let (n, e) = with-count (suc n) k in (n, omega arith)
      go (inr k) r = r k

  pub order-mem : (p : List ℕ) → Mem p ps → 1 ≤ length (labels ps p) → Mem p (order ps)
  unfolding order
  order-mem p m h = falling-mem (length ps) p m h (labels-short ps p)

  pub order-find : {p : List ℕ} → Mem p (order ps) → Mem p ps × (1 ≤ length (labels ps p))
  unfolding order
  order-find m = falling-find (length ps) m
