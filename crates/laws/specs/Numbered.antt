-- Node numbers; no node and no label twice; at most 256 children. Assumes nothing.
use Rattle.std.specs.Prelude.{◌≡◌, refl, ◌⊎◌, Bool, true, false, not, cond, ℕ, zero, suc, ◌+◌, ◌≤◌, ◌<◌, eqb, length, get_or}
use Rattle.std.proofs.Common.{sym, ap, ap₂, ◌∙◌, subst, inl, inr, arith, eqb-true}
use Rattle.std.proofs.lemmas.Bool.{false≢true, eqb-false, not-true}
use mathlib.Core.List.Memᴰ.{head as here}
use mathlib.Core.List.Memᴰ.{tail as there}
use mathlib.Core.List.{List, [], ◌∷◌, ◌++◌, map, Memᴰ as Mem}
use mathlib.Core.List.Memᴰ.{append_cases}
use mathlib.Core.List.Memᴰ.{eq_of_singleton}
use mathlib.Core.List.Memᴰ.{not-nil}
use mathlib.Core.List.Memᴰ.{cast as mem-cast}
use mathlib.Core.List.Memᴰ.{of_map as mem-of-map}
use Rattle.std.proofs.lemmas.List.{length-map}
use Rattle.spec.specs.Lists.{keep, each, fold, same, has}
use Rattle.spec.specs.Token.{Token}
use Rattle.spec.specs.Trie.{cuts, add_new, nodes, label, labels, with_count, falling, order}
use Rattle.spec.specs.Valid.{Valid}
use Rattle.laws.specs.Tests.{clash, no_true, same-eq, same_refl, mem_has, keep-find}
use Rattle.laws.specs.Nodes.{label-node, labels-small, labels-short}

-- ---- the place of a prefix

unfoldable pub place_of : List (List ℕ) → List ℕ → ℕ
unfolding same
place_of [] p = zero
place_of (q ∷ ps) p = let r = suc (place_of ps p) in cond (same p q) zero r

-- node 1 + i is the i-th prefix
unfoldable pub number : List (List ℕ) → List ℕ → ℕ
unfolding place_of
number ps p = suc (place_of ps p)

pub place_lt : {p : List ℕ} {ps : List (List ℕ)} → Mem p ps → place_of ps p < length ps
unfolding place_of
place_lt {p} (here {x = q} {xs = ps} e) = go (same p q) (ap (same p) (sym e) ∙ same_refl p)
  where
    go : (c : Bool) → c ≡ true → cond c zero (suc (place_of ps p)) < suc (length ps)
    go true h = omega arith
    go false h = absurd (false≢true h)
place_lt {p} (there {x = q} {xs = ps} m) = go (same p q) (place_lt m)
  where
    go : (c : Bool) → place_of ps p < length ps → cond c zero (suc (place_of ps p)) < suc (length ps)
    go true h = omega arith
    go false h = omega arith

pub at_place : {p : List ℕ} {ps : List (List ℕ)} → Mem p ps → get_or ps (place_of ps p) [] ≡ p
unfolding place_of
at_place {p} (here {x = q} {xs = ps} e) =
    ap (λ (c : Bool). get_or (q ∷ ps) (cond c zero (suc (place_of ps p))) []) (ap (same p) (sym e) ∙ same_refl p) ∙ sym e
at_place {p} (there {x = q} {xs = ps} m) = go (same p q) refl (at_place m)
  where
    go : (c : Bool) → same p q ≡ c → get_or ps (place_of ps p) [] ≡ p → get_or (q ∷ ps) (cond c zero (suc (place_of ps p))) [] ≡ p
    go true h r = sym (same-eq p q h)
    go false h r = r

-- a number once given stays, and a new node has the next
pub place_stays : {p : List ℕ} {ps : List (List ℕ)} (r : List (List ℕ)) → Mem p ps → place_of (ps ++ r) p ≡ place_of ps p
unfolding place_of
place_stays {p} r (here {x = q} {xs = ps} e) = go (same p q) (ap (same p) (sym e) ∙ same_refl p)
  where
    go : (c : Bool) → c ≡ true → cond c zero (suc (place_of (ps ++ r) p)) ≡ cond c zero (suc (place_of ps p))
    go true h = refl
    go false h = absurd (false≢true h)
place_stays {p} r (there {x = q} {xs = ps} m) = ap (λ (n : ℕ). cond (same p q) zero (suc n)) (place_stays r m)

pub place_new : (ps : List (List ℕ)) (p : List ℕ) → (Mem p ps → ⊥) → place_of (ps ++ (p ∷ [])) p ≡ length ps
unfolding place_of
place_new [] p h = ap (λ (c : Bool). cond c zero 1) (same_refl p)
place_new (q ∷ ps) p h =
    ap (λ (c : Bool). cond c zero (suc (place_of (ps ++ (p ∷ [])) p))) (no_true (same p q) (λ e. h (here (same-eq p q e))))
    ∙ ap suc (place_new ps p (λ m. h (there m)))

-- ---- nothing twice

abbrev pub Fresh : {A : Type 0} → List A → Type 0
Fresh [] = Unit {0}
Fresh (x ∷ xs) = (Mem x xs → ⊥) × Fresh xs

pub fresh-snoc : {A : Type 0} (xs : List A) (y : A) → Fresh xs → (Mem y xs → ⊥) → Fresh (xs ++ (y ∷ []))
fresh-snoc [] y f h = (not-nil, tt)
fresh-snoc (x ∷ xs) y f h = ((λ m. go (append_cases xs m)), fresh-snoc xs y f.1 (λ m. h (there m)))
  where
    go : Mem x xs ⊎ Mem x (y ∷ []) → ⊥
    go (inl m) = f.0 m
    go (inr m) = h (here (sym (eq_of_singleton m)))

pub fresh-map : {A B : Type 0} (f : A → B) (l : List A) → Fresh l → ((x y : A) → Mem x l → Mem y l → f x ≡ f y → x ≡ y) → Fresh (map f l)
fresh-map f [] h i = tt
fresh-map f (x ∷ l) h i = (
  (λ m. let r = mem-of-map f l m in h.0 (mem-cast (i x r.0 (here refl) (there r.1) (sym r.2)) r.1)),
  fresh-map f l h.1 (λ a b m n e. i a b (there m) (there n) e),
)

new_fresh : (ps : List (List ℕ)) (p : List ℕ) → Fresh ps → Fresh (add_new ps p)
unfolding add_new
new_fresh ps p f = go (has ps p) refl
  where
    go : (c : Bool) → has ps p ≡ c → Fresh (cond c ps (ps ++ (p ∷ [])))
    go true e = f
    go false e = fresh-snoc ps p f (λ m. clash (mem_has m) e)

all-fresh : (l ps : List (List ℕ)) → Fresh ps → Fresh (fold add_new ps l)
unfolding fold
all-fresh [] ps f = f
all-fresh (p ∷ l) ps f = all-fresh l (add_new ps p) (new_fresh ps p f)

pub nodes-fresh : (ts : List Token) → Fresh (nodes ts)
unfolding nodes
nodes-fresh ts = all-fresh (each (λ (t : Token). cuts t.bytes) ts) [] tt

pub label-shape : (p q : List ℕ) → (label p q ≡ []) ⊎ ((b : ℕ) × (label p q ≡ b ∷ []) × (q ≡ p ++ (b ∷ [])))
unfolding label
label-shape [] [] = inl refl
label-shape [] (b ∷ []) = inr (b, refl, refl)
label-shape [] (b ∷ c ∷ r) = inl refl
label-shape (x ∷ p) [] = inl refl
label-shape (x ∷ p) (y ∷ q) = go (eqb x y) refl (label-shape p q)
  where
    go : (c : Bool) → eqb x y ≡ c → (label p q ≡ []) ⊎ ((b : ℕ) × (label p q ≡ b ∷ []) × (q ≡ p ++ (b ∷ [])))
        → (cond c (label p q) [] ≡ []) ⊎ ((b : ℕ) × (cond c (label p q) [] ≡ b ∷ []) × (y ∷ q ≡ x ∷ (p ++ (b ∷ []))))
    go false e r = inl refl
    go true e (inl z) = inl z
    go true e (inr r) = inr (r.0, r.1, ap₂ (λ (a : ℕ) (l : List ℕ). a ∷ l) (sym (eqb-true x y e)) r.2)

pub labels-fresh : (ps : List (List ℕ)) (p : List ℕ) → Fresh ps → Fresh (labels ps p)
unfolding labels each
labels-fresh [] p f = tt
labels-fresh (q ∷ ps) p f = go (label-shape p q) (labels-fresh ps p f.1)
  where
    go : (label p q ≡ []) ⊎ ((b : ℕ) × (label p q ≡ b ∷ []) × (q ≡ p ++ (b ∷ []))) → Fresh (labels ps p) → Fresh (label p q ++ labels ps p)
    go (inl z) r = subst (λ (l : List ℕ). Fresh (l ++ labels ps p)) (sym z) r
    go (inr s) r =
        subst (λ (l : List ℕ). Fresh (l ++ labels ps p)) (sym s.1) ((λ m. f.0 (mem-cast s.2 (label-node ps p s.0 m))), r)

-- ---- distinct numbers below n are at most n

pub keep_fresh : {A : Type 0} (f : A → Bool) (l : List A) → Fresh l → Fresh (keep f l)
unfolding keep
keep_fresh f [] h = tt
keep_fresh f (x ∷ l) h = go (f x) (keep_fresh f l h.1)
  where
    go : (c : Bool) → Fresh (keep f l) → Fresh (cond c (x ∷ keep f l) (keep f l))
    go true r = ((λ m. h.0 (keep-find f l m).0), r)
    go false r = r

keep_all : (f : ℕ → Bool) (l : List ℕ) → ((x : ℕ) → Mem x l → f x ≡ true) → keep f l ≡ l
unfolding keep
keep_all f [] h = refl
keep_all f (x ∷ l) h =
    ap (λ (c : Bool). cond c (x ∷ keep f l) (keep f l)) (h x (here refl)) ∙ ap (λ (z : List ℕ). x ∷ z) (keep_all f l (λ y m. h y (there m)))

one-off : (n : ℕ) (l : List ℕ) → Fresh l → length l ≤ suc (length (keep (λ x. not (eqb n x)) l))
unfolding keep
one-off n [] h = omega arith
one-off n (x ∷ l) h = go (eqb n x) refl (one-off n l h.1)
  where
    f : ℕ → Bool
    f y = not (eqb n y)

    go : (c : Bool) → eqb n x ≡ c → length l ≤ suc (length (keep f l))
        → suc (length l) ≤ suc (length (cond (not c) (x ∷ keep f l) (keep f l)))
    go false e r = omega arith
    go true e r = let k = ap length (keep_all f l others) in omega arith
      where
        others : (y : ℕ) → Mem y l → f y ≡ true
        others y m = ap not (no_true (eqb n y) (λ t. h.0 (mem-cast (sym (eqb-true n x e) ∙ eqb-true n y t) m)))

pub pigeon : (n : ℕ) (l : List ℕ) → Fresh l → ((x : ℕ) → Mem x l → x < n) → length l ≤ n
pigeon zero [] f h = omega arith
pigeon zero (x ∷ l) f h = let k = h x (here refl) in absurd (omega arith)
pigeon (suc n) l f h =
    let b = pigeon n (keep (λ x. not (eqb n x)) l) (keep_fresh (λ x. not (eqb n x)) l f) others in
    omega (arith, one-off n l f)
  where
    others : (x : ℕ) → Mem x (keep (λ x. not (eqb n x)) l) → x < n
    others x m =
        let r = keep-find (λ x. not (eqb n x)) l m in
        let lt = h x r.0 in
        let ne : x ≡ n → ⊥ = λ e. eqb-false n x (not-true (eqb n x) r.1) (sym e) in
        omega (arith, ne)

pub count_small : (ts : List Token) → Valid ts → (p : List ℕ) → length (labels (nodes ts) p) ≤ 256
count_small ts v p = pigeon 256 (labels (nodes ts) p) (labels-fresh (nodes ts) p (nodes-fresh ts)) (labels-small ts v p)

-- a list without repeats, all of whose members are in another, is no longer than it
pub fresh-within : (qs ps : List (List ℕ)) → Fresh qs → ((p : List ℕ) → Mem p qs → Mem p ps) → length qs ≤ length ps
fresh-within qs ps f h =
    let d : length (map (place_of ps) qs) ≤ length ps =
    pigeon (length ps) (map (place_of ps) qs) (fresh-map (place_of ps) qs f same_place) below in
    omega (arith, length-map qs (place_of ps))
  where
    same_place : (p q : List ℕ) → Mem p qs → Mem q qs → place_of ps p ≡ place_of ps q → p ≡ q
    same_place p q m n e = sym (at_place (h p m)) ∙ ap (λ (i : ℕ). get_or ps i []) e ∙ at_place (h q n)

    below : (i : ℕ) → Mem i (map (place_of ps) qs) → i < length ps
    below i m = let r = mem-of-map (place_of ps) qs m in subst (λ (z : ℕ). z < length ps) r.2 (place_lt (h r.0 r.1))

-- ---- the order from 256 children down

none-with : (ps qs : List (List ℕ)) (c : ℕ) → ((p : List ℕ) → length (labels ps p) < c) → keep (λ p. eqb (length (labels ps p)) c) qs ≡ []
unfolding keep
none-with ps [] c h = refl
none-with ps (q ∷ qs) c h =
    ap (λ (d : Bool). cond d (q ∷ keep (λ p. eqb (length (labels ps p)) c) qs) (keep (λ p. eqb (length (labels ps p)) c) qs))
    (no_true (eqb (length (labels ps q)) c) (λ e. let k = eqb-true (length (labels ps q)) c e in let l = h q in omega arith))
    ∙ none-with ps qs c h

falling-more : (ps : List (List ℕ)) (n d : ℕ) → ((p : List ℕ) → length (labels ps p) ≤ n) → falling ps (n + d) ≡ falling ps n
unfolding falling with_count
falling-more ps n zero h = let e : n + 0 ≡ n = omega arith in ap (falling ps) e
falling-more ps n (suc d) h =
    let e : n + suc d ≡ suc (n + d) = omega arith in
    ap (falling ps) e
    ∙ ap (λ (l : List (List ℕ)). l ++ falling ps (n + d)) (none-with ps ps (suc (n + d)) (λ p. let k = h p in omega arith))
    ∙ falling-more ps n d h

pub falling-any : (ps : List (List ℕ)) (n m : ℕ) → ((p : List ℕ) → length (labels ps p) ≤ n) → ((p : List ℕ) → length (labels ps p) ≤ m)
    → falling ps n ≡ falling ps m
falling-any ps n m h k =
    let a : n + m ≡ m + n = omega arith in
    sym (falling-more ps n m h) ∙ ap (falling ps) a ∙ falling-more ps m n k

pub order-256 : (ts : List Token) → Valid ts → order (nodes ts) ≡ falling (nodes ts) 256
unfolding order
order-256 ts v = falling-any (nodes ts) (length (nodes ts)) 256 (labels-short (nodes ts)) (count_small ts v)
