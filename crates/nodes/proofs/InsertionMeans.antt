-- Insertion is right: where roots and nodes stand for tokens, the answer is that of the table of refusals, and afterwards they stand for
-- the tokens with this one. `insert_means` is what the contract of `insert` cites; `stands_none` and `stands_one` are for the builder: the
-- start, and tokens of one byte, which make no node. Assumes nothing.
use Rattle.std.proofs.Common.{◌≡◌, ℕ, suc, ◌+◌, ◌*◌, ◌<◌, ◌≤◌, Bool, true, false, cond, not, ◌||◌, eqb, ltb, leb, ◌⊎◌, List, [], ◌∷◌}
use Rattle.std.proofs.Common.{◌++◌, length, get_or, drop, set, sym, refl, ap, ◌∙◌, subst, ap₂, inl, inr, append_assoc, append-nil}
use Rattle.std.proofs.Common.{arith, length-append, drop-set-lt, ltb-true, le-ltb, lt-ltb, eq-eqb, ne_eqb, eqb-true}
use Rattle.std.proofs.Common.{le-leb, leb-false, leb-true}
use mathlib.Core.List.Memᴰ.{head as here}
use mathlib.Core.List.Memᴰ.{tail as there}
use mathlib.Core.List.{Memᴰ as Mem}
use mathlib.Core.List.Memᴰ.{append_right as mem-right}
use mathlib.Core.List.Memᴰ.{cast as mem-cast}
use mathlib.Core.List.Memᴰ.{not-nil}
use borrow.Author.Tests.{eqb-false, lt-leb}
use Rattle.spec.specs.Lists.{any, fold, same, has, Bytes}
use Rattle.spec.specs.Token.{Token, id_of, seen}
use Rattle.spec.specs.Trie.{extended, cuts, add_new, nodes, node_count}
use Rattle.laws.specs.Tests.{either, no_true, iff_eq, same-eq, same_refl, has-mem, mem_has, yes_case, no_case}
use Rattle.laws.specs.Tokens.{id_cases}
use Rattle.laws.specs.Nodes.{Cut, cuts-cut, is-node}
use Rattle.laws.specs.Numbered.{number}
use Rattle.laws.specs.OneMore.{nodes-snoc, id_snoc}
use Rattle.nodes.specs.Run.{Nodes, room, see, set_node}
use Rattle.nodes.proofs.NodeRun.{length-set_node}
use Rattle.nodes.specs.Insertion.{leaf, with_term, child_of, add_child, State, state, child_made, descend_on, Rooted, rooted, root_made}
use Rattle.nodes.specs.Insertion.{Entered, Ended, finish_on, After, after, insert_on}
use Rattle.nodes.proofs.InsertionCases.{made-old, made-full, made-new, length-add_child, desc_zero, root-full, root-new, root-old}
use Rattle.nodes.proofs.InsertionCases.{fin-none, fin-twice, fin-made, Sound, desc_sound, root-sound}
use Rattle.nodes.specs.Stands.{num, Growing, Stands, answer_for, Grown, RootsKept}
use Rattle.nodes.proofs.Chains.{snoc_mem, member, num-in, num-out, number-pos, number_lt, number-new, find-child, bytes_of}
use Rattle.nodes.proofs.Child.{child-keeps, root-keeps, id-keeps}
use Rattle.std.specs.Prelude.{Ok, Err}
use Rattle.refusals.specs.declared.Refusal.TheVariants.{SeenBefore, NodesFull}

-- ---- nodes added one by one

fold_grows : (xs ps : List (List ℕ)) → length ps ≤ length (fold add_new ps xs)
unfolding fold add_new
fold_grows [] ps = omega arith
fold_grows (x ∷ xs) ps = go (has ps x) (fold_grows xs (cond (has ps x) ps (ps ++ (x ∷ []))))
  where
    go : (c : Bool) → length (cond c ps (ps ++ (x ∷ []))) ≤ length (fold add_new (cond (has ps x) ps (ps ++ (x ∷ []))) xs)
        → length ps ≤ length (fold add_new (cond (has ps x) ps (ps ++ (x ∷ []))) xs)
    go true h = h
    go false h = let a = length-append ps (x ∷ []) in omega arith

new_in : (ps : List (List ℕ)) (x : List ℕ) → Mem x ps → add_new ps x ≡ ps
unfolding add_new
new_in ps x m = yes_case _ _ (mem_has m)

new_out : (ps : List (List ℕ)) (x : List ℕ) → (Mem x ps → ⊥) → add_new ps x ≡ ps ++ (x ∷ [])
unfolding add_new
new_out ps x n = no_case _ _ (no_true (has ps x) (λ e. n (has-mem ps x e)))

length_one_more : {A : Type 0} (ps : List A) (q : A) → length (ps ++ (q ∷ [])) ≡ suc (length ps)
length_one_more ps q = let c = length-append ps (q ∷ []) in let d : length (q ∷ []) ≡ 1 = refl in omega arith

-- a root leads to no node just where there is no room for the nodes with its own
pub no_node : (ps : List (List ℕ)) (p : List ℕ) (root cap made : ℕ) → root ≡ num ps p → made ≡ suc (length ps) → made ≤ cap
    → cond (eqb root 0) (leb cap made) (leb made root) ≡ ltb cap (suc (length (add_new ps p)))
no_node ps p root cap made er em h = go (member ps p)
  where
    go : Mem p ps ⊎ (Mem p ps → ⊥) → cond (eqb root 0) (leb cap made) (leb made root) ≡ ltb cap (suc (length (add_new ps p)))
    go (inl mp) =
        let is : root ≡ number ps p = er ∙ num-in mp in
        let pos = number-pos ps p in
        let lt = number_lt mp in
        let len = ap length (new_in ps p mp) in
        no_case _ _ (ne_eqb root 0 (λ z. omega arith)) ∙ lt-leb made root (omega arith)
        ∙ sym (le-ltb cap (suc (length (add_new ps p))) (omega arith))
    go (inr n) =
        let is : root ≡ 0 = er ∙ num-out ps p n in
        let len = ap length (new_out ps p n) ∙ length_one_more ps p in
        yes_case _ _ (eq-eqb root 0 is)
        ∙ iff_eq (leb cap made) (ltb cap (suc (length (add_new ps p))))
        (λ e. let q = leb-true cap made e in lt-ltb cap (suc (length (add_new ps p))) (omega arith))
        (λ e. let q = ltb-true cap (suc (length (add_new ps p))) e in le-leb cap made (omega arith))

-- ---- the way down

-- where the walk down to q ends, ps' being the nodes then
pub record Reached (ps' : List (List ℕ)) (I : List ℕ → ℕ) (rs : List ℕ) (cap : ℕ) (q : List ℕ) (s : State) : Type 0 where
  pub room-left : suc (length ps') ≤ cap
  pub at : s.node ≡ number ps' q
  pub count : s.made ≡ suc (length ps')
  pub mem : Mem q ps'
  pub growing : Growing ps' I rs s.mem

pub record TooMany (ps' : List (List ℕ)) (cap : ℕ) (s : State) : Type 0 where
  pub over : cap < suc (length ps')
  pub zero-node : s.node ≡ 0

abbrev pub Landed : List (List ℕ) → (List ℕ → ℕ) → List ℕ → ℕ → List ℕ → State → Type 0
Landed ps' I rs cap q s = Reached ps' I rs cap q s ⊎ TooMany ps' cap s

module _ (I : List ℕ → ℕ) (rs : List ℕ) (cap : ℕ) where
  step : (m : Nodes) (k made b : ℕ) (l : List ℕ) → (k ≡ 0 → ⊥)
      → descend_on cap (state m k made) (b ∷ l) ≡ descend_on cap (child_made cap m made k b) l
  unfolding descend_on
  step m k made b l h = no_case _ _ (ne_eqb k 0 h)

  -- no room for one node more
  over_at : (ps : List (List ℕ)) (q : List ℕ) (xs : List (List ℕ)) → (Mem q ps → ⊥) → cap ≤ suc (length ps)
      → cap < suc (length (fold add_new (add_new ps q) xs))
  over_at ps q xs n full =
      subst (λ (z : List (List ℕ)). cap < suc (length (fold add_new z xs))) (sym (new_out ps q n))
      (let a = fold_grows xs (ps ++ (q ∷ [])) in let c = length_one_more ps q in omega arith)

  desc-land : (l : List ℕ) (ps : List (List ℕ)) (p : List ℕ) (m : Nodes) → Bytes l → Growing ps I rs m → Mem p ps → suc (length ps) ≤ cap
      → cap ≤ room m → Landed (fold add_new ps (extended p l)) I rs cap (p ++ l)
      (descend_on cap (state m (number ps p) (suc (length ps))) l)
  unfolding extended fold descend_on
  desc-land [] ps p m hl G mp h fit =
      inl record { room-left = h; at = ap (number ps) (sym (append-nil p)); count = refl; mem = mem-cast (append-nil p) mp; growing = G }
  desc-land (b ∷ l) ps p m hl G mp h fit =
      subst (λ (z : List ℕ). Landed (fold add_new (add_new ps q) (extended q l)) I rs cap z (descend_on cap s0 (b ∷ l)))
      (append_assoc p (b ∷ []) l)
      (subst (Landed (fold add_new (add_new ps q) (extended q l)) I rs cap (q ++ l))
      (sym (step m k made b l (λ z. let a = number-pos ps p in omega arith)))
      (go (member ps q) (either (leb cap made)) (λ ps1 m1. desc-land l ps1 q m1 hl.1)))
    where
      q : List ℕ
      q = p ++ (b ∷ [])

      k : ℕ
      k = number ps p

      made : ℕ
      made = suc (length ps)

      s0 : State
      s0 = state m (number ps p) (suc (length ps))

      found : child_of m made k b ≡ num ps q
      found = unfold child_of in find-child G.tree p b mp

      go : Mem q ps ⊎ (Mem q ps → ⊥) → (leb cap made ≡ true) ⊎ (leb cap made ≡ false)
          → ((ps1 : List (List ℕ)) (m1 : Nodes) → Growing ps1 I rs m1 → Mem q ps1 → suc (length ps1) ≤ cap → cap ≤ room m1
          → Landed (fold add_new ps1 (extended q l)) I rs cap (q ++ l) (descend_on cap (state m1 (number ps1 q) (suc (length ps1))) l))
          → Landed (fold add_new (add_new ps q) (extended q l)) I rs cap (q ++ l) (descend_on cap (child_made cap m made k b) l)
      go (inl mq) e r =
          subst (λ (z : List (List ℕ)). Landed (fold add_new z (extended q l)) I rs cap (q ++ l)
          (descend_on cap (child_made cap m made k b) l))
          (sym (new_in ps q mq))
          (subst (λ (z : State). Landed (fold add_new ps (extended q l)) I rs cap (q ++ l) (descend_on cap z l))
          (sym (made-old cap m made k b (number ps q) (sym (found ∙ num-in mq)) (λ z. let a = number-pos ps q in omega arith)))
          (r ps m G mq h fit))
      go (inr n) (inl e) r =
          let full = leb-true cap made e in
          inr record {
            over = over_at ps q (extended q l) n full;
            zero-node =
                ap (λ (z : State). (descend_on cap z l).node) (made-full cap m made k b 0 (sym (found ∙ num-out ps q n)) refl full)
                ∙ ap (λ (z : State). z.node) (desc_zero cap (state m 0 made) l refl);
          }
      go (inr n) (inr e) r =
          let lt = leb-false cap made e in
          let more = length_one_more ps q in
          let len : made + 1 ≡ suc (length (ps ++ (q ∷ []))) = omega arith in
          let nn : made ≡ number (ps ++ (q ∷ [])) q = sym (number-new ps q n) in
          let st : child_made cap m made k b ≡ state (add_child m made k b) (number (ps ++ (q ∷ [])) q) (suc (length (ps ++ (q ∷ [])))) =
          made-new cap m made k b 0 (sym (found ∙ num-out ps q n)) refl lt ∙ ap₂ (λ (x y : ℕ). state (add_child m made k b) x y) nn len in
          subst (λ (z : List (List ℕ)). Landed (fold add_new z (extended q l)) I rs cap (q ++ l)
          (descend_on cap (child_made cap m made k b) l))
          (sym (new_out ps q n))
          (subst (λ (z : State). Landed (fold add_new (ps ++ (q ∷ [])) (extended q l)) I rs cap (q ++ l) (descend_on cap z l)) (sym st)
          (r (ps ++ (q ∷ [])) (add_child m made k b) (child-keeps G p b hl.0 mp n (omega arith)) (mem-right ps (here refl))
          (omega arith) (let e = length-add_child m made k b in omega arith)))

-- ---- from the root

module _ {ps : List (List ℕ)} {I : List ℕ → ℕ} {rs : List ℕ} {m : Nodes} (G : Growing ps I rs m) (cap : ℕ) (fit : cap ≤ room m)
    (many : 65536 ≤ length rs)
    (have : suc (length ps) ≤ cap) (a b : ℕ) (ha : a < 256) (hb : b < 256) (l : List ℕ) (hl : Bytes l) where
  abbrev two : List ℕ
  two = a ∷ b ∷ []

  abbrev at : ℕ
  at = a * 256 + b

  abbrev N : ℕ
  N = suc (length ps)

  abbrev Goal : List (List ℕ) → Rooted → Type 0
  Goal z w = Landed (fold add_new z (extended two l)) I w.roots cap (a ∷ b ∷ l) (descend_on cap w.st l)

  root-land : Goal (add_new ps two) (root_made cap rs m N at b)
  root-land = go (member ps two) (either (leb cap N))
    where
      go : Mem two ps ⊎ (Mem two ps → ⊥) → (leb cap N ≡ true) ⊎ (leb cap N ≡ false) → Goal (add_new ps two) (root_made cap rs m N at b)
      go (inl mt) e =
          let is : get_or rs at 0 ≡ number ps two = G.root a b ha hb ∙ num-in mt in
          let st : root_made cap rs m N at b ≡ rooted rs (state m (number ps two) N) =
          root-old cap rs m N at b (λ z. let p = number-pos ps two in omega arith) (subst (λ (x : ℕ). x < N) (sym is) (number_lt mt))
          ∙ ap (λ (x : ℕ). rooted rs (state m x N)) is in
          subst (λ (z : List (List ℕ)). Goal z (root_made cap rs m N at b)) (sym (new_in ps two mt))
          (subst (Goal ps) (sym st) (desc-land I rs cap l ps two m hl G mt have fit))
      go (inr n) (inl e) =
          let full = leb-true cap N e in
          let is : get_or rs at 0 ≡ 0 = G.root a b ha hb ∙ num-out ps two n in
          inr record {
            over = over_at I rs cap ps two (extended two l) n full;
            zero-node =
                ap (λ (z : Rooted). (descend_on cap z.st l).node) (root-full cap rs m N at b is full)
                ∙ ap (λ (z : State). z.node) (desc_zero cap (state m 0 N) l refl);
          }
      go (inr n) (inr e) =
          let lt = leb-false cap N e in
          let more = length_one_more ps two in
          let is : get_or rs at 0 ≡ 0 = G.root a b ha hb ∙ num-out ps two n in
          let len : N + 1 ≡ suc (length (ps ++ (two ∷ []))) = omega arith in
          let st : root_made cap rs m N at b
          ≡ rooted (set rs at N) (state (set_node m N (leaf b)) (number (ps ++ (two ∷ [])) two) (suc (length (ps ++ (two ∷ []))))) =
          root-new cap rs m N at b is lt
          ∙ ap₂ (λ (x y : ℕ). rooted (set rs at N) (state (set_node m N (leaf b)) x y)) (sym (number-new ps two n)) len in
          subst (λ (z : List (List ℕ)). Goal z (root_made cap rs m N at b)) (sym (new_out ps two n))
          (subst (Goal (ps ++ (two ∷ []))) (sym st)
          (desc-land I (set rs at N) cap l (ps ++ (two ∷ [])) two (set_node m N (leaf b)) hl (root-keeps G a b ha hb n (omega arith) many)
          (mem-right ps (here refl)) (omega arith) (let e = length-set_node m N (leaf b) in omega arith)))

-- ---- tokens

-- bytes were seen before just where they have an id
pub seen-id : (ts : List Token) (p : List ℕ) → ((u : Token) → Mem u ts → 1 ≤ u.id) → seen ts p ≡ not (eqb (id_of ts p) 0)
unfolding seen any id_of
seen-id [] p low = refl
seen-id (t ∷ ts) p low = go (same p t.bytes) (seen-id ts p (λ u k. low u (there k)))
  where
    go : (c : Bool) → seen ts p ≡ not (eqb (id_of ts p) 0) → (c || seen ts p) ≡ not (eqb (cond c t.id (id_of ts p)) 0)
    go true r = ap not (sym (ne_eqb t.id 0 (λ z. let k = low t (here refl) in omega arith)))
    go false r = r

-- prefixes that are there make no node
old_cuts : (xs ps : List (List ℕ)) → ((x : List ℕ) → Mem x xs → Mem x ps) → fold add_new ps xs ≡ ps
unfolding fold
old_cuts [] ps h = refl
old_cuts (x ∷ xs) ps h =
    ap (λ (z : List (List ℕ)). fold add_new z xs) (new_in ps x (h x (here refl))) ∙ old_cuts xs ps (λ y m. h y (there m))

there_before : (ts : List Token) (p : List ℕ) → (id_of ts p ≡ 0 → ⊥) → fold add_new (nodes ts) (cuts p) ≡ nodes ts
there_before ts p h = go (id_cases ts p)
  where
    go : (id_of ts p ≡ 0) ⊎ ((t : Token) × Mem t ts × (t.bytes ≡ p) × (id_of ts p ≡ t.id)) → fold add_new (nodes ts) (cuts p) ≡ nodes ts
    go (inl z) = absurd (h z)
    go (inr r) =
        old_cuts (cuts p) (nodes ts)
        (λ x m. is-node ts record { tok = r.0; mem = r.1; cut = subst (Cut x) (sym r.2) (cuts-cut p m) })

low_snoc : (ts : List Token) (t : Token) → 1 ≤ t.id → ((u : Token) → Mem u ts → 1 ≤ u.id)
    → (u : Token) → Mem u (ts ++ (t ∷ [])) → 1 ≤ u.id
low_snoc ts t h low u mu = go (snoc_mem ts mu)
  where
    go : Mem u ts ⊎ (u ≡ t) → 1 ≤ u.id
    go (inl k) = low u k
    go (inr e) = subst (λ (x : Token). 1 ≤ x.id) (sym e) h

-- the id of other bytes stays
id_else : (ts : List Token) (t : Token) → ((u : Token) → Mem u ts → 1 ≤ u.id) → (x : List ℕ) → (x ≡ t.bytes → ⊥)
    → id_of (ts ++ (t ∷ [])) x ≡ id_of ts x
id_else ts t low x ne = id_snoc ts t x low ∙ go (either (eqb (id_of ts x) 0))
  where
    go : (eqb (id_of ts x) 0 ≡ true) ⊎ (eqb (id_of ts x) 0 ≡ false)
        → cond (eqb (id_of ts x) 0) (cond (same x t.bytes) t.id 0) (id_of ts x) ≡ id_of ts x
    go (inl e) =
        yes_case _ _ e ∙ no_case _ _ (no_true (same x t.bytes) (λ y. ne (same-eq x t.bytes y))) ∙ sym (eqb-true (id_of ts x) 0 e)
    go (inr e) = no_case _ _ e

module _ (ts : List Token) (rs : List ℕ) (m : Nodes) (S : Stands ts rs m) (cap : ℕ) (fit : cap ≤ room m) (many : 65536 ≤ length rs)
    (have : node_count ts ≤ cap)
    (a b : ℕ) (ha : a < 256) (hb : b < 256) (l : List ℕ) (hl : Bytes l) (id : ℕ) (idl : 1 ≤ id) (idh : id < 65536) where
  abbrev t : Token
  t = record { id = id; bytes = a ∷ b ∷ l }

  abbrev p : List ℕ
  p = a ∷ b ∷ l

  abbrev made : ℕ
  made = suc (length (nodes ts))

  abbrev w : Rooted
  w = root_made cap rs m made (a * 256 + b) b

  abbrev s : State
  s = descend_on cap w.st l

  abbrev qs : List (List ℕ)
  qs = nodes (ts ++ (t ∷ []))

  count-is : node_count (ts ++ (t ∷ [])) ≡ suc (length qs)
  unfolding node_count
  count-is = omega arith

  have' : made ≤ cap
  unfolding node_count
  have' = omega (arith, have)

  cut-top : cuts (a ∷ b ∷ l) ≡ (a ∷ b ∷ []) ∷ extended (a ∷ b ∷ []) l
  unfolding cuts extended
  cut-top = refl

  nodes-then : fold add_new (add_new (nodes ts) (a ∷ b ∷ [])) (extended (a ∷ b ∷ []) l) ≡ qs
  unfolding fold
  nodes-then = sym (nodes-snoc ts t ∙ ap (fold add_new (nodes ts)) cut-top)

  land : Landed qs (id_of ts) w.roots cap p s
  land = subst (λ (z : List (List ℕ)). Landed z (id_of ts) w.roots cap p s) nodes-then
      (root-land S.growing cap fit many have' a b ha hb l hl)

  id-here : id_of ts p ≡ 0 → id_of (ts ++ (t ∷ [])) p ≡ id
  id-here z = id_snoc ts t p S.low ∙ yes_case _ _ (eq-eqb (id_of ts p) 0 z) ∙ yes_case _ _ (same_refl p)

  sound : Sound cap (length m) s
  sound = desc_sound cap (length m) w.st l (root-sound cap rs m made (a * 256 + b) b (omega arith) have')

  new-token : id_of ts p ≡ 0 → seen ts p ≡ false
  new-token z = seen-id ts p S.low ∙ ap not (eq-eqb (id_of ts p) 0 z)

  old-token : (id_of ts p ≡ 0 → ⊥) → seen ts p ≡ true
  old-token n = seen-id ts p S.low ∙ ap not (ne_eqb (id_of ts p) 0 n)

  not_made : {x : Entered} (n : ℕ) → x ≡ Err NodesFull → x ≡ Ok n → ⊥
  not_made n e k = let z : ◌≡◌ {A = ℕ} 0 1 = cc in omega arith

  not-twice : {x : Entered} (n : ℕ) → x ≡ Err SeenBefore → x ≡ Ok n → ⊥
  not-twice n e k = let z : ◌≡◌ {A = ℕ} 0 1 = cc in omega arith

  right : Grown ts t cap (finish_on s id).answer w.roots (finish_on s id).mem
  unfolding answer_for
  right = go land (either (eqb (id_of ts p) 0))
    where
      go : Landed qs (id_of ts) w.roots cap p s → (eqb (id_of ts p) 0 ≡ true) ⊎ (eqb (id_of ts p) 0 ≡ false)
          → Grown ts t cap (finish_on s id).answer w.roots (finish_on s id).mem
      go (inr f) (inl e) =
          let none = ap (λ (d : Ended). d.answer) (fin-none s id f.zero-node) in
          record {
            answer = none
                ∙ sym (no_case _ _ (new-token (eqb-true (id_of ts p) 0 e))
                ∙ no_case _ _ (lt-leb (node_count (ts ++ (t ∷ []))) cap (let o = f.over in let c = count-is in omega arith)));
            stands = λ n k. absurd (not_made n none k);
          }
      go (inr f) (inr e) =
          let same_nodes : qs ≡ nodes ts =
          sym nodes-then ∙ (unfold fold in ap (fold add_new (nodes ts)) (sym cut-top)) ∙ there_before ts p (eqb-false (id_of ts p) 0 e) in
          let g = ap length same_nodes in
          let o = f.over in
          let h = have' in
          absurd (omega arith)
      go (inl r) (inr e) =
          let term_is : (see s.mem s.node).term ≡ id_of ts p =
          ap (λ (x : ℕ). (see s.mem x).term) r.at ∙ (r.growing.tree.node p r.mem).term in
          let nz : s.node ≡ 0 → ⊥ = λ z. (let q = number-pos qs p in let y = r.at in omega arith) in
          let ne = eqb-false (id_of ts p) 0 e in
          let d = fin-twice s id (see s.mem s.node) nz refl (λ z. ne (sym term_is ∙ z)) in
          let dup = ap (λ (x : Ended). x.answer) d in
          record { answer = dup ∙ sym (yes_case _ _ (old-token ne)); stands = λ n k. absurd (not-twice n dup k) }
      go (inl r) (inl e) =
          let zero-id = eqb-true (id_of ts p) 0 e in
          let term_is : (see s.mem s.node).term ≡ id_of ts p =
          ap (λ (x : ℕ). (see s.mem x).term) r.at ∙ (r.growing.tree.node p r.mem).term in
          let nz : s.node ≡ 0 → ⊥ = λ z. (let q = number-pos qs p in let y = r.at in omega arith) in
          let d = fin-made s id (see s.mem s.node) nz refl (term_is ∙ zero-id) in
          let mem_is : set_node s.mem (number qs p) (with_term (see s.mem (number qs p)) id) ≡ (finish_on s id).mem =
          ap (λ (x : ℕ). set_node s.mem x (with_term (see s.mem x) id)) (sym r.at) ∙ sym (ap (λ (x : Ended). x.mem) d) in
          record {
            answer = ap (λ (x : Ended). x.answer) d ∙ ap Ok (r.count ∙ sym count-is)
                ∙ sym (no_case _ _ (new-token zero-id)
                ∙ yes_case _ _ (le-leb (node_count (ts ++ (t ∷ []))) cap (let o = r.room-left in let c = count-is in omega arith)));
            stands = λ n k. record {
              growing = subst (Growing qs (id_of (ts ++ (t ∷ []))) w.roots) mem_is
                  (id-keeps r.growing (id_of (ts ++ (t ∷ []))) p r.mem id idh (id-here zero-id) (λ x ne. id_else ts t S.low x ne)
                  (let x = number_lt r.mem in let y = r.room-left in let z = sound.len in omega arith));
              low = low_snoc ts t idl S.low;
            };
          }

-- ---- any bytes, two or more

insert_at : (ts : List Token) (rs : List ℕ) (m : Nodes) → Stands ts rs m → (cap : ℕ) → cap ≤ room m → 65536 ≤ length rs
    → node_count ts ≤ cap
    → (bs : List ℕ) → 2 ≤ length bs → Bytes bs → (id : ℕ) → 1 ≤ id → id < 65536
    → Grown ts (record { id = id; bytes = bs }) cap (insert_on cap rs m (suc (length (nodes ts))) bs id).answer
    (insert_on cap rs m (suc (length (nodes ts))) bs id).roots (insert_on cap rs m (suc (length (nodes ts))) bs id).mem
unfolding insert_on
insert_at ts rs m S cap fit many have [] two hb id idl idh = absurd (omega arith)
insert_at ts rs m S cap fit many have (a ∷ []) two hb id idl idh = absurd (omega arith)
insert_at ts rs m S cap fit many have (a ∷ b ∷ l) two hb id idl idh =
    right ts rs m S cap fit many have a b hb.0 hb.1.0 l hb.1.1 id idl idh

-- of an answer and a memory that are insert_on's
pub insert_right : (ts : List Token) (rs : List ℕ) (m : Nodes) → Stands ts rs m → (cap : ℕ) → cap ≤ room m → 65536 ≤ length rs
    → (made : ℕ) → made ≡ node_count ts → made ≤ cap → (bs : List ℕ) → 2 ≤ length bs → Bytes bs → (id : ℕ) → 1 ≤ id → id < 65536
    → (rs' : List ℕ) (m' : Nodes) (r : Entered) → after rs' m' r ≡ insert_on cap rs m made bs id
    → Grown ts (record { id = id; bytes = bs }) cap r rs' m'
unfolding node_count
insert_right ts rs m S cap fit many made em have bs two hb id idl idh rs' m' r e =
    let n : made ≡ suc (length (nodes ts)) = omega (arith, em) in
    let q : after rs' m' r ≡ insert_on cap rs m (suc (length (nodes ts))) bs id = e ∙ ap (λ (x : ℕ). insert_on cap rs m x bs id) n in
    subst (λ (x : After). Grown ts (record { id = id; bytes = bs }) cap x.answer x.roots x.mem) (sym q)
    (insert_at ts rs m S cap fit many (subst (λ (x : ℕ). x ≤ cap) em have) bs two hb id idl idh)

-- ---- the start: no token, roots all 0, any nodes

pub stands_none : (rs : List ℕ) (m : Nodes) → ((i : ℕ) → i < 65536 → get_or rs i 0 ≡ 0) → Stands [] rs m
unfolding nodes
stands_none rs m h = record {
  growing = record {
    tree = record {
      fresh = tt;
      long = λ p k. absurd (not-nil k);
      closed = λ p l a k. absurd (not-nil k);
      byte = λ p k. absurd (not-nil k);
      node = λ p k. absurd (not-nil k);
    };
    root = λ a b ha hb. h (a * 256 + b) (omega arith) ∙ sym (num-out [] (a ∷ b ∷ []) (λ k. not-nil k));
    last = λ p k. absurd (not-nil k);
    none = λ p a k. unfold id_of in refl;
  };
  low = λ u k. absurd (not-nil k);
}

-- ---- a token of one byte makes no node

pub nodes-one : (ts : List Token) (id b : ℕ) → nodes (ts ++ (record { id = id; bytes = b ∷ [] } ∷ [])) ≡ nodes ts
unfolding cuts extended fold
nodes-one ts id b = nodes-snoc ts (record { id = id; bytes = b ∷ [] })

pub stands_one : (ts : List Token) (rs : List ℕ) (m : Nodes) (id b : ℕ) → 1 ≤ id → Stands ts rs m → Stands
    (ts ++ (record { id = id; bytes = b ∷ [] } ∷ [])) rs m
stands_one ts rs m id b idl S = record {
  growing = subst (λ (ps : List (List ℕ)). Growing ps (id_of ts') rs m) (sym (nodes-one ts id b)) record {
    tree = record {
      fresh = G.tree.fresh;
      long = G.tree.long;
      closed = G.tree.closed;
      byte = G.tree.byte;
      node = λ p k. let n = G.tree.node p k in record {
        chain = n.chain;
        count = n.count;
        term = n.term ∙ sym (stays p (G.tree.long p k));
        label = n.label;
      };
    };
    root = G.root;
    last = G.last;
    none = λ p h n. stays p h ∙ G.none p h n;
  };
  low = low_snoc ts (record { id = id; bytes = b ∷ [] }) idl S.low;
}
  where
    ts' : List Token
    ts' = ts ++ (record { id = id; bytes = b ∷ [] } ∷ [])

    G : Growing (nodes ts) (id_of ts) rs m
    G = S.growing

    stays : (p : List ℕ) → 2 ≤ length p → id_of (ts ++ (record { id = id; bytes = b ∷ [] } ∷ [])) p ≡ id_of ts p
    stays p h =
        id_else ts (record { id = id; bytes = b ∷ [] }) S.low p
        (λ e. let g = ap length e in let s : length (b ∷ []) ≡ 1 = refl in omega arith)

-- insertion changes no cell behind the roots
roots_kept : (rs : List ℕ) (at new : ℕ) (p q w : Bool) (a b c d : State) → at < 65536
    → drop 65536 (cond p (cond q (rooted rs a) (rooted (set rs at new) b)) (cond w (rooted rs c) (rooted rs d))).roots ≡ drop 65536 rs
roots_kept rs at new true true w a b c d h = refl
roots_kept rs at new true false w a b c d h = drop-set-lt 65536 rs at new h
roots_kept rs at new false q true a b c d h = refl
roots_kept rs at new false q false a b c d h = refl

pub insert_keeps : (most : ℕ) (rs : List ℕ) (ns : Nodes) (made : ℕ) (bs : List ℕ) (id : ℕ) → get_or bs 0 0 < 256 → get_or bs 1 0 < 256
    → (rs' : List ℕ) (ns' : Nodes) (a : Entered) → after rs' ns' a ≡ insert_on most rs ns made bs id → RootsKept rs rs'
unfolding insert_on root_made
insert_keeps most rs ns made bs id h k rs' ns' a e =
    let at : ℕ = get_or bs 0 0 * 256 + get_or bs 1 0 in
    record {
      behind = ap (λ (x : After). drop 65536 x.roots) e
          ∙ roots_kept rs at made (eqb (get_or rs at 0) 0) (leb most made) (leb made (get_or rs at 0)) _ _ _ _ (omega arith);
    }

-- both
pub insert_means : (cap : ℕ) (rs : List ℕ) (m : Nodes) (made id : ℕ) (bs rs' : List ℕ) (m' : Nodes) (r : Entered)
    → after rs' m' r ≡ insert_on cap rs m made bs id → 65536 ≤ length rs → 2 ≤ length bs → made ≤ cap → cap ≤ room m
    → id < 65536 → ((k : ℕ) → get_or bs k 0 < 256)
    → ((ts : List Token) → Stands ts rs m → made ≡ node_count ts → 1 ≤ id
    → Grown ts (record { id = id; bytes = bs }) cap r rs' m') × RootsKept rs rs'
insert_means cap rs m made id bs rs' m' r e many two have fit hid known = (
  (λ ts S em low. insert_right ts rs m S cap fit many made em have bs two (bytes_of bs known) id low hid rs' m' r e),
  insert_keeps cap rs m made bs id (known 0) (known 1) rs' m' r e,
)
