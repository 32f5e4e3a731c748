-- On loaded memory the walk finds the longest token, for every byte string: the theorem `matching`. Assumes nothing.
use Rattle.std.specs.Prelude.{◌≡◌, refl, ◌⊎◌, ℕ, zero, suc, ◌+◌, ◌-◌, ◌≤◌, ◌<◌, max, leb, pos, length, take, get_or, drop}
use Rattle.std.proofs.Common.{sym, ap₂, ◌∙◌, subst, inl, inr, arith, lit<, length-take, length-append, length-drop, take-append-drop}
use Rattle.std.proofs.Common.{take_at, eq-eqb, leb-true, leb-false, ne_eqb}
use Rattle.std.proofs.Math.Path.{ap}
use mathlib.Core.List.{List, [], ◌∷◌, ◌++◌, append-nil, append_assoc, head-eq_of_cons-eq, Memᴰ as Mem}
use Rattle.std.proofs.Math.Seq.{take-append-add}
use Rattle.spec.specs.Lists.{Bytes}
use Rattle.spec.specs.Token.{Token, longest, id_of}
use Rattle.spec.specs.Trie.{nodes}
use Rattle.spec.specs.Memory.{Memory, id_or_none, Loaded}
use Rattle.spec.specs.Match.{Walk, no_walk, walk_on, one, match_on, found}
use Rattle.spec.specs.Plain.{Prefix}
use Rattle.spec.specs.Theorems.{match_of, Matching}
use Rattle.running.specs.Prefixes.{prefix_length}
use Rattle.running.specs.Longest.{IsLongest, longest-iff, longest-none_iff}
use Rattle.laws.specs.Tests.{Tested, either}
use Rattle.laws.specs.Tokens.{TokenOf, id_cases, id_pos, id-low}
use Rattle.laws.specs.Nodes.{Cut, cut-length, node-is, token-node}
use Rattle.laws.specs.Reads.{single-at}
use Rattle.laws.specs.WalkLaws.{Passed, passed_start, passed-more, Reached, walk_cases}

-- ---- what the walk found

-- where a token goes on beyond p along p ++ (d ∷ r), there is a node
onward : {ts : List Token} (p : List ℕ) (d : ℕ) (r : List ℕ) (t : Token) → Mem t ts → 1 ≤ length p → length p < length t.bytes
    → Cut t.bytes (p ++ (d ∷ r)) → Mem (p ++ (d ∷ [])) (nodes ts)
onward {ts} p d r t m h l c = token-node ts p d (take k r) m whole h
  where
    k : ℕ
    k = length t.bytes - suc (length p)

    whole : t.bytes ≡ p ++ (d ∷ take k r)
    whole =
        let e : length t.bytes ≡ length p + suc k = omega arith in
        sym (take_at t.bytes c.rest (length t.bytes) refl) ∙ ap (take (length t.bytes)) (sym c.split)
        ∙ ap (λ (n : ℕ). take n (p ++ (d ∷ r))) e ∙ take-append-add p (d ∷ r) (suc k)

module _ {m : Memory} {ts : List Token} (L : Loaded m ts) where
  -- no token reaches beyond the node that the walk came to
  within : (a b : ℕ) (s : List ℕ) (k : Walk) (w : Reached ts (a ∷ b ∷ take 253 s) k) (t : Token) → Mem t ts
      → Cut t.bytes (w.node ++ (w.rest ++ drop 253 s)) → length t.bytes ≤ length w.node
  within a b s k w t n c = at (either (leb (length t.bytes) (length w.node))) w.rest refl
    where
      p : List ℕ
      p = w.node

      two : 2 ≤ length p
      two = (node-is ts w.mem).cut.two

      at : Tested (leb (length t.bytes) (length p)) → (r : List ℕ) → w.rest ≡ r → length t.bytes ≤ length p
      at (inl e) r q = leb-true (length t.bytes) (length p) e
      at (inr e) (d ∷ r) q =
          let h = leb-false (length t.bytes) (length p) e in
          absurd (w.stops d r q (onward p d (r ++ drop 253 s) t n (omega (arith, two)) h (rw q at c)))
      at (inr e) [] q =
          let h = leb-false (length t.bytes) (length p) e in
          let i : length w.node ≡ length (a ∷ b ∷ take 253 s) =
          ap length (sym (w.split ∙ ap (λ (z : List ℕ). w.node ++ z) q ∙ append-nil w.node)) in
          let j = length-take 253 s in
          let l = cut-length c in
          let o = length-append p (w.rest ++ drop 253 s) in
          let u = length-append w.rest (drop 253 s) in
          let x = ap length q in
          let y = length-drop 253 s in
          let z = L.valid.short t n in
          absurd (omega arith)

  pub walk-passed : (a : ℕ) (s : List ℕ) → Bytes (a ∷ s) → Passed ts (a ∷ s) (walk_on m (a ∷ s)).id (walk_on m (a ∷ s)).len
  walk-passed a [] small = unfold walk_on in passed_start ts a
  walk-passed a (b ∷ s) small = go (walk_cases L a b s small)
    where
      K : Walk
      K = walk_on m (a ∷ b ∷ s)

      go : ((K ≡ no_walk) × (Mem (a ∷ b ∷ []) (nodes ts) → ⊥)) ⊎ Reached ts (a ∷ b ∷ take 253 s) K → Passed ts (a ∷ b ∷ s) K.id K.len
      go (inl (e, lacks)) =
          rw e (passed-more (a ∷ []) (b ∷ s) (passed_start ts a) (λ t n c. absurd (lacks (onward (a ∷ []) b s t n (lit< tt) c.two c))))
      go (inr w) =
          subst (λ (z : List ℕ). Passed ts z K.id K.len) whole
          (passed-more w.node (w.rest ++ drop 253 s) w.stands.passed (within a b s K w))
        where
          whole : w.node ++ (w.rest ++ drop 253 s) ≡ a ∷ b ∷ s
          whole =
              sym (append_assoc w.node w.rest (drop 253 s)) ∙ ap (λ (z : List ℕ). z ++ drop 253 s) (sym w.split)
              ∙ ap (λ (z : List ℕ). a ∷ b ∷ z) (take-append-drop 253 s)

-- ---- matching

module _ (m : Memory) (a : ℕ) (s : List ℕ) where
  pub match-single : (walk_on m (a ∷ s)).id ≡ 0 → match_on m (a ∷ s) ≡ one (get_or m.single a (pos 0))
  unfolding match_on
  match-single e = rw (eq-eqb (walk_on m (a ∷ s)).id 0 e, match_on)

  pub match-walk : 1 ≤ (walk_on m (a ∷ s)).id → match_on m (a ∷ s) ≡ found (walk_on m (a ∷ s)).id (walk_on m (a ∷ s)).len
  unfolding match_on
  match-walk h = rw (ne_eqb (walk_on m (a ∷ s)).id 0 (λ e. omega arith), match_on)

one_found : (i : ℕ) → 1 ≤ i → one (id_or_none i) ≡ found i 1
one_found zero h = absurd (omega arith)
one_found (suc i) h = refl

prefix_cut : {q s : List ℕ} → 2 ≤ length q → Prefix q s → Cut q s
prefix_cut two (r, e) = record { rest = r; split = e; two = two }

-- a string of one byte that begins a ∷ s is that byte
one_byte : (q : List ℕ) (a : ℕ) (s : List ℕ) → length q ≡ 1 → Prefix q (a ∷ s) → q ≡ a ∷ []
one_byte [] a s h w = absurd (omega arith)
one_byte (b ∷ []) a s h (r, e) = ap (λ (z : ℕ). z ∷ []) (sym (head-eq_of_cons-eq e))
one_byte (b ∷ c ∷ q) a s h w = absurd (omega arith)

-- no token that begins s is longer than the one passed, but for one of one byte
passed-most : {ts : List Token} {s : List ℕ} {i n : ℕ} → Passed ts s i n → (u : Token) → Mem u ts → Prefix u.bytes s
    → length u.bytes ≤ max 1 n
passed-most {n} w u m b = go (either (leb 2 (length u.bytes)))
  where
    go : Tested (leb 2 (length u.bytes)) → length u.bytes ≤ max 1 n
    go (inl e) = omega (arith, w.longest u m (prefix_cut (leb-true 2 (length u.bytes) e) b))
    go (inr e) = omega (arith, leb-false 2 (length u.bytes) e)

module _ {m : Memory} {ts : List Token} (L : Loaded m ts) (a : ℕ) (s : List ℕ) where
  -- a token of two or more bytes was passed: it is the longest
  match-long : (i n : ℕ) → 1 ≤ i → Passed ts (a ∷ s) i n → found i n ≡ match_of (longest ts (a ∷ s))
  match-long i n h w =
      let (t, k, c, e, l) = w.token h in
      let two = c.two in
      let is-longest : IsLongest ts (a ∷ s) t = (k, (c.rest, c.split), λ u j b. omega (arith, passed-most w u j b)) in
      ap₂ found (sym e) (sym l) ∙ ap match_of (sym ((longest-iff ts L.valid (a ∷ s) t).1 is-longest))

  -- none was: a token that begins the bytes is their first byte
  match-one : (n : ℕ) → Passed ts (a ∷ s) 0 n → one (id_or_none (id_of ts (a ∷ []))) ≡ match_of (longest ts (a ∷ s))
  match-one n w = go (id_cases ts (a ∷ []))
    where
      length-one : (u : Token) → Mem u ts → Prefix u.bytes (a ∷ s) → length u.bytes ≡ 1
      length-one u k b = omega (arith, passed-most w u k b, w.none refl, L.valid.nonempty u k)

      go : (id_of ts (a ∷ []) ≡ 0) ⊎ TokenOf ts (a ∷ []) → one (id_or_none (id_of ts (a ∷ []))) ≡ match_of (longest ts (a ∷ s))
      go (inl z) = rw z (ap match_of (sym ((longest-none_iff ts (a ∷ s)).1 missing)))
        where
          missing : (u : Token) → Mem u ts → Prefix u.bytes (a ∷ s) → ⊥
          missing u k b = omega (arith, id_pos (a ∷ []) (id-low ts L.valid) k (one_byte u.bytes a s (length-one u k b) b))
      go (inr (t, k, e, j)) =
          let l : length t.bytes ≡ 1 = ap length e in
          let is-longest : IsLongest ts (a ∷ s) t =
          (k, (s, ap (λ (z : List ℕ). z ++ s) (sym e)), λ u i b. omega (arith, length-one u i b)) in
          rw j (one_found t.id (id-low ts L.valid t k) ∙ ap (found t.id) (sym l)
          ∙ ap match_of (sym ((longest-iff ts L.valid (a ∷ s) t).1 is-longest)))

pub matching : Matching
matching m ts L [] small = unfold match_on in ap match_of (sym ((longest-none_iff ts []).1 missing))
  where
    missing : (u : Token) → Mem u ts → Prefix u.bytes [] → ⊥
    missing u k b = omega (arith, L.valid.nonempty u k, prefix_length u.bytes [] b)
matching m ts L (a ∷ s) small = go K.id refl (walk-passed L a s small)
  where
    K : Walk
    K = walk_on m (a ∷ s)

    go : (i : ℕ) → K.id ≡ i → Passed ts (a ∷ s) i K.len → match_on m (a ∷ s) ≡ match_of (longest ts (a ∷ s))
    go zero e w = match-single m a s e ∙ ap one (single-at L a small.0) ∙ match-one L a s K.len w
    go (suc i) e w = match-walk m a s (omega arith) ∙ ap (λ (z : ℕ). found z K.len) e ∙ match-long L a s (suc i) K.len (omega arith) w
