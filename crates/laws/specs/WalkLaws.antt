-- The walk on loaded memory, in terms of tokens: it stands at the node that its bytes lead to, knows the longest token passed, and ends
-- where no node goes on. Assumes nothing.
use Rattle.std.specs.Prelude.{◌≡◌, ◌⊎◌, Bool, false, not, ◌&&◌, leb, length, take, get_or}
use Rattle.std.proofs.Math.Path.{refl, ap₂}
use Rattle.std.proofs.Common.{sym, ap, ◌∙◌, subst, inl, add-one, arith, lit<, length-append, eqb-true, eq-eqb, leb-true, leb-false}
use Rattle.std.proofs.Common.{ne_eqb}
use Rattle.std.proofs.Math.Logic.{inr}
use Rattle.std.proofs.Math.Bool.{true, cond}
use mathlib.Core.List.{List, [], ◌∷◌, ◌++◌, append_assoc, head-eq_of_cons-eq, nil≢cons, Memᴰ as Mem}
use Prim.Native.Nat.{ℕ, zero, suc, ◌+◌, ◌*◌, ◌≤◌, ◌<◌}
use Rattle.std.specs.Int.Bits.{bit_xor}
use Rattle.std.proofs.Math.Dec.{eqb}
use Rattle.spec.specs.Lists.{has, Bytes}
use Rattle.spec.specs.Token.{Token, id_of}
use Rattle.spec.specs.Trie.{nodes}
use Rattle.spec.specs.Layout.{base_of, puts, word_of, table_at, root_at}
use Rattle.spec.specs.Valid.{Valid}
use Rattle.spec.specs.Memory.{Memory, Loaded}
use Rattle.spec.specs.Match.{base_in, id_in, goes, Walk, no_walk, onto, follow, enter, walk_on}
use Rattle.laws.specs.Tests.{clash, Tested, either, and_r, has-mem, mem_has, mem_pos}
use Rattle.laws.specs.Tokens.{TokenOf, id_cases, id_pos, id-low}
use Rattle.laws.specs.Nodes.{Cut, cut-length, cut-append, cut-within, cut_all, cut-self, node-is, node_label}
use Rattle.laws.specs.Step.{placed, base-pos, word-base, word-id, word-pos, step-word, step-goes}
use Rattle.laws.specs.Reads.{root-at, table-at}

-- ---- the equations of `follow`

module _ (table : List ℕ) (b : ℕ) (s : List ℕ) (k : Walk) where
  abbrev word_at : ℕ
  word_at = get_or table (bit_xor k.base b) 0

  pub follow-stops : goes word_at b ≡ false → follow table (b ∷ s) k ≡ k
  unfolding follow
  follow-stops e = rw (e, follow)

  pub follow-leaf : goes word_at b ≡ true → eqb (base_in word_at) 0 ≡ true → follow table (b ∷ s) k ≡ onto k word_at (suc k.used)
  unfolding follow
  follow-leaf e z = rw (e, follow) (rw z)

  pub follow-on : goes word_at b ≡ true → eqb (base_in word_at) 0 ≡ false
      → follow table (b ∷ s) k ≡ follow table s (onto k word_at (suc k.used))
  unfolding follow
  follow-on e z = rw (e, follow) (rw z)

-- ---- the longest token passed

-- i and n are the id and the length of the longest token of two or more bytes that begins p, 0 and 0 if there is none
pub record Passed (ts : List Token) (p : List ℕ) (i n : ℕ) : Type 0 where
  pub none : i ≡ 0 → n ≡ 0
  pub token : 1 ≤ i → (t : Token) × Mem t ts × Cut t.bytes p × (t.id ≡ i) × (length t.bytes ≡ n)
  pub longest : (t : Token) → Mem t ts → Cut t.bytes p → length t.bytes ≤ n

pub passed_start : (ts : List Token) (a : ℕ) → Passed ts (a ∷ []) 0 0
passed_start ts a = record {
  none = λ e. refl;
  token = λ h. absurd (omega arith);
  longest = λ t m c. absurd (omega (arith, cut-length c, c.two));
}

-- longer strings, where no token reaches beyond
pub passed-more : {ts : List Token} (p r : List ℕ) {i n : ℕ} → Passed ts p i n
    → ((t : Token) → Mem t ts → Cut t.bytes (p ++ r) → length t.bytes ≤ length p) → Passed ts (p ++ r) i n
passed-more p r k h = record {
  none = k.none;
  token = λ l. let (t, m, c, e, f) = k.token l in (t, m, cut-append r c, e, f);
  longest = λ t m c. k.longest t m (cut-within p r c (h t m c));
}

module _ {ts : List Token} (v : Valid ts) where
  -- one byte more: its own token, if there is one, is the longest
  pub passed-next : (p : List ℕ) (b : ℕ) {i n : ℕ} → 1 ≤ length p → Passed ts p i n → (c : Bool) → eqb (id_of ts (p ++ (b ∷ []))) 0 ≡ c
      → Passed ts (p ++ (b ∷ [])) (cond c i (id_of ts (p ++ (b ∷ [])))) (cond c n (suc (length p)))
  passed-next p b {i} {n} h k c e = go c e (id_cases ts q)
    where
      q : List ℕ
      q = p ++ (b ∷ [])

      len : length q ≡ suc (length p)
      len = length-append p (b ∷ []) ∙ add-one (length p)

      go : (c : Bool) → eqb (id_of ts q) 0 ≡ c → (id_of ts q ≡ 0) ⊎ TokenOf ts q
          → Passed ts q (cond c i (id_of ts q)) (cond c n (suc (length p)))
      go true e w = passed-more p (b ∷ []) k (λ t m d. at t m d (either (leb (length t.bytes) (length p))))
        where
          at : (t : Token) → Mem t ts → Cut t.bytes q → Tested (leb (length t.bytes) (length p))
              → length t.bytes ≤ length p
          at t m d (inl x) = leb-true (length t.bytes) (length p) x
          at t m d (inr x) =
              let whole = cut_all d (let y = leb-false (length t.bytes) (length p) x in omega (arith, len)) in
              let low = id_pos q (id-low ts v) m whole in
              let none = eqb-true (id_of ts q) 0 e in
              absurd (omega arith)
      go false e (inl z) = absurd (clash (eq-eqb (id_of ts q) 0 z) e)
      go false e (inr (t, m, d, j)) = record {
        none = λ z. absurd (clash (eq-eqb (id_of ts q) 0 z) e);
        token = λ l. (t, m, cut-self d (omega (arith, ap length d, len)), sym j, ap length d ∙ len);
        longest = λ u n c. omega (arith, cut-length c, len);
      }

-- ---- where the walk stands

-- the walk has used the bytes of p and stands at its base
pub record Stands (ts : List Token) (p : List ℕ) (k : Walk) : Type 0 where
  pub used-eq : k.used ≡ length p
  pub base-eq : k.base ≡ base_of (puts ts) p
  pub passed : Passed ts p k.id k.len

-- the walk over s came to a node that begins s, and no node goes on from there along s
pub record Reached (ts : List Token) (s : List ℕ) (k : Walk) : Type 0 where
  pub node : List ℕ
  pub rest : List ℕ
  pub mem : Mem node (nodes ts)
  pub split : s ≡ node ++ rest
  pub stands : Stands ts node k
  pub stops : (b : ℕ) (r : List ℕ) → rest ≡ b ∷ r → Mem (node ++ (b ∷ [])) (nodes ts) → ⊥

module _ {ts : List Token} (v : Valid ts) where
  onto-stands : (p : List ℕ) (b : ℕ) (k : Walk) (l : ℕ) → l < 256 → 1 ≤ length p → Passed ts p k.id k.len
      → Stands ts (p ++ (b ∷ [])) (onto k (word_of ts (p ++ (b ∷ [])) l) (suc (length p)))
  unfolding onto
  onto-stands p b k l hl h w =
      rw (word-id ts v q l hl, word-base ts v q l hl) (go (eqb (id_of ts q) 0) (passed-next v p b h w (eqb (id_of ts q) 0) refl))
    where
      q : List ℕ
      q = p ++ (b ∷ [])

      len : suc (length p) ≡ length q
      len = sym (length-append p (b ∷ []) ∙ add-one (length p))

      -- the walk at q, with id and length of what it passed
      at : ℕ → ℕ → Walk
      at i n = record { id = i; len = n; used = suc (length p); base = base_of (puts ts) q }

      go : (c : Bool) → Passed ts q (cond c k.id (id_of ts q)) (cond c k.len (suc (length p)))
          → Stands ts q (cond c (at k.id k.len) (at (id_of ts q) (suc (length p))))
      go true r = record { used-eq = len; base-eq = refl; passed = r }
      go false r = record { used-eq = len; base-eq = refl; passed = r }

  -- a node of base 0 has no child
  pub leaf-stops : (p : List ℕ) → Mem p (nodes ts) → base_of (puts ts) p ≡ 0 → (b : ℕ) → Mem (p ++ (b ∷ [])) (nodes ts) → ⊥
  leaf-stops p m z b k = let h = base-pos ts v p (placed ts v p m (mem_pos (node_label (nodes ts) p b k))) in omega arith

  pub node-long : {p : List ℕ} → Mem p (nodes ts) → 2 ≤ length p
  node-long m = (node-is ts m).cut.two

  module _ (table : List ℕ) (read : (i : ℕ) → get_or table i 0 ≡ table_at ts i) where
    pub follow-reaches : (s p : List ℕ) (k : Walk) → Bytes s → Mem p (nodes ts) → Stands ts p k → Reached ts (p ++ s) (follow table s k)
    unfolding follow
    follow-reaches [] p k small m w =
        record { node = p; rest = []; mem = m; split = refl; stands = w; stops = λ b r e. absurd (nil≢cons e) }
    follow-reaches (b ∷ s) p k small m w = go (has (nodes ts) q) refl (follow-reaches s q)
      where
        q : List ℕ
        q = p ++ (b ∷ [])

        hb : b < 256
        hb = small.0

        at : get_or table (bit_xor k.base b) 0 ≡ table_at ts (bit_xor (base_of (puts ts) p) b)
        at = read (bit_xor k.base b) ∙ ap (λ (z : ℕ). table_at ts (bit_xor z b)) w.base-eq

        goes-eq : goes (get_or table (bit_xor k.base b) 0) b ≡ has (nodes ts) q
        goes-eq = ap (λ (z : ℕ). goes z b) at ∙ step-goes ts v p m b hb

        go : (c : Bool) → has (nodes ts) q ≡ c
            → ((k : Walk) → Bytes s → Mem q (nodes ts) → Stands ts q k → Reached ts (q ++ s) (follow table s k))
            → Reached ts (p ++ (b ∷ s)) (follow table (b ∷ s) k)
        go false e ih = rw (follow-stops table b s k (goes-eq ∙ e)) (record {
          node = p;
          rest = b ∷ s;
          mem = m;
          split = refl;
          stands = w;
          stops = λ d r i n. clash (mem_has (subst (λ (z : ℕ). Mem (p ++ (z ∷ [])) (nodes ts)) (sym (head-eq_of_cons-eq i)) n)) e;
        })
        go true e ih = onward (eqb (base_in x) 0) refl
          where
            n : Mem q (nodes ts)
            n = has-mem (nodes ts) q e

            x : ℕ
            x = get_or table (bit_xor k.base b) 0

            word : x ≡ word_of ts q b
            word = at ∙ step-word ts v p m b hb n

            base : base_in x ≡ base_of (puts ts) q
            base = ap base_in word ∙ word-base ts v q b hb

            next : Stands ts q (onto k x (suc k.used))
            next = rw (word, w.used-eq) (onto-stands p b k b hb (omega (arith, node-long m)) w.passed)

            onward : (c : Bool) → eqb (base_in x) 0 ≡ c → Reached ts (p ++ (b ∷ s)) (follow table (b ∷ s) k)
            onward true z = rw (follow-leaf table b s k (goes-eq ∙ e) z) (record {
              node = q;
              rest = s;
              mem = n;
              split = sym (append_assoc p (b ∷ []) s);
              stands = next;
              stops = λ d r i. leaf-stops q n (sym base ∙ eqb-true (base_in x) 0 z) d;
            })
            onward false z =
                rw (follow-on table b s k (goes-eq ∙ e) z, ← append_assoc p (b ∷ []) s) (ih (onto k x (suc k.used)) small.1 n next)

    -- from the root word of a node
    enter-reaches : (a b : ℕ) (s : List ℕ) → Bytes s → Mem (a ∷ b ∷ []) (nodes ts)
        → Reached ts (a ∷ b ∷ s) (enter table (word_of ts (a ∷ b ∷ []) 0) s)
    unfolding enter
    enter-reaches a b s small m =
        rw (ne_eqb w 0 (λ z. let h = word-pos ts v q 0 m in omega arith), enter) (go (not (eqb (id_in w) 0) && eqb (base_in w) 0) refl)
      where
        q : List ℕ
        q = a ∷ b ∷ []

        w : ℕ
        w = word_of ts q 0

        begun : Stands ts q (onto no_walk w 2)
        begun = onto-stands (a ∷ []) b no_walk 0 (lit< tt) (lit< tt) (passed_start ts a)

        go : (c : Bool) → (not (eqb (id_in w) 0) && eqb (base_in w) 0) ≡ c
            → Reached ts (a ∷ b ∷ s) (elim c [ true ↦ onto no_walk w 2 | false ↦ follow table s (onto no_walk w 2) ])
        go true e = record {
          node = q;
          rest = s;
          mem = m;
          split = refl;
          stands = begun;
          stops =
              λ d r i. leaf-stops q m
              (sym (word-base ts v q 0 (lit< tt)) ∙ eqb-true (base_in w) 0 (and_r (not (eqb (id_in w) 0)) (eqb (base_in w) 0) e)) d;
        }
        go false e = follow-reaches s q (onto no_walk w 2) small m begun

  pub root-word : (a b : ℕ) → b < 256 → root_at ts (a * 256 + b) ≡ cond (has (nodes ts) (a ∷ b ∷ [])) (word_of ts (a ∷ b ∷ []) 0) 0
  unfolding root_at
  root-word a b h = ap₂ (λ (x y : ℕ). cond (has (nodes ts) (x ∷ y ∷ [])) (word_of ts (x ∷ y ∷ []) zero) zero) (omega arith) (omega arith)

bytes_take : (n : ℕ) (s : List ℕ) → Bytes s → Bytes (take n s)
bytes_take zero s h = tt
bytes_take (suc n) [] h = tt
bytes_take (suc n) (b ∷ s) h = (h.0, bytes_take n s h.1)

-- the walk over two or more bytes: nothing where the first two are no node, else it reaches a node
pub walk_cases : {m : Memory} {ts : List Token} → Loaded m ts → (a b : ℕ) (s : List ℕ) → Bytes (a ∷ b ∷ s)
    → ((walk_on m (a ∷ b ∷ s) ≡ no_walk) × (Mem (a ∷ b ∷ []) (nodes ts) → ⊥)) ⊎ Reached ts (a ∷ b ∷ take 253 s) (walk_on m (a ∷ b ∷ s))
unfolding walk_on
walk_cases {m} {ts} L a b s small =
    let ha = small.0 in
    let hb = small.1.0 in
    let i : a * 256 + b < 65536 = omega arith in
    go (has (nodes ts) (a ∷ b ∷ [])) refl (root-at L (a * 256 + b) i ∙ root-word L.valid a b hb)
  where
    W : ℕ → Walk
    W w = enter m.table w (take 253 s)

    root : ℕ
    root = get_or m.roots (a * 256 + b) 0

    go : (c : Bool) → has (nodes ts) (a ∷ b ∷ []) ≡ c → root ≡ cond c (word_of ts (a ∷ b ∷ []) 0) 0
        → ((W root ≡ no_walk) × (Mem (a ∷ b ∷ []) (nodes ts) → ⊥)) ⊎ Reached ts (a ∷ b ∷ take 253 s) (W root)
    go false e w = inl (ap W w ∙ (unfold enter in refl), λ n. clash (mem_has n) e)
    go true e w =
        inr (rw w (enter-reaches L.valid m.table (table-at L) a b (take 253 s) (bytes_take 253 s small.1.1)
        (has-mem (nodes ts) (a ∷ b ∷ []) e)))
