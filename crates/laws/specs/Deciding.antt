-- On loaded memory a run of bytes is undecided just where it is a proper prefix of a token: the theorem `deciding`. Assumes nothing.
use Rattle.std.specs.Prelude.{◌≡◌, ◌⊎◌, Bool, true, false, not, ◌&&◌, cond, ℕ, zero, suc, ◌+◌, ◌*◌, ◌≤◌, ◌<◌, eqb, ltb, length, take}
use Rattle.std.specs.Prelude.{get_or, drop}
use Rattle.std.proofs.Math.Path.{refl}
use Rattle.std.proofs.Common.{sym, ap, ap₂, ◌∙◌, inl, inr, arith, lit<, length-take, length-append, length-drop, take_all, get_or-take}
use Rattle.std.proofs.Common.{get_or-drop, eqb-true, eq-eqb, ltb-true, ne_eqb, lt-ltb}
use mathlib.Core.List.Memᴰ.{head as here}
use mathlib.Core.List.Memᴰ.{tail as there}
use mathlib.Core.List.{List, [], ◌∷◌, ◌++◌, append-nil, append_assoc, Memᴰ as Mem}
use mathlib.Core.List.Memᴰ.{append_right as mem-right}
use Rattle.std.proofs.lemmas.Bool.{eqb-false, not-true}
use Rattle.spec.specs.Lists.{any, has, Bytes}
use Rattle.spec.specs.Token.{Token, proper_prefix, undecided}
use Rattle.spec.specs.Trie.{nodes, labels}
use Rattle.spec.specs.Layout.{base_of, puts, word_of}
use Rattle.spec.specs.Memory.{Memory, Loaded}
use Rattle.spec.specs.Match.{Walk, no_walk, walk_on, undecided_on}
use Rattle.spec.specs.Theorems.{Deciding}
use Rattle.running.specs.Prefixes.{proper_length}
use Rattle.running.specs.Longest.{proper_iff}
use Rattle.laws.specs.Tests.{clash, and_l, and_r, iff_eq, any-find, any-mem, has-mem, mem_has, mem_pos}
use Rattle.laws.specs.Tokens.{byte_at}
use Rattle.laws.specs.Nodes.{cut_all, node-is, token-node, node-cut, label-node, node_label}
use Rattle.laws.specs.Step.{Holds, Unheld, base_cases, placed, held-child, base-pos, word-pos}
use Rattle.laws.specs.Reads.{root-at, root-length}
use Rattle.laws.specs.WalkLaws.{Reached, node-long, root-word, walk_cases}

-- ---- one byte: its row of roots

index : {A : Type 0} {x : A} {l : List A} (d : A) → Mem x l → (j : ℕ) × (j < length l) × (get_or l j d ≡ x)
index d (here e) = (0, omega arith, sym e)
index d (there m) = let (j, h, e) = index d m in (suc j, omega arith, e)

member : {A : Type 0} (l : List A) (j : ℕ) (d : A) → j < length l → Mem (get_or l j d) l
member [] j d h = absurd (omega arith)
member (x ∷ l) zero d h = here refl
member (x ∷ l) (suc j) d h = there (member l j d (omega arith))

module _ {m : Memory} {ts : List Token} (L : Loaded m ts) where
  roots-long : 65536 ≤ length m.roots
  roots-long = let a = ap length L.roots ∙ root-length ts in let b = length-take 65536 m.roots in omega arith

  -- the row of a
  abbrev row : ℕ → List ℕ
  row a = take 256 (drop (a * 256) m.roots)

  row_at : (a j : ℕ) → a < 256 → j < 256 → get_or (row a) j 0 ≡ cond (has (nodes ts) (a ∷ j ∷ [])) (word_of ts (a ∷ j ∷ []) 0) 0
  row_at a j ha hj =
      get_or-take 256 (drop (a * 256) m.roots) j 0 hj ∙ get_or-drop (a * 256) m.roots j 0 ∙ root-at L (a * 256 + j) (omega arith)
      ∙ root-word L.valid a j hj

  row-length : (a : ℕ) → a < 256 → length (row a) ≡ 256
  row-length a h =
      let e = length-take 256 (drop (a * 256) m.roots) in
      let f = length-drop (a * 256) m.roots in
      omega (arith, roots-long)

  -- s is a proper prefix of a token where s and one more byte are a node
  pub node-proper : (s : List ℕ) (c : ℕ) → Mem (s ++ (c ∷ [])) (nodes ts) → proper_prefix ts s ≡ true
  node-proper s c k =
      let n = node-is ts k in
      (proper_iff ts s).1 (n.tok, n.mem, (c, n.cut.rest, n.cut.split ∙ append_assoc s (c ∷ []) n.cut.rest))

  -- and conversely, where s has a byte
  proper-node : (s : List ℕ) → 1 ≤ length s → proper_prefix ts s ≡ true
      → (t : Token) × Mem t ts × ((c : ℕ) × (c < 256) × Mem (s ++ (c ∷ [])) (nodes ts) × (length s < length t.bytes))
  proper-node s h e =
      let (t, k, (c, y, q)) = (proper_iff ts s).0 e in
      let hc : c < 256 = byte_at (rw q at (L.valid.bytes t k)) (mem-right s (here refl)) in
      (t, k, (c, hc, token-node ts s c y k q h, proper_length s t.bytes (c, y, q)))

  abbrev nonzero : ℕ → Bool
  nonzero w = not (eqb w 0)

  one-byte-decides : (a : ℕ) → a < 256 → any nonzero (row a) ≡ proper_prefix ts (a ∷ [])
  one-byte-decides a ha = iff_eq _ _ to from
    where
      to : any nonzero (row a) ≡ true → proper_prefix ts (a ∷ []) ≡ true
      to e =
          let (w, k, z) = any-find nonzero (row a) e in
          let (j, h, q) = index 0 k in
          let hj : j < 256 = omega (arith, row-length a ha) in
          go j (has (nodes ts) (a ∷ j ∷ [])) refl (sym (row_at a j ha hj) ∙ q) (not-true (eqb w 0) z)
        where
          go : (j : ℕ) (c : Bool) {w : ℕ} → has (nodes ts) (a ∷ j ∷ []) ≡ c → cond c (word_of ts (a ∷ j ∷ []) 0) 0 ≡ w → eqb w 0 ≡ false
              → proper_prefix ts (a ∷ []) ≡ true
          go j true e q z = node-proper (a ∷ []) j (has-mem (nodes ts) (a ∷ j ∷ []) e)
          go j false {w} e q z = absurd (clash (eq-eqb w 0 (sym q)) z)

      from : proper_prefix ts (a ∷ []) ≡ true → any nonzero (row a) ≡ true
      from e =
          let (t, k, (c, hc, n, h)) = proper-node (a ∷ []) (lit< tt) e in
          let w : get_or (row a) c 0 ≡ word_of ts (a ∷ c ∷ []) 0 =
          row_at a c ha hc ∙ ap (λ (d : Bool). cond d (word_of ts (a ∷ c ∷ []) 0) 0) (mem_has n) in
          let p = word-pos ts L.valid (a ∷ c ∷ []) 0 n in
          any-mem nonzero (member (row a) c 0 (omega (arith, row-length a ha))) (ap not (ne_eqb (get_or (row a) c 0) 0 (λ z. omega arith)))

  -- ---- two or more bytes: where the walk ends

  -- a node whose base is not 0 has a child
  pub base-child : (p : List ℕ) → 1 ≤ base_of (puts ts) p → (c : ℕ) × Mem (p ++ (c ∷ [])) (nodes ts)
  base-child p h = go (base_cases (puts ts) p)
    where
      some-label : (ls : List ℕ) → 1 ≤ length ls → (c : ℕ) × Mem c ls
      some-label [] h = absurd (omega arith)
      some-label (c ∷ ls) h = (c, here refl)

      go : Holds (puts ts) p ⊎ Unheld (puts ts) p → (c : ℕ) × Mem (p ++ (c ∷ [])) (nodes ts)
      go (inl k) = let (c, m) = some-label (labels (nodes ts) p) (held-child ts L.valid p k) in (c, label-node (nodes ts) p c m)
      go (inr k) = let z = k.0 in absurd (omega arith)

  module _ (a b : ℕ) (s : List ℕ) (small : Bytes (a ∷ b ∷ s)) where
    abbrev S : List ℕ
    S = a ∷ b ∷ s

    abbrev K : Walk
    K = walk_on m S

    -- the bytes that the walk was given, where they are fewer than 255
    few-all : length S < 255 → a ∷ b ∷ take 253 s ≡ S
    few-all h = ap (λ (l : List ℕ). a ∷ b ∷ l) (take_all 253 s (omega arith))

    open-proper : K.used ≡ length S → 1 ≤ K.base → length S < 255 → proper_prefix ts S ≡ true
    open-proper all-used base few = go (walk_cases L a b s small)
      where
        go : ((K ≡ no_walk) × (Mem (a ∷ b ∷ []) (nodes ts) → ⊥)) ⊎ Reached ts (a ∷ b ∷ take 253 s) K → proper_prefix ts S ≡ true
        go (inl (e, lacks)) = let u = ap (λ (k : Walk). k.used) e in absurd (omega arith)
        go (inr w) =
            let u = w.stands.used-eq in
            let z = w.stands.base-eq in
            let q : w.node ≡ S =
            cut_all (record { rest = w.rest; split = sym (few-all few) ∙ w.split; two = node-long L.valid w.mem })
            (omega arith) in
            let e = ap (base_of (puts ts)) q in
            let (c, n) = base-child S (omega arith) in
            node-proper S c n

    proper-open : proper_prefix ts S ≡ true → (K.used ≡ length S) × (1 ≤ K.base) × (length S < 255)
    proper-open e =
        let (t, k, (c, hc, n, h)) = proper-node S (omega arith) e in
        let l = L.valid.short t k in
        go c n (omega arith) (walk_cases L a b s small)
      where
        start : (c : ℕ) → Mem (S ++ (c ∷ [])) (nodes ts) → Mem S (nodes ts)
        start c n = node-cut ts (record { rest = c ∷ []; split = refl; two = omega arith }) n

        go : (c : ℕ) → Mem (S ++ (c ∷ [])) (nodes ts) → length S < 255
            → ((K ≡ no_walk) × (Mem (a ∷ b ∷ []) (nodes ts) → ⊥)) ⊎ Reached ts (a ∷ b ∷ take 253 s) K
            → (K.used ≡ length S) × (1 ≤ K.base) × (length S < 255)
        go c n few (inl (e, lacks)) = absurd (lacks (node-cut ts (record { rest = s; split = refl; two = lit< tt }) (start c n)))
        go c n few (inr w) = at w.rest refl
          where
            split : S ≡ w.node ++ w.rest
            split = sym (few-all few) ∙ w.split

            at : (r : List ℕ) → w.rest ≡ r → (K.used ≡ length S) × (1 ≤ K.base) × (length S < 255)
            at (d ∷ r) q = absurd (w.stops d r q (node-cut ts (record {
              rest = r;
              split = split ∙ ap (λ (z : List ℕ). w.node ++ z) q ∙ sym (append_assoc w.node (d ∷ []) r);
              two = (let x = length-append w.node (d ∷ []) in omega (arith, node-long L.valid w.mem));
            }) (start c n)))
            at [] q =
                let p : w.node ≡ S = sym (split ∙ ap (λ (z : List ℕ). w.node ++ z) q ∙ append-nil w.node) in
                let x = base-pos ts L.valid S (placed ts L.valid S (start c n) (mem_pos (node_label (nodes ts) S c n))) in
                let y : K.base ≡ base_of (puts ts) S = w.stands.base-eq ∙ ap (base_of (puts ts)) p in
                (w.stands.used-eq ∙ ap length p, omega arith, few)

    long-decides : (eqb K.used (length S) && (not (eqb K.base 0) && ltb (length S) 255)) ≡ proper_prefix ts S
    long-decides = iff_eq _ _ to from
      where
        U : Bool
        U = eqb K.used (length S)

        B : Bool
        B = not (eqb K.base 0)

        F : Bool
        F = ltb (length S) 255

        to : (U && (B && F)) ≡ true → proper_prefix ts S ≡ true
        to e =
            let r = and_r U (B && F) e in
            let z = eqb-false K.base 0 (not-true (eqb K.base 0) (and_l B F r)) in
            open-proper (eqb-true K.used (length S) (and_l U (B && F) e)) (omega (arith, z)) (ltb-true (length S) 255 (and_r B F r))

        from : proper_prefix ts S ≡ true → (U && (B && F)) ≡ true
        from e =
            let (u, z, f) = proper-open e in
            ap₂ ◌&&◌ (eq-eqb K.used (length S) u) (ap₂ ◌&&◌ (ap not (ne_eqb K.base 0 (λ q. omega arith))) (lt-ltb (length S) 255 f))

pub deciding : Deciding
deciding m ts L [] small = unfold undecided_on undecided in refl
deciding m ts L (a ∷ []) small = unfold undecided_on undecided in one-byte-decides L a small.0
deciding m ts L (a ∷ b ∷ s) small = unfold undecided_on undecided in long-decides L a b s small
