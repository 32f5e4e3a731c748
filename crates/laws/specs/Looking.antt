-- On loaded memory the bytes that a match reads are the bytes looked at, for every byte string, and so are their sums: the theorems `looks`
-- and `looks-sum`. Assumes nothing.
use Rattle.std.specs.Prelude.{◌≡◌, Bool, true, false, ◌&&◌, cond, List, [], ◌∷◌, ◌++◌, ℕ, zero, suc, pred, ◌+◌, ◌*◌, ◌≤◌, ◌<◌, min, max}
use Rattle.std.specs.Prelude.{eqb, ltb, leb, length, take, get_or, Option, None, Some}
use Rattle.std.specs.Int.Bits.{bit_xor}
use Rattle.std.proofs.Math.Path.{refl}
use Rattle.std.proofs.Common.{sym, ap, ap₂, ◌∙◌, add-one, arith, lit<, length-append, eqb-true, eq-eqb, lt-ltb, le-ltb, leb-true, leb-false}
use Rattle.std.proofs.Math.Seq.{take-append_seam}
use Rattle.std.proofs.lemmas.Bool.{eqb-false}
use mathlib.Core.List.Memᴰ.{head as here}
use mathlib.Core.List.Memᴰ.{tail as there}
use mathlib.Core.List.Memᴰ.{not-nil}
use mathlib.Core.List.{append-nil, append_assoc, Memᴰ as Mem}
use Rattle.spec.specs.Lists.{has, Bytes}
use Rattle.spec.specs.Token.{Token, longest, proper_prefix}
use Rattle.spec.specs.Trie.{nodes}
use Rattle.spec.specs.Layout.{base_of, puts, pack, word_of, table_at}
use Rattle.spec.specs.Memory.{Memory, Loaded}
use Rattle.spec.specs.Match.{base_in, id_in, goes, match_on}
use Rattle.spec.specs.Looked.{agree, begun, one_past, looked, looked_at}
use Rattle.spec.specs.LookedOn.{read_on, read_from, looked_on, sum_on}
use Rattle.spec.specs.Theorems.{match_of, Looks, LooksSum}
use Rattle.running.specs.Longest.{proper_iff}
use Rattle.laws.specs.Tests.{clash, no_true, has-mem, mem_has}
use Rattle.laws.specs.Nodes.{node-is, token-node}
use Rattle.laws.specs.Step.{word-base, word-id, word-pos, step-word, step-goes}
use Rattle.laws.specs.Reads.{root-at, table-at}
use Rattle.laws.specs.WalkLaws.{leaf-stops, node-long, root-word}
use Rattle.laws.specs.Matching.{matching}
use Rattle.laws.specs.Deciding.{node-proper, base-child}
use Rattle.laws.specs.SumLaws.{read_on-stops, read_on-leaf, read_on-goes, read_from-none, read_from-leaf, read_from-goes}
use Rattle.laws.specs.SumLaws.{sum-none, sum-some}

-- ---- agreeing bytes

agree-seam : (p q r : List ℕ) → agree (p ++ q) (p ++ r) ≡ length p + agree q r
unfolding agree
agree-seam [] q r = omega arith
agree-seam (a ∷ p) q r = rw (eq-eqb a a refl) (let h = agree-seam p q r in omega arith)

agree-short : (p s : List ℕ) → agree p s ≤ length s
unfolding agree
agree-short [] s = omega arith
agree-short (a ∷ p) [] = omega arith
agree-short (a ∷ p) (b ∷ s) = go (eqb a b) (agree-short p s)
  where
    go : (c : Bool) → agree p s ≤ length s → cond c (suc (agree p s)) 0 ≤ suc (length s)
    go true h = omega arith
    go false h = omega arith

-- what agrees with q ++ (b ∷ r) beyond q begins with q and b
agree-beyond : (p q : List ℕ) (b : ℕ) (r : List ℕ) → length q < agree p (q ++ (b ∷ r)) → (y : List ℕ) × (p ≡ q ++ (b ∷ y))
unfolding agree
agree-beyond [] [] b r h = absurd (omega arith)
agree-beyond [] (c ∷ q) b r h = absurd (omega arith)
agree-beyond (a ∷ p) [] b r h = go (eqb a b) refl h
  where
    go : (c : Bool) → eqb a b ≡ c → 0 < cond c (suc (agree p r)) 0 → (y : List ℕ) × (a ∷ p ≡ b ∷ y)
    go true e k = (p, ap (λ (z : ℕ). z ∷ p) (eqb-true a b e))
    go false e k = absurd (omega arith)
agree-beyond (a ∷ p) (c ∷ q) b r h = go (eqb a c) refl h (agree-beyond p q b r)
  where
    go : (d : Bool) → eqb a c ≡ d → suc (length q) < cond d (suc (agree p (q ++ (b ∷ r)))) 0
        → (length q < agree p (q ++ (b ∷ r)) → (y : List ℕ) × (p ≡ q ++ (b ∷ y))) → (y : List ℕ) × (a ∷ p ≡ c ∷ (q ++ (b ∷ y)))
    go true e k ih = let (y, w) = ih (omega arith) in (y, ap₂ (λ (x : ℕ) (z : List ℕ). x ∷ z) (eqb-true a c e) w)
    go false e k ih = absurd (omega arith)

-- ---- the longest prefix that begins some token

begun-least : (ts : List Token) (s : List ℕ) {t : Token} → Mem t ts → agree t.bytes s ≤ begun ts s
unfolding begun
begun-least [] s m = absurd (not-nil m)
begun-least (u ∷ ts) s (here e) = omega (arith, ap (λ (t : Token). agree t.bytes s) e)
begun-least (u ∷ ts) s (there m) = omega (arith, begun-least ts s m)

begun-most : (ts : List Token) (s : List ℕ) (k : ℕ) → ((t : Token) → Mem t ts → agree t.bytes s ≤ k) → begun ts s ≤ k
unfolding begun
begun-most [] s k h = omega arith
begun-most (t ∷ ts) s k h = omega (arith, h t (here refl), begun-most ts s k (λ u m. h u (there m)))

module _ (ts : List Token) where
  begun-end : (s : List ℕ) → begun ts s ≤ length s
  begun-end s = begun-most ts s (length s) (λ t n. agree-short t.bytes s)

  -- a node's bytes are begun
  begun-node : (p r : List ℕ) → Mem p (nodes ts) → length p ≤ begun ts (p ++ r)
  begun-node p r n =
      let k = node-is ts n in
      let l = begun-least ts (p ++ r) k.mem in
      let e : agree k.tok.bytes (p ++ r) ≡ length p + agree k.cut.rest r =
      ap (λ (z : List ℕ). agree z (p ++ r)) k.cut.split ∙ agree-seam p k.cut.rest r in
      omega arith

  -- and no more where no node goes on
  begun-stops : (p : List ℕ) (b : ℕ) (r : List ℕ) → 1 ≤ length p → (Mem (p ++ (b ∷ [])) (nodes ts) → ⊥) → begun ts (p ++ (b ∷ r)) ≤ length p
  begun-stops p b r h lacks = begun-most ts S (length p) (λ t n. go t n (leb (agree t.bytes S) (length p)) refl)
    where
      S : List ℕ
      S = p ++ (b ∷ r)

      go : (t : Token) → Mem t ts → (c : Bool) → leb (agree t.bytes S) (length p) ≡ c → agree t.bytes S ≤ length p
      go t n true e = leb-true (agree t.bytes S) (length p) e
      go t n false e =
          let (y, w) = agree-beyond t.bytes p b r (leb-false (agree t.bytes S) (length p) e) in
          absurd (lacks (token-node ts p b y n w h))

  -- all bytes of a node, and there are no more
  begun-whole : (p : List ℕ) → Mem p (nodes ts) → begun ts (p ++ []) ≡ length p
  begun-whole p n =
      let l = begun-end (p ++ []) in let e = ap length (append-nil p) in let k = begun-node p [] n in omega arith

  -- ---- one byte past it

  past-more : (s : List ℕ) (k : ℕ) → k < length s → proper_prefix ts (take k s) ≡ true → one_past ts s k ≡ suc k
  unfolding one_past
  past-more s k h e = rw (lt-ltb k (length s) h, e)

  past-end : (s : List ℕ) (k : ℕ) → length s ≤ k → one_past ts s k ≡ k
  unfolding one_past
  past-end s k h = rw (le-ltb k (length s) h)

  past-leaf : (s : List ℕ) (k : ℕ) → proper_prefix ts (take k s) ≡ false → one_past ts s k ≡ k
  unfolding one_past
  past-leaf s k e = go (ltb k (length s))
    where
      go : (c : Bool) → cond (c && proper_prefix ts (take k s)) (suc k) k ≡ k
      go true = rw e
      go false = refl

  past-most : (s : List ℕ) (k : ℕ) → one_past ts s k ≤ suc k
  unfolding one_past
  past-most s k = go (ltb k (length s) && proper_prefix ts (take k s))
    where
      go : (c : Bool) → cond c (suc k) k ≤ suc k
      go true = omega arith
      go false = omega arith

module _ {m : Memory} {ts : List Token} (L : Loaded m ts) where
  abbrev base : List ℕ → ℕ
  base p = base_of (puts ts) p

  abbrev past : List ℕ → ℕ
  past s = one_past ts s (begun ts s)

  -- ---- a node of base 0

  -- it is no proper prefix
  leaf-proper : (p : List ℕ) → Mem p (nodes ts) → base p ≡ 0 → proper_prefix ts p ≡ false
  leaf-proper p n z = no_true (proper_prefix ts p) (λ e.
      let (t, k, (c, y, q)) = (proper_iff ts p).0 e in
      let two = node-long L.valid n in
      leaf-stops L.valid p n z c (token-node ts p c y k q (omega arith)))

  -- what is looked at from its bytes on: these
  leaf-looked : (p s : List ℕ) → Mem p (nodes ts) → base p ≡ 0 → past (p ++ s) ≡ length p
  leaf-looked p [] n z = rw (begun-whole ts p n) (past-end ts (p ++ []) (length p) (omega (arith, ap length (append-nil p))))
  leaf-looked p (b ∷ s) n z =
      let x = begun-node ts p (b ∷ s) n in
      let two = node-long L.valid n in
      let y = begun-stops ts p b s (omega arith) (leaf-stops L.valid p n z b) in
      let e : begun ts (p ++ (b ∷ s)) ≡ length p = omega arith in
      rw e (past-leaf ts (p ++ (b ∷ s)) (length p) (rw (take-append_seam p (b ∷ s)) (leaf-proper p n z)))

  -- ---- reading through the table

  -- one byte b more, from a node p that has a child; l stands for the bytes left of the 255
  module _ (p : List ℕ) (q : Mem p (nodes ts)) (h : 1 ≤ base p) (b : ℕ) (hb : b < 256) (s l : List ℕ) where
    abbrev r : List ℕ
    r = p ++ (b ∷ [])

    abbrev slot : ℕ
    slot = get_or m.table (bit_xor (base p) b) 0

    at : slot ≡ table_at ts (bit_xor (base p) b)
    at = table-at L (bit_xor (base p) b)

    goes-eq : goes slot b ≡ has (nodes ts) r
    goes-eq = ap (λ (z : ℕ). goes z b) at ∙ step-goes ts L.valid p q b hb

    -- it leads nowhere
    turn-stops : has (nodes ts) r ≡ false → past (p ++ (b ∷ s)) ≡ length p + read_on m.table (b ∷ l) (base p)
    turn-stops e =
        let x = begun-node ts p (b ∷ s) q in
        let two = node-long L.valid q in
        let y = begun-stops ts p b s (omega arith) (λ k. clash (mem_has k) e) in
        let f : begun ts (p ++ (b ∷ s)) ≡ length p = omega arith in
        let (c, k) = base-child L p h in
        let w = length-append p (b ∷ s) in
        rw (f, read_on-stops m.table b l (base p) (goes-eq ∙ e))
        (past-more ts (p ++ (b ∷ s)) (length p) (omega arith) (rw (take-append_seam p (b ∷ s)) (node-proper L p c k))
        ∙ sym (add-one (length p)))

    -- it leads to the node r
    turn-goes : has (nodes ts) r ≡ true
        → (Mem r (nodes ts) → 1 ≤ base r → past (r ++ s) ≡ length r + read_on m.table l (base r))
        → past (p ++ (b ∷ s)) ≡ length p + read_on m.table (b ∷ l) (base p)
    turn-goes e ih = onward (eqb (base r) 0) refl
      where
        n : Mem r (nodes ts)
        n = has-mem (nodes ts) r e

        long : length r ≡ suc (length p)
        long = length-append p (b ∷ []) ∙ add-one (length p)

        same : base_in slot ≡ base r
        same = ap base_in (at ∙ step-word ts L.valid p q b hb n) ∙ word-base ts L.valid r b hb

        onward : (c : Bool) → eqb (base r) 0 ≡ c → past (p ++ (b ∷ s)) ≡ length p + read_on m.table (b ∷ l) (base p)
        onward true z =
            let none = eqb-true (base r) 0 z in
            rw (read_on-leaf m.table b l (base p) (same ∙ none), ← append_assoc p (b ∷ []) s)
            (leaf-looked r s n none ∙ long ∙ sym (add-one (length p)))
        onward false z =
            let some = eqb-false (base r) 0 z in
            rw (read_on-goes m.table b l (base p) (goes-eq ∙ e) (λ x. some (sym same ∙ x)), same, ← append_assoc p (b ∷ []) s)
            (ih n (omega (arith, some)) ∙ (let k = long in omega arith))

  -- from a node that has a child, with n bytes left of the 255
  read-looked : (n : ℕ) (s p : List ℕ) → length p + n ≡ 255 → Mem p (nodes ts) → 1 ≤ base p → Bytes s
      → past (p ++ s) ≡ length p + read_on m.table (take n s) (base p)
  read-looked zero s p l q h small =
      let (c, k) = base-child L p h in
      let t = node-is ts k in
      let x = L.valid.short t.tok t.mem in
      let y = ap length t.cut.split ∙ length-append (p ++ (c ∷ [])) t.cut.rest in
      let z = length-append p (c ∷ []) in
      absurd (omega arith)
  read-looked (suc n) [] p l q h small =
      rw (begun-whole ts p q) (past-end ts (p ++ []) (length p) (omega (arith, ap length (append-nil p))) ∙ (unfold read_on in omega arith))
  read-looked (suc n) (b ∷ s) p l q h small = go (has (nodes ts) (p ++ (b ∷ []))) refl (read-looked n s (p ++ (b ∷ [])))
    where
      go : (c : Bool) → has (nodes ts) (p ++ (b ∷ [])) ≡ c
          → (length (p ++ (b ∷ [])) + n ≡ 255 → Mem (p ++ (b ∷ [])) (nodes ts) → 1 ≤ base (p ++ (b ∷ [])) → Bytes s
          → past ((p ++ (b ∷ [])) ++ s) ≡ length (p ++ (b ∷ [])) + read_on m.table (take n s) (base (p ++ (b ∷ []))))
          → past (p ++ (b ∷ s)) ≡ length p + read_on m.table (b ∷ take n s) (base p)
      go true e ih =
          turn-goes p q h b small.0 s (take n s) e (λ k z. ih (omega (arith, length-append p (b ∷ []))) k z small.1)
      go false e ih = turn-stops p q h b small.0 s (take n s) e

  -- ---- from the first two bytes

  module _ (a b : ℕ) (s : List ℕ) (small : Bytes (a ∷ b ∷ s)) where
    abbrev S : List ℕ
    S = a ∷ b ∷ s

    abbrev q : List ℕ
    q = a ∷ b ∷ []

    abbrev w : ℕ
    w = word_of ts q 0

    abbrev root : ℕ
    root = get_or m.roots (a * 256 + b) 0

    two-looked : past S ≡ 2 + read_from m.table root (take 253 s) → looked_on m S ≡ looked ts S
    unfolding looked looked_on
    two-looked e = omega arith

    few-looked : past S ≤ 2 → read_from m.table root (take 253 s) ≡ 0 → looked_on m S ≡ looked ts S
    unfolding looked looked_on
    few-looked h e = omega arith

    -- base 0 and id 0 would make a word 0, which is no node's
    leaf-id : Mem q (nodes ts) → base q ≡ 0 → id_in w ≡ 0 → ⊥
    unfolding word_of pack
    leaf-id n z i = let h = word-pos ts L.valid q 0 n in let e = word-id ts L.valid q 0 (lit< tt) in omega arith

    long-looked : looked_on m S ≡ looked ts S
    long-looked =
        let ha = small.0 in
        let hb = small.1.0 in
        go (has (nodes ts) q) refl (root-at L (a * 256 + b) (omega arith) ∙ root-word L.valid a b hb)
      where
        go : (c : Bool) → has (nodes ts) q ≡ c → root ≡ cond c w 0 → looked_on m S ≡ looked ts S
        go false e r =
            let k = begun-stops ts (a ∷ []) b s (lit< tt) (λ n. clash (mem_has n) e) in
            let p = past-most ts S (begun ts S) in
            few-looked (omega arith) (read_from-none m.table root (take 253 s) r)
        go true e r = at (eqb (base q) 0) refl
          where
            n : Mem q (nodes ts)
            n = has-mem (nodes ts) q e

            same : base_in root ≡ base q
            same = ap base_in r ∙ word-base ts L.valid q 0 (lit< tt)

            at : (c : Bool) → eqb (base q) 0 ≡ c → looked_on m S ≡ looked ts S
            at true z =
                let none = eqb-true (base q) 0 z in
                few-looked (let f = leaf-looked q s n none in omega arith)
                (read_from-leaf m.table root (take 253 s) (λ x. leaf-id n none (ap id_in (sym r) ∙ x)) (same ∙ none))
            at false z =
                let some = eqb-false (base q) 0 z in
                let pos = word-pos ts L.valid q 0 n in
                let on = read_from-goes m.table root (take 253 s) (λ x. let y = sym r ∙ x in omega arith) (λ x. some (sym same ∙ x)) in
                two-looked (read-looked 253 s q refl n (omega arith) small.1.1
                ∙ sym (ap (λ (x : ℕ). 2 + x) (on ∙ ap (read_on m.table (take 253 s)) same)))

pub looks : Looks
looks m ts L [] small =
    unfold looked looked_on in (let h = begun-end ts [] in let k = past-end ts [] (begun ts []) (omega arith) in omega arith)
looks m ts L (a ∷ []) small = unfold looked looked_on in (go (begun ts (a ∷ [])) (begun-end ts (a ∷ [])))
  where
    go : (k : ℕ) → k ≤ 1 → 1 ≡ max (one_past ts (a ∷ []) k) (min 2 1)
    go zero h = let p = past-most ts (a ∷ []) 0 in omega arith
    go (suc k) h = let p = past-end ts (a ∷ []) (suc k) (omega arith) in omega arith
looks m ts L (a ∷ b ∷ s) small = long-looked L a b s small

-- ---- the sums

module _ (ts : List Token) (n b : ℕ) (s : List ℕ) where
  pub looked_at-none : longest ts (b ∷ s) ≡ None → looked_at ts (suc n) 0 (b ∷ s) ≡ 0
  unfolding looked_at
  looked_at-none e = rw (e, looked_at)

  pub looked_at-some : (t : Token) → longest ts (b ∷ s) ≡ Some t
      → looked_at ts (suc n) 0 (b ∷ s) ≡ looked ts (b ∷ s) + looked_at ts n (pred (length t.bytes)) s
  unfolding looked_at
  looked_at-some t e = rw (e, looked_at)

module _ {m : Memory} {ts : List Token} (L : Loaded m ts) where
  pub sums : (s : List ℕ) (k n : ℕ) → Bytes s → sum_on m n k s ≡ looked_at ts n k s
  unfolding sum_on looked_at
  sums [] k n small = refl
  sums (b ∷ s) (suc k) n small = sums s k n small.1
  sums (b ∷ s) zero zero small = refl
  sums (b ∷ s) zero (suc n) small = go (longest ts (b ∷ s)) refl (λ k. sums s k n small.1)
    where
      match : match_on m (b ∷ s) ≡ match_of (longest ts (b ∷ s))
      match = matching m ts L (b ∷ s) small

      go : (o : Option Token) → longest ts (b ∷ s) ≡ o → ((k : ℕ) → sum_on m n k s ≡ looked_at ts n k s)
          → sum_on m (suc n) 0 (b ∷ s) ≡ looked_at ts (suc n) 0 (b ∷ s)
      go None e ih = sum-none m (suc n) b s (match ∙ ap match_of e) ∙ sym (looked_at-none ts n b s e)
      go (Some t) e ih =
          sum-some m n b s t.id (length t.bytes) (match ∙ ap match_of e)
          ∙ ap₂ (λ (x y : ℕ). x + y) (looks m ts L (b ∷ s) small) (ih (pred (length t.bytes))) ∙ sym (looked_at-some ts n b s t e)

pub looks-sum : LooksSum
looks-sum m ts L s small n = sums L s 0 n small
