-- Where every node's base is kept in it, the words that the code writes are those of the definitions: the table and the roots.
-- Assumes nothing.
use mathlib.Core.Path.{◌≡◌, refl, sym, ap, ap₂, ◌∙◌, subst}
use mathlib.Core.Logic.{◌⊎◌, inl, inr}
use mathlib.Core.Bool.{cond}
use mathlib.Core.List.Memᴰ.{cases_cons}
use mathlib.Core.List.{List, [], ◌∷◌, ◌++◌, map, append_assoc, Memᴰ as Mem}
use mathlib.Core.List.Memᴰ.{append_right as mem-right}
use mathlib.Core.List.Memᴰ.{head as here}
use mathlib.Core.List.Memᴰ.{not-nil}
use mathlib.Core.List.Memᴰ.{tail as there}
use Prim.Native.Nat.{ℕ, zero, suc, ◌+◌, ◌-◌, ◌*◌, ◌/◌, ◌%◌, ◌≤◌, ◌<◌}
use native.Mathlib.Omega.{arith}
use lib.ListN.{length, length-append, length-map, get_or, set, take, drop, replicate, length-replicate}
use lib.ListN.{replicate-append-replicate, get_or-map}
use lib.Seq.{set-append_left, ext_get_or, get_or-take, length-take-le}
use lib.Bits.{bit_xor}
use Rattle.spec.specs.Lists.{each, fold, has, over}
use Rattle.spec.specs.Token.{Token, id_of}
use Rattle.spec.specs.Trie.{nodes, node_count, labels}
use Rattle.spec.specs.Layout.{pack, base_of, puts, word_of, root_at, table_at, table_words}
use Rattle.spec.specs.Valid.{Valid}
use Rattle.spec.specs.Memory.{root_list, table_list, padded}
use Rattle.laws.specs.Tests.{has-mem, mem_has}
use Rattle.laws.specs.Nodes.{label-node}
use Rattle.laws.specs.Numbered.{number, Fresh, place_of, place_stays, place_new}
use Rattle.laws.specs.Chain.{kids}
use Rattle.laws.specs.Listed.{up_length, up_at}
use Rattle.laws.specs.Fill.{Write, write, write_all, child_write, writes, in_table, table_filled}
use Rattle.nodes.specs.Run.{Nodes, see}
use Rattle.nodes.specs.Stands.{num, Tree, Roots}
use Rattle.nodes.proofs.Chains.{map_same, final-snoc, number-pos, number_lt, kid_lt, kids-length, labels-few, num-in, num-out, member}
use Rattle.nodes.specs.declared.Node.{Node}
use Rattle.laws.specs.Tests.{yes_case, no_case}
use Rattle.words.specs.NodeWords.{node_word, child_put, child_writes, node_writes, root_word, root_words}
use Rattle.nodes.proofs.ChildWalk.{link-to, walk_chain}
use Rattle.nodes.specs.Links.{link}
use Rattle.std.proofs.lemmas.Simd.{map-map}
use Rattle.words.proofs.WordTurns.{root-none, root-at}

-- the nodes of ts, each with its base
pub record Based (ts : List Token) (m : Nodes) : Type 0 where
  pub tree : Tree (nodes ts) (id_of ts) m
  pub base : (p : List ℕ) → Mem p (nodes ts) → (see m (number (nodes ts) p)).tail ≡ base_of (puts ts) p

-- ---- the children of a node

-- ---- all nodes

-- the node after those of s
next-number : (s : List (List ℕ)) (q : List ℕ) (t : List (List ℕ)) → Fresh (s ++ (q ∷ t)) → number (s ++ (q ∷ t)) q ≡ suc (length s)
unfolding number
next-number s q t f =
    ap suc (ap (λ (ps : List (List ℕ)). place_of ps q) (sym (append_assoc s (q ∷ []) t)) ∙ place_stays t (mem-right s (here refl))
    ∙ place_new s q (apart s f))
  where
    apart : (s : List (List ℕ)) → Fresh (s ++ (q ∷ t)) → Mem q s → ⊥
    apart [] f m = not-nil m
    apart (x ∷ s) f m = go (cases_cons m) (apart s f.1)
      where
        go : (q ≡ x) ⊎ Mem q s → (Mem q s → ⊥) → ⊥
        go (inl e) r = f.0 (mem-right s (here (sym e)))
        go (inr n) r = r n

module _ (ts : List Token) (m : Nodes) (D : Based ts m) where
  abbrev ps : List (List ℕ)
  ps = nodes ts

  word-is : (p : List ℕ) (l : ℕ) → Mem p ps → node_word (see m (number ps p)) l ≡ word_of ts p l
  unfolding node_word word_of
  word-is p l mp = ap₂ (λ (x y : ℕ). pack x y l) (D.base p mp) (D.tree.node p mp).term

  pub children-is : (p : List ℕ) → Mem p ps
      → child_writes (see m) (node_count ts) (see m (number ps p)).tail 256 (see m (number ps p)).head
      ≡ map (child_write ts p) (labels ps p)
  unfolding kids child_write node_count child_put child_writes
  children-is p mp =
      ap (map (λ (x : ℕ × Node). child_put (see m (number ps p)).tail x.1))
      (walk_chain (see m) (1 + length ps) (kids ps p) 256 (see m (number ps p)).head
      (let a = kids-length ps p in let b = labels-few D.tree p in omega arith)
      (λ c mc. let h = kid_lt ps p mc in omega arith) (D.tree.node p mp).chain)
      ∙ map-map (λ (x : ℕ × Node). child_put (see m (number ps p)).tail x.1) (λ c. (c, see m c)) (kids ps p)
      ∙ map-map _ (λ l. number ps (p ++ (l ∷ []))) (labels ps p) ∙ map_same _ (child_write ts p) (labels ps p) one
    where
      one : (l : ℕ) → Mem l (labels ps p)
          → ◌≡◌ {A = Write} (child_put (see m (number ps p)).tail (see m (number ps (p ++ (l ∷ [])))))
          (record { at = bit_xor (base_of (puts ts) p) l; val = word_of ts (p ++ (l ∷ [])) l })
      one l ml =
          let mc = label-node ps p l ml in
          let lab : (see m (number ps (p ++ (l ∷ [])))).label ≡ l = (D.tree.node (p ++ (l ∷ [])) mc).label ∙ final-snoc p l in
          ap₂ (λ (x y : ℕ). record { at = x; val = y }) (ap₂ bit_xor (D.base p mp) lab)
          (ap (node_word (see m (number ps (p ++ (l ∷ []))))) lab ∙ word-is (p ++ (l ∷ [])) l mc)

  nodes-from : (s t : List (List ℕ)) → s ++ t ≡ ps
      → node_writes (see m) (node_count ts) (length t) (suc (length s)) ≡ each (λ p. map (child_write ts p) (labels ps p)) t
  unfolding node_writes each
  nodes-from s [] e = refl
  nodes-from s (q ∷ t) e =
      ap₂ ◌++◌
      (ap (λ (i : ℕ). child_writes (see m) (node_count ts) (see m i).tail 256 (see m i).head) at
      ∙ children-is q (subst (λ (z : List (List ℕ)). Mem q z) e (mem-right s (here refl))))
      (ap (λ (i : ℕ). node_writes (see m) (node_count ts) (length t) (suc i)) more
      ∙ nodes-from (s ++ (q ∷ [])) t (append_assoc s (q ∷ []) t ∙ e))
    where
      at : suc (length s) ≡ number ps q
      at = sym (ap (λ (z : List (List ℕ)). number z q) (sym e) ∙ next-number s q t (subst Fresh (sym e) D.tree.fresh))

      more : suc (length s) ≡ length (s ++ (q ∷ []))
      more = let a = length-append s (q ∷ []) in let b : length (q ∷ []) ≡ 1 = refl in omega arith

  pub nodes-are : node_writes (see m) (node_count ts) (node_count ts - 1) 1 ≡ writes ts
  unfolding writes
  nodes-are = ap (λ (n : ℕ). node_writes (see m) (node_count ts) n 1) count ∙ nodes-from [] ps refl
    where
      count : node_count ts - 1 ≡ length ps
      count = unfold node_count in omega arith

-- ---- the table

writes_front : (ws : List Write) (s t : List ℕ) → ((w : Write) → Mem w ws → w.at < length s)
    → fold write (s ++ t) ws ≡ fold write s ws ++ t
unfolding fold write
writes_front [] s t h = refl
writes_front (w ∷ ws) s t h =
    ap (λ (l : List ℕ). fold write l ws) (set-append_left s t w.at w.val (h w (here refl)))
    ∙ writes_front ws (set s w.at w.val) t
    (λ u mu. let a = h u (there mu) in let b = lib.ListN.length-set s w.at w.val in omega arith)

pub table_padded : (ts : List Token) → Valid ts → (n : ℕ) → table_words ts ≤ n
    → fold write (replicate n 0) (writes ts) ≡ padded (table_list ts) n
table_padded ts v n h =
    ap (λ (l : List ℕ). fold write l (writes ts))
    (sym (replicate-append-replicate (table_words ts) (n - table_words ts) 0 ∙ ap (λ (k : ℕ). replicate k 0) sum))
    ∙ writes_front (writes ts) (replicate (table_words ts) 0) (replicate (n - table_words ts) 0)
    (λ w mw. let a = in_table ts v w mw in let b = length-replicate {A = ℕ} (table_words ts) 0 in omega arith)
    ∙ ap₂ (λ (l : List ℕ) (k : ℕ). l ++ replicate (n - k) 0) (filled ts v) (sym len)
  where
    sum : table_words ts + (n - table_words ts) ≡ n
    sum = omega arith

    filled : (ts : List Token) → Valid ts → fold write (replicate (table_words ts) 0) (writes ts) ≡ table_list ts
    filled ts v = unfold write_all in table_filled ts v

    len : length (table_list ts) ≡ table_words ts
    len = unfold table_list in up_length (table_at ts) (table_words ts) 0

-- ---- the roots

pub roots_over : (ts : List Token) (m : Nodes) (rs : List ℕ) → Based ts m → Roots (nodes ts) rs → 65536 ≤ length rs
    → root_words (root_word (see m) (node_count ts)) rs ≡ over (root_list ts) rs
unfolding root_words
roots_over ts m rs D R h = ap₂ (λ (l : List ℕ) (k : ℕ). l ++ drop k rs)
    (ext_get_or 0 (map f (take 65536 rs)) (root_list ts) (len1 ∙ sym len2) cell) (sym len2)
  where
    ps : List (List ℕ)
    ps = nodes ts

    f : ℕ → ℕ
    f = root_word (see m) (node_count ts)

    len1 : length (map f (take 65536 rs)) ≡ 65536
    len1 = length-map (take 65536 rs) f ∙ length-take-le 65536 rs h

    len2 : length (root_list ts) ≡ 65536
    len2 = unfold root_list in up_length (root_at ts) 65536 0

    none_is : 0 ≡ root_word (see m) (node_count ts) 0
    none_is = root-none (see m) (node_count ts) 0 (unfold link in refl)

    at : (a b : ℕ) → Mem (a ∷ b ∷ []) ps ⊎ (Mem (a ∷ b ∷ []) ps → ⊥)
        → f (num ps (a ∷ b ∷ [])) ≡ cond (has ps (a ∷ b ∷ [])) (word_of ts (a ∷ b ∷ []) zero) zero
    at a b (inl mp) =
        ap f (num-in mp)
        ∙ sym (root-at (see m) (node_count ts) (number ps (a ∷ b ∷ [])) _
        (link-to _ _ (number-pos ps (a ∷ b ∷ [])) (unfold node_count in let k = number_lt mp in omega arith)))
        ∙ word-is ts m D (a ∷ b ∷ []) 0 mp ∙ sym (yes_case _ _ (mem_has mp))
    at a b (inr np) = ap f (num-out ps (a ∷ b ∷ []) np) ∙ sym none_is
        ∙ sym (no_case _ _ (Rattle.laws.specs.Tests.no_true _ (λ e. np (has-mem ps (a ∷ b ∷ []) e))))

    cell : (i : ℕ) → i < length (map f (take 65536 rs)) → get_or (map f (take 65536 rs)) i 0 ≡ get_or (root_list ts) i 0
    cell i hi =
        let lt : i < 65536 = omega (arith, len1) in
        let a : i / 256 < 256 = omega arith in
        let b : i % 256 < 256 = omega arith in
        let q : i / 256 * 256 + i % 256 ≡ i = omega arith in
        ap (get_or (map f (take 65536 rs)) i) none_is ∙ get_or-map f (take 65536 rs) i 0
        ∙ ap f (get_or-take 65536 rs i 0 lt ∙ ap (λ (z : ℕ). get_or rs z 0) (sym q) ∙ R (i / 256) (i % 256) a b)
        ∙ at (i / 256) (i % 256) (member ps (i / 256 ∷ i % 256 ∷ [])) ∙ sym (root-cell i lt)
      where
        root-cell : (i : ℕ) → i < 65536
            → get_or (root_list ts) i 0 ≡ cond (has ps (i / 256 ∷ i % 256 ∷ [])) (word_of ts (i / 256 ∷ i % 256 ∷ []) zero) zero
        root-cell i lt = unfold root_list root_at in up_at (root_at ts) 65536 0 i 0 lt
            ∙ (let z : 0 + i ≡ i = omega arith in ap (root_at ts) z)
