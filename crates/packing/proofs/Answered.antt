-- The capacity that is searched, and what the code's answers say of it. Assumes nothing.
use mathlib.Core.Path.{◌≡◌, sym, ap, ◌∙◌, subst}
use mathlib.Core.List.{List, map}
use Prim.Native.Nat.{ℕ, ◌+◌, ◌-◌, ◌*◌, ◌/◌, ◌^◌, ◌≤◌, ◌<◌, min}
use native.Mathlib.Omega.{arith}
use lib.ListN.{length, take, drop, replicate, length-map}
use lib.Seq.{drop_at, length-take-le}
use borrow.Author.Tests.{le-leb, lt-leb}
use Rattle.spec.specs.Lists.{fold}
use Rattle.spec.specs.Token.{Token, id_of}
use Rattle.spec.specs.Trie.{nodes, node_count}
use Rattle.spec.specs.Layout.{top, words, puts, table_words}
use Rattle.spec.specs.Load.{table_room}
use Rattle.spec.specs.Valid.{Valid}
use Rattle.laws.specs.Bounds.{table_words-small}
use Rattle.laws.specs.Fill.{write}
use Rattle.nodes.specs.Run.{Nodes, see}
use Rattle.nodes.specs.Stands.{RootsKept, Stands}
use Rattle.slots.specs.Marks.{Bounds}
use Rattle.laws.specs.Tests.{yes_case, no_case}
use Rattle.words.specs.NodeWords.{node_writes, root_word, root_words}
use Rattle.words.proofs.Filled.{Based, nodes-are, table_padded, roots_over}
use Rattle.packing.specs.PlaceWalk.{Through, Ended}
use Rattle.words.specs.LayoutAnswer.{answer_for, PackedAs}
use Rattle.packing.proofs.Walked.{through_based}
use Rattle.std.specs.Prelude.{Option, Some, None}
use Rattle.slots.specs.declared.Front.{Front}

-- ---- the words of marks that are searched

in_fours : (x y e : ℕ) → e * 64 ≡ min (256 * x) (256 * y) → e ≡ 4 * min x y
in_fours x y e h = omega arith

whole-blocks : (t end : ℕ) (U B : List ℕ) → end ≡ 4 * min (min (t / 256) (min (length U / 4) (length B / 4))) 16777215 → (end ≡ 0 → ⊥)
    → Bounds (take end U) (take end B) 4
whole-blocks t end U B is z =
    let lu : length (take end U) ≡ end = length-take-le end U (omega arith) in
    let lb : length (take end B) ≡ end = length-take-le end B (omega arith) in
    record { from_le = omega (arith, z); blocks = omega arith; as_many = lb ∙ sym lu; small = omega arith }

-- the words that are lent
module _ (t end : ℕ) (U B : List ℕ) (is : end * 64 ≡ min (table_room t (length U) (length B)) (256 * 16777215)) where
  pub end_lent : length (take end U) * 64 ≡ min (table_room t (length U) (length B)) (256 * 16777215)
  unfolding table_room
  end_lent = ap (λ (n : ℕ). n * 64) (length-take-le end U (omega arith)) ∙ is

  pub end-bounds : (end ≡ 0 → ⊥) → Bounds (take end U) (take end B) 4
  unfolding table_room
  end-bounds = whole-blocks t end U B (in_fours (min (t / 256) (min (length U / 4) (length B / 4))) 16777215 end is)

module _ (t u b end : ℕ) (is : end * 64 ≡ min (table_room t u b) (256 * 16777215)) where
  end-zero : end ≡ 0 → table_room t u b ≡ 0
  unfolding table_room
  end-zero z = omega arith

  -- more blocks than 2^24 - 1 are never needed
  end-past : (ts : List Token) → Valid ts → end * 64 < words (puts ts) → table_room t u b < table_words ts
  unfolding table_room table_words words
  end-past ts v h = let s = small in omega arith
    where
      small : 256 * (1 + top (puts ts)) < 2 ^ 32
      small = table_words-small ts v

  end-room : end * 64 ≤ table_room t u b
  unfolding table_room
  end-room = omega arith

room-le : (t u b : ℕ) → table_room t u b ≤ t
unfolding table_room
room-le t u b = omega arith

-- ---- the answer

past-answer : (ts : List Token) (cap : ℕ) (rs t rs' t' : List ℕ) → cap < table_words ts → PackedAs ts cap rs t None rs' t'
unfolding answer_for
past-answer ts cap rs t rs' t' h = record {
  answer = sym (no_case _ _ (lt-leb (table_words ts) cap h));
  table = λ n e. cc;
  roots = λ n e. cc;
}

words-pos : (ts : List Token) → 0 < table_words ts
unfolding table_words words
words-pos ts = omega arith

module _ (ts : List Token) (v : Valid ts) (cap made w : ℕ) (rs : List ℕ) (m₀ : Nodes) (t : List ℕ) (m : Nodes) (t' rs' : List ℕ)
    (at : Front) (end : ℕ) where
  fits-answer : Stands ts rs m₀ → made ≡ node_count ts → 65536 ≤ length rs → cap ≤ length t → end * 64 ≤ cap
      → Through (nodes ts) (id_of ts) (puts ts) m at end → w ≡ 256 * (1 + at.high)
      → t' ≡ fold write (replicate (length t) 0) (node_writes (see m) made (made - 1) 1)
      → rs' ≡ root_words (root_word (see m) made) rs
      → PackedAs ts cap rs t (Some w) rs' t'
  unfolding answer_for table_words words
  fits-answer S em hr ht hc T ew et er = record {
    answer = ap Some is ∙ sym (yes_case _ _ (le-leb (table_words ts) cap fit));
    table = λ n e. et ∙ ap (λ (k : ℕ). fold write (replicate (length t) 0) (node_writes (see m) k (k - 1) 1)) em
        ∙ ap (fold write (replicate (length t) 0)) (nodes-are ts m D) ∙ table_padded ts v (length t) (omega (arith, fit));
    roots = λ n e. er ∙ ap (λ (k : ℕ). root_words (root_word (see m) k) rs) em
        ∙ roots_over ts m rs D S.growing.root hr;
  }
    where
      D : Based ts m
      D = through_based ts m at end T

      is : w ≡ table_words ts
      is = let h = T.high_is in omega arith

      fit : table_words ts ≤ cap
      fit = let h = T.room in omega arith

-- the cells past the roots stay as they were
pub roots_behind : (f : ℕ → ℕ) (rs rs' : List ℕ) → 65536 ≤ length rs → rs' ≡ root_words f rs → RootsKept rs rs'
unfolding root_words
roots_behind f rs rs' h e =
    record {
      behind = ap (drop 65536) e ∙ drop_at (map f (take 65536 rs)) (drop 65536 rs) 65536 (length-map (take 65536 rs) f
          ∙ length-take-le 65536 rs h);
    }

-- ---- what the code answers

module _ (end t u b : ℕ) (ee : end * 64 ≡ min (table_room t u b) (256 * 16777215)) (made : ℕ) (m : Nodes) (rs ta : List ℕ) where
  -- what the code promises
  abbrev pub Answers : Option ℕ → List ℕ → List ℕ → Type 0
  Answers r rs' ta' =
      (ts : List Token) → Valid ts → Stands ts rs m → made ≡ node_count ts → PackedAs ts (table_room t u b) rs ta r rs' ta'

  -- no whole block
  pub no_block : end ≡ 0 → Answers None rs ta
  no_block z = λ ts v S em. past-answer ts (table_room t u b) rs ta rs ta
      (let c = end-zero t u b end ee z in let w = words-pos ts in omega arith)

  module _ (zs : Nodes) where
    abbrev pub Placing : Option Front → Type 0
    Placing front = (ts : List Token) (rs : List ℕ) → Valid ts → Stands ts rs m → made ≡ node_count ts
        → Ended (nodes ts) (id_of ts) (puts ts) zs front end

    -- a node found no slot
    pub no_slot : Placing None → Answers None rs ta
    no_slot placed = λ ts v S em. past-answer ts (table_room t u b) rs ta rs ta (end-past t u b end ee ts v (placed ts rs v S em))

    -- all nodes have their words; tc is the table with zeros
    pub all-put : (front : Front) → Placing (Some front) → (w : ℕ) (rs' tc ta' : List ℕ) → w ≡ 256 * (1 + front.high) → t ≡ length ta
        → 65536 ≤ length rs → tc ≡ replicate (length ta) 0 → ta' ≡ fold write tc (node_writes (see zs) made (made - 1) 1)
        → rs' ≡ root_words (root_word (see zs) made) rs → Answers (Some w) rs' ta'
    all-put front placed w rs' tc ta' ew et hr ec etable eroots = λ ts v S em.
        fits-answer ts v (table_room t u b) made w rs m ta zs ta' rs' front end S em hr
        (subst (λ (x : ℕ). table_room t u b ≤ x) et (room-le t u b)) (end-room t u b end ee) (placed ts rs v S em) ew
        (etable ∙ ap (λ (x : List ℕ). fold write x (node_writes (see zs) made (made - 1) 1)) ec) eroots
