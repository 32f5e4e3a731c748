-- What each cell of loaded memory holds; and that `memory_of` gives loaded memory, of the lengths that it had. Assumes nothing.
use Rattle.std.specs.Prelude.{◌≡◌, false, List, [], ◌∷◌, ◌++◌, ℕ, ◌+◌, ◌-◌, ◌≤◌, ◌<◌, ltb, pos, length, take, get_or, replicate, drop}
use Rattle.std.proofs.Common.{sym, ◌∙◌, inl, inr, arith, length-append, length-drop, take_at, get_or-take, get_or-append-add, ltb-true}
use Rattle.std.proofs.Common.{ltb-false}
use Rattle.std.proofs.Math.Path.{ap}
use Rattle.std.proofs.Math.ListN.{get_or-eq_default, get_or-append}
use Rattle.std.proofs.lemmas.List.{length-replicate, get_or-replicate}
use Rattle.spec.specs.Lists.{up_from, over}
use Rattle.spec.specs.Token.{Token, id_of}
use Rattle.spec.specs.Layout.{table_at, root_at, table_words}
use Rattle.spec.specs.Valid.{Valid}
use Rattle.spec.specs.Memory.{Memory, too_short, id_or_none, length_before, single_list, offset_list, blob_bytes, root_list, table_list}
use Rattle.spec.specs.Memory.{padded}
use Rattle.spec.specs.Memory.{memory_of, Loaded}
use Rattle.laws.specs.Tests.{Tested, either, neither}
use Rattle.laws.specs.Listed.{up_length, up_at, table-read}

-- ---- cells

module _ {A : Type 0} (l : List A) (f : ℕ → A) (n : ℕ) (e : take n l ≡ up_from f n 0) where
  pub listed : (i : ℕ) (d : A) → i < n → get_or l i d ≡ f i
  listed i d h =
      let z : 0 + i ≡ i = omega arith in
      sym (get_or-take n l i d h) ∙ ap (λ (k : List A). get_or k i d) e ∙ up_at f n 0 i d h ∙ ap f z

replicate-read : (n i : ℕ) → ◌≡◌ {A = ℕ} (get_or (replicate n 0) i 0) 0
replicate-read n i = go (either (ltb i n))
  where
    go : Tested (ltb i n) → ◌≡◌ {A = ℕ} (get_or (replicate n 0) i 0) 0
    go (inl e) = get_or-replicate n i 0 0 (ltb-true i n e)
    go (inr e) = get_or-eq_default (replicate n 0) 0 (omega (arith, ltb-false i n e, length-replicate {A = ℕ} n 0))

padded-read : (l : List ℕ) (n i : ℕ) → get_or (l ++ replicate n 0) i 0 ≡ get_or l i 0
padded-read l n i = go (either (ltb i (length l)))
  where
    go : Tested (ltb i (length l)) → get_or (l ++ replicate n 0) i 0 ≡ get_or l i 0
    go (inl e) = get_or-append l (replicate n 0) 0 i (ltb-true i (length l) e)
    go (inr e) =
        let h = ltb-false i (length l) e in
        let j : i ≡ length l + (i - length l) = omega arith in
        ap (λ (z : ℕ). get_or (l ++ replicate n 0) z 0) j ∙ get_or-append-add l (replicate n 0) (i - length l) 0
        ∙ replicate-read n (i - length l)
        ∙ sym (get_or-eq_default l 0 h)

module _ {m : Memory} {ts : List Token} (L : Loaded m ts) where
  pub single-at : (b : ℕ) → b < 256 → get_or m.single b (pos 0) ≡ id_or_none (id_of ts (b ∷ []))
  unfolding single_list
  single-at b h = listed m.single (λ (c : ℕ). id_or_none (id_of ts (c ∷ []))) 256 L.single b (pos 0) h

  pub offset_at : (i : ℕ) → i ≤ 65536 → get_or m.offsets i 0 ≡ length_before ts i
  unfolding offset_list
  offset_at i h = listed m.offsets (length_before ts) 65537 L.offsets i 0 (omega arith)

  pub root-at : (i : ℕ) → i < 65536 → get_or m.roots i 0 ≡ root_at ts i
  unfolding root_list
  root-at i h = listed m.roots (root_at ts) 65536 L.roots i 0 h

  -- the table beyond its words reads 0, as the table's function is there
  pub table-at : (i : ℕ) → get_or m.table i 0 ≡ table_at ts i
  table-at i =
      ap (λ (l : List ℕ). get_or l i 0) L.table
      ∙ padded-read (table_list ts) (length m.table - length (table_list ts)) i
      ∙ table-read ts L.valid i

-- ---- the memory after a load

over_length : {A : Type 0} (new old : List A) → length new ≤ length old → length (over new old) ≡ length old
over_length new old h = length-append new (drop (length new) old) ∙ (let e = length-drop (length new) old in omega arith)

over_take : {A : Type 0} (new old : List A) (n : ℕ) → length new ≡ n → take n (over new old) ≡ new
over_take new old n e = take_at new (drop (length new) old) n e

padded-length : (content : List ℕ) (n : ℕ) → length content ≤ n → length (padded content n) ≡ n
padded-length content n h =
    length-append content (replicate (n - length content) 0) ∙ (let e = length-replicate {A = ℕ} (n - length content) 0 in omega arith)

module _ (ts : List Token) where
  pub single-length : length (single_list ts) ≡ 256
  unfolding single_list
  single-length = up_length (λ (b : ℕ). id_or_none (id_of ts (b ∷ []))) 256 0

  pub offset-length : length (offset_list ts) ≡ 65537
  unfolding offset_list
  offset-length = up_length (length_before ts) 65537 0

  pub root-length : length (root_list ts) ≡ 65536
  unfolding root_list
  root-length = up_length (root_at ts) 65536 0

  pub table-length : length (table_list ts) ≡ table_words ts
  unfolding table_list
  table-length = up_length (table_at ts) (table_words ts) 0

-- number 1, said by lengths
pub record LongEnough (m : Memory) : Type 0 where
  pub single : 256 ≤ length m.single
  pub offsets : 65537 ≤ length m.offsets
  pub roots : 65536 ≤ length m.roots

pub long_enough : (m : Memory) → too_short m ≡ false → LongEnough m
unfolding too_short
long_enough m e =
    let a = neither (ltb (length m.single) 256) _ e in
    let b = neither (ltb (length m.offsets) 65537) _ a.1 in
    record {
      single = ltb-false (length m.single) 256 a.0;
      offsets = ltb-false (length m.offsets) 65537 b.0;
      roots = ltb-false (length m.roots) 65536 b.1;
    }

module _ (ts : List Token) (m : Memory) (long : too_short m ≡ false) (blob-room : length (blob_bytes ts) ≤ length m.blob)
    (table-room : table_words ts ≤ length m.table) where
  -- a load keeps the lengths of the five parts
  pub record SameLengths : Type 0 where
    pub single : length (memory_of ts m).single ≡ length m.single
    pub offsets : length (memory_of ts m).offsets ≡ length m.offsets
    pub blob : length (memory_of ts m).blob ≡ length m.blob
    pub roots : length (memory_of ts m).roots ≡ length m.roots
    pub table : length (memory_of ts m).table ≡ length m.table

  pub same-lengths : SameLengths
  unfolding memory_of
  same-lengths =
      let h = long_enough m long in
      record {
        single = over_length (single_list ts) m.single (let e = single-length ts in omega arith);
        offsets = over_length (offset_list ts) m.offsets (let e = offset-length ts in omega arith);
        blob = padded-length (blob_bytes ts) (length m.blob) blob-room;
        roots = over_length (root_list ts) m.roots (let e = root-length ts in omega arith);
        table = padded-length (table_list ts) (length m.table) (let e = table-length ts in omega arith);
      }

  -- what an accepted load leaves is loaded memory
  pub loaded : Valid ts → Loaded (memory_of ts m) ts
  unfolding memory_of
  loaded v = record {
    valid = v;
    single = over_take (single_list ts) m.single 256 (single-length ts);
    offsets = over_take (offset_list ts) m.offsets 65537 (offset-length ts);
    blob = ap (padded (blob_bytes ts)) (sym same-lengths.blob);
    roots = over_take (root_list ts) m.roots 65536 (root-length ts);
    table = ap (padded (table_list ts)) (sym same-lengths.table);
    blob-room = (let e = same-lengths.blob in omega arith);
    table-room = (let e = same-lengths.table in omega arith);
  }
