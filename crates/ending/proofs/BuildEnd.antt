-- The end of a build: the theorem that `finish` cites, and its parts. Assumes nothing.
use mathlib.Core.Path.{◌≡◌, refl, sym, ap, ◌∙◌, subst}
use mathlib.Core.Bool.{Bool, true, false, not, cond}
use Rattle.std.specs.Prelude.{Option, None, Some}
use Rattle.std.specs.List.{position, position_from}
use Rattle.std.proofs.lemmas.Iterator.Adapters.{position_from-zero}
use mathlib.Core.List.{List, [], ◌∷◌, Memᴰ as Mem}
use Prim.Native.Nat.{ℕ, zero, suc, ◌+◌, ◌-◌, ◌≤◌, ◌<◌}
use native.Mathlib.Omega.{arith}
use lib.IntN.{ℤ}
use lib.Dec.{leb}
use lib.ListN.{length, take, drop, replicate}
use lib.Seq.{length-sets}
use Rattle.spec.specs.Lists.{over, up_from}
use Rattle.spec.specs.Token.{Token, id_of, seen}
use Rattle.nodes.specs.Run.{Nodes}
use Rattle.spec.specs.Layout.{table_words}
use Rattle.spec.specs.Memory.{id_or_none, single_list, length_before, offset_list}
use Rattle.spec.specs.Load.{Room, nowhere, byte, Outcome, accepted, refused, missing, demanded, finish}
use Rattle.laws.specs.Reads.{offset-length}
use Rattle.words.specs.LayoutAnswer.{answer_for, PackedAs}
use Rattle.std.specs.Prelude.{Result, Ok, Err}
use Rattle.refusals.specs.declared.LoadError.{LoadError}
use Rattle.refusals.specs.declared.Refusal.TheVariants.{NoTokens, ByteMissing}
use Rattle.refusals.specs.declared.Place.TheVariants.{Byte}
use Rattle.nodes.proofs.InsertionMeans.{seen-id}
use Rattle.tokens.specs.Built.{Built, Kept, is_taken, set_offsets}
use Rattle.ending.specs.EndOfBuild.{SingleOf, FinishedAs, finished_of}
use Rattle.tokens.proofs.CellRuns.{by_index, over_of}
use Rattle.tokens.proofs.PushMeans.{taken_is, offsets_at, offsets_kept}
use Rattle.tokens.specs.declared.Build.{Build}

-- ---- a byte that is missing, by its cell of `single`

pub single_of : {ts : List Token} {s : List ℤ} {os bl rs : List ℕ} {ns : Nodes} {st : Build} → Built ts s os bl rs ns st → SingleOf ts s
single_of B = record { low = B.stands.low; cells = B.single }

-- a cell of `single` that is not an id
abbrev pub is_free : ℤ → Bool
is_free x = not (is_taken x)

-- the first cell that is not an id is that of the lowest byte without a token
module _ (ts : List Token) (low : (u : Token) → Mem u ts → 1 ≤ u.id) where
  abbrev cells : ℕ → ℕ → List ℤ
  cells = up_from (λ (c : ℕ). id_or_none (id_of ts (c ∷ [])))

  free_from : (n b : ℕ) → position_from is_free b (cells n b) ≡ missing ts n b
  unfolding up_from missing
  free_from zero b = refl
  free_from (suc n) b = rw (taken_is (id_of ts (b ∷ [])) ∙ sym (seen-id ts (b ∷ []) low)) (go (seen ts (b ∷ [])) (free_from n (suc b)))
    where
      go : (c : Bool) → position_from is_free (suc b) (cells n (suc b)) ≡ missing ts n (suc b)
          → cond (not c) (Some b) (position_from is_free (b + 1) (cells n (suc b))) ≡ cond c (missing ts n (suc b)) (Some b)
      go true e = ap (λ (k : ℕ). position_from is_free k (cells n (suc b))) (omega arith) ∙ e
      go false e = refl

pub free-missing : (ts : List Token) (s : List ℤ) → SingleOf ts s → position is_free (take 256 s) ≡ missing ts 256 0
unfolding single_list
free-missing ts s S =
    position_from-zero is_free (take 256 s) ∙ ap (position_from is_free 0) S.cells ∙ free_from ts S.low 256 0

-- ---- the offsets behind the last id

module _ {ts : List Token} {s : List ℤ} {os bl rs : List ℕ} {ns : Nodes} {st : Build} (B : Built ts s os bl rs ns st)
    (long : 65537 ≤ length os) (small : st.previous < 65536) where
  pub offsets-all : set_offsets os st.previous 65536 st.used ≡ over (offset_list ts) os
  unfolding offset_list
  offsets-all =
      let O : List ℕ = set_offsets os st.previous 65536 st.used in
      let w = length-sets os (st.previous + 1) (replicate (65536 - st.previous) st.used) in
      over_of 65537 O (up_from (length_before ts) 65537 0) os (by_index O (length_before ts) 65537 0 (omega arith)
      (λ i h. offsets_at B 65536 small long i (omega arith)))
      (offset-length ts) (offsets_kept os st.previous 65536 st.used small (omega arith))

-- ---- 19, 20 and 21, for each way that the end can go

module _ (partial : Bool) (r : Room) where
  -- the tests after the lines, of a vocabulary that has tokens
  abbrev ending : Option ℕ → List Token → Outcome
  ending o ts = elim o [ Some b ↦ refused 20 (byte b) | None ↦ cond (leb (table_words ts) r.table) (accepted ts) (refused 21 nowhere) ]

  finish-none : (ts : List Token) → length ts ≡ 0 → finish partial r ts ≡ refused 19 nowhere
  unfolding finish
  finish-none [] e = refl
  finish-none (t ∷ ts) e = absurd (omega arith)

  finish-some : (ts : List Token) → (length ts ≡ 0 → ⊥) → finish partial r ts ≡ ending (demanded partial (missing ts 256 0)) ts
  unfolding finish
  finish-some [] e = absurd (e refl)
  finish-some (t ∷ ts) e = refl

  module _ {ts : List Token} {s : List ℤ} {os bl rs : List ℕ} {ns : Nodes} {st : Build} (B : Built ts s os bl rs ns st)
      (tb os' rs' tb' : List ℕ) where
    abbrev As : Result ℕ LoadError → Type 0
    As f = FinishedAs partial r ts f os rs tb os' rs' tb'

    pub finished-none : st.tokens ≡ 0 → As (Err (record { refusal = NoTokens; place = None }))
    finished-none e = finish-none ts (let k = B.tokens in omega arith)

    module _ (tokens : st.tokens ≡ 0 → ⊥) where
      some-tokens : length ts ≡ 0 → ⊥
      some-tokens e = tokens (let k = B.tokens in omega arith)

      goes : (o : Option ℕ) → demanded partial (missing ts 256 0) ≡ o → finish partial r ts ≡ ending o ts
      goes o e = finish-some ts some-tokens ∙ ap (λ (x : Option ℕ). ending x ts) e

      pub finished-wanting : (b : ℕ) → Some b ≡ demanded partial (missing ts 256 0)
          → As (Err (record { refusal = ByteMissing; place = Some (Byte b) }))
      finished-wanting b e = goes (Some b) (sym e)

      module _ (e : demanded partial (missing ts 256 0) ≡ None) (most : ℕ) (is : r.table ≡ most)
          (p : Option ℕ) (P : PackedAs ts most rs tb p rs' tb') where
        last-test : finish partial r ts ≡ cond (leb (table_words ts) most) (accepted ts) (refused 21 nowhere)
        last-test = goes None e ∙ ap (λ (n : ℕ). cond (leb (table_words ts) n) (accepted ts) (refused 21 nowhere)) is

        finished-full : p ≡ None → As (finished_of None)
        unfolding answer_for
        finished-full q = last-test ∙ go (leb (table_words ts) most) (sym q ∙ P.answer)
          where
            go : (c : Bool) → None ≡ cond c (Some (table_words ts)) None → cond c (accepted ts) (refused 21 nowhere)
                ≡ refused 21 nowhere
            go true z = let y : ◌≡◌ {A = ℕ} 0 1 = cc in absurd (omega arith)
            go false z = refl

        finished-packs : (n : ℕ) → p ≡ Some n → 65537 ≤ length os → st.previous < 65536
            → os' ≡ set_offsets os st.previous 65536 st.used → As (Ok n)
        unfolding answer_for
        finished-packs n q long small eo =
            let (a, b) = go (leb (table_words ts) most) (sym q ∙ P.answer) in
            (last-test ∙ a, b, eo ∙ offsets-all B long small, P.roots n q, P.table n q)
          where
            go : (c : Bool) → Some n ≡ cond c (Some (table_words ts)) None → (cond c (accepted ts) (refused 21 nowhere) ≡ accepted ts)
                × (n ≡ table_words ts)
            go true z = (refl, cc)
            go false z = let y : ◌≡◌ {A = ℕ} 0 1 = cc in absurd (omega arith)

      -- what follows the packing
      pub finished_as_stated : demanded partial (missing ts 256 0) ≡ None → (most : ℕ) → r.table ≡ most → (p : Option ℕ)
          → PackedAs ts most rs tb p rs' tb' → 65537 ≤ length os → st.previous < 65536
          → os' ≡ set_offsets os st.previous 65536 st.used → (f : Result ℕ LoadError) → f ≡ finished_of p → As f
      finished_as_stated e most is (Some n) P long small eo f ef = subst As (sym ef)
          (finished-packs e most is (Some n) P n refl long small eo)
      finished_as_stated e most is None P long small eo f ef = subst As (sym ef) (finished-full e most is None P refl)

-- cells past the fixed lengths, where offsets were written up to the last
pub end_kept : {s : List ℤ} {os os' rs rs' : List ℕ} (previous total : ℕ) → previous < 65536 → os' ≡ set_offsets os previous 65536 total
    → drop 65536 rs' ≡ drop 65536 rs → Kept s os rs s os' rs'
end_kept {s} {os} previous total h e k = record {
  single = refl;
  offsets = ap (drop 65537) e ∙ offsets_kept os previous 65536 total h (omega arith);
  roots = k;
}
