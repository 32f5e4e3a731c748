-- One turn of the taking of records after another: what is left of the source, from the tokens so far, is what the whole of it gives.
use Rattle.std.specs.Prelude.{◌≡◌, refl, Bool, List, [], ◌∷◌, ◌++◌, ℕ, suc, ◌+◌, ◌≤◌, ◌<◌, ℤ, length, take, get_or}
use Rattle.std.specs.Prelude.{Option, None, Some}
use Rattle.std.specs.Prelude.{Result, Ok, Err}
use Rattle.std.proofs.Common.{sym, ap, ap₂, ◌∙◌, subst, arith}
use Rattle.spec.specs.Check.{Check, pass, refuse, and_then}
use Rattle.spec.specs.Token.{Token}
use Rattle.spec.specs.Line.{lines}
use Rattle.spec.specs.Load.{Room, Form, records_in, reading, last_id, admit, take_one, line, refused, finish, take_all, load}
use Rattle.nodes.specs.Run.{Nodes}
use Rattle.memory.specs.Lent.{SameSlices}
use Rattle.memory.specs.declared.MemoryMut.{MemoryMut}
use Rattle.refusals.specs.Numbers.{number}
use Rattle.refusals.specs.declared.Refusal.{Refusal}
use Rattle.entry.specs.TokenOf.{token_of}
use Rattle.entry.specs.declared.Entry.{Entry}
use Rattle.tokens.specs.Built.{Built, BuiltIn, KeptIn, Small, PushedIn, room_for}
use Rattle.tokens.proofs.PushMeans.{count_more}
use Rattle.laws.specs.Bounds.{tokens-few, node_count-small, blob_small}
use Rattle.loading.specs.Accepted.{read-passes}
use Rattle.nodes.proofs.Chains.{bytes_of}
use Rattle.refusals.specs.Numbers.{checked}
use Rattle.tokens.specs.declared.Build.{Build}
use Rattle.source.specs.SourceAnswers.{form_of}
use Rattle.source.specs.declared.Edition.{Edition}
use Rattle.answers.specs.LoadParts.{TakenAs, RecordsAs}
use Rattle.answers.proofs.Settling.{kept_trans}

-- ---- what is left

-- the lines of a text are its records
pub records-are : (form : Option Edition) (s : List ℕ) → records_in (form_of form) s ≡ lines s
unfolding records_in
records-are None s = refl
records-are (Some e) s = refl

-- what the records that are left give, after n records with the tokens ts, is what the whole body gives
abbrev pub Left : Form → Bool → Room → List ℕ → ℕ → List Token → List (List ℕ) → Type 0
Left form partial r body n ts rest = take_all form partial r (suc n) ts rest ≡ load form partial r body

module _ (form : Form) (partial : Bool) (r : Room) (body : List ℕ) (n : ℕ) (ts : List Token) where
  pub left-none : Left form partial r body n ts [] → load form partial r body ≡ finish partial r ts
  unfolding take_all
  left-none h = sym h

  pub left-record : (part : List ℕ) (rest : List (List ℕ)) → Left form partial r body n ts (part ∷ rest)
      → (c : Check (List Token)) → take_one form r ts part ≡ c
      → elim c [
        | pass more ↦ take_all form partial r (suc (suc n)) more rest
        | refuse k ↦ refused k (line (suc n))
      ]
      ≡ load form partial r body
  unfolding take_all
  left-record part rest h c e =
      ap (λ (d : Check (List Token)). elim d [
        | pass more ↦ take_all form partial r (suc (suc n)) more rest
        | refuse k ↦ refused k (line (suc n))
      ]) (sym e) ∙ h

-- ---- one record

module _ (form : Form) (r : Room) (ts : List Token) (part : List ℕ) where
  pub record_refused : (n : ℕ) → refuse n ≡ reading form (last_id ts) part → take_one form r ts part ≡ refuse n
  unfolding take_one
  record_refused n e = ap (λ (c : Check Token). and_then c (admit r ts)) (sym e) ∙ (unfold and_then in refl)

  pub record_read : (t : Token) → pass t ≡ reading form (last_id ts) part → take_one form r ts part ≡ admit r ts t
  unfolding take_one
  record_read t e = ap (λ (c : Check Token). and_then c (admit r ts)) (sym e) ∙ (unfold and_then in refl)

-- ---- what a push is told

-- numbers of a build fit their widths
pub small_of : {ts : List Token} {s : List ℤ} {os bl rs : List ℕ} {ns : Nodes} {st : Build} → Built ts s os bl rs ns st → Small st
small_of {ts} B =
    let a = tokens-few ts B.valid in
    let b = node_count-small ts B.valid in
    let c = blob_small ts B.valid in
    let d = B.tokens in
    let e = B.made in
    let f = B.used in
    record { tokens = omega arith; made = (let k = count_more ts in omega arith, omega arith); used = omega arith }

-- a token that was read has an id above the last one's
pub pushable : (form : Form) (previous : ℕ) (part : List ℕ) (t : Entry) → ((k : ℕ) → get_or part k 0 < 256)
    → checked token_of (Ok t) ≡ reading form previous part → previous < t.id
pushable form previous part t small e = (read-passes form previous part (token_of t) (bytes_of part small) (sym e)).above

-- ---- one record and its token

module _ (form : Form) (part : List ℕ) (m : MemoryMut) (ns : Nodes) (st : Build) (ts : List Token) (B : BuiltIn ts m ns st) where
  read-after : (c : Check Token) → c ≡ reading form st.previous part → c ≡ reading form (last_id ts) part
  read-after c e = e ∙ ap (λ (n : ℕ). reading form n part) B.previous

  pub refused_takes : (e : Refusal) → checked token_of (Err e) ≡ reading form st.previous part → (table : ℕ)
      → take_one form (room_for ns m.blob.now table) ts part ≡ refuse (number e)
  refused_takes e h table = record_refused form (room_for ns m.blob.now table) ts part (number e) (read-after (refuse (number e)) h)

  pub pushed_takes : (t : Entry) → checked token_of (Ok t) ≡ reading form st.previous part → (m' : MemoryMut) (ns' : Nodes)
      → (p : Result Build Refusal) → ((table : ℕ) → PushedIn (room_for ns m.blob.now table) ts (token_of t) p m' ns')
      → TakenAs form (room_for ns m.blob.now) ts part p m'.single.now m'.offsets.now m'.blob.now m'.roots.now ns'
  pushed_takes t h m' ns' (Ok st') P = (
    ts ++ (token_of t ∷ []),
    λ table. record_read form (room_for ns m.blob.now table) ts part (token_of t) (read-after (pass (token_of t)) h) ∙ (P table).0,
    (P 0).1,
  )
  pushed_takes t h m' ns' (Err e) P = λ table.
      record_read form (room_for ns m.blob.now table) ts part (token_of t) (read-after (pass (token_of t)) h) ∙ P table

-- ---- the loop over the records

-- The memory m, which was m₀, holds the tokens of the first n records; `rest` is left.
pub record Going (form : Option Edition) (body : List ℕ) (m₀ : MemoryMut) (ns₀ : Nodes) (m : MemoryMut) (ns : Nodes) (n : ℕ)
    (rest : List (List ℕ)) (st : Build) : Type 0 where
  pub tokens : List Token
  pub built : BuiltIn tokens m ns st
  pub left : (partial : Bool) (table : ℕ) → Left (form_of form) partial (room_for ns₀ m₀.blob.now table) body n tokens rest
  pub kept : KeptIn m₀ m
  pub table : m.table.now ≡ m₀.table.now
  pub same : SameSlices m₀ m
  pub nodes : length ns ≡ length ns₀

-- room is a matter of lengths
pub same-room : (ns ns₀ : Nodes) (bl bl₀ : List ℕ) (table : ℕ) → length ns ≡ length ns₀ → length bl ≡ length bl₀
    → room_for ns bl table ≡ room_for ns₀ bl₀ table
same-room ns ns₀ bl bl₀ table a b = ap₂ (λ (x y : ℕ). record { nodes = x; blob = y; table = table }) a b

pub same_trans : (a b c : MemoryMut) → SameSlices a b → SameSlices b c → SameSlices a c
same_trans a b c S T = record {
  single = (T.single.0 ∙ S.single.0, T.single.1 ∙ S.single.1);
  offsets = (T.offsets.0 ∙ S.offsets.0, T.offsets.1 ∙ S.offsets.1);
  blob = (T.blob.0 ∙ S.blob.0, T.blob.1 ∙ S.blob.1);
  roots = (T.roots.0 ∙ S.roots.0, T.roots.1 ∙ S.roots.1);
  table = (T.table.0 ∙ S.table.0, T.table.1 ∙ S.table.1);
}

pub same_self : (a : MemoryMut) → SameSlices a a
same_self a = record { single = (refl, refl); offsets = (refl, refl); blob = (refl, refl); roots = (refl, refl); table = (refl, refl) }

pub going_starts : (form : Option Edition) (body : List ℕ) (m : MemoryMut) (ns : Nodes) (st : Build) (n : ℕ) (rest : List (List ℕ))
    → n ≡ 0 → rest ≡ lines body → BuiltIn [] m ns st → Going form body m ns m ns n rest st
unfolding load
going_starts form body m ns st n rest z e B = record {
  tokens = [];
  built = B;
  left = λ partial table. rw (z, e)
      (ap (take_all (form_of form) partial (room_for ns m.blob.now table) 1 []) (sym (records-are form body)));
  kept = record { single = refl; offsets = refl; roots = refl };
  table = refl;
  same = same_self m;
  nodes = refl;
}

module _ {form : Option Edition} {body : List ℕ} {m₀ : MemoryMut} {ns₀ : Nodes} {m : MemoryMut} {ns : Nodes} {n : ℕ}
    {rest : List (List ℕ)} {st : Build} (G : Going form body m₀ ns₀ m ns n rest st) where
  abbrev ts : List Token
  ts = G.tokens

  abbrev room : ℕ → Room
  room table = room_for ns₀ m₀.blob.now table

  pub going_done : rest ≡ [] → (partial : Bool) (table : ℕ)
      → RecordsAs (form_of form) partial (room table) body (Ok st) m.single.now m.offsets.now m.blob.now m.roots.now ns
  going_done e partial table =
      (ts, left-none (form_of form) partial (room table) body n ts (rw e at G.left partial table), G.built)

  module _ (part : List ℕ) (more : List (List ℕ)) (r : rest ≡ part ∷ more) (k : ℕ) (s : k ≡ n + 1) (m' : MemoryMut) (ns' : Nodes) where
    abbrev Takes : Result Build Refusal → Type 0
    Takes p = (us : List Token) → BuiltIn us m ns st
        → TakenAs (form_of form) (room_for ns m.blob.now) us part p m'.single.now m'.offsets.now m'.blob.now m'.roots.now ns'

    one : (table : ℕ) (c : Check (List Token)) → take_one (form_of form) (room_for ns m.blob.now table) ts part ≡ c
        → take_one (form_of form) (room table) ts part ≡ c
    one table c e =
        subst (λ (r : Room). take_one (form_of form) r ts part ≡ c) (same-room ns ns₀ m.blob.now m₀.blob.now table G.nodes G.same.blob.1) e

    turned : (c : Check (List Token)) (partial : Bool) (table : ℕ) → take_one (form_of form) (room table) ts part ≡ c
        → elim c [
          | pass us ↦ take_all (form_of form) partial (room table) (suc k) us more
          | refuse j ↦ refused j (line k)
        ]
        ≡ load (form_of form) partial (room table) body
    turned c partial table e =
        let one : suc n ≡ k = omega arith in
        subst (λ (i : ℕ). elim c [
          | pass us ↦ take_all (form_of form) partial (room table) (suc i) us more
          | refuse j ↦ refused j (line i)
        ] ≡ load (form_of form) partial (room table) body) one
        (left-record (form_of form) partial (room table) body n ts part more (rw r at G.left partial table) c e)

    pub going_refused : (e : Refusal) → Takes (Err e) → (partial : Bool) (table : ℕ)
        → load (form_of form) partial (room table) body ≡ refused (number e) (line k)
    going_refused e P partial table = sym (turned (refuse (number e)) partial table (one table (refuse (number e)) (P ts G.built table)))

    pub going_on : (st' : Build) → Takes (Ok st') → KeptIn m m' → m'.table.now ≡ m.table.now → SameSlices m m'
        → length ns' ≡ length ns → Going form body m₀ ns₀ m' ns' k more st'
    going_on st' P K t S en =
        let (us, passes, B) = P ts G.built in record {
          tokens = us;
          built = B;
          left = λ partial table. turned (pass us) partial table (one table (pass us) (passes table));
          kept = kept_trans G.kept K;
          table = t ∙ G.table;
          same = same_trans m₀ m m' G.same S;
          nodes = en ∙ G.nodes;
        }
