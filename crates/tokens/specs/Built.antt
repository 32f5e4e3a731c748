-- What the vocabulary memory and the nodes hold while tokens are pushed, and what a push has to answer. Definitions only.
-- Assumes nothing.
use Rattle.std.specs.Prelude.{◌≡◌, ◌⊎◌, Bool, true, false, cond, List, [], ◌∷◌, ◌++◌, ℕ, ◌+◌, ◌-◌, ◌≤◌, ◌<◌, eqb, ℤ, pos, negsuc}
use Rattle.std.specs.Prelude.{length, take, drop, get_or, set, replicate, Result, Ok, Err}
use Rattle.std.proofs.lemmas.List.Edits.{sets}
use Rattle.spec.specs.Check.{pass, refuse}
use Rattle.spec.specs.Token.{Token}
use Rattle.spec.specs.Trie.{node_count}
use Rattle.spec.specs.Valid.{Valid}
use Rattle.spec.specs.Memory.{length_before, single_list, blob_bytes, padded}
use Rattle.spec.specs.Load.{Room, admit, last_id}
use Rattle.loading.specs.Accepted.{Reads}
use Rattle.nodes.specs.Run.{Nodes, room}
use Rattle.nodes.specs.Stands.{Stands, Grown}
use Rattle.nodes.specs.Insertion.{Entered}
use Rattle.memory.specs.declared.MemoryMut.{MemoryMut}
use Rattle.refusals.specs.Numbers.{number}
use Rattle.refusals.specs.declared.Refusal.{Refusal}
use Rattle.refusals.specs.declared.Refusal.TheVariants.{SeenBefore}
use Rattle.tokens.specs.declared.Build.{Build}

-- ---- the state of a build

-- The first cells of `single` and offsets, the blob, the roots and the nodes are those of the tokens: offsets up to the last id, zeros in
-- the blob behind the bytes, node numbers in the roots. `st` counts them. Node 0 needs room too, so without any there is no token.
pub record Built (ts : List Token) (s : List ℤ) (os bl rs : List ℕ) (ns : Nodes) (st : Build) : Type 0 where
  pub valid : Valid ts
  pub previous : st.previous ≡ last_id ts
  pub tokens : st.tokens ≡ length ts
  pub made : st.made ≡ node_count ts
  pub used : st.used ≡ length (blob_bytes ts)
  pub single : take 256 s ≡ single_list ts
  pub offsets : (i : ℕ) → i ≤ st.previous → get_or os i 0 ≡ length_before ts i
  pub blob : bl ≡ padded (blob_bytes ts) (length bl)
  pub blob-room : length (blob_bytes ts) ≤ length bl
  pub stands : Stands ts rs ns
  pub node-room : (node_count ts ≤ room ns) ⊎ (ts ≡ [])

-- the same of the slices that are lent
abbrev pub BuiltIn : List Token → MemoryMut → Nodes → Build → Type 0
BuiltIn ts m ns st = Built ts m.single.now m.offsets.now m.blob.now m.roots.now ns st

-- "Cells of the first, second and fourth past these lengths are never touched"
pub record Kept (s : List ℤ) (os rs : List ℕ) (s' : List ℤ) (os' rs' : List ℕ) : Type 0 where
  pub single : drop 256 s' ≡ drop 256 s
  pub offsets : drop 65537 os' ≡ drop 65537 os
  pub roots : drop 65536 rs' ≡ drop 65536 rs

abbrev pub KeptIn : MemoryMut → MemoryMut → Type 0
KeptIn m m' = Kept m.single.now m.offsets.now m.roots.now m'.single.now m'.offsets.now m'.roots.now

-- `st` counts the tokens
pub record Counts (ts : List Token) (st : Build) : Type 0 where
  pub previous : st.previous ≡ last_id ts
  pub tokens : st.tokens ≡ length ts
  pub made : st.made ≡ node_count ts
  pub used : st.used ≡ length (blob_bytes ts)

-- numbers of a build that fit their widths: those of every valid vocabulary do
pub record Small (st : Build) : Type 0 where
  pub tokens : st.tokens ≤ 65535
  pub made : (1 ≤ st.made) × (st.made < 16777216)
  pub used : st.used < 16777216

-- ---- a token more

-- the room that a push is given: the table plays no part in it
abbrev pub room_for : Nodes → List ℕ → ℕ → Room
room_for ns bl table = record { nodes = room ns; blob = length bl; table = table }

-- what entering a token among the nodes answers: roots and nodes stand for the tokens with it then, unless it is refused
abbrev pub EnteredAs : List ℤ → List ℕ → Nodes → Build → Token → Entered → List ℕ → Nodes → Type 0
EnteredAs s rs ns st t r rs' ns' =
    (ts : List Token) (os bl : List ℕ) → Built ts s os bl rs ns st → Reads (last_id ts) t → Grown ts t (room ns) r rs' ns'

-- Ok: 16 to 18 passed, and the memory holds the tokens with this one. Err: the refusal that the table gives.
abbrev pub PushedAs : Room → List Token → Token → Result Build Refusal → List ℤ → List ℕ → List ℕ → List ℕ → Nodes → Type 0
PushedAs r ts t (Ok st) s os bl rs ns = (admit r ts t ≡ pass (ts ++ (t ∷ []))) × Built (ts ++ (t ∷ [])) s os bl rs ns st
PushedAs r ts t (Err e) s os bl rs ns = admit r ts t ≡ refuse (number e)

abbrev pub PushedIn : Room → List Token → Token → Result Build Refusal → MemoryMut → Nodes → Type 0
PushedIn r ts t p m ns = PushedAs r ts t p m.single.now m.offsets.now m.blob.now m.roots.now ns

-- ---- a token's own cells

-- a value of `single` that is an id
abbrev pub is_taken : ℤ → Bool
is_taken (pos n) = true
is_taken (negsuc n) = false

-- a token of one byte among the others: seen before, or no node more
abbrev pub one_entered : List ℤ → ℕ → ℕ → Entered
one_entered s made b = cond (is_taken (get_or s b (pos 0))) (Err SeenBefore) (Ok made)

-- a token of one byte has its id in `single`
unfoldable pub set_single : List ℤ → ℕ → List ℕ → List ℤ
set_single s id bs = cond (eqb (length bs) 1) (set s (get_or bs 0 0) (pos id)) s

-- "Entry i is the blob length before id i; absent ids repeat it": from behind the previous id up to this one
abbrev pub set_offsets : List ℕ → ℕ → ℕ → ℕ → List ℕ
set_offsets os previous id total = sets os (previous + 1) (replicate (id - previous) total)
