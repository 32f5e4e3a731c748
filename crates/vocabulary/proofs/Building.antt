-- The room of a build is that of its load: memory m₁ is what emptying m₀ left.
use Rattle.std.specs.Prelude.{◌≡◌, refl, Bool, List, ℕ, length}
use Rattle.std.proofs.Common.{ap, sym, subst, ◌∙◌}
use Rattle.spec.specs.Token.{Token}
use Rattle.spec.specs.Memory as spec
use Rattle.spec.specs.Load.{Room, Form, Outcome, table_room, finish, load, Start, start_of}
use Rattle.nodes.specs.Run.{Nodes}
use Rattle.memory.specs.Lent.{SameSlices}
use Rattle.memory.specs.declared.MemoryMut.{MemoryMut}
use Rattle.tokens.specs.Built.{room_for}
use Rattle.source.specs.SourceAnswers.{form_of}
use Rattle.source.specs.declared.How.{How}
use Rattle.vocabulary.proofs.RecordTurns.{same-room}

module _ (form : Form) (partial : Bool) (body : List ℕ) (ns : Nodes) (m₀ m₁ : MemoryMut) (S : SameSlices m₀ m₁) (table : ℕ) where
  room_is : room_for ns m₁.blob.now table ≡ room_for ns m₀.blob.now table
  room_is = same-room ns ns m₁.blob.now m₀.blob.now table refl S.blob.1

  pub loads_same : (o : Outcome) → load form partial (room_for ns m₁.blob.now table) body ≡ o
      → load form partial (room_for ns m₀.blob.now table) body ≡ o
  loads_same o e = subst (λ (r : Room). load form partial r body ≡ o) room_is e

  pub reads_same : (ts : List Token)
      → load form partial (room_for ns m₁.blob.now table) body ≡ finish partial (room_for ns m₁.blob.now table) ts
      → load form partial (room_for ns m₀.blob.now table) body ≡ finish partial (room_for ns m₀.blob.now table) ts
  reads_same ts e = subst (λ (r : Room). load form partial r body ≡ finish partial r ts) room_is e

-- the capacity of the table is a matter of lengths
pub table_same : (a b : List ℕ) (used bases : ℕ) → length b ≡ length a → table_room (length a) used bases ≡ table_room (length b) used bases
table_same a b used bases e = ap (λ (n : ℕ). table_room n used bases) (sym e)

-- a start over what is lent for reading is one over the same memory, lent for a load
pub starts_as : (how : How) (s : List ℕ) {a m : spec.Memory} {st : Start} → a ≡ m → st ≡ start_of (form_of how.form) how.partial a s
    → start_of (form_of how.form) how.partial m s ≡ st
starts_as how s e h = sym (h ∙ ap (λ (m : spec.Memory). start_of (form_of how.form) how.partial m s) e)
