-- What the parts of a load leave: one record, the records of a source one by one, and the build of all of them. Assumes nothing.
use Rattle.std.specs.Prelude.{◌≡◌, Bool, List, ℕ, ℤ, Result, Ok, Err}
use Rattle.spec.specs.Check.{pass, refuse}
use Rattle.spec.specs.Token.{Token}
use Rattle.spec.specs.Memory.{Memory, memory_of}
use Rattle.spec.specs.Load.{Room, Form, accepted, refused, counts_of, take_one, finish, load}
use Rattle.nodes.specs.Run.{Nodes}
use Rattle.tokens.specs.Built.{Built}
use Rattle.tokens.specs.declared.Build.{Build}
use Rattle.refusals.specs.Numbers.{number}
use Rattle.refusals.specs.Places.{place_of}
use Rattle.refusals.specs.declared.Refusal.{Refusal}
use Rattle.refusals.specs.declared.LoadError.{LoadError}
use Rattle.answers.specs.Answers.{count_of}
use Rattle.answers.specs.declared.Counts.{Counts}

-- Ok: the record passed, and the memory holds its token with those before. Err: by the number that the table gives. The room is given by
-- that of the table, which plays no part in it.
abbrev pub TakenAs : Form → (ℕ → Room) → List Token → List ℕ → Result Build Refusal → List ℤ → (os bl rs : List ℕ) → Nodes → Type 0
TakenAs form r ts part (Ok st) s os bl rs ns =
    (us : List Token) × ((table : ℕ) → take_one form (r table) ts part ≡ pass us) × Built us s os bl rs ns st
TakenAs form r ts part (Err e) s os bl rs ns = (table : ℕ) → take_one form (r table) ts part ≡ refuse (number e)

-- Ok: the records passed, and the memory holds their tokens. Err: by the number and at the line that the table gives.
abbrev pub RecordsAs : Form → Bool → Room → List ℕ → Result Build LoadError → List ℤ → (os bl rs : List ℕ) → Nodes → Type 0
RecordsAs form partial r body (Ok st) s os bl rs ns =
    (ts : List Token) × (load form partial r body ≡ finish partial r ts) × Built ts s os bl rs ns st
RecordsAs form partial r body (Err e) s os bl rs ns = load form partial r body ≡ refused (number e.refusal) (place_of e.place)

-- Ok: the source's tokens, their counts, and the memory that they leave where m was. Err: as the table has it.
abbrev pub BuiltAs : Form → Bool → Room → List ℕ → Result Counts LoadError → (m m' : Memory) → Type 0
BuiltAs form partial r body (Ok c) m m' =
    (ts : List Token) × (load form partial r body ≡ accepted ts) × (count_of c ≡ counts_of ts) × (m' ≡ memory_of ts m)
BuiltAs form partial r body (Err e) m m' = load form partial r body ≡ refused (number e.refusal) (place_of e.place)
