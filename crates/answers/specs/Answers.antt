-- What a load's answer means, in the terms of `spec`, and what it leaves: what the contracts of the entries cite. Assumes nothing.
use Rattle.std.specs.Prelude.{◌≡◌, List, ℕ, Result, Ok, Err}
use Rattle.spec.specs.Memory.{Memory}
use Rattle.spec.specs.Load.{nowhere, no_counts, LoadAnswer, LoadResult, Start, halts, goes}
use Rattle.spec.specs.Load as spec
use Rattle.nodes.specs.Run.{Nodes}
use Rattle.refusals.specs.Numbers.{number}
use Rattle.refusals.specs.Places.{place_of}
use Rattle.refusals.specs.declared.LoadError.{LoadError}
use Rattle.answers.specs.declared.Counts.{Counts}

-- "its counts of tokens, nodes, blob bytes and table words"
abbrev pub count_of : Counts → spec.Counts
count_of c = record { tokens = c.tokens; nodes = c.nodes; blob = c.blob; table = c.table }

-- document 01's number and values of an answer
abbrev pub answer_of : Result Counts LoadError → LoadAnswer
answer_of (Ok c) = record { number = 0; place = nowhere; counts = count_of c }
answer_of (Err e) = record { number = number e.refusal; place = place_of e.place; counts = no_counts }

-- the answer and the memory of a load
abbrev pub loaded : Result Counts LoadError → Memory → LoadResult
loaded a m = record { answer = answer_of a; memory = m }

-- A load that halts before any record has changed nothing: the work memory is as it was. Else its contents are free.
abbrev pub WorkKept : Start → (ns : Nodes) (us bs : List ℕ) (ns' : Nodes) (us' bs' : List ℕ) → Type 0
WorkKept (halts number place) ns us bs ns' us' bs' = (ns' ≡ ns) × (us' ≡ us) × (bs' ≡ bs)
WorkKept (goes mode body) ns us bs ns' us' bs' = Unit {0}
