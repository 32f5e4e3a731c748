-- A run over a stretch of the input: what the contract of `run` cites. Assumes nothing.
use Rattle.std.specs.Prelude.{◌≡◌, true, List, ◌++◌, ℕ, ◌+◌, ◌≤◌, ◌<◌, length, drop, get_or}
use Rattle.spec.specs.Lists.{over}
use Rattle.spec.specs.Scan.{waiting, stuck, Run}
use Rattle.spec.specs.Memory.{Memory}
use Rattle.spec.specs.Match.{match_on, undecided_on}
use Rattle.spec.specs.LookedOn.{looked_on}
use Rattle.laws.specs.SumLaws.{Summed}
use Rattle.spec.specs.Stream.{run_on}
use Rattle.tally.specs.declared.Tally.{Tally}
use Rattle.runs.specs.declared.Ran.{Ran}
use Rattle.runs.specs.declared.Ran.TheVariants.{Through, Waiting, Stuck}

-- ids in front of a run
abbrev pub prepend : List ℕ → Run → Run
prepend ids r = record { ids = ids ++ r.ids; stop = r.stop }

-- S looks like src at every place before stop
pub record Alike (m : Memory) (src S : List ℕ) (stop : ℕ) : Type 0 where
  pub long : length src ≤ length S
  pub undecided : (i : ℕ) → i < stop → undecided_on m (drop i S) ≡ undecided_on m (drop i src)
  pub matched : (i : ℕ) → i < stop → match_on m (drop i S) ≡ match_on m (drop i src)
  pub looked : (i : ℕ) → i < stop → looked_on m (drop i S) ≡ looked_on m (drop i src)
  pub byte : (i : ℕ) → i < stop → get_or S i 0 ≡ get_or src i 0

-- the run from the place i of S, S standing at offset pos
abbrev pub run_from : Memory → ℕ → List ℕ → ℕ → Run
run_from m pos S i = run_on m (pos + i) 0 (drop i S)

-- the run of everything that looks like src comes to e
abbrev pub Runs : Memory → List ℕ → ℕ → (List ℕ → ℕ → Run) → Type 0
Runs m src stop e = (S : List ℕ) (pos : ℕ) → Alike m src S stop → run_on m pos 0 S ≡ e S pos

-- what the run has come to, with the ids that it wrote
abbrev pub Comes : Memory → List ℕ → ℕ → List ℕ → Ran → Type 0
Comes m src stop ids (Through at given) =
    (stop ≤ at) × (at ≤ length src) × Runs m src stop (λ S pos. prepend ids (run_from m pos S at))
Comes m src stop ids (Waiting at given) =
    (at < stop) × (undecided_on m (drop at src) ≡ true)
    × Runs m src stop (λ S pos. record { ids = ids; stop = waiting (pos + at) (drop at S) })
Comes m src stop ids (Stuck at given) =
    (at < stop) × Runs m src stop (λ S pos. record { ids = ids; stop = stuck (pos + at) (get_or src at 0) })

abbrev pub place_of : Ran → ℕ
place_of (Through at given) = at
place_of (Waiting at given) = at
place_of (Stuck at given) = at

abbrev pub given_of : Ran → Tally
given_of (Through at given) = given
given_of (Waiting at given) = given
given_of (Stuck at given) = given

-- so many bytes were looked at for the n ids of everything that looks like src before the place at
abbrev pub Looks : Memory → List ℕ → ℕ → ℕ → ℕ → ℕ → Type 0
Looks m src stop at n looked = (S : List ℕ) → Alike m src S stop → Summed m S at n looked

-- what a run writes and answers: its ids from the output's start, with their count and the bytes looked at for them, no more ids than bytes
-- passed
pub record RunsTo (m : Memory) (src : List ℕ) (stop : ℕ) (lent out : List ℕ) (r : Ran) : Type 0 where
  pub ids : List ℕ
  pub written : out ≡ over ids lent
  pub count : (given_of r).count ≡ length ids
  pub looked : Looks m src stop (place_of r) (length ids) (given_of r).looked
  pub few : length ids ≤ place_of r
  pub comes : Comes m src stop ids r
