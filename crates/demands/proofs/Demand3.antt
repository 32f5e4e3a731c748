-- Demand 3, one claim over every list of calls, refused ones included: the calls on loaded memory are those of the plain stream.
-- Assumes nothing.
use mathlib.Core.Path.{◌≡◌, refl, ◌∙◌, subst}
use mathlib.Core.Bool.{false}
use mathlib.Core.List.{List, [], ◌∷◌}
use Rattle.spec.specs.Token.{Token}
use Rattle.spec.specs.Valid.{Valid}
use Rattle.spec.specs.Scan.{run_at}
use Rattle.spec.specs.Memory.{Memory, too_short}
use Rattle.spec.specs.Stream.{StreamRecord, fresh, Call, call_on}
use Rattle.spec.specs.Plain.{Plain, start, record_of, Follows, reply_to, replies_on, BytePieces}
use Rattle.spec.specs.Theorems.{Demand3}
use Rattle.laws.specs.Matching.{matching}
use Rattle.laws.specs.Deciding.{deciding}
use Rattle.laws.specs.Looking.{looks-sum}
use Rattle.demands.proofs.OnTokens.{Agrees}
use Rattle.demands.proofs.Room.{loaded-long}
use Rattle.demands.proofs.CallsOnTokens.{Good, next}

pub replies_nil : (m : Memory) (r : StreamRecord) → replies_on m r [] ≡ []
unfolding replies_on
replies_nil m r = refl

pub replies_cons : (m : Memory) (r : StreamRecord) (c : Call) (cs : List Call)
    → replies_on m r (c ∷ cs) ≡ reply_to c (call_on m r c) ∷ replies_on m (call_on m r c).stream cs
unfolding replies_on
replies_cons m r c cs = refl

-- the plain stream follows the calls from p, where memory is given the record of p
module _ (m : Memory) (ts : List Token) (long : too_short m ≡ false) (v : Valid ts) (agrees : Agrees m ts) where
  follows : (p : Plain) → Good ts p → (cs : List Call) → BytePieces cs
      → (q : Plain) × Follows ts p cs (replies_on m (record_of ts p) cs) q
  follows p g [] h = (p, (replies_nil m (record_of ts p), refl))
  follows p g (c ∷ cs) h =
      let n = next m ts long v agrees p g c h.0 in
      let (q, f) = follows n.after n.good cs h.1 in (
        q,
        (
          reply_to c (call_on m (record_of ts p) c),
          replies_on m (record_of ts n.after) cs,
          n.after,
          replies_cons m (record_of ts p) c cs ∙ rw n.stream,
          n.steps,
          f,
        ),
      )

-- a fresh stream is the start of the plain stream
record_start : (ts : List Token) → record_of ts start ≡ fresh
unfolding record_of
record_start ts = refl

good_start : (ts : List Token) → Good ts start
unfolding run_at
good_start ts = record { bytes = tt; ids = refl; place = 0; held = []; stop = refl }

pub demand3 : Demand3
demand3 m ts l cs h =
    let agrees : Agrees m ts = record { matches = matching m ts l; decides = deciding m ts l; sums = looks-sum m ts l } in
    let (q, f) = follows m ts (loaded-long m ts l) l.valid agrees start (good_start ts) cs h in
    (q, subst (λ (r : StreamRecord). Follows ts start cs (replies_on m r cs) q) (record_start ts) f)
