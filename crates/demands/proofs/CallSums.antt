-- The bytes looked at that a stream call carries are at most 255 for each id that it hands out, on any memory and any stream.
-- Assumes nothing.
use mathlib.Core.Path.{sym, ap, subst}
use mathlib.Core.Bool.{Bool, true, false}
use Rattle.std.specs.Prelude.{Option, None, Some}
use mathlib.Core.List.{List, ◌++◌}
use Prim.Native.Nat.{ℕ, ◌+◌, ◌-◌, ◌*◌, ◌≤◌}
use native.Mathlib.Omega.{arith}
use lib.ListN.{length, take, get_or}
use Rattle.spec.specs.Scan.{End, done, failed, Stop, waiting, stuck}
use Rattle.spec.specs.Answer.{Answer, bare}
use Rattle.spec.specs.Memory.{Memory, too_short}
use Rattle.spec.specs.Stream.{StreamRecord, Call, add, end, call_refusal, scan_on, run_on, Called, unchanged, added, closed, goes_through}
use Rattle.spec.specs.Stream.{or_else, call_on}
use Rattle.laws.specs.SumLaws.{sum-short}
use Rattle.stream_record.specs.Answers.{record_of}
use Rattle.demands.specs.DemandTheorems.{answer_in, SumShort, CallShort, CallShortLent, CallShortByValue}

abbrev Short : Called → Type 0
Short d = SumShort d.answer d.looked

added-short : (total : ℕ) (ids : List ℕ) (looked : ℕ) (z : Stop) → looked ≤ 255 * length ids → Short (added total ids looked z)
added-short total ids looked (waiting pos rest) h = h
added-short total ids looked (stuck pos b) h = h

closed-short : (total : ℕ) (ids : List ℕ) (looked : ℕ) (z : End) → looked ≤ 255 * length ids → Short (closed total ids looked z)
closed-short total ids looked done h = h
closed-short total ids looked (failed pos b) h = h

through-short : (m : Memory) (r : StreamRecord) (c : Call) → Short (goes_through m r c)
unfolding goes_through
through-short m r (add piece out) =
    let s = take r.held_len r.held ++ piece in
    let u = run_on m (r.total - r.held_len) 0 s in
    added-short (r.total + length piece) u.ids _ u.stop (sum-short m (length u.ids) 0 s)
through-short m r (end out) =
    let s = take r.held_len r.held in
    let u = scan_on m (r.total - r.held_len) 0 s in
    closed-short r.total u.ids _ u.end (sum-short m (length u.ids) 0 s)

refused-short : (o : Option Answer) (r : StreamRecord) (d : Called) → Short d → Short (or_else o r d)
refused-short None r d h = h
refused-short (Some a) r d h = omega arith

pub call-short : CallShort
unfolding call_on
call-short m r c = go (too_short m)
  where
    go : (b : Bool) → Short (elim b [
      | true ↦ unchanged r (bare 1)
      | false ↦ or_else (call_refusal r c) r (goes_through m r c)
    ])
    go true = omega arith
    go false = refused-short (call_refusal r c) r (goes_through m r c) (through-short m r c)

pub call-short-lent : CallShortLent
call-short-lent m s c g l =
    subst (λ (x : List ℕ). SumShort (answer_in g.number x) (get_or x 3 0)) (sym l.values) (call-short m (record_of s) c)

pub call-short-by_value : CallShortByValue
call-short-by_value m s c g l =
    let h = call-short m (record_of s) c in
    omega (arith, l.looked, ap (λ (a : Answer). a.count) l.answer)
