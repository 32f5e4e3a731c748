use Rattle.std.proofs.Common.{◌≡◌, ◌+◌, drop}
use Rattle.spec.specs.Match.{follow, enter}
use Rattle.spec.specs.LookedOn.{read_on, read_from}
use Rattle.matching.specs.Answers.{trail_of}
use Rattle.matching.proofs.enter.Given as goal

abbrev pub invariant-loop-byte : goal.invariant-loop-byte
invariant-loop-byte l = record {
  used : l.trail.used ≡ 2 + l.byte-index;
  same : follow l.table (drop l.byte-index l.rest) (trail_of l.trail) ≡ enter l.table l.root l.rest;
  read : l.trail.used + read_on l.table (drop l.byte-index l.rest) (trail_of l.trail).base ≡ 2 + read_from l.table l.root l.rest;
}
