-- `decoding::measure` meets its contract: each id passed has bytes, and they fit. Assumes nothing.
use Rattle.std.proofs.Common.{sym, ap, ◌∙◌, arith, Bor, List, ℕ}
use Rattle.std.specs.Option.{option_map}
use Rattle.memory.specs.Lent.{cells_of}
use Rattle.decoding.proofs.LookupLaws.{no_bytes, found}
use Rattle.decoding.proofs.DecodePasses.{passed_none, passed-more, ends-whole, ends-absent, ends-full}
use Rattle.decoding.proofs.measure.Goals as goal

pub loop-index-init : goal.loop-index-init
loop-index-init c = passed_none _ _ _

pub returns-in_default : goal.returns-in_default
returns-in_default c =
    let a = c.args in
    let l = c.loop-index in
    let m = cells_of a.memory in
    ends-absent m a.room a.ids.now l.index l.len l.invariant c.loop-index-test.true
    (no_bytes _ (ap (option_map (λ (t : Bor (List ℕ)). t.now)) (sym c.in_default.is) ∙ c.lookup.ensures))

pub returns-then-token-room : goal.returns-then-token-room
returns-then-token-room c =
    let a = c.args in
    let l = c.loop-index in
    let m = cells_of a.memory in
    let t = found _ _ (ap (option_map (λ (t : Bor (List ℕ)). t.now)) (sym c.in-Some.is) ∙ c.lookup.ensures) in
    ends-full m a.room a.ids.now l.index l.len l.invariant c.loop-index-test.true (rw t.same t.some) (rw t.same (omega arith))

pub loop-index-preserved : goal.loop-index-preserved
loop-index-preserved c =
    let a = c.args in
    let l = c.loop-index in
    let m = cells_of a.memory in
    let t = found _ _ (ap (option_map (λ (t : Bor (List ℕ)). t.now)) (sym c.in-Some.is) ∙ c.lookup.ensures) in
    rw (← t.same)
    (passed-more m a.room a.ids.now l.index l.len l.invariant c.loop-index-test.true (rw t.same t.some) (rw t.same (omega arith)))

pub returns : goal.returns
returns c =
    let a = c.args in
    let l = c.loop-index in
    ends-whole (cells_of a.memory) a.room a.ids.now l.index l.len l.invariant c.loop-index-test.false
