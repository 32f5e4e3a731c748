-- `lossy::token_of` meets its contract. Assumes nothing.
use Rattle.std.proofs.Common.{◌≡◌, ◌+◌, ◌-◌, ap, sym, ◌∙◌, take, drop, arith, ℕ}
use Rattle.memory.specs.Lent.{cells_of}
use Rattle.decoding.proofs.LookupLaws.{present}
use Rattle.lossy.proofs.token_of.Goals as goal

pub part_of-start-requires : goal.part_of-start-requires
part_of-start-requires c =
    let t = present (cells_of c.args.memory) c.args.id c.requires in
    (t.paired, t.ordered)

pub overflow_add-result : goal.overflow_add-result
overflow_add-result c =
    let t = present (cells_of c.args.memory) c.args.id c.requires in
    let p = c.part_of-start.ensures in
    omega (arith, t.inside, t.ordered, p.0, p.1)

pub slice_bounds-result-end : goal.slice_bounds-result-end
slice_bounds-result-end c =
    let t = present (cells_of c.args.memory) c.args.id c.requires in
    let p = c.part_of-start.ensures in
    omega (arith, t.inside, t.ordered, p.0, p.1)

pub returns : goal.returns
returns c =
    let t = present (cells_of c.args.memory) c.args.id c.requires in
    let p = c.part_of-start.ensures in
    let r = c.part_of-start.result in
    let k : r.start + r.len - r.start ≡ r.len = omega arith in
    ap (λ (n : ℕ). take n (drop r.start c.args.memory.blob.now)) k ∙ rw (p.0, p.1) (sym t.bytes)
