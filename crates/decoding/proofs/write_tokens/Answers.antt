-- `decoding::write_tokens` meets its contract: the bytes of the ids passed stand in the output. Assumes nothing.
use Rattle.std.proofs.Common.{sym, ◌∙◌, arith, get_or}
use Rattle.memory.specs.Lent.{cells_of}
use Rattle.decoding.proofs.DecodePasses.{next-token, rest_size, token-copied, written_none, written-more}
use Rattle.decoding.proofs.write_tokens.Goals as goal

pub loop-id-init : goal.loop-id-init
loop-id-init c = written_none _ _ _

pub part_of-start-requires : goal.part_of-start-requires
part_of-start-requires c =
    let l = c.loop-id in
    let t = next-token (cells_of c.args.memory) c.args.ids.now l.id-index l.at _ c.requires l.invariant.joined c.loop-id-test.true in
    (t.token.paired, t.token.ordered)

pub slice_bounds-copy_token-count : goal.slice_bounds-copy_token-count
slice_bounds-copy_token-count c =
    let l = c.loop-id in
    let t = next-token (cells_of c.args.memory) c.args.ids.now l.id-index l.at _ c.requires l.invariant.joined c.loop-id-test.true in
    omega (arith, t.token.inside, t.token.ordered, c.part_of-start.ensures.0)

pub slice_bounds-copy_token-start : goal.slice_bounds-copy_token-start
slice_bounds-copy_token-start c =
    let l = c.loop-id in
    let t = next-token (cells_of c.args.memory) c.args.ids.now l.id-index l.at _ c.requires l.invariant.joined c.loop-id-test.true in
    omega (arith, t.token.inside, t.token.ordered, c.part_of-start.ensures.0)

pub copy_token-requires : goal.copy_token-requires
copy_token-requires c =
    let l = c.loop-id in
    let t = next-token (cells_of c.args.memory) c.args.ids.now l.id-index l.at _ c.requires l.invariant.joined c.loop-id-test.true in
    let p = c.part_of-start.ensures in (
      rw rest_size (omega (arith, t.token.inside, t.token.ordered, p.0, p.1)),
      rw rest_size (omega (arith, t.room, t.token.size, p.1)),
    )

pub overflow_add-at : goal.overflow_add-at
overflow_add-at c =
    let l = c.loop-id in
    let t = next-token (cells_of c.args.memory) c.args.ids.now l.id-index l.at _ c.requires l.invariant.joined c.loop-id-test.true in
    omega (arith, t.room, t.token.size, c.part_of-start.ensures.1)

pub loop-id-preserved : goal.loop-id-preserved
loop-id-preserved c =
    let l = c.loop-id in
    let m = cells_of c.args.memory in
    let i = get_or c.args.ids.now l.id-index 0 in
    let t = next-token m c.args.ids.now l.id-index l.at _ c.requires l.invariant.joined c.loop-id-test.true in
    let p = c.part_of-start.ensures in
    let size = rest_size l.out l.at in
    written-more m c.args.ids.now l.id-index l.at l.out l.invariant c.copy_token.new.room _ _ _ c.loop-id-test.true
    (omega arith) (omega (arith, t.room, t.token.size, p.1)) t (p.1 ∙ sym t.token.size)
    (token-copied m i _ _ _ t.token p.0 p.1 c.copy_token.ensures)
