-- `copies::copy_long` meets its contract: each part copied stands behind those before it. Assumes nothing.
use Rattle.std.proofs.Common.{arith, ◌≡◌, ◌+◌, ◌-◌, ap, ◌∙◌, subst, take, length, length-drop, ℕ}
use borrow.Rule.Slice.PartMut.{put_mid}
use Rattle.std.proofs.lemmas.List.{take_rest}
use Rattle.copies.proofs.Fronts.{more-copied}
use Rattle.copies.proofs.copy_long.Goals as goal

pub loop-at-preserved : goal.loop-at-preserved
loop-at-preserved c =
    let l = c.loop-at in (
      omega (arith, c.loop-at-test.true),
      more-copied l.room c.put_block.new.room c.args.from.now l.at _ 16
          (omega (arith, l.invariant.0, l.auto.room, c.requires.1))
          (omega (arith, c.put_block.auto.room, length-drop l.at l.room, l.auto.room, c.requires.1, c.loop-at-test.true))
          l.invariant.1 (c.put_block.ensures ∙ ap (take 16) (take_rest c.args.from.now l.at)),
    )

pub returns : goal.returns
returns c =
    let l = c.loop-at in
    let rest = c.args.len - l.at in
    let all : l.at + rest ≡ c.args.len = omega (arith, l.invariant.0) in
    let room = put_mid l.at (length l.room - l.at) l.room c.put_bytes.new.room in
    subst (λ (n : ℕ). take n room ≡ take n c.args.from.now) all
    (more-copied l.room c.put_bytes.new.room c.args.from.now l.at _ rest
    (omega (arith, l.invariant.0, l.auto.room, c.requires.1))
    (omega (arith, c.put_bytes.auto.room, length-drop l.at l.room, l.auto.room, c.requires.1))
    l.invariant.1 (c.put_bytes.ensures ∙ ap (take rest) (take_rest c.args.from.now l.at)))
