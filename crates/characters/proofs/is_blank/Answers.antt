-- `characters::is_blank` meets its contract, at a character. Assumes nothing.
use mathlib.Core.Path.{◌∙◌, sym}
use Rattle.characters.proofs.BlankTurns.{blank-at-char}
use Rattle.characters.proofs.is_blank.Goals as goal

pub returns-then-not-is_white_space : goal.returns-then-not-is_white_space
returns-then-not-is_white_space c =
    let parts = c.split_at.ensures in
    let k = blank-at-char c.loop-rest.rest.now _ (sym c.in-Char.ensures) _ _ parts.front parts.back _ c.point_of.ensures _
    c.is_white_space.ensures in
    (rw c.if-not-is_white_space.true at (sym k)) ∙ c.loop-rest.invariant

pub loop-rest-preserved : goal.loop-rest-preserved
loop-rest-preserved c =
    let parts = c.split_at.ensures in
    let k = blank-at-char c.loop-rest.rest.now _ (sym c.in-Char.ensures) _ _ parts.front parts.back _ c.point_of.ensures _
    c.is_white_space.ensures in
    (rw c.if-not-is_white_space.false at (sym k)) ∙ c.loop-rest.invariant
