-- `lossy::write_sure` meets its contract. Assumes nothing.
use Rattle.std.proofs.Common.{sym, ◌∙◌, arith}
use Rattle.lossy.proofs.LossyText.{text-room, moved-front, written-text, written-same}
use Rattle.lossy.proofs.write_sure.Goals as goal

pub returns-in_default : goal.returns-in_default
returns-in_default c =
    written-same _ _ _ _ c.requires.1 c.requires.2 c.write_tokens.ensures c.in_default.ensures

pub overflow_sub-from : goal.overflow_sub-from
overflow_sub-from c =
    (text-room _ _ _ _ c.requires.1 c.requires.2 c.write_tokens.ensures _ c.text_len-len.ensures).0

pub copy_within-requires-clause-dest_in_bounds : goal.copy_within-requires-clause-dest_in_bounds
copy_within-requires-clause-dest_in_bounds c =
    omega (arith, text-room _ _ _ _ c.requires.1 c.requires.2 c.write_tokens.ensures _ c.text_len-len.ensures)

pub slice_bounds-spread-end : goal.slice_bounds-spread-end
slice_bounds-spread-end c =
    omega (arith, text-room _ _ _ _ c.requires.1 c.requires.2 c.write_tokens.ensures _ c.text_len-len.ensures, c.copy_within.ensures.len)

pub slice_bounds-spread-end-2 : goal.slice_bounds-spread-end-2
slice_bounds-spread-end-2 c =
    sym (moved-front _ _ _ _ c.requires.1 c.requires.2 c.write_tokens.ensures _ c.text_len-len.ensures _ c.copy_within.ensures.after).0

pub spread-requires : goal.spread-requires
spread-requires c =
    let k = moved-front _ _ _ _ c.requires.1 c.requires.2 c.write_tokens.ensures _ c.text_len-len.ensures _ c.copy_within.ensures.after in
    (omega (arith, k.0), k.1 ∙ sym k.0)

pub returns : goal.returns
returns c =
    written-text _ _ _ _ c.requires.1 c.requires.2 c.write_tokens.ensures _ c.text_len-len.ensures _
    c.copy_within.ensures.after _ c.spread.ensures
