-- `characters::encode` meets its contract. Assumes nothing.
use mathlib.Core.Path.{◌∙◌, ap, sym}
use Prim.Native.Nat.{ℕ}
use lib.ListN.{length}
use Rattle.std.proofs.lemmas.List.{drop-replicate}
use Rattle.characters.specs.CharacterBytes.{encoded_as}
use Rattle.characters.proofs.Table.{encode-table, none_outside}
use Rattle.characters.proofs.encode.Goals as goal

pub returns-in_default : goal.returns-in_default
returns-in_default c = ap encoded_as (sym (none_outside c.args.c c.in_default.ensures.cases))

pub returns : goal.returns
returns c =
    let text = c.encode_utf8-text.result.now in
    let given = c.in-Some.ensures in
    let same = c.encode_utf8-text.ensures.value ∙ rw given.value.1 (encode-table c.args.c given.cases) in
    let copied = c.copy_from_slice.ensures.after ∙ c.as_bytes.ensures.value in
    rw (copied, drop-replicate {X = ℕ} (length text) 4 0) (ap encoded_as same)
