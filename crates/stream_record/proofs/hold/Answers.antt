-- `stream_record::hold` meets its contract: zeros, with the bytes copied to their start. Assumes nothing.
use Rattle.std.proofs.Common.{List, ℕ, ◌++◌, ap₂, length}
use Rattle.std.proofs.lemmas.List.{drop-replicate}
use Rattle.stream_record.proofs.hold.Goals as goal

pub returns : goal.returns
returns c =
    ap₂ (λ (x y : List ℕ). x ++ y) c.copy_from_slice.ensures.after (drop-replicate (length c.args.rest.now) 254 0)
