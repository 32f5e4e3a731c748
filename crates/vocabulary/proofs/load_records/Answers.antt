-- What was built stands, or the memory is emptied.
use Rattle.std.proofs.Common.{◌∙◌}
use Rattle.answers.proofs.Settling.{long_kept, emptied-same, accepted-settles, refused-settles}
use Rattle.vocabulary.proofs.RecordTurns.{same_trans}
use Rattle.vocabulary.proofs.load_records.Goals as goal

pub empty-requires : goal.empty-requires
empty-requires c =
    let S = c.build_records.ensures.same in
    long_kept _ _ _ _ c.requires.0 S.single.1 S.offsets.1 S.roots.1

pub returns-in-Ok-clause-loads : goal.returns-in-Ok-clause-loads
returns-in-Ok-clause-loads c = accepted-settles _ _ _ _ _ c.in-Ok.counts _ c.in-Ok.ensures.built

pub returns-in-Err-clause-loads : goal.returns-in-Err-clause-loads
returns-in-Err-clause-loads c =
    let S = c.build_records.ensures.same in
    refused-settles _ _ _ _ _ c.in-Err.error _ c.in-Err.ensures.built
    (c.empty.ensures.emptied ∙ emptied-same c.build_records.ensures.kept _ _ _ _ S.blob.1 S.table.1)

pub returns-in-Err-clause-same : goal.returns-in-Err-clause-same
returns-in-Err-clause-same c = same_trans _ _ _ c.build_records.ensures.same c.empty.ensures.same
