use Rattle.std.proofs.Common.{arith}
use Rattle.tokens.proofs.Stores.{part_written}
use Rattle.tokens.proofs.write.Goals as goal

pub returns-clause-blob : goal.returns-clause-blob
returns-clause-blob c =
    part_written c.args.st.used _ c.args.blob.now _ c.args.token.bytes.now c.copy_from_slice.ensures.after (omega arith) c.requires.3
