-- What the loop keeps: the memory holds the tokens of the records before.
use Rattle.std.specs.Iterator.Adapters.{enumerate_source, enumerate_count}
use Rattle.line.specs.Answers.{lines_left}
use Rattle.vocabulary.proofs.RecordTurns.{Going}
use Rattle.vocabulary.proofs.records.take_records.Given as goal

abbrev pub invariant-loop-n : goal.invariant-loop-n
invariant-loop-n l =
    Going l.form l.body l.fn.memory l.fn.nodes l.memory l.nodes (enumerate_count l.n-iterator) (lines_left (enumerate_source l.n-iterator))
    l.st
