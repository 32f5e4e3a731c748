use Rattle.std.proofs.Common.{◌<◌, sym, subst, arith}
use Rattle.std.proofs.lemmas.Result.{err_from_is_err_and}
use Rattle.spec.specs.Memory.{Memory}
use Rattle.tokens.specs.Built.{Built}
use Rattle.ending.proofs.BuildEnd.{single_of, finished_as_stated, end_kept}
use Rattle.builder.proofs.finish.Goals as goal

pub returns-in_err-stop_of-clause-stands : goal.returns-in_err-stop_of-clause-stands
returns-in_err-stop_of-clause-stands c = λ blob most ts em B.
    let m = c.args.memory.now in
    let ns = c.args.work.now.nodes.now in
    let p = err_from_is_err_and c.from_residual.result c.from_residual.ensures.1 in
    let B' = subst (λ (x : Memory). Built ts x.single m.offsets.now blob m.roots.now ns c.args.st) (sym c.as_memory.ensures) B in
    rw (p.1, p.2)
    (c.in_err-stop_of.ensures.stops most ts m.offsets.now blob m.roots.now ns m.table.now m.offsets.now m.roots.now m.table.now B')

pub returns-clause-stands : goal.returns-clause-stands
returns-clause-stands c = λ blob most ts em B.
    let m = c.args.memory.now in
    let st = c.args.st in
    let B' = subst (λ (x : Memory). Built ts x.single m.offsets.now blob m.roots.now c.args.work.now.nodes.now st) (sym c.as_memory.ensures)
    B in
    let p = c.pack-packed in
    let goes = c.in_ok-stop_of.ensures.goes in
    let small : st.previous < 65536 = omega arith in
    finished_as_stated c.args.partial most B m.table.now c.set_offsets.new.offsets p.new.roots p.new.table goes.0 (goes.1 ts (single_of B'))
    _ em p.result (p.ensures.stands ts B.valid B.stands B.made) c.requires.0.offsets small c.set_offsets.ensures c.finished_of.result
    c.finished_of.ensures

pub returns-clause-kept : goal.returns-clause-kept
returns-clause-kept c =
    let st = c.args.st in
    let small : st.previous < 65536 = omega arith in
    end_kept st.previous st.used small c.set_offsets.ensures c.pack-packed.ensures.kept.behind
