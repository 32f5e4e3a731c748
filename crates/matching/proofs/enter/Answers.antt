-- `matching::enter` meets its contract. The loop's invariant: the walk from here is the walk from the root, and so is what is read. Assumes
-- nothing.
use Rattle.std.proofs.Common.{◌≡◌, ℕ, ◌+◌, not, ◌&&◌, eqb, false, Bool, refl, sym, ap, ◌∙◌, arith, drop_of_length-le}
use mathlib.Core.Bool.{and-false}
use borrow.Author.Tests.{eq-eqb, ne_eqb}
use Rattle.spec.specs.Match.{base_in, id_in, Walk, follow}
use Rattle.spec.specs.LookedOn.{read_on}
use Rattle.matching.specs.Answers.{trail_of}
use Rattle.matching.proofs.WalkBounds.{onto-used}
use Rattle.matching.proofs.Walking.{enter-none, enter-ends, enter-on, first_walk, stops_at, ends_at, goes_on_at}
use Rattle.matching.proofs.Reading.{read-stops, read-ends, reads-on, from-on}
use Rattle.laws.specs.SumLaws.{read_from-none, read_from-leaf}
use Rattle.matching.proofs.enter.Goals as goal
use Rattle.matching.proofs.enter.Goals.{else-id_in-ne0-via-then-id_in-ne0+else-root-eq0-2, else-id_in-ne0-via-else-id_in-ne0}

pub returns-then-root-eq0-clause-trail : goal.returns-then-root-eq0-clause-trail
unfolding id_in base_in
returns-then-root-eq0-clause-trail c = enter-none _ _ _ c.if-root-eq0.true

pub returns-then-root-eq0-clause-read : goal.returns-then-root-eq0-clause-read
returns-then-root-eq0-clause-read c = ap (λ (n : ℕ). 2 + n) (sym (read_from-none _ _ _ c.if-root-eq0.true))

pub returns-then-root-eq0-2-clause-trail : goal.returns-then-root-eq0-2-clause-trail
unfolding base_in
returns-then-root-eq0-2-clause-trail c =
    first_walk _
    ∙ enter-ends _ _ _ c.if-root-eq0.false
    (λ z. c.if-id_in-ne0.true (c.id_in.ensures ∙ z)) c.if-root-eq0-2.true

pub returns-then-root-eq0-2-clause-read : goal.returns-then-root-eq0-2-clause-read
unfolding base_in
returns-then-root-eq0-2-clause-read c =
    ap (λ (n : ℕ). 2 + n)
    (sym (read_from-leaf _ _ _ (λ z. c.if-id_in-ne0.true (c.id_in.ensures ∙ z)) c.if-root-eq0-2.true))

pub loop-byte-init : goal.loop-byte-init
unfolding base_in
loop-byte-init c =
    let test : (not (eqb (id_in c.args.root) 0) && eqb (base_in c.args.root) 0) ≡ false =
    elim c.else-id_in-ne0.branch [
      | else-id_in-ne0-via-then-id_in-ne0+else-root-eq0-2 w ↦
          ap (λ (b : Bool). not (eqb (id_in c.args.root) 0) && b) (ne_eqb (base_in c.args.root) 0 w.if-root-eq0-2.false)
          ∙ and-false (not (eqb (id_in c.args.root) 0))
      | else-id_in-ne0-via-else-id_in-ne0 w ↦
          ap (λ (a : Bool). not a && eqb (base_in c.args.root) 0)
          (eq-eqb (id_in c.args.root) 0 (sym c.id_in.ensures ∙ w.if-id_in-ne0.false))
    ] in
    record {
      used = refl;
      same = ap (follow _ _) (first_walk _) ∙ enter-on _ _ _ c.if-root-eq0.false test;
      read = ap (λ (n : ℕ). 2 + n) (sym (from-on _ _ _ c.if-root-eq0.false test));
    }

pub returns-in_default-clause-trail : goal.returns-in_default-clause-trail
returns-in_default-clause-trail c =
    stops_at _ _ _ c.loop-byte-test.true _ (sym c.in_default.ensures) ∙ c.loop-byte.invariant.same

pub returns-in_default-clause-read : goal.returns-in_default-clause-read
returns-in_default-clause-read c =
    ap (λ (n : ℕ). c.loop-byte.trail.used + n) (sym (read-stops _ _ _ c.loop-byte-test.true _ (sym c.in_default.ensures)))
    ∙ c.loop-byte.invariant.read

pub returns-then-word-eq0-clause-trail : goal.returns-then-word-eq0-clause-trail
unfolding base_in
returns-then-word-eq0-clause-trail c =
    ends_at _ _ _ c.loop-byte-test.true _ _ (sym c.in-Some.ensures) _ c.onto-trail.ensures c.if-word-eq0.true
    ∙ c.loop-byte.invariant.same

pub returns-then-word-eq0-clause-read : goal.returns-then-word-eq0-clause-read
unfolding base_in
returns-then-word-eq0-clause-read c =
    ap (λ (k : Walk). k.used) c.onto-trail.ensures ∙ onto-used _ _ _
    ∙ ap (λ (n : ℕ). c.loop-byte.trail.used + n)
    (sym (read-ends _ _ _ c.loop-byte-test.true _ _ (sym c.in-Some.ensures) c.if-word-eq0.true))
    ∙ c.loop-byte.invariant.read

pub loop-byte-preserved : goal.loop-byte-preserved
unfolding base_in
loop-byte-preserved c =
    let n = ap (λ (k : Walk). k.used) c.onto-trail.ensures ∙ onto-used _ _ _ in
    record {
      used = omega (arith, n);
      same =
          goes_on_at _ _ _ c.loop-byte-test.true _ _ (sym c.in-Some.ensures) _ c.onto-trail.ensures c.if-word-eq0.false
          ∙ c.loop-byte.invariant.same;
      read =
          reads-on _ _ _ c.loop-byte-test.true _ _ (sym c.in-Some.ensures) c.if-word-eq0.false _ c.onto-trail.ensures _
          c.loop-byte.invariant.read;
    }

pub returns-clause-trail : goal.returns-clause-trail
unfolding follow
returns-clause-trail c =
    sym (ap (λ l. follow c.args.table.now l (trail_of c.loop-byte.trail))
    (drop_of_length-le c.args.rest.now c.loop-byte-test.false)) ∙ c.loop-byte.invariant.same

pub returns-clause-read : goal.returns-clause-read
unfolding read_on
returns-clause-read c =
    let none = ap (λ l. read_on c.args.table.now l (trail_of c.loop-byte.trail).base)
    (drop_of_length-le c.args.rest.now c.loop-byte-test.false) in
    let before = c.loop-byte.invariant.read in
    omega (arith, none, before)
