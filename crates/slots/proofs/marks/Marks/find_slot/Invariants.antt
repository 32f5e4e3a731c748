-- The loop: every slot before word i is refused.
use Rattle.std.proofs.Common.{◌≡◌, ◌∷◌, ℕ, ◌*◌, ◌≤◌, ◌<◌, true}
use Rattle.slots.specs.Marks.{bad_at}
use Rattle.slots.proofs.marks.Marks.find_slot.Given as goal

abbrev pub invariant-loop-i : goal.invariant-loop-i
invariant-loop-i l = (s : ℕ) → l.from * 64 ≤ s → s < l.i * 64 → bad_at l.self.used.now l.self.bases.now (l.first ∷ l.others) s ≡ true
