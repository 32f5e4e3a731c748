-- All that lies before the start of the search is refused, so what is found from there is the smallest slot of all. A base stays in the
-- block of its slot.
use Rattle.std.proofs.Common.{◌≡◌, ◌∷◌, ◌*◌, ◌≤◌, ◌<◌, ℕ, List, Some, length, get_or, sym, ap, ◌∙◌, inl, inr, arith}
use Rattle.std.proofs.Common.{Fits, w8}
use lib.Bits.{bit_xor}
use Rattle.slots.specs.Marks.{Bounds}
use Rattle.slots.specs.declared.marks.Marks.{Marks}
use Rattle.slots.proofs.Place.{xor_below}
use Rattle.slots.proofs.Chosen.{sought-past, sought-at}
use Rattle.slots.proofs.marks.Marks.place.Goals as goal

bounds : (K : Marks) {from : ℕ} → from ≤ length K.used.now → Bounds K.used.now K.bases.now from
bounds K h = record { from_le = h; blocks = K.blocks; as_many = K.as_many; small = K.small }

-- the base of a slot that was found
base_in : (K : Marks) {slot s l first : ℕ} {labels others : List ℕ} → l ≡ first → labels ≡ first ∷ others → Fits w8 (get_or labels 0 0)
    → (slot ≡ s) × (s < length K.used.now * 64) → bit_xor slot l < length K.used.now * 64
base_in K {slot} {s} {l} e split b h =
    let byte = rw split at b in
    xor_below slot l (length K.used.now) (omega arith) K.blocks (omega arith)

pub returns-in_err-slot-clause-stands : goal.returns-in_err-slot-clause-stands
returns-in_err-slot-clause-stands c = λ L xs p high el some G.
    let split = sym c.in-Some.ensures.cases.0 ∙ el in
    let past = rw split at c.in_err-slot.ensures in
    rw c.from_residual.ensures
    (inr (sought-past L xs p _ _ _ _ high G (bounds c.args.self.now c.requires) (rw el at some) _ (rw split at c.start_of-start.ensures)
    (omega (arith, past))))

pub mark_slot-requires : goal.mark_slot-requires
mark_slot-requires c =
    let b = base_in c.args.self.now c.from.ensures c.in-Some.ensures.cases.0 (c.type_inv.labels 0) c.in_ok-slot.ensures in
    omega (arith, b, c.in_ok-slot.ensures, c.args.self.now.as_many)

pub mark_all-requires : goal.mark_all-requires
mark_all-requires c =
    let b = base_in c.args.self.now c.from.ensures c.in-Some.ensures.cases.0 (c.type_inv.labels 0) c.in_ok-slot.ensures in
    omega (arith, b, c.args.self.now.blocks)

pub remember-requires : goal.remember-requires
remember-requires c =
    let b = base_in c.args.self.now c.from.ensures c.in-Some.ensures.cases.0 (c.type_inv.labels 0) c.in_ok-slot.ensures in
    (c.args.self.now.each_label, omega (arith, b, c.args.self.now.small))

pub returns-clause-stands : goal.returns-clause-stands
returns-clause-stands c = λ L xs p high el some G.
    let split = sym c.in-Some.ensures.cases.0 ∙ el in
    let at = rw split at c.in_ok-slot.ensures in
    let M = sought-at L xs p _ _ _ _ high G (bounds c.args.self.now c.requires) (rw el at some) _ (rw split at c.start_of-start.ensures)
    _ _ _ _ (at.0, omega (arith, at)) (ap (bit_xor c.in_ok-slot.slot) (c.from.ensures ∙ ap (λ (l : List ℕ). get_or l 0 0) split))
    (rw el at c.mark_all.ensures) c.mark_slot.ensures.same in
    inl (record { answer = ap Some M.0; marks = M.1; cursors = c.remember.ensures L xs p split G.small M.0 G.cursors })

pub returns-clause-small : goal.returns-clause-small
returns-clause-small c = base_in c.args.self.now c.from.ensures c.in-Some.ensures.cases.0 (c.type_inv.labels 0) c.in_ok-slot.ensures
