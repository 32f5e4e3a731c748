-- How far the placing is after a node: what `onward` says of the nodes that are placed, and that it stays within the capacity.
-- Assumes nothing.
use mathlib.Core.Path.{◌≡◌}
use mathlib.Core.Bool.{not}
use mathlib.Core.List.{List}
use Prim.Native.Nat.{ℕ, ◌+◌, ◌-◌, ◌*◌, ◌%◌, ◌<◌, ◌≤◌}
use native.Mathlib.Omega.{arith}
use lib.Dec.{eqb}
use lib.ListN.{get_or}
use Rattle.spec.specs.Layout.{Put, put}
use Rattle.laws.specs.First.{from_most}
use Rattle.slots.specs.Marks.{open_on}
use Rattle.slots.specs.Going.{Going, PlacedAt, onward, Within}
use Rattle.slots.proofs.Chosen.{front-then}
use Rattle.slots.specs.declared.Front.{Front}
use Rattle.std.specs.Prelude.{Some}

-- node p has its base b: what stood for the nodes before it stands for them with it
pub going_on : (L : List ℕ → List ℕ) (xs : List Put) (p : List ℕ) (U' : List ℕ) (at : Front) (end b : ℕ) {B' C' : List ℕ}
    → PlacedAt L xs p end U' B' C' (Some b)
    → {U B C : List ℕ} → Going L xs U B C at.from at.high end → b < end * 64 → at.from ≤ end → end % 4 ≡ 0
    → Going L (put L xs p) U' B' C' (onward U' at end b).from (onward U' at end b).high end
going_on L xs p U' at end b {B'} P G low fe four = record {
  small = G.small;
  front = front-then L xs p U' B' at.from at.high end b G.front P.marks fe four (let e = P.answer in cc) low;
  marks = P.marks;
  cursors = P.cursors;
}

pub onward-within : (U : List ℕ) (at : Front) (end b : ℕ) → at.from ≤ end → at.high * 4 + 4 ≤ end → end % 4 ≡ 0 → b < end * 64
    → Within (onward U at end b) end
unfolding open_on
onward-within U at end b f h four k = record {
  from_le = (let t = from_most (λ i. not (eqb (get_or U i 0) 0xffffffffffffffff)) (end - at.from) at.from in omega arith);
  high_le = omega arith;
}
