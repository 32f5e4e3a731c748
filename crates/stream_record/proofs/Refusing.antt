-- The refusals of a stream call, and what holds where there is none. Assumes nothing.
use mathlib.Core.Path.{◌≡◌, refl, sym}
use mathlib.Core.Bool.{Bool, true, false, ◌||◌, true≢false}
use Rattle.std.specs.Prelude.{None, Some}
use mathlib.Core.List.{List, []}
use Prim.Native.Nat.{ℕ, ◌+◌, ◌≤◌}
use native.Mathlib.Omega.{arith}
use lib.Dec.{eqb, leb, ltb}
use lib.ListN.{length}
use borrow.Author.Tests.{le-ltb, ltb-false}
use Rattle.spec.specs.Answer.{Answer}
use Rattle.spec.specs.Stream.{StreamRecord, add, end, call_refusal}

-- ── Tests joined by "or" ─────────────────────────────────────────────

or-none : (a b : Bool) → (a || b) ≡ false → (a ≡ false) × (b ≡ false)
or-none true b e = absurd (true≢false e)
or-none false b e = (refl, e)

-- ── The refusals ─────────────────────────────────────────────────────

-- "ended, or held above 254 or above total"
abbrev has_ended : StreamRecord → Bool
has_ended r = leb 2 r.phase || (ltb 254 r.held_len || ltb r.total r.held_len)

-- what holds of a record and of a piece and an output when no refusal does
pub record Passes (r : StreamRecord) (piece out : ℕ) : Type 0 where
  pub going : has_ended r ≡ false
  pub opened : eqb r.phase 1 ≡ false
  pub few : r.held_len ≤ 254
  pub held : r.held_len ≤ r.total
  pub total : r.total + piece ≤ 4294967295
  pub room : r.held_len + piece ≤ out

-- ── A call that goes through ─────────────────────────────────────────

pub absurd_none : {a : Answer} {A : Type 0} → Some a ≡ None → A
absurd_none e = let z : ◌≡◌ {A = ℕ} 0 1 = cc in absurd (omega arith)

module _ (r : StreamRecord) (piece out : List ℕ) where
  pub passes : None ≡ call_refusal r (add piece out) → Passes r (length piece) (length out)
  unfolding call_refusal
  passes n = go (has_ended r) refl (eqb r.phase 1) refl (ltb 4294967295 (r.total + length piece)) refl
      (ltb (length out) (r.held_len + length piece)) refl
    where
      go : (a : Bool) → has_ended r ≡ a → (b : Bool) → eqb r.phase 1 ≡ b
          → (c : Bool) → ltb 4294967295 (r.total + length piece) ≡ c → (d : Bool) → ltb (length out) (r.held_len + length piece) ≡ d
          → Passes r (length piece) (length out)
      go true p b q c s d t = absurd_none (rw (p, call_refusal) at (sym n))
      go false p true q c s d t = absurd_none (rw (p, call_refusal, q) at (sym n))
      go false p false q true s d t = absurd_none (rw (p, call_refusal, q, s) at (sym n))
      go false p false q false s true t = absurd_none (rw (p, call_refusal, q, s, t) at (sym n))
      go false p false q false s false t =
          let w = or-none (leb 2 r.phase) (ltb 254 r.held_len || ltb r.total r.held_len) p in
          let v = or-none (ltb 254 r.held_len) (ltb r.total r.held_len) w.1 in
          record {
            going = p;
            opened = q;
            few = ltb-false 254 r.held_len v.0;
            held = ltb-false r.total r.held_len v.1;
            total = ltb-false 4294967295 (r.total + length piece) s;
            room = ltb-false (length out) (r.held_len + length piece) t;
          }

-- an end is refused as an add of the empty piece
pub end_as_add : (r : StreamRecord) (out : List ℕ) → r.total ≤ 4294967295 → call_refusal r (add [] out) ≡ call_refusal r (end out)
unfolding call_refusal
end_as_add r out h = go (has_ended r) refl (eqb r.phase 1) refl
  where
    fits : ltb 4294967295 (r.total + 0) ≡ false
    fits = le-ltb 4294967295 (r.total + 0) (omega arith)

    go : (a : Bool) → has_ended r ≡ a → (b : Bool) → eqb r.phase 1 ≡ b → call_refusal r (add [] out) ≡ call_refusal r (end out)
    go true p b q = rw (p, call_refusal)
    go false p true q = rw (p, call_refusal) (rw q)
    go false p false q = rw (p, call_refusal) (rw q (rw fits))
