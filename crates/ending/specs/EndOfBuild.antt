-- What a build has to answer at its end. Definitions only. Assumes nothing.
use Rattle.std.specs.Prelude.{◌≡◌, Bool, ℕ, ◌≤◌, ℤ, length, take, Option, None, Some, Result, Ok, Err}
use mathlib.Core.List.{List, Memᴰ as Mem}
use Rattle.spec.specs.Lists.{over}
use Rattle.spec.specs.Token.{Token}
use Rattle.spec.specs.Layout.{table_words}
use Rattle.spec.specs.Memory.{single_list, offset_list, root_list, table_list, padded}
use Rattle.spec.specs.Load.{Room, accepted, refused, finish}
use Rattle.refusals.specs.Numbers.{number}
use Rattle.refusals.specs.Places.{place_of}
use Rattle.refusals.specs.declared.LoadError.{LoadError}
use Rattle.refusals.specs.declared.Refusal.TheVariants.{TableFull}

-- the first cells of `single` are those of the tokens, and 0 is no token's id
pub record SingleOf (ts : List Token) (s : List ℤ) : Type 0 where
  pub low : (u : Token) → Mem u ts → 1 ≤ u.id
  pub cells : take 256 s ≡ single_list ts

-- Ok: 19 to 21 passed; offsets, roots and table are those of the tokens, the table has so many words. Err: refused, by the number and the
-- place that the table of refusals gives.
abbrev pub FinishedAs : Bool → Room → List Token → Result ℕ LoadError → (os rs tb os' rs' tb' : List ℕ) → Type 0
FinishedAs partial r ts (Ok n) os rs tb os' rs' tb' =
    (finish partial r ts ≡ accepted ts) × (n ≡ table_words ts)
    × (os' ≡ over (offset_list ts) os) × (rs' ≡ over (root_list ts) rs) × (tb' ≡ padded (table_list ts) (length tb))
FinishedAs partial r ts (Err e) os rs tb os' rs' tb' = finish partial r ts ≡ refused (number e.refusal) (place_of e.place)

-- the answer after packing
abbrev pub finished_of : Option ℕ → Result ℕ LoadError
finished_of (Some n) = Ok n
finished_of None = Err (record { refusal = TableFull; place = None })
