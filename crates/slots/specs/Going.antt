-- What the marks, the cursors and the first word that is not full have to do with the nodes placed so far; what placing one more answers.
-- Assumes nothing.
use Rattle.std.specs.Prelude.{◌≡◌, ◌⊎◌, true, false, List, [], ◌∷◌, ℕ, ◌+◌, ◌*◌, ◌/◌, ◌≤◌, ◌<◌, max, get_or, Option, Some, None}
use Rattle.std.specs.Int.Bits.{bit_xor}
use Rattle.spec.specs.Layout.{Put, used, taken, free, words, top, choose, put}
use Rattle.laws.specs.Nodes.{ByteLabels}
use Rattle.laws.specs.MarkLaws.{marked}
use Rattle.slots.specs.Marks.{open_on}
use Rattle.slots.specs.declared.Front.{Front}

-- the marks of the first 64 end slots stand for the nodes xs that are placed
pub record MarksOk (L : List ℕ → List ℕ) (xs : List Put) (U B : List ℕ) (end : ℕ) : Type 0 where
  pub slots : (s : ℕ) → s < end * 64 → marked U s ≡ taken L xs s
  pub bases : (b : ℕ) → b < end * 64 → marked B b ≡ used xs b

module _ (L : List ℕ → List ℕ) where
  -- what lies before a label's cursor is refused for a node of this label alone
  abbrev pub CursorsOk : List Put → List ℕ → Type 0
  CursorsOk xs C = (l s : ℕ) → l < 256 → 256 ≤ s → s < get_or C l 0 * 64 → free L xs (l ∷ []) (bit_xor s l) ≡ false

  -- every slot before word `from` is taken; `high` is the highest block used, and lies below word `end`
  pub record FrontOk (xs : List Put) (from high end : ℕ) : Type 0 where
    pub low : 4 ≤ from
    pub full : (s : ℕ) → 256 ≤ s → s < from * 64 → taken L xs s ≡ true
    pub high_is : high ≡ top xs
    pub room : words xs ≤ end * 64

  -- where the nodes of xs are placed
  pub record Going (xs : List Put) (U B C : List ℕ) (from high end : ℕ) : Type 0 where
    pub small : ByteLabels L
    pub front : FrontOk xs from high end
    pub marks : MarksOk L xs U B end
    pub cursors : CursorsOk xs C

  -- node p is placed; the marks and cursors stand for that
  pub record PlacedAt (xs : List Put) (p : List ℕ) (end : ℕ) (U B C : List ℕ) (r : Option ℕ) : Type 0 where
    pub answer : r ≡ Some (choose L xs (L p))
    pub marks : MarksOk L (put L xs p) U B end
    pub cursors : CursorsOk (put L xs p) C

  -- the slot that node p takes lies past the capacity
  pub record PlacedPast (xs : List Put) (p : List ℕ) (end : ℕ) (r : Option ℕ) : Type 0 where
    pub answer : r ≡ None
    pub past : end * 64 < words (put L xs p)

  abbrev pub PlacedOr : List Put → List ℕ → ℕ → List ℕ → List ℕ → List ℕ → Option ℕ → Type 0
  PlacedOr xs p end U B C r = PlacedAt xs p end U B C r ⊎ PlacedPast xs p end r

-- ---- how far the placing is

-- where the placing is after a node with base b
abbrev pub onward : List ℕ → Front → ℕ → ℕ → Front
onward U at end b = record { from = open_on U at.from end; high = max (b / 256) at.high }

-- where the placing is after a node, if it has a base
abbrev pub passed_on : List ℕ → Front → ℕ → Option ℕ → Option Front
passed_on U at end (Some b) = Some (onward U at end b)
passed_on U at end None = None

-- the placing is within the capacity
pub record Within (at : Front) (end : ℕ) : Type 0 where
  pub from_le : at.from ≤ end
  pub high_le : at.high * 4 + 4 ≤ end
