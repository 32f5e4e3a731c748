-- What packing answers, and what it leaves. Document 01: "Table words are 256 × (1 + h)"; refusal 21, "table capacity below the layout's
-- words". Assumes nothing.
use Rattle.std.specs.Prelude.{◌≡◌, cond, List, ℕ, leb, length, Option, Some, None}
use Rattle.spec.specs.Lists.{over}
use Rattle.spec.specs.Token.{Token}
use Rattle.spec.specs.Layout.{table_words}
use Rattle.spec.specs.Memory.{padded, table_list, root_list}

-- the layout's words where they fit, else none: 21
unfoldable pub answer_for : List Token → ℕ → Option ℕ
unfolding table_words
answer_for ts cap = cond (leb (table_words ts) cap) (Some (table_words ts)) None

-- the answer; and unless it is none, the table's words with zeros after them, and the roots' words with the cells past them as they were
pub record PackedAs (ts : List Token) (cap : ℕ) (rs t : List ℕ) (r : Option ℕ) (rs' t' : List ℕ) : Type 0 where
  pub answer : r ≡ answer_for ts cap
  pub table : (n : ℕ) → r ≡ Some n → t' ≡ padded (table_list ts) (length t)
  pub roots : (n : ℕ) → r ≡ Some n → rs' ≡ over (root_list ts) rs
