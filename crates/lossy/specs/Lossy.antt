-- What the passes of lossy decoding give. Assumes nothing.
use Rattle.std.specs.Prelude.{◌≡◌, List, ◌++◌, ℕ, ◌+◌, ◌≤◌, ◌<◌, length, take, drop, get_or, Option, None, Some, Result, Ok, Err}
use Rattle.spec.specs.Lists.{each, over}
use Rattle.spec.specs.Memory.{Memory}
use Rattle.spec.specs.Utf8.{lossy, replacement}
use Rattle.spec.specs.Decode.{lookup, first_absent}
use Rattle.reader.specs.Reader.{run}
use Rattle.reader.specs.HeldBytes.{held_of}
use Rattle.decoding.specs.declared.DecodeError.{DecodeError}
use Rattle.decoding.specs.Answers.{answer_of}
use Rattle.std.specs.declared.ops.Range.{Range}
use Rattle.lossy.specs.declared.Progress.{Progress}

-- each id has bytes
abbrev pub AllPresent : Memory → List ℕ → Type 0
AllPresent m ids = (j : ℕ) → j < length ids → 1 ≤ length (lookup m (get_or ids j 0))

-- total is n, or the greatest number that there is where n is greater
pub record Summed (n total : ℕ) : Type 0 where
  pub exact : n ≤ 0xffffffffffffffff → total ≡ n
  pub most : 0xffffffffffffffff < n → total ≡ 0xffffffffffffffff

-- each id has bytes, with their number in all, or the refusal names the first that has none
abbrev pub Presence : Memory → List ℕ → Result ℕ DecodeError → Type 0
Presence m ids (Ok total) = AllPresent m ids × Summed (length (each (lookup m) ids)) total
Presence m ids (Err e) = first_absent m 0 ids ≡ Some (answer_of (Err e))

-- with the bytes h held, the bytes t stand in the text as they are, and h is held after them
abbrev pub AsTheyAre : List ℕ → List ℕ → Type 0
AsTheyAre h t = run h t ≡ record { out = t; held = h }

-- the bytes t were read after h were held and n bytes of text stood
pub record Reads (h t : List ℕ) (n : ℕ) (p : Progress) : Type 0 where
  pub held : held_of p.held ≡ (run h t).held
  pub len : p.len ≡ n + length (run h t).out

-- the same within room, or that the text is longer
abbrev pub Grows : List ℕ → List ℕ → ℕ → ℕ → Option Progress → Type 0
Grows h t n room (Some p) = Reads h t n p × (p.len ≤ room)
Grows h t n room None = room < n + length (run h t).out

-- the length of a text within room, or that it is longer
abbrev pub SizeIs : List ℕ → ℕ → Option ℕ → Type 0
SizeIs text room (Some len) = (len ≡ length text) × (len ≤ room)
SizeIs text room None = room < length text

-- p is the first part of s that U+FFFD stands for
pub record Breaks (s : List ℕ) (p : Range ℕ) : Type 0 where
  pub text : lossy s ≡ take p.start s ++ (replacement ++ lossy (drop p.end s))
  pub inside : p.end ≤ length s
  pub some : p.start < p.end

-- the first part that U+FFFD stands for, or that there is none
abbrev pub Part : List ℕ → Option (Range ℕ) → Type 0
Part s (Some p) = Breaks s p
Part s None = lossy s ≡ s

-- len is a text's length, and after is before with the text at its start
pub record Written (text before after : List ℕ) (len : ℕ) : Type 0 where
  pub size : len ≡ length text
  pub cells : after ≡ over text before
