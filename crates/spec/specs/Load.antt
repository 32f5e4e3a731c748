-- Loading a vocabulary: which tokens its source states, or which refusal it meets, where. Document 01, the table's places "text, before
-- lines", "line" and "after the lines", and "Lines"; document 02, W-205. A source is a list of bytes of some form: `start_of` has what is
-- refused before any record, `records_in` its records, `reading` what a record states. All else is the same for every form. Each test
-- stands in the table's order. Assumes nothing.
use Rattle.std.specs.Prelude.{Bool, true, false, not, ◌||◌, cond, List, [], ◌∷◌, ◌++◌, ℕ, zero, suc, ◌-◌, ◌*◌, ◌/◌, ◌^◌, min, eqb, leb}
use Rattle.std.specs.Prelude.{ltb, length}
use Rattle.std.specs.Prelude.{Option, None, Some}
use Rattle.spec.specs.Check.{Check, pass, refuse, and_then, given, need}
use Rattle.spec.specs.Utf8.{first_bad}
use Rattle.spec.specs.Digits.{digits}
use Rattle.spec.specs.Line.{lines, Fields, fields}
use Rattle.spec.specs.Literal.{literal}
use Rattle.spec.specs.Token.{Token, seen}
use Rattle.spec.specs.Trie.{node_count}
use Rattle.spec.specs.Layout.{table_words}
use Rattle.spec.specs.Memory.{Memory, too_short, blob_bytes, memory_of, emptied}

-- ---- room

-- what the lent memory holds: nodes, blob bytes, table words
pub record Room : Type 0 where
  pub nodes : ℕ
  pub blob : ℕ
  pub table : ℕ

-- "table capacity is 256 × the most whole blocks that the table and both runs of marks each hold": a block has 256 words in the table
-- and 4 in a run of marks
unfoldable pub table_room : ℕ → ℕ → ℕ → ℕ
table_room table used bases = 256 * min (table / 256) (min (used / 4) (bases / 4))

-- ---- one line of a text

-- 8 to 10, of an id and the one before it, 0 if it is the first
unfoldable pub id_rule : {A : Type 0} → ℕ → ℕ → Check A → Check A
id_rule previous id rest =
    need 8 (not (eqb id 0))
    (need 9 (not (eqb id previous))
    (need 10 (not (ltb id previous))
    rest))

-- 13 to 15, of a token and its declared length
unfoldable pub length_rule : ℕ → Token → Check Token
length_rule wanted t =
    need 13 (not (eqb (length t.bytes) 0))
    (need 14 (eqb (length t.bytes) wanted)
    (need 15 (leb (length t.bytes) 255)
    (pass t)))

-- 11 to 15: the token of this id, in a text of this edition
unfoldable pub read_token : ℕ → Fields → ℕ → Check Token
read_token edition f id =
    given 11 (digits (2 ^ 64 - 1) f.length) (λ wanted.
    given 12 (literal edition f.literal) (λ bytes.
    length_rule wanted (record { id = id; bytes = bytes })))

-- 6 to 15
unfoldable pub read_fields : ℕ → ℕ → Fields → Check Token
read_fields edition previous f =
    given 6 (digits 4294967295 f.id) (λ id.
    need 7 (leb id 65535)
    (id_rule previous id
    (read_token edition f id)))

-- the token that a line states, after one of id `previous`; or 3 to 15
unfoldable pub read_line : ℕ → ℕ → List ℕ → Check Token
read_line edition previous line = and_then (fields line) (read_fields edition previous)

-- ---- forms of a source

-- what a load is given: a vocabulary text of an edition ("The loader is told the edition")
pub data Form : Type 0 where
  vocabulary : ℕ → Form

-- the records of a source: the lines of a text
unfoldable pub records_in : Form → List ℕ → List (List ℕ)
unfolding lines
records_in (vocabulary edition) = lines

-- the token that a record states, after one of id `previous`; or its refusal
unfoldable pub reading : Form → ℕ → List ℕ → Check Token
unfolding read_line
reading (vocabulary edition) = read_line edition

-- ---- one record

-- the tokens with one more, or 16 to 18
unfoldable pub admit : Room → List Token → Token → Check (List Token)
admit room ts t =
    let more = ts ++ (t ∷ []) in
    need 16 (not (seen ts t.bytes))
    (need 17 (leb (node_count more) room.nodes)
    (need 18 (leb (length (blob_bytes more)) room.blob)
    (pass more)))

-- the id of the last token, 0 if there is none
unfoldable pub last_id : List Token → ℕ
last_id [] = 0
last_id (t ∷ []) = t.id
last_id (t ∷ u ∷ ts) = last_id (u ∷ ts)

-- the tokens after one more record
unfoldable pub take_one : Form → Room → List Token → List ℕ → Check (List Token)
take_one form room ts r = and_then (reading form (last_id ts) r) (admit room ts)

-- ---- all records

-- "a refusal carries its place as a case of its own"
pub data Place : Type 0 where
  nowhere : Place
  line offset byte : ℕ → Place

pub data Outcome : Type 0 where
  accepted : List Token → Outcome
  refused : ℕ → Place → Outcome

-- the lowest byte from b on, of n, without a one-byte token
unfoldable pub missing : List Token → ℕ → ℕ → Option ℕ
missing ts zero b = None
missing ts (suc n) b = let rest = missing ts n (suc b) in cond (seen ts (b ∷ [])) rest (Some b)

abbrev pub demanded : Bool → Option ℕ → Option ℕ
demanded true b = None
demanded false b = b

-- after the lines: 19 (there is a token for each line, so no token means no lines), 20 in full mode, 21
unfoldable pub finish : Bool → Room → List Token → Outcome
finish partial room [] = refused 19 nowhere
finish partial room (t ∷ ts) = elim (demanded partial (missing (t ∷ ts) 256 0)) [
  | Some b ↦ refused 20 (byte b)
  | None ↦ cond (leb (table_words (t ∷ ts)) room.table) (accepted (t ∷ ts)) (refused 21 nowhere)
]

-- "lines are taken one by one, counted from 1": the records rs from record n on, after the tokens ts
unfoldable pub take_all : Form → Bool → Room → ℕ → List Token → List (List ℕ) → Outcome
take_all form partial room n ts [] = finish partial room ts
take_all form partial room n ts (r ∷ rs) = elim (take_one form room ts r) [
  | pass more ↦ take_all form partial room (suc n) more rs
  | refuse number ↦ refused number (line n)
]

-- What the records in these bytes state, in partial or full mode.
unfoldable pub load : Form → Bool → Room → List ℕ → Outcome
load form partial room body = take_all form partial room 1 [] (records_in form body)

-- ---- before any record

-- a refusal after which nothing has changed; or the mode, and the bytes of the source that hold the records
pub data Start : Type 0 where
  halts : ℕ → Place → Start
  goes : Bool → List ℕ → Start

-- the refusal of this number where a test holds
abbrev pub halt_if : Bool → ℕ → Start → Start
halt_if true n rest = halts n nowhere
halt_if false n rest = rest

-- 2 where there is a bad byte. Its offset "is the offset of the first, found as in decoding to text" (W-206): `first_bad`, as for 29.
abbrev pub in_utf8 : Option ℕ → Start → Start
in_utf8 (Some k) rest = halts 2 (offset k)
in_utf8 None rest = rest

-- Of a text: "any edition but 1 and 2 with 34, before number 1, changing nothing"; then 1; then 2. "After 1 and 2 nothing has changed."
unfoldable pub start_of : Form → Bool → Memory → List ℕ → Start
start_of (vocabulary edition) partial m s =
    halt_if (not (eqb edition 1 || eqb edition 2)) 34
    (halt_if (too_short m) 1
    (in_utf8 (first_bad s)
    (goes partial s)))

-- ---- what a load answers and leaves

-- "An accepted load gives its counts of tokens, nodes, blob bytes and table words"
pub record Counts : Type 0 where
  pub tokens : ℕ
  pub nodes : ℕ
  pub blob : ℕ
  pub table : ℕ

unfoldable pub counts_of : List Token → Counts
counts_of ts = record { tokens = length ts; nodes = node_count ts; blob = length (blob_bytes ts); table = table_words ts }

abbrev pub no_counts : Counts
no_counts = record { tokens = 0; nodes = 0; blob = 0; table = 0 }

pub record LoadAnswer : Type 0 where
  pub number : ℕ
  pub place : Place
  pub counts : Counts

-- the answer, and the vocabulary memory at exit
pub record LoadResult : Type 0 where
  pub answer : LoadAnswer
  pub memory : Memory

abbrev pub turned_down : ℕ → Place → Memory → LoadResult
turned_down number place m = record { answer = record { number = number; place = place; counts = no_counts }; memory = m }

-- "After 3 to 21 the vocabulary memory is emptied"
unfoldable pub settled : Memory → Outcome → LoadResult
settled m (accepted ts) = record { answer = record { number = 0; place = nowhere; counts = counts_of ts }; memory = memory_of ts m }
settled m (refused number place) = turned_down number place (emptied m)

-- what a load comes to, by its start
abbrev pub begun : (Bool → List ℕ → Outcome) → Memory → Start → LoadResult
begun states m (halts number place) = turned_down number place m
begun states m (goes mode body) = settled m (states mode body)

-- A load of a source of this form into m, with room for so many nodes and table words.
unfoldable pub load_on : Form → Bool → ℕ → ℕ → Memory → List ℕ → LoadResult
load_on form partial nodes table m s =
    begun (λ mode body. load form mode (record { nodes = nodes; blob = length m.blob; table = table }) body) m
    (start_of form partial m s)
