-- What is proved of the definitions, as statements: each theorem is a named type, and a proof of it has exactly this type.
-- The proofs stand in the crates `running`, `laws`, `loading` and `demands`. Assumes nothing.
use Rattle.std.specs.Prelude.{◌≡◌, ◌⊎◌, ◌↔◌, Bool, true, false, List, ◌∷◌, ◌++◌, ℕ, ◌+◌, ◌*◌, ◌^◌, ◌≤◌, ◌<◌, length, take, drop, get_or}
use Rattle.std.specs.Prelude.{Option, None, Some}
use Rattle.spec.specs.Lists.{all, Bytes}
use Rattle.spec.specs.Utf8.{step_of, is_char, well_formed}
use Rattle.spec.specs.Token.{Token, longest, undecided, bytes_of, joined, present, Full}
use Rattle.spec.specs.Scan.{End, done, failed, scan}
use Rattle.spec.specs.Trie.{node_count}
use Rattle.spec.specs.Layout.{table_words}
use Rattle.spec.specs.Valid.{Valid}
use Rattle.spec.specs.Memory.{Memory, too_short, blob_bytes, Loaded}
use Rattle.spec.specs.Match.{Match, nothing, found, match_on, undecided_on}
use Rattle.spec.specs.Looked.{looked, looked_sum}
use Rattle.spec.specs.LookedOn.{looked_on, sum_on}
use Rattle.spec.specs.Encode.{EncodeEnd, encoding, encode_on, encode_looked}
use Rattle.spec.specs.Encode as encode
use Rattle.spec.specs.Decode.{lookup, decoding}
use Rattle.spec.specs.Decode as decode
use Rattle.spec.specs.Load.{Form, Room, offset, byte, accepted, refused, load, goes, start_of, turned_down, load_on, vocabulary}
use Rattle.spec.specs.Stream.{Call, call_refusal, fresh}
use Rattle.spec.specs.Plain.{opened, stopped, ended, Plain, start, Sure, Fails, Certain, Reply, Steps, Follows, handed, replies_on}
use Rattle.spec.specs.Plain.{BytePieces, record_of}

-- ── Matching ─────────────────────────────────────────────────────────

-- the longest token, as a match
abbrev pub match_of : Option Token → Match
match_of None = nothing
match_of (Some t) = found t.id (length t.bytes)

-- On loaded memory the walk finds the longest token, for every byte string.
abbrev pub Matching : Type 0
Matching = (m : Memory) (ts : List Token) → Loaded m ts → (s : List ℕ) → Bytes s → match_on m s ≡ match_of (longest ts s)

-- On loaded memory a run is undecided just where it is a proper prefix of a token.
abbrev pub Deciding : Type 0
Deciding = (m : Memory) (ts : List Token) → Loaded m ts → (s : List ℕ) → Bytes s → undecided_on m s ≡ undecided ts s

-- On loaded memory the bytes that a match reads are the bytes looked at, for every byte string.
abbrev pub Looks : Type 0
Looks = (m : Memory) (ts : List Token) → Loaded m ts → (s : List ℕ) → Bytes s → looked_on m s ≡ looked ts s

-- Document 02, W-202: "On loaded memory this is at most 255." It is so on any, and no more than the bytes there are.
abbrev pub LooksShort : Type 0
LooksShort = (m : Memory) (s : List ℕ) → (looked_on m s ≤ 255) × (looked_on m s ≤ length s)

-- On loaded memory what was read for the first n ids adds up to the bytes looked at for them.
abbrev pub LooksSum : Type 0
LooksSum = (m : Memory) (ts : List Token) → Loaded m ts → (s : List ℕ) → Bytes s → (n : ℕ) → sum_on m n 0 s ≡ looked_sum ts n s

-- ── Encoding ─────────────────────────────────────────────────────────

abbrev pub encode_end : End → EncodeEnd
encode_end done = encode.complete
encode_end (failed k b) = encode.unmatched k b

-- With room for its ids, an encoding on loaded memory is the scan.
abbrev pub EncodingIsScan : Type 0
EncodingIsScan = (m : Memory) (ts : List Token) → Loaded m ts → (s : List ℕ) → Bytes s → (n : ℕ) → length (scan ts s).ids ≤ n
    → encoding m n s ≡ record { ids = (scan ts s).ids; end = encode_end (scan ts s).end }

-- With less, its first n ids stand, and the encoding is full where the bytes of these end.
abbrev pub EncodingIsCut : Type 0
EncodingIsCut = (m : Memory) (ts : List Token) → Loaded m ts → (s : List ℕ) → Bytes s → (n : ℕ) → n < length (scan ts s).ids
    → encoding m n s ≡ record { ids = take n (scan ts s).ids; end = encode.full (length (joined ts (take n (scan ts s).ids))) }

-- Document 02, W-202: "on loaded memory an accepted input's total is at most 255 times its ids". So is every input's, on any memory.
abbrev pub TotalShort : Type 0
TotalShort = (m : Memory) (n : ℕ) (s : List ℕ) → encode_looked m n s ≤ 255 * length (encode_on m n s).cells

-- Every id of a scan has a token.
abbrev pub IdsPresent : Type 0
IdsPresent = (ts : List Token) → Valid ts → (s : List ℕ) → all (present ts) (scan ts s).ids ≡ true

-- A scan that reaches the end decodes to its input.
abbrev pub RoundTrip : Type 0
RoundTrip = (ts : List Token) → Valid ts → (s : List ℕ) → (scan ts s).end ≡ done → joined ts (scan ts s).ids ≡ s

-- A scan that fails at k: its ids are those of the first k bytes, and decode to them; the byte is the one there.
abbrev pub UpToFailure : Type 0
UpToFailure = (ts : List Token) → Valid ts → (s : List ℕ) (k b : ℕ) → (scan ts s).end ≡ failed k b
    → (k < length s) × (get_or s k 0 ≡ b) × (scan ts (take k s) ≡ record { ids = (scan ts s).ids; end = done })
    × (joined ts (scan ts s).ids ≡ take k s)

-- ── Decoding ─────────────────────────────────────────────────────────

-- On loaded memory an id's bytes are its token's.
abbrev pub Looking : Type 0
Looking = (m : Memory) (ts : List Token) → Loaded m ts → (i : ℕ) → lookup m i ≡ bytes_of ts i

-- A list of present ids decodes to its tokens joined, where these fit.
abbrev pub DecodingJoins : Type 0
DecodingJoins = (m : Memory) (ts : List Token) → Loaded m ts → (ids : List ℕ) → all (present ts) ids ≡ true → (n : ℕ)
    → length (joined ts ids) ≤ n
    → decoding m n ids ≡ record { bytes = joined ts ids; end = decode.complete }

-- Another list stops at its first absent id, 27, where what stands before it fits.
abbrev pub DecodingStops : Type 0
DecodingStops = (m : Memory) (ts : List Token) → Loaded m ts → (ids : List ℕ) → all (present ts) ids ≡ true → (i : ℕ) (rest : List ℕ)
    → present ts i ≡ false → (n : ℕ) → length (joined ts ids) ≤ n
    → decoding m n (ids ++ i ∷ rest) ≡ record { bytes = joined ts ids; end = decode.absent (length ids) i }

-- It is full, 28, at the first present id whose bytes no longer fit; they write nothing.
abbrev pub DecodingFills : Type 0
DecodingFills = (m : Memory) (ts : List Token) → Loaded m ts → (ids : List ℕ) → all (present ts) ids ≡ true → (i : ℕ) (rest : List ℕ)
    → present ts i ≡ true → (n : ℕ) → length (joined ts ids) ≤ n → n < length (joined ts ids) + length (bytes_of ts i)
    → decoding m n (ids ++ i ∷ rest) ≡ record { bytes = joined ts ids; end = decode.full (length ids) }

-- ── Loading ──────────────────────────────────────────────────────────

-- The tokens of an accepted source are a valid vocabulary.
abbrev pub LoadsValid : Type 0
LoadsValid = (form : Form) (partial : Bool) (room : Room) (body : List ℕ) → Bytes body → (ts : List Token)
    → load form partial room body ≡ accepted ts → Valid ts

-- An accepted load leaves loaded memory: from a source to the theorems on matching, encoding and decoding.
abbrev pub LoadsLoaded : Type 0
LoadsLoaded = (form : Form) (partial : Bool) (nodes table : ℕ) (m : Memory) (s : List ℕ) → Bytes s → table ≤ length m.table
    → (load_on form partial nodes table m s).answer.number ≡ 0
    → (mode : Bool) × (body : List ℕ) × (ts : List Token) × (start_of form partial m s ≡ goes mode body)
    × (load form mode (record { nodes = nodes; blob = length m.blob; table = table }) body ≡ accepted ts)
    × Loaded (load_on form partial nodes table m s).memory ts

-- an edition that there is
abbrev pub Edition : ℕ → Type 0
Edition edition = (edition ≡ 1) ⊎ (edition ≡ 2)

-- A text of such an edition that is UTF-8 is read, all of it and in the mode asked for, where the memory is long enough.
abbrev pub TextStarts : Type 0
TextStarts = (edition : ℕ) (partial : Bool) (m : Memory) (text : List ℕ) → Edition edition → too_short m ≡ false → well_formed text ≡ true
    → start_of (vocabulary edition) partial m text ≡ goes partial text

-- No other text is read.
abbrev pub TextGoes : Type 0
TextGoes = (edition : ℕ) (partial : Bool) (m : Memory) (text : List ℕ) (mode : Bool) (body : List ℕ)
    → start_of (vocabulary edition) partial m text ≡ goes mode body
    → Edition edition × (too_short m ≡ false) × (well_formed text ≡ true) × (mode ≡ partial) × (body ≡ text)

-- A text of either edition that is not UTF-8 is refused with 2 at "the offset of the first" bad byte (document 02, W-206): it lies in the
-- text, no character starts there, and all before it is UTF-8. Nothing has changed.
abbrev pub NamesFirstBad : Type 0
NamesFirstBad = (edition : ℕ) (partial : Bool) (nodes table : ℕ) (m : Memory) (text : List ℕ) → Edition edition
    → too_short m ≡ false → well_formed text ≡ false
    → (k : ℕ) × (load_on (vocabulary edition) partial nodes table m text ≡ turned_down 2 (offset k) m)
    × (k < length text) × (is_char (step_of (drop k text)) ≡ false) × (well_formed (take k text) ≡ true)

-- In full mode every byte has a one-byte token.
abbrev pub FullIsFull : Type 0
FullIsFull = (form : Form) (room : Room) (body : List ℕ) (ts : List Token) → load form false room body ≡ accepted ts → Full ts

-- "the partial one only drops refusal 20"
abbrev pub PartialDrops20 : Type 0
PartialDrops20 = (form : Form) (room : Room) (body : List ℕ)
    → (load form false room body ≡ load form true room body) ⊎ ((b : ℕ) × (load form false room body ≡ refused 20 (byte b)))

-- Numbers fit their widths: at most 65,535 tokens, blob and nodes below 2^24, table words below 2^32.
pub record Fits (ts : List Token) : Type 0 where
  pub tokens : length ts ≤ 65535
  pub blob : length (blob_bytes ts) < 2 ^ 24
  pub nodes : node_count ts < 2 ^ 24
  pub table : table_words ts < 2 ^ 32

abbrev pub Bounds : Type 0
Bounds = (ts : List Token) → Valid ts → Fits ts

-- ── Demand 3 ─────────────────────────────────────────────────────────

-- For every list of add and end calls on a fresh stream over loaded memory, every answer, output cell and record is the plain stream's.
abbrev pub Demand3 : Type 0
Demand3 = (m : Memory) (ts : List Token) → Loaded m ts → (cs : List Call) → BytePieces cs
    → (q : Plain) × Follows ts start cs (replies_on m fresh cs) q

-- The plain stream determines its answers: the relation is no weaker than a function.
abbrev pub Determined : Type 0
Determined = (ts : List Token) → Valid ts → (p : Plain) (c : Call) (r r' : Reply) (q q' : Plain) → Steps ts p c r q → Steps ts p c r' q'
    → (r ≡ r') × (q ≡ q')

-- The consequences are said of a plain stream that went over the calls cs, from its start to q, with the replies rs.
module _ (ts : List Token) (cs : List Call) (rs : List Reply) (q : Plain) where
  -- The ids handed out are G.
  abbrev pub HandsOut : Type 0
  HandsOut = Valid ts → Follows ts start cs rs q → handed rs ≡ q.ids

  -- While open, the ids handed out are exactly those that no later bytes can change.
  abbrev pub WhileOpen : Type 0
  WhileOpen = Valid ts → Follows ts start cs rs q → q.phase ≡ opened → Sure ts q.taken (handed rs)

  -- After an end they are all of them, and decode to the bytes taken.
  abbrev pub AfterEnd : Type 0
  AfterEnd = Valid ts → Follows ts start cs rs q → q.phase ≡ ended
      → (scan ts q.taken ≡ record { ids = handed rs; end = done }) × (joined ts (handed rs) ≡ q.taken)

  -- Once stopped they are those of the bytes before 22's offset, and decode to these; the byte is the one there.
  abbrev pub OnceStopped : Type 0
  OnceStopped = (k b : ℕ) → Valid ts → Follows ts start cs rs q → q.phase ≡ stopped k b
      → ((scan ts q.taken).end ≡ failed k b) × (scan ts (take k q.taken) ≡ record { ids = handed rs; end = done })
      × (joined ts (handed rs) ≡ take k q.taken) × (get_or q.taken k 0 ≡ b)

  -- 22 comes exactly when failure is certain: of a call that is not refused, in an open stream. It is the first such call, since
  -- while the stream is open failure is not certain.
  abbrev pub StopsWhenCertain : Type 0
  StopsWhenCertain = (c : Call) (r : Reply) (p : Plain) → Valid ts → Follows ts start cs rs q → q.phase ≡ opened
      → call_refusal (record_of ts q) c ≡ None → Steps ts q c r p
      → ((r.answer.number ≡ 22) ↔ Certain ts c p.taken) × (((Y : List ℕ) → Bytes Y → Fails (scan ts (q.taken ++ Y)).end) → ⊥)

  -- With a full vocabulary it never stops.
  abbrev pub FullNeverStops : Type 0
  FullNeverStops = Full ts → BytePieces cs → Valid ts → Follows ts start cs rs q → (k b : ℕ) → q.phase ≡ stopped k b → ⊥
