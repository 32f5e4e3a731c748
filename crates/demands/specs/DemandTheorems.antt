-- What the demands come to, as statements: each theorem is a named type, and a proof of it, in proofs/, has exactly this type. Read them
-- after `spec` Theorems, whose theorems speak of the definitions; these speak of what the contracts of the calls promise. Demand 3 is one
-- theorem, from a text to the calls that are linked: `Demand3FromText`, last. Assumes nothing.
use Rattle.std.specs.Prelude.{◌≡◌, List, [], ◌∷◌, map, ◌++◌, ℕ, ◌+◌, ◌*◌, ◌≤◌, ◌<◌, get_or, length, take, Bool, true, false}
use Rattle.spec.specs.Token.{Token, longest, bytes_of, joined, present, Full}
use Rattle.spec.specs.Answer.{Answer, whole}
use Rattle.spec.specs.Memory.{Memory, Loaded, memory_of}
use Rattle.spec.specs.Stream.{StreamRecord, fresh, Call, out_of, Called, call_on}
use Rattle.spec.specs.Plain.{Plain, start, Reply, Follows, replies_on, BytePieces}
use Rattle.stream_record.specs.declared.Stream.{Stream}
use Rattle.stream_record.specs.declared.Called as stream
use Rattle.stream_record.specs.Answers.{record_of, answer_of, looked_of, Answered}
use Rattle.reports.specs.Leaves.{Leaves}
use Rattle.spec.specs.Lists.{all, Bytes}
use Rattle.spec.specs.Utf8.{first_bad, lossy}
use Rattle.spec.specs.Scan.{done, scan}
use Rattle.spec.specs.Valid.{Valid}
use Rattle.spec.specs.Match.{match_on}
use Rattle.spec.specs.Looked.{looked, looked_sum}
use Rattle.spec.specs.LookedOn.{looked_on}
use Rattle.spec.specs.Encode.{encode_answer, usable, encode_on, encode_looked}
use Rattle.spec.specs.Decode.{decode_on, text_answer, decode_text_on, decode_lossy_on}
use Rattle.spec.specs.Load.{table_room, Form, vocabulary, nowhere, accepted, load, goes, start_of, counts_of, LoadResult, load_on}
use Rattle.spec.specs.Theorems.{match_of, encode_end}
use Rattle.reports.specs.Report.{LoadReported}

-- ── Calls as their contracts have them ───────────────────────────────

-- The calls of `rwkv_fresh`, `rwkv_add` and `rwkv_end`, which are lent their stream (relation `Leaves`), and those of `fresh` of crate
-- `stream_record` with `add` and `end` of crate `stream`, which take and give it by value (relation `Answered`). Each is one claim over
-- every list of calls, each on the stream that the last one left.

-- ---- a list of calls

-- G is what a caller sees of a call, `left` the stream that is left, and `Says` what the contract says of a call whose definition gives d.
module _ {G : Type 0} (left : G → Stream) (Says : Called → Call → G → Type 0) where
  -- the calls cs on the memory m, the first on the stream s, and what was seen of each, as the contract says
  abbrev pub Made : Memory → Stream → List Call → List G → Type 0
  Made m s [] [] = Unit {0}
  Made m s [] (g ∷ gs) = ⊥
  Made m s (c ∷ cs) [] = ⊥
  Made m s (c ∷ cs) (g ∷ gs) = Says (call_on m (record_of s) c) c g × Made m (left g) cs gs

-- every list of calls on a stream that is fresh at first, made as MadeOn says, follows the plain stream of the tokens ts
module _ {G : Type 0} (reply : G → Reply) (MadeOn : Stream → List Call → List G → Type 0) where
  abbrev pub Plainly : List Token → Type 0
  Plainly ts = (s : Stream) → record_of s ≡ fresh → (cs : List Call) → BytePieces cs → (gs : List G) → MadeOn s cs gs
      → (q : Plain) × Follows ts start cs (map reply gs) q

-- ---- the calls that are lent their stream

-- what a caller sees of such a call: its result, the report, the stream and the output's cells afterwards
pub record Seen : Type 0 where
  pub number : ℕ
  pub report : List ℕ
  pub stream : Stream
  pub out : List ℕ

-- a number and a report, as an answer: count, place, value; the fourth cell has the bytes looked at
abbrev pub answer_in : ℕ → List ℕ → Answer
answer_in number report = record { number = number; count = get_or report 0 0; place = get_or report 1 0; value = get_or report 2 0 }

-- what was seen, as a reply of the plain stream
abbrev pub reply_of : Seen → Reply
reply_of g = record {
  answer = answer_in g.number g.report;
  out = g.out;
  stream = record_of g.stream;
  looked = get_or g.report 3 0;
}

-- what the contracts of `rwkv_add` and `rwkv_end` say of it
abbrev pub Lent : Called → Call → Seen → Type 0
Lent d c g = Leaves d g.number g.report g.stream (out_of c) g.out

abbrev pub CallsLent : Memory → Stream → List Call → List Seen → Type 0
CallsLent = Made (λ (g : Seen). g.stream) Lent

-- For every list of calls that are lent a stream, fresh at first, over loaded memory, every number, report, output cell and record is the
-- plain stream's.
abbrev pub Demand3Lent : Type 0
Demand3Lent = (m : Memory) (ts : List Token) → Loaded m ts → Plainly reply_of (CallsLent m) ts

-- ---- the calls by value

-- what a caller sees of such a call: what it gives, and the output's cells afterwards
pub record Given : Type 0 where
  pub called : stream.Called
  pub out : List ℕ

abbrev pub reply_given : Given → Reply
reply_given g = record {
  answer = answer_of g.called.answer;
  out = g.out;
  stream = record_of g.called.stream;
  looked = looked_of g.called.answer;
}

-- what the contracts of `add` and `end` say of it
abbrev pub ByValue : Called → Call → Given → Type 0
ByValue d c g = Answered d g.called (out_of c) g.out

abbrev pub CallsByValue : Memory → Stream → List Call → List Given → Type 0
CallsByValue = Made (λ (g : Given). g.called.stream) ByValue

-- the same of the calls by value
abbrev pub Demand3ByValue : Type 0
Demand3ByValue = (m : Memory) (ts : List Token) → Loaded m ts → Plainly reply_given (CallsByValue m) ts

-- ---- the bytes looked at

-- Document 02, W-202: "A stream call carries the sum for the ids that it hands out". The sum is at most 255 for each of them, on any memory
-- and any stream: as the definition has it, and as a caller sees it of a call that is lent its stream and of one by value.
abbrev pub SumShort : Answer → ℕ → Type 0
SumShort a looked = looked ≤ 255 * a.count

abbrev pub CallShort : Type 0
CallShort = (m : Memory) (r : StreamRecord) (c : Call) → SumShort (call_on m r c).answer (call_on m r c).looked

abbrev pub CallShortLent : Type 0
CallShortLent = (m : Memory) (s : Stream) (c : Call) (g : Seen) → Lent (call_on m (record_of s) c) c g
    → SumShort (reply_of g).answer (reply_of g).looked

abbrev pub CallShortByValue : Type 0
CallShortByValue = (m : Memory) (s : Stream) (c : Call) (g : Given) → ByValue (call_on m (record_of s) c) c g
    → SumShort (reply_given g).answer (reply_given g).looked

-- ── Text in, ids out ─────────────────────────────────────────────────

-- For every text, of either edition, that a load accepts, what matching, encoding, decoding and the running encoder give over the memory
-- that it left is said on the tokens that the text states, whatever the memory held before. So of every other form of a source.

-- What the memory m gives, said on the tokens ts alone: demand 2, and demand 3 as it stands.
pub record Gives (ts : List Token) (m : Memory) : Type 0 where
  -- a match is the longest token
  pub matches : (s : List ℕ) → Bytes s → match_on m s ≡ match_of (longest ts s)
  -- how far it looks
  pub looks : (s : List ℕ) → Bytes s → looked_on m s ≡ looked ts s
  -- an encoding is the scan, where the output has room for its ids
  pub encodes : (s : List ℕ) → Bytes s → (n : ℕ) → length (scan ts s).ids ≤ usable n
      → encode_on m n s ≡ record { answer = encode_answer (length (scan ts s).ids) (encode_end (scan ts s).end); cells = (scan ts s).ids }
  -- else as many of them as it has room for, and 23 where their bytes end
  pub cuts : (s : List ℕ) → Bytes s → (n : ℕ) → usable n < length (scan ts s).ids
      → encode_on m n s ≡ record {
        answer = record {
          number = 23;
          count = length (take (usable n) (scan ts s).ids);
          place = length (joined ts (take (usable n) (scan ts s).ids));
          value = 0;
        };
        cells = take (usable n) (scan ts s).ids;
      }
  -- the bytes looked at for the ids that it gives, added up, are those for as many of the scan
  pub totals : (s : List ℕ) → Bytes s → (n : ℕ) → encode_looked m n s ≡ looked_sum ts (length (encode_on m n s).cells) s
  -- a list of present ids decodes to its tokens joined, where these fit
  pub decodes : (ids : List ℕ) → all (present ts) ids ≡ true → (n : ℕ) → length (joined ts ids) ≤ n
      → decode_on m n ids ≡ record { answer = whole (length (joined ts ids)); cells = joined ts ids }
  -- another gives 27 at its first absent id
  pub stops : (ids : List ℕ) → all (present ts) ids ≡ true → (i : ℕ) (rest : List ℕ) → present ts i ≡ false
      → (n : ℕ) → length (joined ts ids) ≤ n
      → decode_on m n (ids ++ i ∷ rest) ≡ record {
        answer = record { number = 27; count = length (joined ts ids); place = length ids; value = i };
        cells = joined ts ids;
      }
  -- and 28 comes at the first present id whose bytes no longer fit
  pub fills : (ids : List ℕ) → all (present ts) ids ≡ true → (i : ℕ) (rest : List ℕ) → present ts i ≡ true
      → (n : ℕ) → length (joined ts ids) ≤ n → n < length (joined ts ids) + length (bytes_of ts i)
      → decode_on m n (ids ++ i ∷ rest) ≡ record {
        answer = record { number = 28; count = length (joined ts ids); place = length ids; value = 0 };
        cells = joined ts ids;
      }
  -- as text: those bytes, and 29 with the first bad offset if they are not UTF-8
  pub texts : (ids : List ℕ) → all (present ts) ids ≡ true → (n : ℕ) → length (joined ts ids) ≤ n
      → decode_text_on m n ids ≡ record { answer = text_answer (joined ts ids) (first_bad (joined ts ids)); cells = joined ts ids }
  -- as lossy text, where that fits
  pub loses : (ids : List ℕ) → all (present ts) ids ≡ true → (n : ℕ) → length (lossy (joined ts ids)) ≤ n
      → decode_lossy_on m n ids ≡ record { answer = whole (length (lossy (joined ts ids))); cells = lossy (joined ts ids) }
  -- the ids of a whole encoding decode to its input
  pub returns : (s : List ℕ) → (scan ts s).end ≡ done → (n : ℕ) → length s ≤ n
      → decode_on m n (scan ts s).ids ≡ record { answer = whole (length s); cells = s }
  -- the calls of a fresh stream are those of the plain stream: by their definition, lent the stream, and by value
  pub streams : (cs : List Call) → BytePieces cs → (q : Plain) × Follows ts start cs (replies_on m fresh cs) q
  pub lent : Plainly reply_of (CallsLent m) ts
  pub by_value : Plainly reply_given (CallsByValue m) ts

-- A load of the source s, of some form, into m, with room for so many nodes and marks. Of a text the mode is the one asked for, and all of
-- it is read (`spec` Theorems, `TextGoes`).
module _ (form : Form) (partial : Bool) (nodes used bases : ℕ) (m : Memory) (s : List ℕ) where
  -- Nothing is refused before the records, and in this mode they state these tokens.
  pub record States (mode : Bool) (ts : List Token) : Type 0 where
    pub body : List ℕ
    pub starts : start_of form partial m s ≡ goes mode body
    pub tokens : load form mode (record {
      nodes = nodes;
      blob = length m.blob;
      table = table_room (length m.table) used bases;
    }) body ≡ accepted ts

  -- the load gave r, as the contracts of the entries say it
  module _ (r : LoadResult) where
    abbrev pub Loads : Type 0
    Loads = (r ≡ load_on form partial nodes (table_room (length m.table) used bases) m s)

    -- A load that answers 0 stated tokens: the answer has their counts, and the memory left gives what they say. In full mode every byte
    -- is one of them.
    pub record TextIn (mode : Bool) (ts : List Token) : Type 0 where
      pub states : States mode ts
      pub counts : r.answer.counts ≡ counts_of ts
      pub valid : Valid ts
      pub gives : Gives ts r.memory
      pub full : mode ≡ false → Full ts

    abbrev pub TextInIdsOut : Type 0
    TextInIdsOut = Bytes s → Loads → r.answer.number ≡ 0 → (mode : Bool) × (ts : List Token) × TextIn mode ts

    -- A source that states tokens is accepted with their counts and their memory. What a text needs for it is said by `TextStarts` of
    -- `spec` Theorems: an edition that there is, memory that is long enough for number 1, and UTF-8.
    abbrev pub TextAccepted : Type 0
    TextAccepted = Loads → (mode : Bool) (ts : List Token) → States mode ts
        → r ≡ record { answer = record { number = 0; place = nowhere; counts = counts_of ts }; memory = memory_of ts m }

-- ── Demand 3 from a text on ──────────────────────────────────────────

-- `rwkv_load` took the text, of edition 1 or 2, whatever the memory held before; `rwkv_fresh` made a stream; then came `rwkv_add` and
-- `rwkv_end`, in any number and order, refused ones included. All that the calls give and leave is the plain stream's of document 01 over
-- the tokens that the text states. The hypotheses are what the contracts of these calls promise, and nothing else. The same is said of
-- the calls by value.

-- what the source states is accepted with the tokens ts, and over the memory left every list of calls on a fresh stream follows the plain
-- stream of ts
module _ (form : Form) (partial : Bool) (nodes used bases : ℕ) (m : Memory) (s : List ℕ) where
  pub record Streams (after : Memory) (mode : Bool) (ts : List Token) : Type 0 where
    pub states : States form partial nodes used bases m s mode ts
    pub lent : Plainly reply_of (CallsLent after) ts
    pub by_value : Plainly reply_given (CallsByValue after) ts

-- `rwkv_load` gave 0 for a text of this edition that it was lent with the memory m, so many nodes and so many words in both runs of marks.
abbrev pub Demand3FromText : Type 0
Demand3FromText = (edition : ℕ) (partial : Bool) (nodes used bases : ℕ) (m : Memory) (text : List ℕ) (r : ℕ) (report : List ℕ)
    (after : Memory) → Bytes text
    → LoadReported (load_on (vocabulary edition) partial nodes (table_room (length m.table) used bases) m text) r report after → r ≡ 0
    → (mode : Bool) × (ts : List Token) × Streams (vocabulary edition) partial nodes used bases m text after mode ts

-- `from_source`, `from_vocab_str` or `from_vocab_str_partial` gave r, with number 0.
abbrev pub Demand3FromTextByValue : Type 0
Demand3FromTextByValue = (form : Form) (partial : Bool) (nodes used bases : ℕ) (m : Memory) (s : List ℕ) (r : LoadResult)
    → Bytes s → Loads form partial nodes used bases m s r → r.answer.number ≡ 0
    → (mode : Bool) × (ts : List Token) × Streams form partial nodes used bases m s r.memory mode ts
