-- The starred examples of document 01, "Examples on V and single lines": one table of theorems, a row each, by computation. Rows on V are
-- said of the entries' own definitions, number 1 and the order of refusals included. Document 01's texts are of edition 1. Not starred are
-- the bytes looked at, of document 02, and the last rows: the lengths of a token, and document 02's first bad byte and editions. An edit of
-- a definition that changes what it says here is refused here. Assumes nothing.
use mathlib.Core.Path.{◌≡◌, refl, ap, ◌∙◌}
use mathlib.Core.Bool.{Bool, true, false, ◌||◌}
use Rattle.std.specs.Prelude.{None, Some}
use mathlib.Core.List.{List, [], ◌∷◌, ◌++◌, append-nil}
use Prim.Native.Nat.{ℕ, ◌-◌, ◌^◌}
use native.Mathlib.Nat.{sub_self}
use native.Mathlib.Omega.{arith}
use lib.Dec.{eqb}
use lib.ListN.{length, get_or, replicate, drop_of_length-le}
use Rattle.spec.specs.Lists.{over}
use Rattle.spec.specs.Check.{pass, refuse, and_then, given, need}
use Rattle.spec.specs.Utf8.{first_bad}
use Rattle.spec.specs.Digits.{digits}
use Rattle.spec.specs.Line.{lines, fields}
use Rattle.spec.specs.Literal.{escape, escape2, escapes_of, literal}
use Rattle.spec.specs.Token.{Token, seen}
use Rattle.spec.specs.Trie.{node_count}
use Rattle.spec.specs.Layout.{table_words}
use Rattle.spec.specs.Looked.{looked, looked_at, looked_sum}
use Rattle.spec.specs.LookedOn.{looked_on, sum_on}
use Rattle.spec.specs.Scan.{done, failed, scan_at, scan, waiting, run_at, run}
use Rattle.spec.specs.Memory.{Memory, too_short, padded, memory_of, single_list, offset_list, blob_bytes, root_list, table_list}
use Rattle.spec.specs.Encode.{encoding, encode_answer, usable, Output, encode_on, encode_looked}
use Rattle.spec.specs.Decode.{decoding, decode_output, decode_on}
use Rattle.spec.specs.Load.{table_room, id_rule, length_rule, read_token, read_fields, read_line, vocabulary, records_in, reading, admit}
use Rattle.spec.specs.Load.{last_id, take_one, nowhere, offset, accepted, missing, finish, take_all, load, start_of, counts_of}
use Rattle.spec.specs.Load.{turned_down, settled, load_on}
use Rattle.spec.specs.Answer.{whole}
use Rattle.spec.specs.Stream.{StreamRecord, open_phase, ended_phase, holding, stopped_at, fresh, Call, add, end, call_refusal}
use Rattle.spec.specs.Stream.{goes_through, or_else, call_on}

-- ── V ────────────────────────────────────────────────────────────────

-- "V, partial: `1 'a' 1`, `2 'b' 1`, `3 'ab' 2`, `4 'abcd' 4`, `5 'bc' 2`."
abbrev v_text : List ℕ
v_text =
    0x31 ∷ 0x20 ∷ 0x27 ∷ 0x61 ∷ 0x27 ∷ 0x20 ∷ 0x31 ∷ 0x0A ∷ 0x32 ∷ 0x20 ∷ 0x27 ∷ 0x62 ∷ 0x27 ∷ 0x20 ∷ 0x31 ∷ 0x0A ∷ 0x33 ∷
    0x20 ∷ 0x27 ∷ 0x61 ∷ 0x62 ∷ 0x27 ∷ 0x20 ∷ 0x32 ∷ 0x0A ∷ 0x34 ∷ 0x20 ∷ 0x27 ∷ 0x61 ∷ 0x62 ∷ 0x63 ∷ 0x64 ∷ 0x27 ∷ 0x20 ∷
    0x34 ∷ 0x0A ∷ 0x35 ∷ 0x20 ∷ 0x27 ∷ 0x62 ∷ 0x63 ∷ 0x27 ∷ 0x20 ∷ 0x32 ∷ 0x0A ∷ []

abbrev vv : List Token
vv =
    record { id = 1; bytes = 0x61 ∷ [] } ∷ record { id = 2; bytes = 0x62 ∷ [] } ∷ record { id = 3; bytes = 0x61 ∷ 0x62 ∷ [] }
    ∷ record { id = 4; bytes = 0x61 ∷ 0x62 ∷ 0x63 ∷ 0x64 ∷ [] } ∷ record { id = 5; bytes = 0x62 ∷ 0x63 ∷ [] } ∷ []

-- V states these, with room for 5 nodes, 10 bytes and 512 words, and not one more
v_states : load (vocabulary 1) true (record { nodes = 5; blob = 10; table = 512 }) v_text ≡ accepted vv
unfolding load take_all take_one records_in reading read_line read_fields id_rule read_token length_rule admit last_id finish missing
    and_then
    given need lines fields digits literal seen node_count blob_bytes table_words
v_states = refl

v_counts : counts_of vv ≡ record { tokens = 5; nodes = 5; blob = 10; table = 512 }
unfolding counts_of node_count blob_bytes table_words
v_counts = refl

v_text_is_utf8 : first_bad v_text ≡ None
unfolding first_bad
v_text_is_utf8 = refl

-- the capacity of a table of 512 words and of 8 words in each run of marks
v_room : table_room 512 8 8 ≡ 512
unfolding table_room
v_room = refl

-- what the load leaves, as its five parts
abbrev v_memory : Memory
v_memory = record { single = single_list vv; offsets = offset_list vv; blob = blob_bytes vv; roots = root_list vv; table = table_list vv }

over_all : {A : Type 0} (l m : List A) → length m ≡ length l → over l m ≡ l
over_all l m e = ap (λ (r : List _). l ++ r) (drop_of_length-le m {i = length l} (omega (arith, e))) ∙ append-nil l

padded-full : (l : List ℕ) (n : ℕ) → n ≡ length l → padded l n ≡ l
padded-full l n e = ap (λ (k : ℕ). l ++ replicate k 0) (ap (λ (k : ℕ). k - length l) e ∙ sub_self (length l)) ∙ append-nil l

-- memory of just these lengths, whatever it holds
module _ (m : Memory) (single : length m.single ≡ 256) (offsets : length m.offsets ≡ 65537) (blob : length m.blob ≡ 10)
    (roots : length m.roots ≡ 65536) (table : length m.table ≡ 512) where
  long : too_short m ≡ false
  unfolding too_short
  long = rw (single, offsets, roots)

  left : memory_of vv m ≡ v_memory
  unfolding memory_of single_list offset_list blob_bytes root_list table_list
  left =
      cc (
        over_all (single_list vv) m.single single,
        over_all (offset_list vv) m.offsets offsets,
        padded-full (blob_bytes vv) (length m.blob) blob,
        over_all (root_list vv) m.roots roots,
        padded-full (table_list vv) (length m.table) table,
      )

  -- V loads: 5 tokens, 5 nodes, 10 blob bytes, 512 words
  v-loads : load_on (vocabulary 1) true 5 (table_room 512 8 8) m v_text ≡ record {
    answer = record { number = 0; place = nowhere; counts = record { tokens = 5; nodes = 5; blob = 10; table = 512 } };
    memory = v_memory;
  }
  unfolding load_on start_of settled
  v-loads =
      rw (long, start_of)
      (rw v_text_is_utf8
      (ap (settled m) ((λ i. load (vocabulary 1) true (record { nodes = 5; blob = blob i; table = v_room i }) v_text) ∙ v_states)
      ∙ (λ i. record { answer = record { number = 0; place = nowhere; counts = v_counts i }; memory = left i })))

-- Number 1 on this memory, once for all rows: what an entry makes of memory that is long enough.
v_long : too_short v_memory ≡ false
unfolding too_short single_list offset_list root_list
v_long = refl

encode_v : (n : ℕ) (s : List ℕ) → encode_on v_memory n s
    ≡ record {
      answer = encode_answer (length (encoding v_memory (usable n) s).ids) (encoding v_memory (usable n) s).end;
      cells = (encoding v_memory (usable n) s).ids;
    }
unfolding encode_on
encode_v n s = rw (v_long, encode_on)

decode_v : (n : ℕ) (ids : List ℕ) → decode_on v_memory n ids ≡ decode_output (decoding v_memory n ids)
unfolding decode_on
decode_v n ids = rw (v_long, decode_on)

call_v : (r : StreamRecord) (c : Call) → call_on v_memory r c ≡ or_else (call_refusal r c) r (goes_through v_memory r c)
unfolding call_on
call_v r c = rw (v_long, call_on)

v_root : get_or v_memory.roots 0x6162 0 ≡ 0x16300000300
unfolding root_list
v_root = refl

v_word_256 : get_or v_memory.table 256 0 ≡ 0x16500000063
unfolding table_list
v_word_256 = refl

v_word_257 : get_or v_memory.table 257 0 ≡ 0x464
unfolding table_list
v_word_257 = refl

-- ── Encoding ─────────────────────────────────────────────────────────

-- abcd gives 4
abcd : encode_on v_memory 4 (0x61 ∷ 0x62 ∷ 0x63 ∷ 0x64 ∷ []) ≡ record { answer = whole 1; cells = 4 ∷ [] }
unfolding encoding single_list root_list table_list
abcd = encode_v _ _ ∙ refl

-- aab gives 1, 3
aab : encode_on v_memory 3 (0x61 ∷ 0x61 ∷ 0x62 ∷ []) ≡ record { answer = whole 2; cells = 1 ∷ 3 ∷ [] }
unfolding encoding single_list root_list table_list
aab = encode_v _ _ ∙ refl

-- abbc gives 3, 5
abbc : encode_on v_memory 4 (0x61 ∷ 0x62 ∷ 0x62 ∷ 0x63 ∷ []) ≡ record { answer = whole 2; cells = 3 ∷ 5 ∷ [] }
unfolding encoding single_list root_list table_list
abbc = encode_v _ _ ∙ refl

-- abc gives 3, then 22 at offset 2, byte 63 hex
abc :
    encode_on v_memory 3 (0x61 ∷ 0x62 ∷ 0x63 ∷ [])
    ≡ record { answer = record { number = 22; count = 1; place = 2; value = 0x63 }; cells = 3 ∷ [] }
unfolding encoding single_list root_list table_list
abc = encode_v _ _ ∙ refl

-- the same of the scan on tokens
abcd-scan : scan vv (0x61 ∷ 0x62 ∷ 0x63 ∷ 0x64 ∷ []) ≡ record { ids = 4 ∷ []; end = done }
unfolding scan_at
abcd-scan = refl

aab-scan : scan vv (0x61 ∷ 0x61 ∷ 0x62 ∷ []) ≡ record { ids = 1 ∷ 3 ∷ []; end = done }
unfolding scan_at
aab-scan = refl

abbc-scan : scan vv (0x61 ∷ 0x62 ∷ 0x62 ∷ 0x63 ∷ []) ≡ record { ids = 3 ∷ 5 ∷ []; end = done }
unfolding scan_at
abbc-scan = refl

abc-scan : scan vv (0x61 ∷ 0x62 ∷ 0x63 ∷ []) ≡ record { ids = 3 ∷ []; end = failed 2 0x63 }
unfolding scan_at
abc-scan = refl

-- ── The bytes looked at ──────────────────────────────────────────────

-- Document 02, W-202, on tokens and on V's memory. Each row says what one part of the sentence comes to.

-- x begins no token, and xa does not: one of the byte left, two of two
looked-x : looked vv (0x78 ∷ []) ≡ 1
unfolding looked
looked-x = refl

looked-xa : looked vv (0x78 ∷ 0x61 ∷ []) ≡ 2
unfolding looked
looked-xa = refl

-- ab begins abcd: the byte after it is looked at, if there is one
looked-ab : looked vv (0x61 ∷ 0x62 ∷ []) ≡ 2
unfolding looked
looked-ab = refl

looked-abx : looked vv (0x61 ∷ 0x62 ∷ 0x78 ∷ []) ≡ 3
unfolding looked
looked-abx = refl

-- abc begins abcd too, so that of abcb all four are looked at for the token ab
looked-abcb : looked vv (0x61 ∷ 0x62 ∷ 0x63 ∷ 0x62 ∷ []) ≡ 4
unfolding looked
looked-abcb = refl

-- no token goes on after bc, nor after abcd: no byte more
looked-bcb : looked vv (0x62 ∷ 0x63 ∷ 0x62 ∷ []) ≡ 2
unfolding looked
looked-bcb = refl

looked-abcda : looked vv (0x61 ∷ 0x62 ∷ 0x63 ∷ 0x64 ∷ 0x61 ∷ []) ≡ 4
unfolding looked
looked-abcda = refl

-- the same bytes are read by the walk
read_x : looked_on v_memory (0x78 ∷ []) ≡ 1
unfolding looked_on
read_x = refl

read_xa : looked_on v_memory (0x78 ∷ 0x61 ∷ []) ≡ 2
unfolding looked_on root_list
read_xa = refl

read_abx : looked_on v_memory (0x61 ∷ 0x62 ∷ 0x78 ∷ []) ≡ 3
unfolding looked_on root_list table_list
read_abx = refl

read_bcb : looked_on v_memory (0x62 ∷ 0x63 ∷ 0x62 ∷ []) ≡ 2
unfolding looked_on root_list table_list
read_bcb = refl

read_abcda : looked_on v_memory (0x61 ∷ 0x62 ∷ 0x63 ∷ 0x64 ∷ 0x61 ∷ []) ≡ 4
unfolding looked_on root_list table_list
read_abcda = refl

looked_v : (n : ℕ) (s : List ℕ) → encode_looked v_memory n s ≡ sum_on v_memory (length (encoding v_memory (usable n) s).ids) 0 s
unfolding encode_looked
looked_v n s = ap (λ (o : Output). sum_on v_memory (length o.cells) 0 s) (encode_v n s)

-- aab: two for a, two for ab. abc: three for ab, and none for the place that fails; so if ab has no room, none at all.
aab-looked : encode_looked v_memory 3 (0x61 ∷ 0x61 ∷ 0x62 ∷ []) ≡ 4
unfolding encoding sum_on single_list root_list table_list
aab-looked = looked_v _ _ ∙ refl

abc-looked : encode_looked v_memory 3 (0x61 ∷ 0x62 ∷ 0x63 ∷ []) ≡ 3
unfolding encoding sum_on single_list root_list table_list
abc-looked = looked_v _ _ ∙ refl

no_room-looked : encode_looked v_memory 0 (0x61 ∷ 0x62 ∷ 0x63 ∷ []) ≡ 0
unfolding encoding sum_on single_list root_list table_list
no_room-looked = looked_v _ _ ∙ refl

-- "It never uses output cells past the first 2^56 − 1."
most-cells : usable (2 ^ 56) ≡ 2 ^ 56 - 1
most-cells = refl

-- The figures of pieces need not add up to that of the whole: of aa, over a alone, 2 and 1; of a by itself 1, and no byte is held.
abbrev only_a : List Token
only_a = record { id = 1; bytes = 0x61 ∷ [] } ∷ []

whole-aa : looked_sum only_a 2 (0x61 ∷ 0x61 ∷ []) ≡ 3
unfolding looked_at
whole-aa = refl

piece-a : looked_sum only_a 1 (0x61 ∷ []) ≡ 1
unfolding looked_at
piece-a = refl

a-waits_not : run only_a (0x61 ∷ []) ≡ record { ids = 1 ∷ []; stop = waiting 1 [] }
unfolding run_at
a-waits_not = refl

-- ── The running encoder ──────────────────────────────────────────────

-- Each call begins with the record that the one before it left. Document 02, W-202: the bytes looked at for its ids.

-- Pieces ab, b, c: none, then 3, then 5; end none.
ab_none :
    call_on v_memory fresh (add (0x61 ∷ 0x62 ∷ []) (replicate 2 0))
    ≡ record { answer = whole 0; stream = holding open_phase 2 (0x61 ∷ 0x62 ∷ []); ids = []; looked = 0 }
unfolding call_refusal goes_through single_list root_list table_list
ab_none = call_v _ _ ∙ refl

b_three :
    call_on v_memory (holding open_phase 2 (0x61 ∷ 0x62 ∷ [])) (add (0x62 ∷ []) (replicate 3 0))
    ≡ record { answer = whole 1; stream = holding open_phase 3 (0x62 ∷ []); ids = 3 ∷ []; looked = 3 }
unfolding call_refusal goes_through single_list root_list table_list
b_three = call_v _ _ ∙ refl

c_five :
    call_on v_memory (holding open_phase 3 (0x62 ∷ [])) (add (0x63 ∷ []) (replicate 2 0))
    ≡ record { answer = whole 1; stream = holding open_phase 4 []; ids = 5 ∷ []; looked = 2 }
unfolding call_refusal goes_through single_list root_list table_list
c_five = call_v _ _ ∙ refl

end_none :
    call_on v_memory (holding open_phase 4 []) (end [])
    ≡ record { answer = whole 0; stream = holding ended_phase 4 []; ids = []; looked = 0 }
unfolding call_refusal goes_through single_list root_list table_list
end_none = call_v _ _ ∙ refl

-- Piece abc, end: none, then 3 and 22 at 2.
abc-none :
    call_on v_memory fresh (add (0x61 ∷ 0x62 ∷ 0x63 ∷ []) (replicate 3 0))
    ≡ record { answer = whole 0; stream = holding open_phase 3 (0x61 ∷ 0x62 ∷ 0x63 ∷ []); ids = []; looked = 0 }
unfolding call_refusal goes_through single_list root_list table_list
abc-none = call_v _ _ ∙ refl

abc-ends :
    call_on v_memory (holding open_phase 3 (0x61 ∷ 0x62 ∷ 0x63 ∷ [])) (end (replicate 3 0))
    ≡ record {
      answer = record { number = 22; count = 1; place = 2; value = 0x63 };
      stream = stopped_at 3 2 0x63;
      ids = 3 ∷ [];
      looked = 3;
    }
unfolding call_refusal goes_through single_list root_list table_list
abc-ends = call_v _ _ ∙ refl

-- the same of the running form on tokens: what is handed out after ab, abb, abbc, abc
run-ab : run vv (0x61 ∷ 0x62 ∷ []) ≡ record { ids = []; stop = waiting 0 (0x61 ∷ 0x62 ∷ []) }
unfolding run_at
run-ab = refl

run-abb : run vv (0x61 ∷ 0x62 ∷ 0x62 ∷ []) ≡ record { ids = 3 ∷ []; stop = waiting 2 (0x62 ∷ []) }
unfolding run_at
run-abb = refl

run-abbc : run vv (0x61 ∷ 0x62 ∷ 0x62 ∷ 0x63 ∷ []) ≡ record { ids = 3 ∷ 5 ∷ []; stop = waiting 4 [] }
unfolding run_at
run-abbc = refl

run-abc : run vv (0x61 ∷ 0x62 ∷ 0x63 ∷ []) ≡ record { ids = []; stop = waiting 0 (0x61 ∷ 0x62 ∷ 0x63 ∷ []) }
unfolding run_at
run-abc = refl

-- ── Decoding ─────────────────────────────────────────────────────────

-- Decoding 4, 1 gives abcda
decode_4_1 : decode_on v_memory 5 (4 ∷ 1 ∷ []) ≡ record { answer = whole 5; cells = 0x61 ∷ 0x62 ∷ 0x63 ∷ 0x64 ∷ 0x61 ∷ [] }
unfolding decoding offset_list blob_bytes
decode_4_1 = decode_v _ _ ∙ refl

-- 3, 0 gives 27 at index 1
decode_3_0 :
    decode_on v_memory 5 (3 ∷ 0 ∷ [])
    ≡ record { answer = record { number = 27; count = 2; place = 1; value = 0 }; cells = 0x61 ∷ 0x62 ∷ [] }
unfolding decoding offset_list blob_bytes
decode_3_0 = decode_v _ _ ∙ refl

-- ── Literals ─────────────────────────────────────────────────────────

-- `'\x80'` is C2 80
x80_in_string : literal 1 (0x27 ∷ 0x5C ∷ 0x78 ∷ 0x38 ∷ 0x30 ∷ 0x27 ∷ []) ≡ Some (0xC2 ∷ 0x80 ∷ [])
unfolding literal
x80_in_string = refl

-- `b'\x80'` is 80
x80_in_bytes : literal 1 (0x62 ∷ 0x27 ∷ 0x5C ∷ 0x78 ∷ 0x38 ∷ 0x30 ∷ 0x27 ∷ []) ≡ Some (0x80 ∷ [])
unfolding literal
x80_in_bytes = refl

-- `'\01'` is 00 31
zero_then_one : literal 1 (0x27 ∷ 0x5C ∷ 0x30 ∷ 0x31 ∷ 0x27 ∷ []) ≡ Some (0x00 ∷ 0x31 ∷ [])
unfolding literal
zero_then_one = refl

-- ── Lengths ──────────────────────────────────────────────────────────

-- "Length 255 loads; 256 declared 256: 15, declared 255: 14."
abbrev of_length : ℕ → Token
of_length n = record { id = 1; bytes = replicate n 0x61 }

length-255 : length_rule 255 (of_length 255) ≡ pass (of_length 255)
unfolding length_rule need
length-255 = refl

length-256 : length_rule 256 (of_length 256) ≡ refuse 15
unfolding length_rule need
length-256 = refl

length-256_declared_255 : length_rule 255 (of_length 256) ≡ refuse 14
unfolding length_rule need
length-256_declared_255 = refl

-- ── The first bad byte ───────────────────────────────────────────────

-- Document 02, W-206, of a load into any memory that is long enough, in either edition and mode and whatever the room. "From here on it is
-- the offset of the first, found as in decoding to text."
module _ (edition : ℕ) (known : (eqb edition 1 || eqb edition 2) ≡ true) (m : Memory) (enough : too_short m ≡ false) (partial : Bool)
    (nodes table : ℕ) where
  -- A, é, FF, A, 80: ill-formed at 3 and at 5
  bad-at-two-places : load_on (vocabulary edition) partial nodes table m (0x41 ∷ 0xC3 ∷ 0xA9 ∷ 0xFF ∷ 0x41 ∷ 0x80 ∷ [])
      ≡ turned_down 2 (offset 3) m
  unfolding load_on start_of first_bad
  bad-at-two-places = rw (known, enough, start_of) refl

  -- A and two bytes of a character of three: where that character starts
  last-character-cut : load_on (vocabulary edition) partial nodes table m (0x41 ∷ 0xE2 ∷ 0x82 ∷ []) ≡ turned_down 2 (offset 1) m
  unfolding load_on start_of first_bad
  last-character-cut = rw (known, enough, start_of) refl

  -- E2 82 41: where the part starts, not the byte that breaks it off
  character-broken-off : load_on (vocabulary edition) partial nodes table m (0xE2 ∷ 0x82 ∷ 0x41 ∷ []) ≡ turned_down 2 (offset 0) m
  unfolding load_on start_of first_bad
  character-broken-off = rw (known, enough, start_of) refl

-- 1 comes before 2, and nothing is said of where the text is bad
short_before_bad : (m : Memory) → too_short m ≡ true → load_on (vocabulary 1) true 0 0 m (0x41 ∷ 0xFF ∷ []) ≡ turned_down 1 nowhere m
unfolding load_on start_of
short_before_bad m short = rw (short, start_of) refl

-- ── Editions ─────────────────────────────────────────────────────────

-- Document 02, W-205: "It refuses any edition but 1 and 2 with 34, before number 1, changing nothing." Any memory and any text.
module _ (m : Memory) (partial : Bool) (nodes table : ℕ) (text : List ℕ) where
  edition-0 : load_on (vocabulary 0) partial nodes table m text ≡ turned_down 34 nowhere m
  unfolding load_on start_of
  edition-0 = refl

  edition-3 : load_on (vocabulary 3) partial nodes table m text ≡ turned_down 34 nowhere m
  unfolding load_on start_of
  edition-3 = refl

-- "files of edition 1 read as ever": the base's escapes
edition_1 : escapes_of 1 ≡ escape
unfolding escapes_of
edition_1 = refl

edition_2 : escapes_of 2 ≡ escape2
unfolding escapes_of
edition_2 = refl

-- the line `1 '\01' 1` states the byte 1 in edition 2; in edition 1 it has two bytes, 14
one-in_edition_2 : read_line 2 0 (0x31 ∷ 0x20 ∷ 0x27 ∷ 0x5C ∷ 0x30 ∷ 0x31 ∷ 0x27 ∷ 0x20 ∷ 0x31 ∷ [])
    ≡ pass (record { id = 1; bytes = 0x01 ∷ [] })
unfolding read_line read_fields id_rule read_token length_rule and_then given need fields digits literal
one-in_edition_2 = refl

one-in_edition_1 : read_line 1 0 (0x31 ∷ 0x20 ∷ 0x27 ∷ 0x5C ∷ 0x30 ∷ 0x31 ∷ 0x27 ∷ 0x20 ∷ 0x31 ∷ []) ≡ refuse 14
unfolding read_line read_fields id_rule read_token length_rule and_then given need fields digits literal
one-in_edition_1 = refl
