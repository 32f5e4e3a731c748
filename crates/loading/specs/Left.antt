-- An accepted load leaves loaded memory: from a source to the theorems on matching, encoding and decoding. Assumes nothing.
use Rattle.std.specs.Prelude.{◌≡◌, refl, Bool, true, false, not, ◌||◌, cond, List, [], ◌∷◌, ℕ, suc, ◌≤◌, eqb, leb, length}
use Rattle.std.proofs.Common.{sym, ap₂, ◌∙◌, subst, inl, inr, arith, eqb-true}
use Rattle.std.proofs.Math.Path.{ap}
use Rattle.std.specs.Prelude.{Option, None, Some}
use Rattle.spec.specs.Lists.{Bytes}
use Rattle.spec.specs.Check.{Check, pass, refuse, given, need}
use Rattle.spec.specs.Utf8.{well_formed, first_bad, blank}
use Rattle.spec.specs.Line.{Fields, first_space, last_space, parted, placed, fields}
use Rattle.spec.specs.Token.{Token}
use Rattle.spec.specs.Layout.{table_words}
use Rattle.spec.specs.Memory.{Memory, too_short, memory_of, Loaded}
use Rattle.spec.specs.Load.{Room, id_rule, length_rule, read_token, read_fields, read_line, Form, vocabulary, records_in, reading, admit}
use Rattle.spec.specs.Load.{last_id, take_one, Place, nowhere, line, byte, offset, Outcome, accepted, refused, missing, demanded, finish}
use Rattle.spec.specs.Load.{take_all, load, Start, halts, goes, halt_if, in_utf8, start_of, counts_of, LoadResult, settled, begun}
use Rattle.spec.specs.Load.{load_on}
use Rattle.spec.specs.Theorems.{LoadsLoaded, Edition, TextStarts, TextGoes, NamesFirstBad}
use Rattle.laws.specs.FirstBad.{well_formed_none, not-well_formed, first-bad_is_first}
use Rattle.laws.specs.Tests.{clash}
use Rattle.laws.specs.Reads.{loaded}
use Rattle.loading.specs.Checks.{Numbered, pass-numbered, need-numbered, given-numbered, then-numbered}
use Rattle.loading.specs.Accepted.{accepted≢refused, load-accepts}

-- ---- a record is refused with 3 or more

fields-numbered : (l : List ℕ) → Numbered (fields l)
unfolding fields
fields-numbered l =
    need-numbered 3 (not (blank l)) (given 4 (first_space l) (λ first. given 4 (last_space l) (spaced first))) (omega arith)
    (given-numbered 4 (first_space l) (λ first. given 4 (last_space l) (spaced first)) (omega arith) (λ first.
    given-numbered 4 (last_space l) (spaced first) (omega arith) (λ last.
    need-numbered 5 (placed first last l) (pass (parted first last l)) (omega arith) (pass-numbered (parted first last l)))))
  where
    spaced : ℕ → ℕ → Check Fields
    spaced first last = need 5 (placed first last l) (pass (parted first last l))

length-numbered : (wanted : ℕ) (t : Token) → Numbered (length_rule wanted t)
unfolding length_rule
length-numbered wanted t = need-numbered _ _ _ (omega arith) (need-numbered _ _ _ (omega arith)
    (need-numbered _ _ _ (omega arith) (pass-numbered _)))

fields_read : (edition previous : ℕ) (f : Fields) → Numbered (read_fields edition previous f)
unfolding read_fields id_rule read_token
fields_read edition previous f =
    given-numbered _ _ _ (omega arith) (λ id.
    need-numbered _ _ _ (omega arith)
    (need-numbered _ _ _ (omega arith) (need-numbered _ _ _ (omega arith) (need-numbered _ _ _ (omega arith)
    (given-numbered _ _ _ (omega arith) (λ wanted. given-numbered _ _ _ (omega arith) (λ bytes. length-numbered wanted _)))))))

read-numbered : (form : Form) (previous : ℕ) (r : List ℕ) → Numbered (reading form previous r)
unfolding reading read_line
read-numbered (vocabulary edition) previous r =
    then-numbered (fields r) (read_fields edition previous) (fields-numbered r) (fields_read edition previous)

record_numbered : (form : Form) (room : Room) (ts : List Token) (r : List ℕ) → Numbered (take_one form room ts r)
unfolding take_one admit
record_numbered form room ts r =
    then-numbered (reading form (last_id ts) r) (admit room ts) (read-numbered form (last_id ts) r)
    (λ t. need-numbered _ _ _ (omega arith) (need-numbered _ _ _ (omega arith) (need-numbered _ _ _ (omega arith) (pass-numbered _))))

-- ---- what an outcome's number says

finish-refused : (partial : Bool) (room : Room) (ts : List Token) (n : ℕ) (p : Place) → finish partial room ts ≡ refused n p → 3 ≤ n
unfolding finish
finish-refused partial room [] n p e = let z : 19 ≡ n = cc in omega arith
finish-refused partial room (t ∷ ts) n p e = go (demanded partial (missing (t ∷ ts) 256 0)) e
  where
    at : (c : Bool) → cond c (accepted (t ∷ ts)) (refused 21 nowhere) ≡ refused n p → 3 ≤ n
    at true e = absurd (accepted≢refused (t ∷ ts) n p (sym e))
    at false e = let z : 21 ≡ n = cc in omega arith

    go : (o : Option ℕ)
        → elim o [
          | Some b ↦ refused 20 (byte b)
          | None ↦ cond (leb (table_words (t ∷ ts)) room.table) (accepted (t ∷ ts)) (refused 21 nowhere)
        ] ≡ refused n p
        → 3 ≤ n
    go (Some b) e = let z : 20 ≡ n = cc in omega arith
    go None e = at (leb (table_words (t ∷ ts)) room.table) e

records_refused : (form : Form) (partial : Bool) (room : Room) (k : ℕ) (ts : List Token) (rs : List (List ℕ)) (n : ℕ) (p : Place)
    → take_all form partial room k ts rs ≡ refused n p → 3 ≤ n
unfolding take_all
records_refused form partial room k ts [] n p e = finish-refused partial room ts n p e
records_refused form partial room k ts (r ∷ rs) n p e =
    go (take_one form room ts r) (record_numbered form room ts r) e (λ more. records_refused form partial room (suc k) more rs n p)
  where
    go : (c : Check (List Token)) → Numbered c
        → elim c [ pass more ↦ take_all form partial room (suc k) more rs | refuse number ↦ refused number (line k) ] ≡ refused n p
        → ((more : List Token) → take_all form partial room (suc k) more rs ≡ refused n p → 3 ≤ n) → 3 ≤ n
    go (pass more) h e r = r more e
    go (refuse number) h e r = let z : number ≡ n = cc in let b = h.above number refl in omega arith

-- Records that are read are refused with 3 or more, never with 0.
pub load-refused : (form : Form) (partial : Bool) (room : Room) (body : List ℕ) (n : ℕ) (p : Place)
    → load form partial room body ≡ refused n p → 3 ≤ n
unfolding load
load-refused form partial room body n p e = records_refused form partial room 1 [] (records_in form body) n p e

-- the number of an outcome is 0 just where it is accepted
abbrev number_of : Outcome → ℕ
number_of (accepted ts) = 0
number_of (refused n p) = n

load-accepted : (form : Form) (partial : Bool) (room : Room) (body : List ℕ) → number_of (load form partial room body) ≡ 0
    → (ts : List Token) × (load form partial room body ≡ accepted ts)
load-accepted form partial room body e = go (load form partial room body) refl e
  where
    go : (o : Outcome) → load form partial room body ≡ o → number_of o ≡ 0 → (ts : List Token) × (o ≡ accepted ts)
    go (accepted ts) q e = (ts, refl)
    go (refused n p) q e = let b = load-refused form partial room body n p q in absurd (omega arith)

-- ---- the start of a load

-- a test before the records that was passed
passes : (b : Bool) (n : ℕ) (rest : Start) (mode : Bool) (body : List ℕ) → halt_if b n rest ≡ goes mode body
    → (b ≡ false) × (rest ≡ goes mode body)
passes true n rest mode body e = absurd (let z : ◌≡◌ {A = ℕ} 0 1 = cc in omega arith)
passes false n rest mode body e = (refl, e)

utf8_passes : (o : Option ℕ) (rest : Start) (mode : Bool) (body : List ℕ) → in_utf8 o rest ≡ goes mode body → rest ≡ goes mode body
utf8_passes None rest mode body e = e
utf8_passes (Some k) rest mode body e = absurd (let z : ◌≡◌ {A = ℕ} 0 1 = cc in omega arith)

-- a load that halts before its records has a number above 0
late : (b : Bool) (k : ℕ) (rest : Start) (n : ℕ) (p : Place) → 1 ≤ k → (rest ≡ halts n p → 1 ≤ n) → halt_if b k rest ≡ halts n p → 1 ≤ n
late true k rest n p h r e = let z : k ≡ n = cc in omega arith
late false k rest n p h r e = r e

utf8_late : (o : Option ℕ) (mode : Bool) (body : List ℕ) (n : ℕ) (p : Place) → in_utf8 o (goes mode body) ≡ halts n p → 1 ≤ n
utf8_late None mode body n p e = absurd (let z : ◌≡◌ {A = ℕ} 0 1 = cc in omega arith)
utf8_late (Some k) mode body n p e = let z : 2 ≡ n = cc in omega arith

start-halts : (form : Form) (partial : Bool) (m : Memory) (s : List ℕ) (n : ℕ) (p : Place) → start_of form partial m s ≡ halts n p → 1 ≤ n
unfolding start_of
start-halts (vocabulary edition) partial m s n p e =
    late (not (eqb edition 1 || eqb edition 2)) 34 _ n p (omega arith)
    (late (too_short m) 1 _ n p (omega arith) (utf8_late (first_bad s) partial s n p)) e

known : (edition : ℕ) → Edition edition → not (eqb edition 1 || eqb edition 2) ≡ false
known edition (inl e) = rw e
known edition (inr e) = rw e

is_known : (edition : ℕ) → not (eqb edition 1 || eqb edition 2) ≡ false → Edition edition
is_known edition h = go (eqb edition 1) (eqb edition 2) refl refl h
  where
    go : (b c : Bool) → eqb edition 1 ≡ b → eqb edition 2 ≡ c → not (b || c) ≡ false → Edition edition
    go true c e f h = inl (eqb-true edition 1 e)
    go false true e f h = inr (eqb-true edition 2 f)
    go false false e f h = absurd (clash refl h)

-- a text of an edition that there is, with memory that is long enough, by its first bad byte
by_first_bad : (edition : ℕ) (partial : Bool) (m : Memory) (s : List ℕ) → Edition edition → too_short m ≡ false
    → (o : Option ℕ) → first_bad s ≡ o → start_of (vocabulary edition) partial m s ≡ in_utf8 o (goes partial s)
unfolding start_of
by_first_bad edition partial m s k long o e =
    ap (λ (b : Bool). halt_if b 34 (halt_if (too_short m) 1 (in_utf8 (first_bad s) (goes partial s)))) (known edition k)
    ∙ ap₂ (λ (b : Bool) (x : Option ℕ). halt_if b 1 (in_utf8 x (goes partial s))) long e

pub text_starts : TextStarts
text_starts edition partial m s k long w = by_first_bad edition partial m s k long None (well_formed_none s w)

pub text_goes : TextGoes
unfolding start_of
text_goes edition partial m s mode body e =
    let (a, e₁) = passes (not (eqb edition 1 || eqb edition 2)) 34 _ mode body e in
    let (b, e₂) = passes (too_short m) 1 _ mode body e₁ in
    let e₃ = utf8_passes (first_bad s) (goes partial s) mode body e₂ in
    let p : partial ≡ mode = cc in
    let q : s ≡ body = cc in
    (is_known edition a, b, good (well_formed s) refl e₂, sym p, sym q)
  where
    good : (c : Bool) → well_formed s ≡ c → in_utf8 (first_bad s) (goes partial s) ≡ goes mode body → c ≡ true
    good true w e = refl
    good false w e =
        let (k, f) = not-well_formed s w in
        let z : halts 2 (offset k) ≡ goes mode body = sym (ap (λ (o : Option ℕ). in_utf8 o (goes partial s)) f) ∙ e in
        absurd (let y : ◌≡◌ {A = ℕ} 0 1 = cc in omega arith)

-- a load that goes on to its records passed number 1, and they stand in a byte string
pub start-goes : (form : Form) (partial : Bool) (m : Memory) (s : List ℕ) (mode : Bool) (body : List ℕ)
    → start_of form partial m s ≡ goes mode body → (too_short m ≡ false) × (Bytes s → Bytes body)
start-goes (vocabulary edition) partial m s mode body e =
    let t = text_goes edition partial m s mode body e in
    (t.1, subst Bytes (sym t.4))

-- ---- what a load answers and leaves

-- what the records of a body state, with the room that is lent
module _ (form : Form) (nodes table : ℕ) (m : Memory) where
  abbrev pub stated : Bool → List ℕ → Outcome
  stated mode body = load form mode (record { nodes = nodes; blob = length m.blob; table = table }) body

  -- a load by its start
  pub by-start : (partial : Bool) (s : List ℕ) (start : Start) → start_of form partial m s ≡ start
      → load_on form partial nodes table m s ≡ begun stated m start
  unfolding load_on
  by-start partial s start e = ap (begun stated m) e

number_is : (m : Memory) (o : Outcome) → (settled m o).answer.number ≡ number_of o
unfolding settled
number_is m (accepted ts) = refl
number_is m (refused n p) = refl

-- a load that answers 0: nothing was refused before the records, and these were accepted
pub record Passed (form : Form) (partial : Bool) (nodes table : ℕ) (m : Memory) (s : List ℕ) : Type 0 where
  pub mode : Bool
  pub body : List ℕ
  pub starts : start_of form partial m s ≡ goes mode body
  pub tokens : List Token
  pub accepts : stated form nodes table m mode body ≡ accepted tokens

passed : (form : Form) (partial : Bool) (nodes table : ℕ) (m : Memory) (s : List ℕ)
    → (load_on form partial nodes table m s).answer.number ≡ 0 → Passed form partial nodes table m s
passed form partial nodes table m s e =
    go (start_of form partial m s) refl
    (ap (λ (x : LoadResult). x.answer.number) (sym (by-start form nodes table m partial s (start_of form partial m s) refl)) ∙ e)
  where
    go : (start : Start) → start_of form partial m s ≡ start → (begun (stated form nodes table m) m start).answer.number ≡ 0
        → Passed form partial nodes table m s
    go (halts n p) a e = absurd (let h = start-halts form partial m s n p a in omega arith)
    go (goes mode body) a e =
        let (ts, q) = load-accepted form mode _ body (sym (number_is m (stated form nodes table m mode body)) ∙ e) in
        record { mode = mode; body = body; starts = a; tokens = ts; accepts = q }

-- what a load that states tokens answers and leaves
pub loads_accepted : (form : Form) (partial : Bool) (nodes table : ℕ) (m : Memory) (s : List ℕ) (mode : Bool) (body : List ℕ)
    → start_of form partial m s ≡ goes mode body → (ts : List Token) → stated form nodes table m mode body ≡ accepted ts
    → load_on form partial nodes table m s
    ≡ record { answer = record { number = 0; place = nowhere; counts = counts_of ts }; memory = memory_of ts m }
unfolding settled
loads_accepted form partial nodes table m s mode body a ts e =
    by-start form nodes table m partial s (goes mode body) a ∙ ap (settled m) e

-- An accepted load leaves loaded memory.
pub loads_loaded : LoadsLoaded
loads_loaded form partial nodes table m s h room e =
    let P = passed form partial nodes table m s e in
    let ts = P.tokens in
    let (long, bytes) = start-goes form partial m s P.mode P.body P.starts in
    let (held, done) = load-accepts form P.mode _ P.body (bytes h) ts P.accepts in
    let t : table_words ts ≤ length m.table = let d = done.table in omega arith in
    let q = loads_accepted form partial nodes table m s P.mode P.body P.starts ts P.accepts in (
      P.mode,
      P.body,
      ts,
      P.starts,
      P.accepts,
      subst (λ (x : LoadResult). Loaded x.memory ts) (sym q) (loaded ts m long held.blob t held.valid),
    )

-- A text that is not UTF-8 is refused at its first bad byte.
pub names_first_bad : NamesFirstBad
names_first_bad edition partial nodes table m text is long bad =
    let (k, e) = not-well_formed text bad in
    let (inside, other, before) = first-bad_is_first text k e in
    let starts = by_first_bad edition partial m text is long (Some k) e in
    (k, by-start (vocabulary edition) nodes table m partial text (halts 2 (offset k)) starts, inside, other, before)
