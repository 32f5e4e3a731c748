-- The tokens of an accepted source are a valid vocabulary, and what the partial mode changes. Assumes nothing.
use Rattle.std.specs.Prelude.{◌≡◌, refl, ◌⊎◌, Bool, true, false, cond, ℕ, zero, suc, ◌+◌, ◌≤◌, ◌<◌, eqb, leb, length}
use Rattle.std.proofs.Common.{sym, ap, ◌∙◌, subst, inl, inr, arith, leb-true, eqb-true, ltb-false}
use Rattle.std.specs.Prelude.{Option, None, Some}
use mathlib.Core.List.Memᴰ
use mathlib.Core.List.{List, [], ◌∷◌, ◌++◌, Memᴰ}
use Rattle.std.proofs.lemmas.Bool.{eqb-false, not-true}
use Rattle.spec.specs.Lists.{each, same, Bytes}
use Rattle.spec.specs.Check.{Check, pass, refuse}
use Rattle.spec.specs.Line.{Fields}
use Rattle.spec.specs.Token.{Token, seen}
use Rattle.spec.specs.Trie.{node_count}
use Rattle.spec.specs.Layout.{table_words}
use Rattle.spec.specs.Valid.{Rising, Distinct, Valid}
use Rattle.spec.specs.Memory.{blob_bytes}
use Rattle.spec.specs.Load.{Room, id_rule, length_rule, read_token, read_fields, read_line, Form, vocabulary, records_in, reading, admit}
use Rattle.spec.specs.Load.{last_id, take_one, Place, nowhere, line, byte, Outcome, accepted, refused, missing, demanded, finish}
use Rattle.spec.specs.Load.{take_all}
use Rattle.spec.specs.Load.{load}
use Rattle.spec.specs.Theorems.{LoadsValid, FullIsFull, PartialDrops20}
use Rattle.laws.specs.Tests.{either, neither, same_refl, clash}
use Rattle.loading.specs.Checks.{need-pass, given-pass, then-pass}
use Rattle.loading.specs.ByteStrings.{AllBytes, records_bytes, fields-bytes, literal-bytes}

-- what a record that passed says of its token, after a token of id `previous`
pub record Reads (previous : ℕ) (t : Token) : Type 0 where
  pub above : previous < t.id
  pub small : t.id < 65536
  pub nonempty : 1 ≤ length t.bytes
  pub short : length t.bytes ≤ 255
  pub bytes : Bytes t.bytes

rule_passes : {A : Type 0} (previous id : ℕ) (c : Check A) (a : A) → id_rule previous id c ≡ pass a → (previous < id) × (c ≡ pass a)
unfolding id_rule
rule_passes previous id c a e =
    let (p, e₁) = need-pass _ _ _ _ e in
    let (q, e₂) = need-pass _ _ _ _ e₁ in
    let (r, e₃) = need-pass _ _ _ _ e₂ in
    let n = eqb-false id previous (not-true _ q) in
    let l = ltb-false id previous (not-true _ r) in
    (omega (arith, n, l), e₃)

length-passes : (wanted : ℕ) (t u : Token) → length_rule wanted t ≡ pass u → (t ≡ u) × (1 ≤ length t.bytes) × (length t.bytes ≤ 255)
unfolding length_rule
length-passes wanted t u e =
    let (p, e₁) = need-pass _ _ _ _ e in
    let (q, e₂) = need-pass _ _ _ _ e₁ in
    let (r, e₃) = need-pass _ _ _ _ e₂ in
    let n = eqb-false (length t.bytes) 0 (not-true _ p) in
    (cc, omega (arith, n), leb-true (length t.bytes) 255 r)

token_passes : (edition : ℕ) (f : Fields) (id previous : ℕ) (t : Token) → Bytes f.literal → previous < id → id ≤ 65535
    → read_token edition f id ≡ pass t → Reads previous t
unfolding read_token
token_passes edition f id previous t h a b e =
    let (wanted, p, e₁) = given-pass _ _ _ _ e in
    let (bs, q, e₂) = given-pass _ _ _ _ e₁ in
    let (z, n, l) = length-passes wanted (record { id = id; bytes = bs }) t e₂ in
    subst (Reads previous) z
    (record { above = a; small = omega arith; nonempty = n; short = l; bytes = literal-bytes edition f.literal bs q h })

line_passes : (edition previous : ℕ) (l : List ℕ) (t : Token) → Bytes l → read_line edition previous l ≡ pass t → Reads previous t
unfolding read_line read_fields
line_passes edition previous l t h e =
    let (f, p, e₁) = then-pass _ _ _ e in
    let (id, q, e₂) = given-pass _ _ _ _ e₁ in
    let (r, e₃) = need-pass _ _ _ _ e₂ in
    let (a, e₄) = rule_passes previous id (read_token edition f id) t e₃ in
    token_passes edition f id previous t (fields-bytes l f p h) a (leb-true id 65535 r) e₄

pub read-passes : (form : Form) (previous : ℕ) (r : List ℕ) (t : Token) → Bytes r → reading form previous r ≡ pass t → Reads previous t
unfolding reading
read-passes (vocabulary edition) previous r t h e = line_passes edition previous r t h e

-- ---- one more token

-- what an admitted token adds
pub record Admits (room : Room) (ts : List Token) (t : Token) (more : List Token) : Type 0 where
  pub more-is : more ≡ ts ++ (t ∷ [])
  pub new : seen ts t.bytes ≡ false
  pub nodes : node_count more ≤ room.nodes
  pub blob : length (blob_bytes more) ≤ room.blob

pub admit-passes : (room : Room) (ts : List Token) (t : Token) (more : List Token) → admit room ts t ≡ pass more → Admits room ts t more
unfolding admit
admit-passes room ts t more e =
    let (p, e₁) = need-pass _ _ _ _ e in
    let (q, e₂) = need-pass _ _ _ _ e₁ in
    let (r, e₃) = need-pass _ _ _ _ e₂ in
    let z : ts ++ (t ∷ []) ≡ more = cc in
    record {
      more-is = sym z;
      new = not-true _ p;
      nodes = subst (λ (l : List Token). node_count l ≤ room.nodes) z (leb-true _ _ q);
      blob = subst (λ (l : List Token). length (blob_bytes l) ≤ room.blob) z (leb-true _ _ r);
    }

last_above : (low : ℕ) (t : Token) (ts : List Token) → Rising low (t ∷ ts) → low < last_id (t ∷ ts)
unfolding last_id
last_above low t [] r = r.0
last_above low t (u ∷ ts) r = let a = r.0 in let b = last_above t.id u ts r.1 in omega arith

rising_snoc : (low : ℕ) (ts : List Token) (t : Token) → Rising low ts → last_id ts < t.id → low < t.id → Rising low (ts ++ (t ∷ []))
unfolding last_id
rising_snoc low [] t r a b = (b, tt)
rising_snoc low (u ∷ []) t r a b = (r.0, (a, tt))
rising_snoc low (u ∷ v ∷ ts) t r a b = let c = last_above u.id v ts r.1 in
    (r.0, rising_snoc u.id (v ∷ ts) t r.1 a (omega arith))

distinct_snoc : (ts : List Token) (t : Token) → Distinct ts → seen ts t.bytes ≡ false → Distinct (ts ++ (t ∷ []))
unfolding seen
distinct_snoc [] t d e = ((λ u m. absurd (Memᴰ.not-nil m)), tt)
distinct_snoc (u ∷ ts) t d e =
    let (p, q) = neither (same t.bytes u.bytes) (seen ts t.bytes) e in
    ((λ v m k. go v k (Memᴰ.append_cases ts m) p), distinct_snoc ts t d.1 q)
  where
    go : (v : Token) → u.bytes ≡ v.bytes → Memᴰ v ts ⊎ Memᴰ v (t ∷ []) → same t.bytes u.bytes ≡ false → ⊥
    go v k (inl m) p = d.0 v m k
    go v k (inr m) p =
        let z = Memᴰ.eq_of_singleton m in
        clash (ap (same t.bytes) (k ∙ ap (λ (w : Token). w.bytes) z) ∙ same_refl t.bytes) p

empty-valid : Valid []
empty-valid = record {
  rising = tt;
  distinct = tt;
  id-fits = λ t m. absurd (Memᴰ.not-nil m);
  nonempty = λ t m. absurd (Memᴰ.not-nil m);
  short = λ t m. absurd (Memᴰ.not-nil m);
  bytes = λ t m. absurd (Memᴰ.not-nil m);
}

-- a valid vocabulary with one more token that was read and is new
pub valid_snoc : (ts : List Token) (t : Token) → Valid ts → Reads (last_id ts) t → seen ts t.bytes ≡ false → Valid (ts ++ (t ∷ []))
valid_snoc ts t v r new = record {
  rising = let a = r.above in rising_snoc 0 ts t v.rising a (omega arith);
  distinct = distinct_snoc ts t v.distinct new;
  id-fits = each (λ (u : Token). u.id < 65536) v.id-fits r.small;
  nonempty = each (λ (u : Token). 1 ≤ length u.bytes) v.nonempty r.nonempty;
  short = each (λ (u : Token). length u.bytes ≤ 255) v.short r.short;
  bytes = each (λ (u : Token). Bytes u.bytes) v.bytes r.bytes;
}
  where
    each : (P : Token → Type 0) → ((u : Token) → Memᴰ u ts → P u) → P t → (u : Token) → Memᴰ u (ts ++ (t ∷ [])) → P u
    each P h p u m = go (Memᴰ.append_cases ts m)
      where
        go : Memᴰ u ts ⊎ Memᴰ u (t ∷ []) → P u
        go (inl n) = h u n
        go (inr n) = subst P (sym (Memᴰ.eq_of_singleton n)) p

-- ---- all records

-- what holds of the tokens before a record holds after it
pub record_valid : (form : Form) (room : Room) (ts : List Token) (l : List ℕ) (more : List Token) → Valid ts → Bytes l
    → take_one form room ts l ≡ pass more
    → Valid more
unfolding take_one
record_valid form room ts l more v h e =
    let (t, p, q) = then-pass _ _ _ e in
    let a = admit-passes room ts t more q in
    subst Valid (sym a.more-is) (valid_snoc ts t v (read-passes form (last_id ts) l t h p) a.new)

pub accepted≢refused : (ts : List Token) (n : ℕ) (p : Place) → refused n p ≡ accepted ts → ⊥
accepted≢refused ts n p e = let z : ◌≡◌ {A = ℕ} 0 1 = cc in omega arith

-- what an accepted end says of its tokens
pub record Finishes (partial : Bool) (room : Room) (ts : List Token) : Type 0 where
  pub whole : demanded partial (missing ts 256 0) ≡ None
  pub table : table_words ts ≤ room.table

pub finish-accepts : (partial : Bool) (room : Room) (ts us : List Token) → finish partial room ts ≡ accepted us → (ts ≡ us)
    × Finishes partial room ts
unfolding finish
finish-accepts partial room [] us e = absurd (accepted≢refused us 19 nowhere e)
finish-accepts partial room (t ∷ ts) us e = go (demanded partial (missing (t ∷ ts) 256 0)) refl e
  where
    room_for : (c : Bool) → leb (table_words (t ∷ ts)) room.table ≡ c → cond c (accepted (t ∷ ts)) (refused 21 nowhere) ≡ accepted us
        → (t ∷ ts ≡ us) × (table_words (t ∷ ts) ≤ room.table)
    room_for true q k = (cc, leb-true _ _ q)
    room_for false q k = absurd (accepted≢refused us 21 nowhere k)

    go : (o : Option ℕ) → demanded partial (missing (t ∷ ts) 256 0) ≡ o
        → elim o [
          | Some b ↦ refused 20 (byte b)
          | None ↦ cond (leb (table_words (t ∷ ts)) room.table) (accepted (t ∷ ts))
              (refused 21 nowhere)
        ] ≡ accepted us
        → (t ∷ ts ≡ us) × Finishes partial room (t ∷ ts)
    go (Some b) o k = absurd (accepted≢refused us 20 (byte b) k)
    go None o k = let (z, w) = room_for (leb (table_words (t ∷ ts)) room.table) refl k in (z, record { whole = o; table = w })

-- what holds of the tokens read so far
pub record Held (room : Room) (ts : List Token) : Type 0 where
  pub valid : Valid ts
  pub blob : length (blob_bytes ts) ≤ room.blob

pub none-held : (room : Room) → Held room []
unfolding blob_bytes each
none-held room = record { valid = empty-valid; blob = omega arith }

pub record_held : (form : Form) (room : Room) (ts : List Token) (l : List ℕ) (more : List Token) → Held room ts → Bytes l
    → take_one form room ts l ≡ pass more
    → Held room more
unfolding take_one
record_held form room ts l more v h e =
    let (t, p, q) = then-pass _ _ _ e in
    record { valid = record_valid form room ts l more v.valid h e; blob = (admit-passes room ts t more q).blob }

-- what an accepted source says of its tokens
pub records_accept : (form : Form) (partial : Bool) (room : Room) (n : ℕ) (ts : List Token) (ls : List (List ℕ)) (us : List Token)
    → Held room ts
    → AllBytes ls
    → take_all form partial room n ts ls ≡ accepted us → Held room us × Finishes partial room us
unfolding take_all
records_accept form partial room n ts [] us v h e =
    let (z, f) = finish-accepts partial room ts us e in
    (subst (Held room) z v, subst (Finishes partial room) z f)
records_accept form partial room n ts (l ∷ ls) us v h e = go (take_one form room ts l) refl e
    (λ more w. records_accept form partial room (suc n) more ls us w h.1)
  where
    go : (c : Check (List Token)) → take_one form room ts l ≡ c
        → elim c [ pass more ↦ take_all form partial room (suc n) more ls | refuse number ↦ refused number (line n) ] ≡ accepted us
        → ((more : List Token) → Held room more → take_all form partial room (suc n) more ls ≡ accepted us → Held room us
        × Finishes partial room us)
        → Held room us × Finishes partial room us
    go (pass more) p k r = r more (record_held form room ts l more v h.0 p) k
    go (refuse number) p k r = absurd (accepted≢refused us number (line n) k)

pub load-accepts : (form : Form) (partial : Bool) (room : Room) (body : List ℕ) → Bytes body → (ts : List Token)
    → load form partial room body ≡ accepted ts
    → Held room ts × Finishes partial room ts
unfolding load
load-accepts form partial room body h ts e =
    records_accept form partial room 1 [] (records_in form body) ts (none-held room) (records_bytes form body h) e

-- The tokens of an accepted source are a valid vocabulary.
pub loads_valid : LoadsValid
loads_valid form partial room body h ts e = (load-accepts form partial room body h ts e).0.valid

-- ---- the modes

None≢Some : {A : Type 0} (a : A) → Some a ≡ None → ⊥
None≢Some a e = let z : ◌≡◌ {A = ℕ} 0 1 = cc in omega arith

missing-none : (ts : List Token) (n b : ℕ) → missing ts n b ≡ None → (c : ℕ) → b ≤ c → c < b + n → seen ts (c ∷ []) ≡ true
unfolding missing
missing-none ts zero b e c l h = absurd (omega arith)
missing-none ts (suc n) b e c l h = go (seen ts (b ∷ [])) refl e (either (eqb b c)) (λ k. missing-none ts n (suc b) k c)
  where
    go : (t : Bool) → seen ts (b ∷ []) ≡ t → cond t (missing ts n (suc b)) (Some b) ≡ None → (eqb b c ≡ true) ⊎ (eqb b c ≡ false)
        → (missing ts n (suc b) ≡ None → suc b ≤ c → c < suc b + n → seen ts (c ∷ []) ≡ true) → seen ts (c ∷ []) ≡ true
    go false p k q r = absurd (None≢Some b k)
    go true p k (inl q) r = ap (λ (x : ℕ). seen ts (x ∷ [])) (sym (eqb-true b c q)) ∙ p
    go true p k (inr q) r = let ne = eqb-false b c q in r k (omega (arith, ne)) (omega arith)

-- an end depends on the mode by refusal 20 alone
finish-modes : (room : Room) (ts : List Token) → (finish false room ts ≡ finish true room ts) ⊎
    ((b : ℕ) × (finish false room ts ≡ refused 20 (byte b)))
unfolding finish
finish-modes room [] = inl refl
finish-modes room (t ∷ ts) = go (missing (t ∷ ts) 256 0)
  where
    end : Outcome
    end = cond (leb (table_words (t ∷ ts)) room.table) (accepted (t ∷ ts)) (refused 21 nowhere)

    go : (o : Option ℕ) → (elim o [ Some b ↦ refused 20 (byte b) | None ↦ end ] ≡ end) ⊎
        ((b : ℕ) × (elim o [ Some b ↦ refused 20 (byte b) | None ↦ end ] ≡ refused 20 (byte b)))
    go None = inl refl
    go (Some b) = inr (b, refl)

records_modes : (form : Form) (room : Room) (n : ℕ) (ts : List Token) (ls : List (List ℕ))
    → (take_all form false room n ts ls ≡ take_all form true room n ts ls)
    ⊎ ((b : ℕ) × (take_all form false room n ts ls ≡ refused 20 (byte b)))
unfolding take_all
records_modes form room n ts [] = finish-modes room ts
records_modes form room n ts (l ∷ ls) = go (take_one form room ts l) (λ more. records_modes form room (suc n) more ls)
  where
    after : Bool → Check (List Token) → Outcome
    after partial c = elim c [ pass more ↦ take_all form partial room (suc n) more ls | refuse number ↦ refused number (line n) ]

    go : (c : Check (List Token))
        → ((more : List Token) → (take_all form false room (suc n) more ls ≡ take_all form true room (suc n) more ls) ⊎
        ((b : ℕ) × (take_all form false room (suc n) more ls ≡ refused 20 (byte b))))
        → (after false c ≡ after true c) ⊎ ((b : ℕ) × (after false c ≡ refused 20 (byte b)))
    go (pass more) r = r more
    go (refuse number) r = inl refl

-- "the partial one only drops refusal 20"
pub partial_drops_20 : PartialDrops20
unfolding load
partial_drops_20 form room body = records_modes form room 1 [] (records_in form body)

-- the end's facts, of any records
full-records : (form : Form) (room : Room) (n : ℕ) (ts : List Token) (ls : List (List ℕ)) (us : List Token)
    → take_all form false room n ts ls ≡ accepted us
    → Finishes false room us
unfolding take_all
full-records form room n ts [] us e = let (z, f) = finish-accepts false room ts us e in subst (Finishes false room) z f
full-records form room n ts (l ∷ ls) us e = go (take_one form room ts l) e (λ more. full-records form room (suc n) more ls us)
  where
    go : (c : Check (List Token))
        → elim c [ pass more ↦ take_all form false room (suc n) more ls | refuse number ↦ refused number (line n) ] ≡
        accepted us
        → ((more : List Token) → take_all form false room (suc n) more ls ≡ accepted us → Finishes false room us) → Finishes false room us
    go (pass more) k r = r more k
    go (refuse number) k r = absurd (accepted≢refused us number (line n) k)

-- In full mode every byte has a one-byte token.
pub full-is_full : FullIsFull
unfolding load
full-is_full form room body ts e b h = go 1 [] (records_in form body) e
  where
    go : (n : ℕ) (us : List Token) (ls : List (List ℕ)) → take_all form false room n us ls ≡ accepted ts → seen ts (b ∷ []) ≡ true
    go n us ls k = missing-none ts 256 0 (full-records form room n us ls ts k).whole b (omega arith) (omega arith)
