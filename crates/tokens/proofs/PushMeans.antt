-- One more token in the memory under construction: the theorem that `push` cites, and its parts. Assumes nothing.
use mathlib.Core.Path.{◌≡◌, refl, sym, ap, ap₂, ◌∙◌, subst}
use mathlib.Core.Logic.{◌⊎◌, inl, inr}
use mathlib.Core.Bool.{Bool, true, false, not, cond}
use mathlib.Core.List.Memᴰ.{head as here}
use mathlib.Core.List.Memᴰ.{tail as there}
use mathlib.Core.List.{List, [], ◌∷◌, ◌++◌, append-nil, Memᴰ as Mem}
use mathlib.Core.List.Memᴰ.{not-nil}
use Prim.Native.Nat.{ℕ, zero, suc, ◌+◌, ◌-◌, ◌^◌, ◌≤◌, ◌<◌, min}
use native.Mathlib.Omega.{arith}
use lib.IntN.{ℤ, pos}
use lib.Dec.{eqb, ltb, leb}
use lib.ListN.{length, take, drop, get_or, set, replicate, length-append, length-set, length-replicate, get_or-replicate}
use lib.Seq.{sets, length-sets, get_or-set_same, get_or-set_other, drop-set-lt}
use borrow.Author.Tests.{eqb-true, eqb-false, eq-eqb, ne_eqb, le-ltb, le-leb, lt-leb, leb-true, leb-false}
use Rattle.spec.specs.Lists.{each, fold, same, Bytes}
use Rattle.spec.specs.Check.{pass, refuse, need}
use Rattle.spec.specs.Token.{Token, id_of, seen}
use Rattle.spec.specs.Trie.{nodes, node_count}
use Rattle.spec.specs.Valid.{Rising, Valid}
use Rattle.spec.specs.Memory.{id_or_none, length_before, single_list, blob_bytes, padded}
use Rattle.spec.specs.Load.{Room, admit, last_id}
use Rattle.laws.specs.Tests.{Tested, either, no_true, same-eq, same_refl, yes_case, no_case}
use Rattle.laws.specs.OneMore.{each_append, id_snoc}
use Rattle.laws.specs.Reads.{listed}
use Rattle.laws.specs.Spans.{before-all}
use Rattle.laws.specs.Bounds.{node_count-small}
use Rattle.loading.specs.Accepted.{Reads, valid_snoc}
use Rattle.nodes.specs.Run.{Nodes, room}
use Rattle.nodes.specs.Stands.{Stands, Grown, answer_for}
use Rattle.nodes.proofs.Chains.{bytes_of}
use Rattle.nodes.proofs.InsertionMeans.{seen-id, stands_one, nodes-one}
use Rattle.std.specs.Prelude.{Result, Ok, Err}
use Rattle.refusals.specs.Numbers.{number}
use Rattle.refusals.specs.declared.Refusal.{Refusal}
use Rattle.refusals.specs.declared.Refusal.TheVariants.{SeenBefore, NodesFull, BlobFull}
use Rattle.entry.specs.TokenOf.{token_of}
use Rattle.entry.specs.declared.Entry.{Entry}
use Rattle.tokens.specs.Built.{Built, Kept, Counts, room_for, PushedAs, is_taken, one_entered, set_single, set_offsets}
use Rattle.tokens.proofs.CellRuns.{run-before, run_in, run-behind, pad-more, by_index}
use Rattle.tokens.specs.declared.Build.{Build}

-- ---- tokens and bytes

pub blob_snoc : (ts : List Token) (t : Token) → blob_bytes (ts ++ (t ∷ [])) ≡ blob_bytes ts ++ t.bytes
unfolding blob_bytes each
blob_snoc ts t =
    each_append (λ (u : Token). u.bytes) ts (t ∷ []) ∙ ap (λ (l : List ℕ). each (λ (u : Token). u.bytes) ts ++ l) (append-nil t.bytes)

pub total_snoc : (ts : List Token) (t : Token) → length (blob_bytes (ts ++ (t ∷ []))) ≡ length (blob_bytes ts) + length t.bytes
total_snoc ts t = ap length (blob_snoc ts t) ∙ length-append (blob_bytes ts) t.bytes

-- before its own id a token counts for nothing
before-snoc : (ts : List Token) (t : Token) (i : ℕ) → i ≤ t.id → length_before (ts ++ (t ∷ [])) i ≡ length_before ts i
unfolding length_before
before-snoc [] t i h = ap (λ (c : Bool). cond c (length t.bytes) 0 + 0) (le-ltb t.id i h)
before-snoc (u ∷ ts) t i h = ap (λ (n : ℕ). cond (ltb u.id i) (length u.bytes) 0 + n) (before-snoc ts t i h)

last_snoc : (ts : List Token) (t : Token) → last_id (ts ++ (t ∷ [])) ≡ t.id
unfolding last_id
last_snoc [] t = refl
last_snoc (u ∷ []) t = refl
last_snoc (u ∷ v ∷ ts) t = last_snoc (v ∷ ts) t

id_new : (ts : List Token) (t : Token) → ((u : Token) → Mem u ts → 1 ≤ u.id) → id_of ts t.bytes ≡ 0 → id_of (ts ++ (t ∷ [])) t.bytes
    ≡ t.id
id_new ts t low z = id_snoc ts t t.bytes low ∙ yes_case _ _ (eq-eqb (id_of ts t.bytes) 0 z) ∙ yes_case _ _ (same_refl t.bytes)

id_old : (ts : List Token) (t : Token) → ((u : Token) → Mem u ts → 1 ≤ u.id) → (x : List ℕ) → (x ≡ t.bytes → ⊥)
    → id_of (ts ++ (t ∷ [])) x ≡ id_of ts x
id_old ts t low x ne = id_snoc ts t x low ∙ go (either (eqb (id_of ts x) 0))
  where
    go : Tested (eqb (id_of ts x) 0) → cond (eqb (id_of ts x) 0) (cond (same x t.bytes) t.id 0) (id_of ts x) ≡ id_of ts x
    go (inl e) = yes_case _ _ e ∙ no_case _ _ (no_true (same x t.bytes) (λ y. ne (same-eq x t.bytes y)))
        ∙ sym (eqb-true (id_of ts x) 0 e)
    go (inr e) = no_case _ _ e

-- no id is above the last
above_low : (low : ℕ) (t : Token) (ts : List Token) → Rising low (t ∷ ts) → low < last_id (t ∷ ts)
unfolding last_id
above_low low t [] r = r.0
above_low low t (u ∷ ts) r = let a = r.0 in let b = above_low t.id u ts r.1 in omega arith

pub last_most : (low : ℕ) (ts : List Token) → Rising low ts → (u : Token) → Mem u ts → u.id ≤ last_id ts
unfolding last_id
last_most low [] r u m = absurd (not-nil m)
last_most low (t ∷ []) r u (here e) = let k = ap (λ (x : Token). x.id) e in omega arith
last_most low (t ∷ []) r u (there m) = absurd (not-nil m)
last_most low (t ∷ v ∷ ts) r u (here e) = let k = ap (λ (x : Token). x.id) e in let h = above_low t.id v ts r.1 in omega arith
last_most low (t ∷ v ∷ ts) r u (there m) = last_most t.id (v ∷ ts) r.1 u m

-- ---- the nodes of a token

pub count_more : (ts : List Token) → 1 ≤ node_count ts
unfolding node_count
count_more ts = omega arith

count_none : node_count [] ≡ 1
unfolding node_count nodes fold each
count_none = refl

seen_none : (p : List ℕ) → seen [] p ≡ false
unfolding seen
seen_none p = unfold Rattle.spec.specs.Lists.any in refl

count_one : (ts : List Token) (id b : ℕ) → node_count (ts ++ (record { id = id; bytes = b ∷ [] } ∷ [])) ≡ node_count ts
unfolding node_count
count_one ts id b = ap (λ (z : List (List ℕ)). 1 + length z) (nodes-one ts id b)

-- a token that was read after the last one
module _ (ts : List Token) (v : Valid ts) (t : Token) (r : Reads (last_id ts) t) where
  -- nodes are fewer than 2^24, so room beyond 32 bits changes nothing
  answer-cap : (n : ℕ) → answer_for ts t (min n 4294967295) ≡ answer_for ts t n
  unfolding answer_for
  answer-cap n = go (either (seen ts t.bytes))
    where
      N : ℕ
      N = node_count (ts ++ (t ∷ []))

      fits : (b : Bool) → N < 2 ^ 24 → leb N n ≡ b → leb N (min n 4294967295) ≡ b
      fits true k e = le-leb N (min n 4294967295) (let h = leb-true N n e in omega arith)
      fits false k e = lt-leb N (min n 4294967295) (let h = leb-false N n e in omega arith)

      go : Tested (seen ts t.bytes)
          → cond (seen ts t.bytes) (Err SeenBefore) (cond (leb N (min n 4294967295)) (Ok N) (Err NodesFull))
          ≡ cond (seen ts t.bytes) (Err SeenBefore) (cond (leb N n) (Ok N) (Err NodesFull))
      go (inl e) = yes_case _ _ e ∙ sym (yes_case _ _ e)
      go (inr e) =
          ap (λ (c : Bool). cond (seen ts t.bytes) (Err SeenBefore) (cond c (Ok N) (Err NodesFull)))
          (fits (leb N n) (node_count-small (ts ++ (t ∷ [])) (valid_snoc ts t v r e)) refl)

-- without room for the nodes that there are, there is no token yet
answer_full : (ts : List Token) → Valid ts → (t : Token) (n : ℕ) → (node_count ts ≤ n) ⊎ (ts ≡ []) → min n 4294967295 < node_count ts
    → Err NodesFull ≡ answer_for ts t n
unfolding answer_for
answer_full ts v t n (inl h) q = let k = node_count-small ts v in absurd (omega arith)
answer_full ts v t n (inr e) q =
    let k = count_more (ts ++ (t ∷ [])) in
    let z = ap node_count e ∙ count_none in
    sym (no_case _ _ (ap (λ (l : List Token). seen l t.bytes) e ∙ seen_none t.bytes)
    ∙ no_case _ _ (lt-leb (node_count (ts ++ (t ∷ []))) n (omega arith)))

-- ---- a token of one byte: its cell of `single` says whether it was seen

pub taken_is : (n : ℕ) → is_taken (id_or_none n) ≡ not (eqb n 0)
taken_is zero = refl
taken_is (suc n) = sym (ap not (ne_eqb (suc n) 0 (λ e. omega arith)))

single_cell : (ts : List Token) (s : List ℤ) → take 256 s ≡ single_list ts → (b : ℕ) → b < 256 → get_or s b (pos 0)
    ≡ id_or_none (id_of ts (b ∷ []))
unfolding single_list
single_cell ts s e b h = listed s (λ (c : ℕ). id_or_none (id_of ts (c ∷ []))) 256 e b (pos 0) h

pub taken-seen : (ts : List Token) → ((u : Token) → Mem u ts → 1 ≤ u.id) → (s : List ℤ) → take 256 s ≡ single_list ts
    → (b : ℕ) → b < 256 → is_taken (get_or s b (pos 0)) ≡ seen ts (b ∷ [])
taken-seen ts low s e b h = ap is_taken (single_cell ts s e b h) ∙ taken_is (id_of ts (b ∷ [])) ∙ sym (seen-id ts (b ∷ []) low)

one_list : (bs : List ℕ) → length bs ≡ 1 → bs ≡ get_or bs 0 0 ∷ []
one_list [] e = absurd (omega arith)
one_list (b ∷ []) e = refl
one_list (b ∷ c ∷ l) e = absurd (omega arith)

duplicate≢made : (n : ℕ) → ◌≡◌ {A = Result ℕ Refusal} (Err SeenBefore) (Ok n) → ⊥
duplicate≢made n e = let z : ◌≡◌ {A = ℕ} 0 1 = cc in omega arith

no_room≢made : (n : ℕ) → ◌≡◌ {A = Result ℕ Refusal} (Err NodesFull) (Ok n) → ⊥
no_room≢made n e = let z : ◌≡◌ {A = ℕ} 0 1 = cc in omega arith

-- ---- how a token is entered among the others, for each way that `push` can go

module _ {ts : List Token} {s : List ℤ} {os bl rs : List ℕ} {ns : Nodes} {st : Build} (B : Built ts s os bl rs ns st) (t : Token)
    (r : Reads (last_id ts) t) where
  low : (u : Token) → Mem u ts → 1 ≤ u.id
  low = B.stands.low

  idl : 1 ≤ t.id
  idl = let a = r.above in omega arith

  module _ (fits : st.made ≤ min (room ns) 4294967295) (one : length t.bytes ≡ 1) (b : ℕ) (is : b ≡ get_or t.bytes 0 0) where
    bytes-are : t.bytes ≡ b ∷ []
    bytes-are = one_list t.bytes one ∙ ap (λ (x : ℕ). x ∷ []) (sym is)

    small : b < 256
    small = (subst Bytes bytes-are r.bytes).0

    cell : is_taken (get_or s b (pos 0)) ≡ seen ts t.bytes
    cell = taken-seen ts low s B.single b small ∙ ap (seen ts) (sym bytes-are)

    -- one byte, seen before
    enter-twice : is_taken (get_or s b (pos 0)) ≡ true → Grown ts t (room ns) (Err SeenBefore) rs ns
    unfolding answer_for
    enter-twice e = record { answer = sym (yes_case _ _ (sym cell ∙ e)); stands = λ n k. absurd (duplicate≢made n k) }

    count_same : node_count (ts ++ (t ∷ [])) ≡ st.made
    count_same =
        ap (λ (l : List ℕ). node_count (ts ++ (record { id = t.id; bytes = l } ∷ []))) bytes-are ∙ count_one ts t.id b ∙ sym B.made

    -- one byte, new: no node is made
    enter_one : is_taken (get_or s b (pos 0)) ≡ false → Grown ts t (room ns) (Ok st.made) rs ns
    unfolding answer_for
    enter_one e = record {
      answer = ap Ok (sym count_same)
          ∙ sym (no_case _ _ (sym cell ∙ e)
          ∙ yes_case _ _ (le-leb (node_count (ts ++ (t ∷ []))) (room ns) (let c = count_same in omega arith)));
      stands = λ n k. subst (λ (l : List ℕ). Stands (ts ++ (record { id = t.id; bytes = l } ∷ [])) rs ns) (sym bytes-are)
          (stands_one ts rs ns t.id b idl B.stands);
    }

    -- one byte: its cell of `single` decides
    pub enter-byte : (a : Result ℕ Refusal) → a ≡ one_entered s st.made b → Grown ts t (room ns) a rs ns
    enter-byte a e = subst (λ (x : Result ℕ Refusal). Grown ts t (room ns) x rs ns) (sym e) (go (is_taken (get_or s b (pos 0))) refl)
      where
        go : (y : Bool) → is_taken (get_or s b (pos 0)) ≡ y → Grown ts t (room ns) (one_entered s st.made b) rs ns
        go true y = subst (λ (x : Result ℕ Refusal). Grown ts t (room ns) x rs ns) (sym (yes_case _ _ y)) (enter-twice y)
        go false y = subst (λ (x : Result ℕ Refusal). Grown ts t (room ns) x rs ns) (sym (no_case _ _ y)) (enter_one y)

  -- two bytes or more: the answer of an insertion with room for as many nodes as 32 bits count
  pub enter-more : (cap : ℕ) → cap ≡ min (room ns) 4294967295 → (rs' : List ℕ) (ns' : Nodes) (a : Result ℕ Refusal)
      → (Stands ts rs ns → st.made ≡ node_count ts → 1 ≤ t.id → Grown ts t cap a rs' ns') → Grown ts t (room ns) a rs' ns'
  enter-more cap e rs' ns' a inserted =
      let G = inserted B.stands B.made idl in
      record { answer = G.answer ∙ ap (answer_for ts t) e ∙ answer-cap ts B.valid t r (room ns); stands = G.stands }

-- ---- what 16 to 18 say, for each way a token was entered

module _ (ts : List Token) (t : Token) (ns : Nodes) (bl rs' : List ℕ) (ns' : Nodes) (table : ℕ) where
  abbrev R : Room
  R = room_for ns bl table

  abbrev more : List Token
  more = ts ++ (t ∷ [])

  -- seen before, or no room for its nodes
  pub push-refused : (e : Refusal) → Grown ts t (room ns) (Err e) rs' ns' → admit R ts t ≡ refuse (number e)
  unfolding admit answer_for need
  push-refused e G = go (seen ts t.bytes) (leb (node_count more) (room ns)) G.answer
    where
      go : (a b : Bool)
          → ◌≡◌ {A = Result ℕ Refusal} (Err e) (cond a (Err SeenBefore) (cond b (Ok (node_count more)) (Err NodesFull)))
          → need 16 (not a) (need 17 b (need 18 (leb (length (blob_bytes more)) (length bl)) (pass more))) ≡ refuse (number e)
      go true b q = let is : e ≡ SeenBefore = cc in ap (λ (x : Refusal). refuse (number x)) (sym is)
      go false true q = cc
      go false false q = let is : e ≡ NodesFull = cc in ap (λ (x : Refusal). refuse (number x)) (sym is)

  -- the nodes are made: the token is new, and they have room
  pub record Entered (n : ℕ) : Type 0 where
    pub new : seen ts t.bytes ≡ false
    pub count : n ≡ node_count more
    pub fits : node_count more ≤ room ns
    pub blob-decides : admit R ts t ≡ need 18 (leb (length (blob_bytes more)) (length bl)) (pass more)

  pub entered : (n : ℕ) → Grown ts t (room ns) (Ok n) rs' ns' → Entered n
  unfolding admit answer_for
  entered n G = go (seen ts t.bytes) refl (leb (node_count more) (room ns)) refl G.answer
    where
      go : (a : Bool) → seen ts t.bytes ≡ a → (b : Bool) → leb (node_count more) (room ns) ≡ b
          → ◌≡◌ {A = Result ℕ Refusal} (Ok n) (cond a (Err SeenBefore) (cond b (Ok (node_count more)) (Err NodesFull))) → Entered n
      go true p b q e = absurd (duplicate≢made n (sym e))
      go false p false q e = absurd (no_room≢made n (sym e))
      go false p true q e = record {
        new = p;
        count = (let z : n ≡ node_count more = cc in z);
        fits = leb-true (node_count more) (room ns) q;
        blob-decides = ap₂ (λ (x y : Bool). need 16 (not x) (need 17 y (need 18 (leb (length (blob_bytes more)) (length bl)) (pass more))))
            p q
            ∙ (unfold need in refl);
      }

  pub push-short : (n : ℕ) → Grown ts t (room ns) (Ok n) rs' ns' → length bl < length (blob_bytes ts) + length t.bytes → admit R ts t
      ≡ refuse 18
  push-short n G h =
      (entered n G).blob-decides
      ∙ ap (λ (c : Bool). need 18 c (pass more)) (lt-leb (length (blob_bytes more)) (length bl) (let k = total_snoc ts t in omega arith))
      ∙ (unfold need in refl)

  pub push-passes : (n : ℕ) → Grown ts t (room ns) (Ok n) rs' ns' → length (blob_bytes ts) + length t.bytes ≤ length bl → admit R ts t
      ≡ pass more
  push-passes n G h =
      (entered n G).blob-decides
      ∙ ap (λ (c : Bool). need 18 c (pass more)) (le-leb (length (blob_bytes more)) (length bl) (let k = total_snoc ts t in omega arith))
      ∙ (unfold need in refl)

-- ---- the token's own cells

-- the offsets behind the last id, up to one above it
module _ {ts : List Token} {s : List ℤ} {os bl rs : List ℕ} {ns : Nodes} {st : Build} (B : Built ts s os bl rs ns st) (id : ℕ)
    (above : st.previous < id) (long : id < length os) where
  pub offsets_at : (i : ℕ) → i ≤ id → get_or (set_offsets os st.previous id st.used) i 0 ≡ length_before ts i
  offsets_at i h = go (either (leb i st.previous))
    where
      go : Tested (leb i st.previous) → get_or (set_offsets os st.previous id st.used) i 0 ≡ length_before ts i
      go (inl e) =
          let p = leb-true i st.previous e in
          run-before (replicate (id - st.previous) st.used) os (st.previous + 1) i 0 (omega arith) ∙ B.offsets i p
      go (inr e) =
          let p = leb-false i st.previous e in
          let k : st.previous + 1 + (i - (st.previous + 1)) ≡ i = omega arith in
          let l = length-replicate (id - st.previous) st.used in
          let q = B.previous in
          ap (λ (x : ℕ). get_or (set_offsets os st.previous id st.used) x 0) (sym k)
          ∙ run_in (replicate (id - st.previous) st.used) os (st.previous + 1) (i - (st.previous + 1)) 0 (omega arith) (omega arith)
          ∙ get_or-replicate (id - st.previous) (i - (st.previous + 1)) st.used 0 (omega arith)
          ∙ B.used ∙ sym (before-all ts i (λ u m. let w = last_most 0 ts B.valid.rising u m in omega arith))

module _ {ts : List Token} {s : List ℤ} {os bl rs : List ℕ} {ns : Nodes} {st : Build} (B : Built ts s os bl rs ns st) (t : Token)
    (r : Reads (last_id ts) t)
    (new : seen ts t.bytes ≡ false) (single-fits : 256 ≤ length s) (offsets-fit : 65537 ≤ length os)
    (blob-fits : st.used + length t.bytes ≤ length bl) where
  abbrev ts' : List Token
  ts' = ts ++ (t ∷ [])

  abbrev bs : List ℕ
  bs = t.bytes

  lower : (u : Token) → Mem u ts → 1 ≤ u.id
  lower = B.stands.low

  first-id : 1 ≤ t.id
  first-id = let a = r.above in omega arith

  fresh : id_of ts bs ≡ 0
  fresh = eqb-true (id_of ts bs) 0 (flip (eqb (id_of ts bs) 0) (sym (seen-id ts bs lower) ∙ new))
    where
      flip : (c : Bool) → not c ≡ false → c ≡ true
      flip true e = refl
      flip false e = sym e

  pos-id : (n : ℕ) → 1 ≤ n → pos n ≡ id_or_none n
  pos-id zero h = absurd (omega arith)
  pos-id (suc n) h = refl

  single_more : (b : ℕ) → b < 256 → get_or (set_single s t.id bs) b (pos 0) ≡ id_or_none (id_of ts' (b ∷ []))
  unfolding set_single
  single_more b hb = go (either (eqb (length bs) 1)) (either (eqb b (get_or bs 0 0)))
    where
      cell : get_or s b (pos 0) ≡ id_or_none (id_of ts (b ∷ []))
      cell = single_cell ts s B.single b hb

      go : Tested (eqb (length bs) 1) → Tested (eqb b (get_or bs 0 0))
          → get_or (cond (eqb (length bs) 1) (set s (get_or bs 0 0) (pos t.id)) s) b (pos 0) ≡ id_or_none (id_of ts' (b ∷ []))
      go (inl e) (inl q) =
          let eb = eqb-true b (get_or bs 0 0) q in
          let lb : bs ≡ b ∷ [] = one_list bs (eqb-true (length bs) 1 e) ∙ ap (λ (x : ℕ). x ∷ []) (sym eb) in
          ap (λ (l : List ℤ). get_or l b (pos 0)) (yes_case _ _ e) ∙ ap (λ (x : ℕ). get_or (set s x (pos t.id)) b (pos 0)) (sym eb)
          ∙ get_or-set_same s b (pos t.id) (pos 0) (omega arith)
          ∙ pos-id t.id first-id ∙ ap id_or_none (sym (id_new ts t lower fresh)) ∙ ap (λ (l : List ℕ). id_or_none (id_of ts' l)) lb
      go (inl e) (inr q) =
          ap (λ (l : List ℤ). get_or l b (pos 0)) (yes_case _ _ e)
          ∙ get_or-set_other s (get_or bs 0 0) b (pos t.id) (pos 0) (eqb-false b (get_or bs 0 0) q)
          ∙ cell
          ∙ ap id_or_none (sym (id_old ts t lower (b ∷ []) (λ y. eqb-false b (get_or bs 0 0) q (ap (λ (l : List ℕ). get_or l 0 0) y))))
      go (inr e) q =
          ap (λ (l : List ℤ). get_or l b (pos 0)) (no_case _ _ e) ∙ cell
          ∙ ap id_or_none (sym (id_old ts t lower (b ∷ []) (λ y. eqb-false (length bs) 1 e (sym (ap length y)))))

  single-length : length (set_single s t.id bs) ≡ length s
  unfolding set_single
  single-length = go (eqb (length bs) 1)
    where
      go : (c : Bool) → length (cond c (set s (get_or bs 0 0) (pos t.id)) s) ≡ length s
      go true = length-set s (get_or bs 0 0) (pos t.id)
      go false = refl

  single-list : take 256 (set_single s t.id bs) ≡ single_list ts'
  unfolding single_list
  single-list =
      by_index (set_single s t.id bs) (λ (c : ℕ). id_or_none (id_of ts' (c ∷ []))) 256 (pos 0) (let e = single-length in omega arith)
      single_more

  offsets-more : (i : ℕ) → i ≤ t.id → get_or (set_offsets os st.previous t.id st.used) i 0 ≡ length_before ts' i
  offsets-more i h =
      let a = r.above in
      let q = B.previous in
      let z = r.small in
      offsets_at B t.id (omega arith) (omega arith) i h ∙ sym (before-snoc ts t i h)

  blob-more : sets bl st.used bs ≡ padded (blob_bytes ts') (length bl)
  blob-more =
      ap (λ (x : ℕ). sets bl x bs) B.used
      ∙ pad-more bl (blob_bytes ts) bs B.blob (let e = B.used in omega arith)
      ∙ ap (λ (l : List ℕ). padded l (length bl)) (sym (blob_snoc ts t))

  pub built-more : (n : ℕ) (rs' : List ℕ) (ns' : Nodes) → Grown ts t (room ns) (Ok n) rs' ns' → length ns' ≡ length ns
      → (st' : Build) → Counts ts' st'
      → Built ts' (set_single s t.id bs) (set_offsets os st.previous t.id st.used) (sets bl st.used bs) rs' ns' st'
  built-more n rs' ns' G same st' C =
      let E = entered ts t ns bl rs' ns' 0 n G in
      let w = length-sets bl st.used bs in
      record {
        valid = valid_snoc ts t B.valid r new;
        previous = C.previous;
        tokens = C.tokens;
        made = C.made;
        used = C.used;
        single = single-list;
        offsets = λ i h. offsets-more i (let a = C.previous in let c = last_snoc ts t in omega arith);
        blob = blob-more ∙ ap (padded (blob_bytes ts')) (sym w);
        blob-room = (let a = B.used in let c = total_snoc ts t in omega arith);
        stands = G.stands n refl;
        node-room = inl (let f = E.fits in omega arith);
      }

-- ---- cells that no token touches

pub single_kept : (s : List ℤ) (id : ℕ) (bs : List ℕ) → get_or bs 0 0 < 256 → drop 256 (set_single s id bs) ≡ drop 256 s
unfolding set_single
single_kept s id bs h = go (eqb (length bs) 1)
  where
    go : (c : Bool) → drop 256 (cond c (set s (get_or bs 0 0) (pos id)) s) ≡ drop 256 s
    go true = drop-set-lt 256 s (get_or bs 0 0) (pos id) h
    go false = refl

pub offsets_kept : (os : List ℕ) (previous id total : ℕ) → previous < id → id ≤ 65536 → drop 65537 (set_offsets os previous id total)
    ≡ drop 65537 os
offsets_kept os previous id total h k =
    run-behind (replicate (id - previous) total) os (previous + 1) 65537 (let l = length-replicate (id - previous) total in omega arith)

-- ---- what `push` answers, for each way a token was entered

-- a token more is counted
pub counts-more : (ts : List Token) (t : Token) {st : Build} → Counts ts st → (r : Build) → r.previous ≡ t.id → r.tokens ≡ st.tokens + 1
    → r.made ≡ node_count (ts ++ (t ∷ [])) → r.used ≡ st.used + length t.bytes → Counts (ts ++ (t ∷ [])) r
counts-more ts t C r ep et em eu = record {
  previous = ep ∙ sym (last_snoc ts t);
  tokens = (let a = C.tokens in let c = length-append ts (t ∷ []) in let d : length (t ∷ []) ≡ 1 = refl in omega arith);
  made = em;
  used = (let a = C.used in let c = total_snoc ts t in omega arith);
}

-- what a build counts
pub counts_of_built : {ts : List Token} {s : List ℤ} {os bl rs : List ℕ} {ns : Nodes} {st : Build} → Built ts s os bl rs ns st
    → Counts ts st
counts_of_built B = record { previous = B.previous; tokens = B.tokens; made = B.made; used = B.used }

-- no room even for node 0
module _ {ts : List Token} {s : List ℤ} {os bl rs : List ℕ} {ns : Nodes} {st : Build} (B : Built ts s os bl rs ns st) (t : Token)
    (h : min (room ns) 4294967295 < st.made) where
  pub enter-none : Grown ts t (room ns) (Err NodesFull) rs ns
  enter-none = record {
    answer = answer_full ts B.valid t (room ns) B.node-room (let k = B.made in omega arith);
    stands = λ n k. absurd (no_room≢made n k);
  }

  pub admits_none : (table : ℕ) → admit (room_for ns bl table) ts t ≡ refuse 17
  admits_none table = push-refused ts t ns bl rs ns table NodesFull enter-none

-- a token with an id above the last one
pub reads_of : {ts : List Token} {s : List ℤ} {os bl rs : List ℕ} {ns : Nodes} {st : Build} → Built ts s os bl rs ns st → (t : Entry)
    → st.previous < t.id → t.id < 65536 → Reads (last_id ts) (token_of t)
reads_of B t a b = record {
  above = (let k = B.previous in omega arith);
  small = b;
  nonempty = t.some;
  short = t.short;
  bytes = bytes_of t.bytes.now t.fits;
}

pub same-built : {ts : List Token} {s s' : List ℤ} {os os' bl bl' rs : List ℕ} {ns : Nodes} {st : Build} → s' ≡ s → os' ≡ os → bl' ≡ bl
    → Built ts s os bl rs ns st → Built ts s' os' bl' rs ns st
same-built a b c B = rw (a, b, c) B

module _ {ts : List Token} {s : List ℤ} {os bl rs : List ℕ} {ns : Nodes} {st : Build} (B : Built ts s os bl rs ns st) (t : Token)
    (r : Reads (last_id ts) t)
    (table : ℕ) (rs' : List ℕ) (ns' : Nodes) (a : Result ℕ Refusal) (G : Grown ts t (room ns) a rs' ns') where
  abbrev As : Result Build Refusal → List ℤ → List ℕ → List ℕ → Type 0
  As p s' os' bl' = PushedAs (room_for ns bl table) ts t p s' os' bl' rs' ns'

  now-is : {x : Result ℕ Refusal} → a ≡ x → Grown ts t (room ns) x rs' ns'
  now-is e = subst (λ (y : Result ℕ Refusal). Grown ts t (room ns) y rs' ns') e G

  pub pushed-refused : (e : Refusal) → a ≡ Err e → As (Err e) s os bl
  pushed-refused e is = push-refused ts t ns bl rs' ns' table e (now-is is)

  pub pushed_short : (n : ℕ) → a ≡ Ok n → length bl < st.used + length t.bytes → As (Err BlobFull) s os bl
  pushed_short n e h = push-short ts t ns bl rs' ns' table n (now-is e) (let k = B.used in omega arith)

  pub pushed-taken : (n : ℕ) → a ≡ Ok n → 256 ≤ length s → 65537 ≤ length os → st.used + length t.bytes ≤ length bl → length ns'
      ≡ length ns
      → (s' : List ℤ) → s' ≡ set_single s t.id t.bytes → (os' : List ℕ) → os' ≡ set_offsets os st.previous t.id st.used
      → (bl' : List ℕ) → bl' ≡ sets bl st.used t.bytes
      → (st' : Build) → ((ts : List Token) (u : Token) → Counts ts st → u.id ≡ t.id → length u.bytes ≡ length t.bytes
      → n ≡ node_count (ts ++ (u ∷ [])) → Counts (ts ++ (u ∷ [])) st')
      → As (Ok st') s' os' bl'
  pushed-taken n e fs fo fb same s' es os' eo bl' eb st' C =
      let E = entered ts t ns bl rs' ns' table n (now-is e) in (
        push-passes ts t ns bl rs' ns' table n (now-is e) (let k = B.used in omega arith),
        same-built es eo eb (built-more B t r E.new fs fo fb n rs' ns' (now-is e) same st' (C ts t (counts_of_built B) refl refl E.count)),
      )

-- cells past the fixed lengths, where a token was written
pub all-kept : {s s' : List ℤ} {os os' rs rs' : List ℕ} (bs : List ℕ) (previous id total : ℕ) → get_or bs 0 0 < 256 → previous < id
    → id < 65536
    → s' ≡ set_single s id bs → os' ≡ set_offsets os previous id total → drop 65536 rs' ≡ drop 65536 rs → Kept s os rs s' os' rs'
all-kept {s} {s'} {os} bs previous id total h a b es eo er = record {
  single = ap (drop 256) es ∙ single_kept s id bs h;
  offsets = ap (drop 65537) eo ∙ offsets_kept os previous id total a (omega arith);
  roots = er;
}
