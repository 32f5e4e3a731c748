-- What an end comes to, from the whole encoding of the held bytes: with a cell for every byte it is their scan. Assumes nothing.
use mathlib.Core.Path.{◌≡◌, refl, sym, ap, ap₂, ◌∙◌, subst}
use mathlib.Core.Bool.{false}
use Rattle.std.specs.Prelude.{None, Ok, Err}
use mathlib.Core.List.{List, [], ◌∷◌}
use Prim.Native.Nat.{ℕ, zero, suc, pred, ◌+◌, ◌-◌, ◌≤◌, ◌<◌}
use native.Mathlib.Omega.{arith}
use native.Mathlib.Nat.{add-zero}
use lib.ListN.{length, take}
use Rattle.spec.specs.Answer.{Answer, whole}
use Rattle.spec.specs.Lists.{over}
use Rattle.spec.specs.Scan.{End, done, failed, Scan, scanned}
use Rattle.spec.specs.Memory.{Memory, too_short}
use Rattle.spec.specs.Match.{Match, nothing, found, match_on}
use Rattle.spec.specs.LookedOn.{sum_on}
use Rattle.spec.specs.Encode.{EncodeEnd, complete, unmatched, Encoding, encoded, encode_at, encoding, encode_answer, Output}
use Rattle.spec.specs.Encode.{usable, encode_on, encode_looked}
use Rattle.tally.specs.declared.Tally.{Tally}
use Rattle.spec.specs.Stream as spec
use Rattle.spec.specs.Stream.{StreamRecord, add, end, holding, stopped_at, closed, scan_on, goes_through}
use Rattle.laws.specs.StreamLaws.{scan_on-none, scan_on-some}
use Rattle.spec.specs.Stream.{call_on}
use Rattle.stream_record.specs.declared.Called.{Called}
use Rattle.stream_record.specs.declared.StreamError.TheVariants.{Stopped}
use Rattle.stream_record.specs.Answers.{record_of, answer_of, looked_of, Answered}
use Rattle.stream.specs.Handing.{refusal}
use Rattle.stream.proofs.Calling.{Ready, ready, end_ready, call-through}

-- ── The scan as an encoding with room ────────────────────────────────

abbrev end_of : End → EncodeEnd
end_of done = complete
end_of (failed p b) = unmatched p b

abbrev encoding_of : Scan → Encoding
encoding_of u = record { ids = u.ids; end = end_of u.end }

roomy : (m : Memory) (n pos k : ℕ) (s : List ℕ) → length s - k ≤ n → encode_at m n pos k s ≡ encoding_of (scan_on m pos k s)
unfolding encode_at scan_on
roomy m n pos k [] h = refl
roomy m n pos (suc k) (b ∷ s) h = roomy m n (suc pos) k s (omega arith)
roomy m zero pos zero (b ∷ s) h = absurd (omega arith)
roomy m (suc n) pos zero (b ∷ s) h = go (match_on m (b ∷ s)) refl (λ k. roomy m n (suc pos) k s)
  where
    go : (t : Match) → match_on m (b ∷ s) ≡ t → ((k : ℕ) → length s - k ≤ n → encode_at m n (suc pos) k s
        ≡ encoding_of (scan_on m (suc pos) k s))
        → encode_at m (suc n) pos 0 (b ∷ s) ≡ encoding_of (scan_on m pos 0 (b ∷ s))
    go nothing e f = rw (e, encode_at) (ap encoding_of (sym (scan_on-none m pos b s e)))
    go (found i l) e f = rw (e, encode_at) (ap (encoded i) (f (pred l) (omega arith)) ∙ ap encoding_of (sym (scan_on-some m pos b s i l e)))

-- ── The scan at another offset ───────────────────────────────────────

abbrev later_end : ℕ → End → End
later_end d done = done
later_end d (failed p b) = failed (d + p) b

abbrev later : ℕ → Scan → Scan
later d u = record { ids = u.ids; end = later_end d u.end }

shifts : (m : Memory) (d pos k : ℕ) (s : List ℕ) → scan_on m (d + pos) k s ≡ later d (scan_on m pos k s)
unfolding scan_on
shifts m d pos k [] = refl
shifts m d pos (suc k) (b ∷ s) = let e : suc (d + pos) ≡ d + suc pos = omega arith in ap (λ (p : ℕ). scan_on m p k s) e
    ∙ shifts m d (suc pos) k s
shifts m d pos zero (b ∷ s) = go (match_on m (b ∷ s)) refl (λ k. shifts m d (suc pos) k s)
  where
    go : (t : Match) → match_on m (b ∷ s) ≡ t → ((k : ℕ) → scan_on m (d + suc pos) k s ≡ later d (scan_on m (suc pos) k s))
        → scan_on m (d + pos) 0 (b ∷ s) ≡ later d (scan_on m pos 0 (b ∷ s))
    go nothing e f = scan_on-none m (d + pos) b s e ∙ ap (later d) (sym (scan_on-none m pos b s e))
    go (found i l) e f =
        let p : suc (d + pos) ≡ d + suc pos = omega arith in
        scan_on-some m (d + pos) b s i l e ∙ ap (scanned i) (ap (λ (x : ℕ). scan_on m x (pred l) s) p ∙ f (pred l))
        ∙ ap (later d) (sym (scan_on-some m pos b s i l e))

-- a scan fails at one of its bytes
fails-within : (m : Memory) (pos k : ℕ) (s : List ℕ) (p b : ℕ) → (scan_on m pos k s).end ≡ failed p b → p < pos + length s
unfolding scan_on
fails-within m pos k [] p b e = let z : ◌≡◌ {A = ℕ} 0 1 = cc in absurd (omega arith)
fails-within m pos (suc k) (a ∷ s) p b e = let h = fails-within m (suc pos) k s p b e in omega arith
fails-within m pos zero (a ∷ s) p b e = go (match_on m (a ∷ s)) refl (λ k. fails-within m (suc pos) k s p b)
  where
    go : (t : Match) → match_on m (a ∷ s) ≡ t → ((k : ℕ) → (scan_on m (suc pos) k s).end ≡ failed p b → p < suc pos + length s)
        → p < pos + suc (length s)
    go nothing w f = let q = sym (ap (λ (u : Scan). u.end) (scan_on-none m pos a s w)) ∙ e in let r : pos ≡ p = cc in omega arith
    go (found i l) w f = let h = f (pred l) (sym (ap (λ (u : Scan). u.end) (scan_on-some m pos a s i l w)) ∙ e) in omega arith

-- ── What the encoding of the held bytes says of their scan ───────────

module _ (m : Memory) (s : List ℕ) (n : ℕ) (long : too_short m ≡ false) (room : length s ≤ usable n) where
  abbrev ids : List ℕ
  ids = (scan_on m 0 0 s).ids

  encodes : encode_on m n s ≡ record { answer = encode_answer (length ids) (end_of (scan_on m 0 0 s).end); cells = ids }
  unfolding encode_on encoding
  encodes =
      let e = roomy m (usable n) 0 0 s (omega arith) in
      rw (long, encode_on) (ap (λ (e : Encoding). record { answer = encode_answer (length e.ids) e.end; cells = e.ids }) e)

  its-cells : (encode_on m n s).cells ≡ ids
  its-cells = ap (λ (o : Output). o.cells) encodes

  its-sum : encode_looked m n s ≡ sum_on m (length ids) 0 s
  unfolding encode_looked
  its-sum = ap (λ (l : List ℕ). sum_on m (length l) 0 s) its-cells

  its-answer : (x : End) → (scan_on m 0 0 s).end ≡ x → (encode_on m n s).answer ≡ encode_answer (length ids) (end_of x)
  its-answer x w = ap (λ (o : Output). o.answer) encodes ∙ ap (λ (y : End). encode_answer (length ids) (end_of y)) w

  says-whole : (count : ℕ) → whole count ≡ (encode_on m n s).answer → ((scan_on m 0 0 s).end ≡ done) × (count ≡ length ids)
  says-whole count e = go (scan_on m 0 0 s).end refl
    where
      go : (x : End) → (scan_on m 0 0 s).end ≡ x → ((scan_on m 0 0 s).end ≡ done) × (count ≡ length ids)
      go done w = (w, ap (λ (a : Answer). a.count) (e ∙ its-answer done w))
      go (failed p b) w = let z = ap (λ (a : Answer). a.number) (e ∙ its-answer (failed p b) w) in absurd (omega arith)

  says_none : (count offset byte : ℕ) → record { number = 22; count = count; place = offset; value = byte } ≡ (encode_on m n s).answer
      → ((scan_on m 0 0 s).end ≡ failed offset byte) × (count ≡ length ids) × (offset < length s)
  says_none count offset byte e = go (scan_on m 0 0 s).end refl
    where
      go : (x : End) → (scan_on m 0 0 s).end ≡ x → ((scan_on m 0 0 s).end ≡ failed offset byte) × (count ≡ length ids) × (offset < length s)
      go done w = let z = ap (λ (a : Answer). a.number) (e ∙ its-answer done w) in absurd (omega arith)
      go (failed p b) w =
          let q = e ∙ its-answer (failed p b) w in
          let x : (scan_on m 0 0 s).end ≡ failed offset byte = w
          ∙ sym (ap₂ failed (ap (λ (a : Answer). a.place) q) (ap (λ (a : Answer). a.value) q)) in
          (x, ap (λ (a : Answer). a.count) q, omega (arith, fails-within m 0 0 s offset byte x))

  -- it has no other answer
  says_other : (a : Answer) → (a.number ≡ 0 → ⊥) → (a.number ≡ 22 → ⊥) → a ≡ (encode_on m n s).answer → ⊥
  says_other a whole' none' e = go (scan_on m 0 0 s).end refl
    where
      go : (x : End) → (scan_on m 0 0 s).end ≡ x → ⊥
      go done w = whole' (ap (λ (a : Answer). a.number) (e ∙ its-answer done w))
      go (failed p b) w = none' (ap (λ (a : Answer). a.number) (e ∙ its-answer (failed p b) w))

-- ── The call ─────────────────────────────────────────────────────────

-- an end that goes through, which is refused as an add of no bytes
module _ (m : Memory) (r : StreamRecord) (lent : List ℕ) (goes : None ≡ refusal m r (add [] lent)) (full : 254 ≤ length r.held)
    (small : r.total ≤ 4294967295) where
  g : Ready m r [] lent
  g = ready m r [] lent goes full

  abbrev held : List ℕ
  held = take r.held_len r.held

  abbrev encoded_as : Answer → Type 0
  encoded_as a = a ≡ (encode_on m (length lent) held).answer

  room : length held ≤ usable (length lent)
  room = omega (arith, g.many, g.passes.few, g.passes.room)

  -- where the held bytes stop
  pub fails_at : (count offset byte : ℕ) → encoded_as (record { number = 22; count = count; place = offset; value = byte })
      → (offset < r.held_len) × (r.held_len ≤ 254) × (r.held_len ≤ r.total)
  fails_at count offset byte e =
      let w = says_none m held (length lent) g.long room count offset byte e in
      (omega (arith, w.2, g.many), g.passes.few, g.passes.held)

  pub never : (a : Answer) → (a.number ≡ 0 → ⊥) → (a.number ≡ 22 → ⊥) → encoded_as a → ⊥
  never = says_other m held (length lent) g.long room

  module _ (out : List ℕ) (d : Called) (written : out ≡ over (encode_on m (length lent) held).cells lent) (given : Tally)
      (sum : given.looked ≡ encode_looked m (length lent) held) where
    abbrev handed : List ℕ
    handed = (scan_on m 0 0 held).ids

    abbrev looked : ℕ
    looked = sum_on m (length handed) 0 held

    comes : (x : End) → (scan_on m 0 0 held).end ≡ x
        → call_on m r (end lent) ≡ closed r.total handed looked (later_end (r.total - r.held_len) x)
    unfolding goes_through
    comes x w =
        call-through m r (end lent) (goes ∙ end_ready m r lent small)
        ∙ ap (λ (v : Scan). closed r.total v.ids (sum_on m (length v.ids) 0 held) v.end)
        (ap (λ (p : ℕ). scan_on m p 0 held) (sym (add-zero (r.total - r.held_len))) ∙ shifts m (r.total - r.held_len) 0 0 held)
        ∙ ap (λ (y : End). closed r.total handed looked (later_end (r.total - r.held_len) y)) w

    cells : out ≡ over handed lent
    cells = written ∙ ap (λ (l : List ℕ). over l lent) (its-cells m held (length lent) g.long room)

    looks : given.looked ≡ looked
    looks = sum ∙ its-sum m held (length lent) g.long room

    pub gives-closed : encoded_as (whole given.count) → (d.answer ≡ Ok given) × (record_of d.stream ≡ holding 2 r.total [])
        → Answered (call_on m r (end lent)) d lent out
    gives-closed e h =
        let w = says-whole m held (length lent) g.long room given.count e in
        subst (λ (x : spec.Called). Answered x d lent out) (sym (comes done w.0))
        (record { answer = ap answer_of h.0 ∙ ap whole w.1; stream = h.1; looked = ap looked_of h.0 ∙ looks; cells = cells })

    pub gives-stopped : (offset byte place : ℕ)
        → encoded_as (record { number = 22; count = given.count; place = offset; value = byte })
        → place ≡ r.total - r.held_len + offset
        → (d.answer ≡ Err (Stopped given place byte)) × (record_of d.stream ≡ stopped_at r.total place byte)
        → Answered (call_on m r (end lent)) d lent out
    gives-stopped offset byte place e p h =
        let w = says_none m held (length lent) g.long room given.count offset byte e in
        subst (λ (x : spec.Called). Answered x d lent out) (sym (comes (failed offset byte) w.0))
        (record {
          answer = ap answer_of h.0 ∙ ap₂ (λ (k q : ℕ). record { number = 22; count = k; place = q; value = byte }) w.1 p;
          stream = h.1 ∙ ap (λ (q : ℕ). stopped_at r.total q byte) p;
          looked = ap looked_of h.0 ∙ looks;
          cells = cells;
        })
