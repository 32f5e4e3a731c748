-- What the reader gives out is the lossy text; laws of its runs, and bounds. Assumes nothing.
use mathlib.Core.Path.{◌≡◌, refl, ap, ◌∙◌, sym}
use mathlib.Core.Bool.{Bool, true, false, cond}
use Rattle.std.specs.Prelude.{Option, None, Some}
use mathlib.Core.List.{List, [], ◌∷◌, ◌++◌, append_assoc, append-nil}
use Prim.Native.Nat.{ℕ, suc, ◌≤◌}
use native.Mathlib.Numerals.{add-one}
use native.Mathlib.Omega.{arith}
use lib.ListN.{length, take, drop, length-drop, length-append}
use lib.Seq.{drop-append_seam, drop-length, append_snoc, drop-drop, take-append-add, drop-append-add}
use Rattle.spec.specs.Utf8.{Range, Rule, grammar, rule_for, within, after, bad, cut, follow, step_of, well_formed}
use Rattle.laws.specs.Utf8Laws.{step_cons}
use Rattle.laws.specs.Utf8Laws.{well-formed-char, well-formed-other, lossy-nil, lossy-char, lossy-other}
use Rattle.spec.specs.Utf8.{lossy}
use Rattle.reader.specs.Reader.{Turn, followers, wants, taken, begun, start, broken, pushed, push_of, finish_of, joined, run}

-- ── The theorem ──────────────────────────────────────────────────────

-- What holds of the held bytes at any time: there are none, or they begin a character and the ranges rs must follow, whatever comes.
pub data Begun : List ℕ → Type 0 where
  nothing : Begun []
  begins : (a : ℕ) (h : List ℕ) (r : Range) (rs : List Range) → drop (length h) (followers (after a)) ≡ r ∷ rs →
      ((s : List ℕ) → step_of (a ∷ h ++ s) ≡ follow (suc (length h)) (r ∷ rs) s) → Begun (a ∷ h)

-- A byte is right if what it brings and the rest make the lossy text, and if it keeps every byte of UTF-8.
abbrev Right : List ℕ → ℕ → Turn → Type 0
Right h b t =
    Begun t.held ×
    ((s : List ℕ) → lossy (h ++ b ∷ s) ≡ t.out ++ lossy (t.held ++ s)) ×
    ((s : List ℕ) → well_formed (h ++ b ∷ s) ≡ true → (t.out ++ t.held ≡ h ++ b ∷ []) × (well_formed (t.held ++ s) ≡ true))

clash : {c : Bool} → c ≡ true → c ≡ false → ⊥
clash p q = let z : ◌≡◌ {A = ℕ} 0 1 = cc in omega arith

start_right : (b : ℕ) → Right [] b (start b)
unfolding start follow
start_right b = go (after b) refl
  where
    go : (o : Option (List Range)) → after b ≡ o → Right [] b (begun o b)
    go None e = (
      nothing,
      λ s. lossy-other (b ∷ s) (omega arith) (bad 1) (rw (step_cons b s, e)) refl,
      λ s w. absurd (clash w (well-formed-other (b ∷ s) (omega arith) (bad 1) (rw (step_cons b s, e)) refl)),
    )
    go (Some []) e = (
      nothing,
      λ s. lossy-char (b ∷ s) (omega arith) 1 (rw (step_cons b s, e)),
      λ s w. (refl, sym (well-formed-char (b ∷ s) (omega arith) 1 (rw (step_cons b s, e))) ∙ w),
    )
    go (Some (r ∷ rs)) e = (begins b [] r rs (rw e) (λ s. rw (step_cons b s, e)), λ s. refl, λ s w. (refl, w))

module _ {A : Type 0} where
  snoc-length : (h : List A) (b : A) → length (h ++ b ∷ []) ≡ suc (length h)
  snoc-length h b = length-append h (b ∷ []) ∙ add-one (length h)

  take_snoc : (h : List A) (b : A) (s : List A) → take (suc (length h)) (h ++ b ∷ s) ≡ h ++ b ∷ []
  take_snoc h b s = rw (← add-one (length h)) (take-append-add h (b ∷ s) 1)

  drop-snoc : (h : List A) (b : A) (s : List A) → drop (suc (length h)) (h ++ b ∷ s) ≡ s
  drop-snoc h b s = rw (← add-one (length h)) (drop-append-add h (b ∷ s) 1)

  drop-next : (n : ℕ) (l : List A) (x : A) (xs : List A) → drop n l ≡ x ∷ xs → drop (suc n) l ≡ xs
  drop-next n l x xs e = rw (← add-one n) (sym (drop-drop 1 n l) ∙ ap (drop 1) e)

push_right : {h : List ℕ} (b : ℕ) → Begun h → Right h b (push_of h b)
unfolding push_of wants follow
push_right b nothing = start_right b
push_right b (begins a h r rs w f) = rw w (go (within r b) refl rs w f)
  where
    go : (c : Bool) → within r b ≡ c → (rs : List Range) → drop (length h) (followers (after a)) ≡ r ∷ rs →
        ((s : List ℕ) → step_of (a ∷ h ++ s) ≡ follow (suc (length h)) (r ∷ rs) s) →
        Right (a ∷ h) b (cond c (taken rs (a ∷ h ++ b ∷ [])) (broken (start b)))
    go false e rs w f = (
      (start_right b).0,
      λ s.
          lossy-other (a ∷ h ++ b ∷ s) (omega arith) (bad (suc (length h))) (f (b ∷ s) ∙ rw e) refl ∙
          rw (drop-append_seam h (b ∷ s), (start_right b).1 s),
      λ s v. absurd (clash v
          (well-formed-other (a ∷ h ++ b ∷ s) (omega arith) (bad (suc (length h))) (f (b ∷ s) ∙ rw e) refl)),
    )
    go true e [] w f = (
      nothing,
      λ s.
          lossy-char (a ∷ h ++ b ∷ s) (omega arith) (suc (suc (length h))) (f (b ∷ s) ∙ rw e) ∙
          rw (take_snoc h b s, drop-snoc h b s),
      λ s v. (
        append-nil (a ∷ h ++ b ∷ []),
        rw (drop-snoc h b s) at
            (sym (well-formed-char (a ∷ h ++ b ∷ s) (omega arith) (suc (suc (length h))) (f (b ∷ s) ∙ rw e)) ∙ v),
      ),
    )
    go true e (q ∷ qs) w f = (
      begins a (h ++ b ∷ []) q qs
          (rw (snoc-length h b) (drop-next (length h) (followers (after a)) r (q ∷ qs) w))
          (λ s. rw (snoc-length h b, append_snoc h b s) (f (b ∷ s) ∙ rw e)),
      λ s. rw (append_snoc h b s),
      λ s v. (refl, rw (append_snoc h b s) v),
    )

end_right : {h : List ℕ} → Begun h → lossy h ≡ (finish_of h).out
unfolding follow
end_right nothing = lossy-nil
end_right (begins a h r rs w f) =
    lossy-other (a ∷ h) (omega arith) (cut (suc (length h))) (rw append-nil at (f [])) refl ∙ rw (drop-length h, lossy-nil)

run-right : {h : List ℕ} (s : List ℕ) → Begun h → lossy (h ++ s) ≡ (run h s).out ++ (finish_of (run h s).held).out
unfolding run
run-right {h} [] k = rw (append-nil h) (end_right k)
run-right {h} (b ∷ s) k = (push_right b k).1 s ∙ rw (append_assoc, run-right {h = (push_of h b).held} s (push_right b k).0)

-- Lossy text: what the bytes bring, one after another from nothing held, and then the end.
pub lossy-run : (s : List ℕ) → lossy s ≡ (run [] s).out ++ (finish_of (run [] s).held).out
lossy-run s = run-right s nothing

end_well : {h : List ℕ} → Begun h → well_formed h ≡ true → h ≡ []
unfolding follow
end_well nothing v = refl
end_well (begins a h r rs w f) v = absurd (clash v
    (well-formed-other (a ∷ h) (omega arith) (cut (suc (length h))) (rw append-nil at (f [])) refl))

run-well : {h : List ℕ} (s : List ℕ) → Begun h → well_formed (h ++ s) ≡ true → run h s ≡ record { out = h ++ s; held = [] }
unfolding run
run-well {h} [] k v = rw (end_well k (rw append-nil at v))
run-well {h} (b ∷ s) k v =
    let t : Turn = push_of h b in
    let q = (push_right b k).2 s v in
    let e : t.out ++ (t.held ++ s) ≡ h ++ b ∷ s =
    sym (append_assoc t.out t.held s) ∙ ap (λ l. l ++ s) q.0 ∙ append_snoc h b s in
    ap (joined t) (run-well {h = t.held} s (push_right b k).0 q.1) ∙ ap (λ l. record { out = l; held = [] }) e

-- UTF-8 goes through as it is, and nothing of it is held in the end.
pub well_formed_run : (s : List ℕ) → well_formed s ≡ true → run [] s ≡ record { out = s; held = [] }
well_formed_run s v = run-well s nothing v

-- ── Laws for a caller's loop ─────────────────────────────────────────

pub run-nil : (h : List ℕ) → run h [] ≡ record { out = []; held = h }
unfolding run
run-nil h = refl

pub run-append : (h s t : List ℕ) → run h (s ++ t) ≡ joined (run h s) (run (run h s).held t)
unfolding run
run-append h [] t = refl
run-append h (b ∷ s) t = ap (joined (push_of h b)) (run-append (push_of h b).held s t) ∙ rw append_assoc

-- one byte more
pub run-snoc : (h s : List ℕ) (b : ℕ) → run h (s ++ b ∷ []) ≡ joined (run h s) (push_of (run h s).held b)
unfolding run
run-snoc h s b = run-append h s (b ∷ []) ∙ rw append-nil

-- ── Bounds ───────────────────────────────────────────────────────────

abbrev Few : List Rule → Type 0
Few [] = Unit {0}
Few (r ∷ rs) = (length r.others ≤ 3) × Few rs

rule_few : (rs : List Rule) → Few rs → (b : ℕ) → length (followers (rule_for rs b)) ≤ 3
unfolding rule_for
rule_few [] f b = omega arith
rule_few (r ∷ rs) f b = go (within r.first b) (rule_few rs f.1 b)
  where
    go : (c : Bool) → length (followers (rule_for rs b)) ≤ 3 → length (followers (cond c (Some r.others) (rule_for rs b))) ≤ 3
    go true k = f.0
    go false k = k

-- at most three bytes follow a first one
pub after-few : (b : ℕ) → length (followers (after b)) ≤ 3
unfolding after
after-few b = rule_few grammar (omega arith) b

start-few : (b : ℕ) → (length (start b).held ≤ 3) × (length (start b).out ≤ 3)
unfolding start
start-few b = go (after b)
  where
    go : (o : Option (List Range)) → (length (begun o b).held ≤ 3) × (length (begun o b).out ≤ 3)
    go None = omega arith
    go (Some []) = omega arith
    go (Some (r ∷ rs)) = omega arith

-- two more bytes can follow only one or two
pub wants-two : (h : List ℕ) (r q : Range) (rs : List Range) → wants h ≡ r ∷ q ∷ rs → length h ≤ 2
unfolding wants
wants-two [] r q rs e = omega arith
wants-two (a ∷ h) r q rs e = omega (arith, ap length e, length-drop (length h) (followers (after a)), after-few a)

-- No more than three bytes are ever held, and a byte brings out no more than six.
pub push_few : (h : List ℕ) (b : ℕ) → length h ≤ 3 → (length (push_of h b).held ≤ 3) × (length (push_of h b).out ≤ 6)
unfolding push_of
push_few h b k = go (wants h) refl
  where
    choose : (c : Bool) (t : Turn) → (length t.held ≤ 3) × (length t.out ≤ 6) →
        (length (cond c t (broken (start b))).held ≤ 3) × (length (cond c t (broken (start b))).out ≤ 6)
    choose true t f = f
    choose false t f = omega (arith, start-few b)

    go : (rs : List Range) → wants h ≡ rs → (length (pushed rs h b).held ≤ 3) × (length (pushed rs h b).out ≤ 6)
    go [] e = omega (arith, start-few b)
    go (r ∷ []) e = choose (within r b) (taken [] (h ++ b ∷ [])) (omega (arith, snoc-length h b))
    go (r ∷ q ∷ rs) e = choose (within r b) (taken (q ∷ rs) (h ++ b ∷ [])) (omega (arith, snoc-length h b, wants-two h r q rs e))
