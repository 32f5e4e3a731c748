-- The running form: the three ways in which it can stand before a byte, what it holds while it waits, and that it goes on from there
-- when more bytes come, to the running form or to the scan of them all. Assumes nothing.
use Rattle.std.specs.Prelude.{◌≡◌, refl, ◌≢◌, ◌⊎◌, Bool, true, false, ℕ, zero, suc, pred, ◌+◌, ◌≤◌, length, drop}
use Rattle.std.proofs.Common.{sym, ◌∙◌, ap, inl, inr, arith}
use Rattle.std.specs.Prelude.{Option, None, Some}
use mathlib.Core.List.{List, [], ◌∷◌, ◌++◌, append_assoc, Memᴰ as Mem}
use Rattle.spec.specs.Token.{Token, longest, proper_prefix, undecided, joined}
use Rattle.spec.specs.Plain.{Prefix}
use Rattle.spec.specs.Valid.{Valid}
use Rattle.spec.specs.Scan.{failed, Scan, scanned, scan_at, waiting, stuck, Run, ran, run_at, run}
use Rattle.running.specs.Prefixes.{Proper, prefix_length, proper_length, fits_iff}
use Rattle.running.specs.Longest.{Best, best, proper_iff, undecided-iff, longest-stable, proper_stable}
use Rattle.running.specs.Joined.{joined-nil, joined-cons}
use Rattle.running.specs.ScanLaws.{nowhere, scan-none, scan-some, rejoin}

pub waiting≢stuck : (p q b : ℕ) (x : List ℕ) → waiting p x ≢ stuck q b
waiting≢stuck p q b x e = let z : ◌≡◌ {A = ℕ} 0 1 = cc in omega arith

abbrev pub waits_with : ℕ → List ℕ → Run
waits_with pos x = record { ids = []; stop = waiting pos x }

abbrev pub stuck_with : ℕ → ℕ → Run
stuck_with pos b = record { ids = []; stop = stuck pos b }

-- ---- the definition, case by case

pub run-waits : (ts : List Token) (pos b : ℕ) (s : List ℕ) → proper_prefix ts (b ∷ s) ≡ true
    → run_at ts pos 0 (b ∷ s) ≡ waits_with pos (b ∷ s)
unfolding run_at undecided
run-waits ts pos b s e = rw (e, run_at)

pub run_none : (ts : List Token) (pos b : ℕ) (s : List ℕ) → proper_prefix ts (b ∷ s) ≡ false → longest ts (b ∷ s) ≡ None
    → run_at ts pos 0 (b ∷ s) ≡ stuck_with pos b
unfolding run_at undecided
run_none ts pos b s c e = rw (c, run_at) (rw e)

pub run-some : (ts : List Token) (pos b : ℕ) (s : List ℕ) (t : Token) → proper_prefix ts (b ∷ s) ≡ false → longest ts (b ∷ s) ≡ Some t
    → run_at ts pos 0 (b ∷ s) ≡ ran t.id (run_at ts (suc pos) (pred (length t.bytes)) s)
unfolding run_at undecided
run-some ts pos b s t c e = rw (c, run_at) (rw e)

-- ---- the three ways to stand before a byte

-- the bytes are a proper prefix of a token; no token matches, whatever comes; the same token matches, whatever comes
pub data View (ts : List Token) (pos b : ℕ) (s : List ℕ) : Type 0 where
  waits : (u : Token) → Mem u ts → Proper (b ∷ s) u.bytes → run_at ts pos 0 (b ∷ s) ≡ waits_with pos (b ∷ s) → View ts pos b s
  fails : ((y : List ℕ) → scan_at ts pos 0 (b ∷ (s ++ y)) ≡ nowhere pos b)
      → ((y : List ℕ) → run_at ts pos 0 (b ∷ (s ++ y)) ≡ stuck_with pos b)
      → run_at ts pos 0 (b ∷ s) ≡ stuck_with pos b → View ts pos b s
  steps : (t : Token) → Mem t ts → Prefix t.bytes (b ∷ s) → pred (length t.bytes) ≤ length s
      → ((y : List ℕ) → scan_at ts pos 0 (b ∷ (s ++ y)) ≡ scanned t.id (scan_at ts (suc pos) (pred (length t.bytes)) (s ++ y)))
      → ((y : List ℕ) → run_at ts pos 0 (b ∷ (s ++ y)) ≡ ran t.id (run_at ts (suc pos) (pred (length t.bytes)) (s ++ y)))
      → run_at ts pos 0 (b ∷ s) ≡ ran t.id (run_at ts (suc pos) (pred (length t.bytes)) s) → View ts pos b s

pub view : (ts : List Token) (pos b : ℕ) (s : List ℕ) → View ts pos b s
view ts pos b s = go (proper_prefix ts (b ∷ s)) refl (longest ts (b ∷ s)) refl (best ts (b ∷ s))
  where
    go : (c : Bool) → proper_prefix ts (b ∷ s) ≡ c → (m : Option Token) → longest ts (b ∷ s) ≡ m → Best ts (b ∷ s) m → View ts pos b s
    go true c m l h =
        let (u, n, p) = (proper_iff ts (b ∷ s)).0 c in
        waits u n p (run-waits ts pos b s c)
    go false c None l h = fails (λ y. scan-none ts pos b (s ++ y) (longest-stable ts (b ∷ s) y c ∙ l))
        (λ y. run_none ts pos b (s ++ y) (proper_stable ts (b ∷ s) y c) (longest-stable ts (b ∷ s) y c ∙ l))
        (run_none ts pos b s c l)
    go false c (Some t) l h =
        let (m, f, top) = h in
        let w = (fits_iff t.bytes (b ∷ s)).0 f in
        steps t m w (omega (arith, prefix_length t.bytes (b ∷ s) w))
        (λ y. scan-some ts pos b (s ++ y) t (longest-stable ts (b ∷ s) y c ∙ l))
        (λ y. run-some ts pos b (s ++ y) t (proper_stable ts (b ∷ s) y c) (longest-stable ts (b ∷ s) y c ∙ l))
        (run-some ts pos b s t c l)

-- ---- what is held while it waits

-- the ids and the bytes held are the input, and the place is where the bytes held begin
rest_from : (ts : List Token) → Valid ts → (pos k : ℕ) (s : List ℕ) → k ≤ length s → (at : ℕ) (x : List ℕ)
    → (run_at ts pos k s).stop ≡ waiting at x
    → (joined ts (run_at ts pos k s).ids ++ x ≡ drop k s) × (at + length x ≡ pos + length s)
unfolding run_at
rest_from ts v pos (suc k) [] l at x e = absurd (omega arith)
rest_from ts v pos zero [] l at x e =
    let p : at ≡ pos = cc in
    let z : x ≡ [] = cc in
    (rw (joined-nil ts) z, rw (p, z))
rest_from ts v pos (suc k) (b ∷ s) l at x e =
    let (d, n) = rest_from ts v (suc pos) k s (omega arith) at x e in
    (d, omega arith)
rest_from ts v pos zero (b ∷ s) l at x e = go (view ts pos b s) (λ k l e. rest_from ts v (suc pos) k s l at x e)
  where
    go : View ts pos b s → ((k : ℕ) → k ≤ length s → (run_at ts (suc pos) k s).stop ≡ waiting at x
        → (joined ts (run_at ts (suc pos) k s).ids ++ x ≡ drop k s) × (at + length x ≡ suc pos + length s))
        → (joined ts (run_at ts pos 0 (b ∷ s)).ids ++ x ≡ b ∷ s) × (at + length x ≡ pos + suc (length s))
    go (waits u m w r) ih =
        let p : at ≡ pos = cc in
        let z : x ≡ b ∷ s = cc in
        (rw (r, joined-nil ts) z, rw (p, z))
    go (fails q q' r) ih = absurd (waiting≢stuck at pos b x (sym (rw r at e)))
    go (steps t m w l q q' r) ih =
        let (d, n) = ih (pred (length t.bytes)) l (rw r at e) in
        (rw (r, joined-cons ts v t m, append_assoc, d) (rejoin t.bytes b s (v.nonempty t m) w), omega arith)

-- "Held bytes are those from the first undecided position."
pub run-rest : (ts : List Token) → Valid ts → (T : List ℕ) (at : ℕ) (x : List ℕ) → (run ts T).stop ≡ waiting at x
    → (joined ts (run ts T).ids ++ x ≡ T) × (at + length x ≡ length T)
run-rest ts v T at x e =
    let (d, n) = rest_from ts v 0 0 T (omega arith) at x e in
    (d, omega arith)

undecided-from : (ts : List Token) (pos k : ℕ) (s : List ℕ) (at : ℕ) (x : List ℕ) → (run_at ts pos k s).stop ≡ waiting at x
    → undecided ts x ≡ true
unfolding run_at
undecided-from ts pos k [] at x e =
    let z : x ≡ [] = cc in
    (undecided-iff ts x).1 (inl z)
undecided-from ts pos (suc k) (b ∷ s) at x e = undecided-from ts (suc pos) k s at x e
undecided-from ts pos zero (b ∷ s) at x e = go (view ts pos b s) (λ k e. undecided-from ts (suc pos) k s at x e)
  where
    go : View ts pos b s → ((k : ℕ) → (run_at ts (suc pos) k s).stop ≡ waiting at x → undecided ts x ≡ true) → undecided ts x ≡ true
    go (waits u m w r) ih =
        let z : x ≡ b ∷ s = cc in
        (undecided-iff ts x).1 (inr (u, m, rw z w))
    go (fails q q' r) ih = absurd (waiting≢stuck at pos b x (sym (rw r at e)))
    go (steps t m w l q q' r) ih = ih (pred (length t.bytes)) (rw r at e)

pub rest-undecided : (ts : List Token) (T : List ℕ) (at : ℕ) (x : List ℕ) → (run ts T).stop ≡ waiting at x → undecided ts x ≡ true
rest-undecided ts T at x e = undecided-from ts 0 0 T at x e

-- what is undecided is shorter than some token
pub undecided-short : (ts : List Token) → Valid ts → (x : List ℕ) → undecided ts x ≡ true → length x ≤ 254
undecided-short ts v x e = go ((undecided-iff ts x).0 e)
  where
    go : ((x ≡ []) ⊎ ((u : Token) × Mem u ts × Proper x u.bytes)) → length x ≤ 254
    go (inl z) = rw z (omega arith)
    go (inr (u, m, w)) = omega (arith, v.short u m, proper_length x u.bytes w)

-- "up to 254 held bytes"
pub rest-short : (ts : List Token) → Valid ts → (T : List ℕ) (at : ℕ) (x : List ℕ) → (run ts T).stop ≡ waiting at x → length x ≤ 254
rest-short ts v T at x e = undecided-short ts v x (rest-undecided ts T at x e)

-- ---- going on

-- ids before those of a run, or of a scan
abbrev pub run-after : List ℕ → Run → Run
run-after is r = record { ids = is ++ r.ids; stop = r.stop }

abbrev pub scan-after : List ℕ → Scan → Scan
scan-after is r = record { ids = is ++ r.ids; end = r.end }

pub resume_from : (ts : List Token) (pos k : ℕ) (s : List ℕ) → k ≤ length s → (at : ℕ) (x : List ℕ)
    → (run_at ts pos k s).stop ≡ waiting at x
    → (y : List ℕ)
    → (run_at ts pos k (s ++ y) ≡ run-after (run_at ts pos k s).ids (run_at ts at 0 (x ++ y)))
    × (scan_at ts pos k (s ++ y) ≡ scan-after (run_at ts pos k s).ids (scan_at ts at 0 (x ++ y)))
unfolding run_at scan_at
resume_from ts pos (suc k) [] l at x e y = absurd (omega arith)
resume_from ts pos zero [] l at x e y =
    let p : at ≡ pos = cc in
    let z : x ≡ [] = cc in
    rw (p, z) (refl, refl)
resume_from ts pos (suc k) (b ∷ s) l at x e y = resume_from ts (suc pos) k s (omega arith) at x e y
resume_from ts pos zero (b ∷ s) l at x e y = go (view ts pos b s) (λ k l e. resume_from ts (suc pos) k s l at x e y)
  where
    go : View ts pos b s
        → ((k : ℕ) → k ≤ length s → (run_at ts (suc pos) k s).stop ≡ waiting at x
        → (run_at ts (suc pos) k (s ++ y) ≡ run-after (run_at ts (suc pos) k s).ids (run_at ts at 0 (x ++ y)))
        × (scan_at ts (suc pos) k (s ++ y) ≡ scan-after (run_at ts (suc pos) k s).ids (scan_at ts at 0 (x ++ y))))
        → (run_at ts pos 0 (b ∷ (s ++ y)) ≡ run-after (run_at ts pos 0 (b ∷ s)).ids (run_at ts at 0 (x ++ y)))
        × (scan_at ts pos 0 (b ∷ (s ++ y)) ≡ scan-after (run_at ts pos 0 (b ∷ s)).ids (scan_at ts at 0 (x ++ y)))
    go (waits u m w r) ih =
        let p : at ≡ pos = cc in
        let z : x ≡ b ∷ s = cc in
        rw (r, p, z) (refl, refl)
    go (fails q q' r) ih = absurd (waiting≢stuck at pos b x (sym (rw r at e)))
    go (steps t m w l q q' r) ih =
        let (f, g) = ih (pred (length t.bytes)) l (rw r at e) in
        rw (q' y, q y, r) (ap (ran t.id) f, ap (scanned t.id) g)

-- a run that is stuck stays so whatever comes, and the scan has failed there with the same ids
pub stuck_from : (ts : List Token) (pos k : ℕ) (s : List ℕ) → k ≤ length s → (at b : ℕ) → (run_at ts pos k s).stop ≡ stuck at b
    → (y : List ℕ)
    → (run_at ts pos k (s ++ y) ≡ run_at ts pos k s)
    × (scan_at ts pos k (s ++ y) ≡ record { ids = (run_at ts pos k s).ids; end = failed at b })
unfolding run_at scan_at
stuck_from ts pos k [] l at b e y = absurd (waiting≢stuck pos at b [] e)
stuck_from ts pos (suc k) (b₀ ∷ s) l at b e y = stuck_from ts (suc pos) k s (omega arith) at b e y
stuck_from ts pos zero (b₀ ∷ s) l at b e y = go (view ts pos b₀ s) (λ k l e. stuck_from ts (suc pos) k s l at b e y)
  where
    go : View ts pos b₀ s
        → ((k : ℕ) → k ≤ length s → (run_at ts (suc pos) k s).stop ≡ stuck at b
        → (run_at ts (suc pos) k (s ++ y) ≡ run_at ts (suc pos) k s)
        × (scan_at ts (suc pos) k (s ++ y) ≡ record { ids = (run_at ts (suc pos) k s).ids; end = failed at b }))
        → (run_at ts pos 0 (b₀ ∷ (s ++ y)) ≡ run_at ts pos 0 (b₀ ∷ s))
        × (scan_at ts pos 0 (b₀ ∷ (s ++ y)) ≡ record { ids = (run_at ts pos 0 (b₀ ∷ s)).ids; end = failed at b })
    go (waits u m w r) ih = absurd (waiting≢stuck pos at b (b₀ ∷ s) (rw r at e))
    go (fails q q' r) ih =
        let z : stuck pos b₀ ≡ stuck at b = rw r at e in
        let p : pos ≡ at = cc in
        let c : b₀ ≡ b = cc in
        rw (q' y, q y, r, p, c) (refl, refl)
    go (steps t m w l q q' r) ih =
        let (f, g) = ih (pred (length t.bytes)) l (rw r at e) in
        rw (q' y, q y, r) (ap (ran t.id) f, ap (scanned t.id) g)
