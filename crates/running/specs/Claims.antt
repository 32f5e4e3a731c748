-- What the running form is for, said of the scan alone. Later bytes are any byte string Y.
-- A. Its ids are the longest list that begins the ids of the scan of T followed by Y, for every Y.
-- B. It is stuck exactly where all these scans fail, and then with the place and the byte at which the scan of T fails.
-- C. It goes on from the bytes that it holds. Assumes nothing.
use Rattle.std.specs.Prelude.{◌≡◌, refl, ◌≢◌, ◌↔◌, ◌⊎◌, true, ℕ, suc, pred, ◌<◌, length}
use Rattle.std.proofs.Common.{sym, ◌∙◌, ap, inl, inr, arith}
use Rattle.std.specs.Prelude.{Option, None, Some}
use mathlib.Core.List.{List, [], ◌∷◌, ◌++◌, append-nil, Memᴰ as Mem}
use Rattle.spec.specs.Lists.{Bytes}
use Rattle.spec.specs.Token.{Token, longest, undecided}
use Rattle.spec.specs.Plain.{Prefix, Sure, Fails}
use Rattle.spec.specs.Valid.{Valid}
use Rattle.spec.specs.Scan.{done, failed, Scan, scan_at, scan, Stop, waiting, stuck, run_at, run}
use Rattle.running.specs.Prefixes.{Proper, prefix_cons, prefix_length, prefix_both, proper_length, bytes_right}
use Rattle.running.specs.Longest.{undecided-iff, longest-iff, longest-self}
use Rattle.running.specs.Joined.{ids_tell}
use Rattle.running.specs.ScanLaws.{scan-nil, scan-none, scan-some}
use Rattle.running.specs.RunLaws.{run-after, scan-after, resume_from, stuck_from, rest-undecided}

-- whatever comes after T, the scan fails
abbrev pub AllFail : List Token → List ℕ → Type 0
AllFail ts T = (Y : List ℕ) → Bytes Y → Fails (scan ts (T ++ Y)).end

-- ---- C

-- the running form of T followed by P
pub run-resumes : (ts : List Token) (T : List ℕ) (at : ℕ) (x : List ℕ) → (run ts T).stop ≡ waiting at x → (P : List ℕ)
    → run ts (T ++ P) ≡ run-after (run ts T).ids (run_at ts at 0 (x ++ P))
run-resumes ts T at x e P = (resume_from ts 0 0 T (omega arith) at x e P).0

-- the scan of T followed by P
pub scan-resumes : (ts : List Token) (T : List ℕ) (at : ℕ) (x : List ℕ) → (run ts T).stop ≡ waiting at x → (P : List ℕ)
    → scan ts (T ++ P) ≡ scan-after (run ts T).ids (scan_at ts at 0 (x ++ P))
scan-resumes ts T at x e P = (resume_from ts 0 0 T (omega arith) at x e P).1

-- the scan of T alone
pub scan-ends : (ts : List Token) (T : List ℕ) (at : ℕ) (x : List ℕ) → (run ts T).stop ≡ waiting at x
    → scan ts T ≡ scan-after (run ts T).ids (scan_at ts at 0 x)
scan-ends ts T at x e = rw (append-nil T, append-nil x) at (scan-resumes ts T at x e [])

-- where it is stuck it stays
pub run-stuck : (ts : List Token) (T : List ℕ) (at b : ℕ) → (run ts T).stop ≡ stuck at b → (P : List ℕ) → run ts (T ++ P) ≡ run ts T
run-stuck ts T at b e P = (stuck_from ts 0 0 T (omega arith) at b e P).0

pub scan-stuck : (ts : List Token) (T : List ℕ) (at b : ℕ) → (run ts T).stop ≡ stuck at b → (Y : List ℕ)
    → scan ts (T ++ Y) ≡ record { ids = (run ts T).ids; end = failed at b }
scan-stuck ts T at b e Y = (stuck_from ts 0 0 T (omega arith) at b e Y).1

-- ---- a token's bytes, scanned

scan-all : (ts : List Token) (pos : ℕ) (s : List ℕ) → scan_at ts pos (length s) s ≡ record { ids = []; end = done }
unfolding scan_at
scan-all ts pos [] = refl
scan-all ts pos (b ∷ s) = scan-all ts (suc pos) s

scan-token : (ts : List Token) → Valid ts → (u : Token) → Mem u ts → (pos : ℕ) (s : List ℕ) → u.bytes ≡ s
    → scan_at ts pos 0 s ≡ record { ids = u.id ∷ []; end = done }
scan-token ts v u m pos [] e = absurd (omega (arith, v.nonempty u m, ap length e))
scan-token ts v u m pos (b ∷ s) e =
    let l : longest ts (b ∷ s) ≡ Some u = ap (longest ts) (sym e) ∙ longest-self ts v u m in
    let k : pred (length u.bytes) ≡ length s = omega (arith, ap length e) in
    scan-some ts pos b s u l ∙ rw (k, scan-all)

-- ---- two continuations of what is held

-- the two lists do not begin alike
abbrev Apart : List ℕ → List ℕ → Type 0
Apart [] js = Unit {0}
Apart (i ∷ is) [] = Unit {0}
Apart (i ∷ is) (j ∷ js) = i ≢ j

-- what begins both of them after rs begins rs
fork : (is rs js ks : List ℕ) → Apart js ks → Prefix is (rs ++ js) → Prefix is (rs ++ ks) → Prefix is rs
fork [] rs js ks d p q = (rs, refl)
fork (i ∷ is) [] [] ks d p q = p
fork (i ∷ is) [] (j ∷ js) [] d p q = q
fork (i ∷ is) [] (j ∷ js) (k ∷ ks) d p q = absurd (d ((prefix_cons i j is js p).0 ∙ sym (prefix_cons i k is ks q).0))
fork (i ∷ is) (r ∷ rs) js ks d p q =
    let (e, p') = prefix_cons i r is (rs ++ js) p in
    let (r', w) = fork is rs js ks d p' (prefix_cons i r is (rs ++ ks) q).1 in
    (r', cc)

-- Where a string is undecided, some bytes after it let the scan end, and its ids do not begin like those of the string alone.
abbrev Fork : List Token → ℕ → List ℕ → Type 0
Fork ts pos x = (y : List ℕ) × Bytes y × ((scan_at ts pos 0 (x ++ y)).end ≡ done)
    × Apart (scan_at ts pos 0 (x ++ y)).ids (scan_at ts pos 0 x).ids

module _ (ts : List Token) (v : Valid ts) (pos : ℕ) where
  -- the scan of a proper prefix of a token does not begin with that token
  apart-token : (u : Token) → Mem u ts → (x : List ℕ) → length x < length u.bytes → Apart (u.id ∷ []) (scan_at ts pos 0 x).ids
  apart-token u m [] l = rw (scan-nil ts pos) tt
  apart-token u m (b ∷ s) l = go (longest ts (b ∷ s)) refl
    where
      go : (o : Option Token) → longest ts (b ∷ s) ≡ o → Apart (u.id ∷ []) (scan_at ts pos 0 (b ∷ s)).ids
      go None e = rw (scan-none ts pos b s e) tt
      go (Some t) e =
          let (n, w, top) = (longest-iff ts v (b ∷ s) t).0 e in
          rw (scan-some ts pos b s t e) (λ q. omega (
            arith,
            prefix_length t.bytes (b ∷ s) w,
            ap (λ (t : Token). length t.bytes) (ids_tell ts v u t m n q),
          ))

  forks : (x : List ℕ) → undecided ts x ≡ true → Fork ts pos x
  forks x e = go ((undecided-iff ts x).0 e)
    where
      go : ((x ≡ []) ⊎ ((u : Token) × Mem u ts × Proper x u.bytes)) → Fork ts pos x
      go (inl z) =
          let n = scan-nil ts pos in
          rw z ([], tt, ap (λ (r : Scan). r.end) n, rw n tt)
      go (inr (u, m, (c, y, p))) =
          let s = scan-token ts v u m pos (x ++ c ∷ y) p in (
            c ∷ y,
            bytes_right x (c ∷ y) (rw p at (v.bytes u m)),
            ap (λ (r : Scan). r.end) s,
            rw s (apart-token u m x (proper_length x u.bytes (c, y, p))),
          )

-- ---- A

-- "the longest list that, for every byte string Y of any length (the later bytes), begins the ids of the scan of T followed by Y":
-- it begins them all
run-begins : (ts : List Token) (T Y : List ℕ) → Prefix (run ts T).ids (scan ts (T ++ Y)).ids
run-begins ts T Y = go (run ts T).stop refl
  where
    go : (z : Stop) → (run ts T).stop ≡ z → Prefix (run ts T).ids (scan ts (T ++ Y)).ids
    go (waiting at x) e = rw (scan-resumes ts T at x e Y) ((scan_at ts at 0 (x ++ Y)).ids, refl)
    go (stuck at b) e = rw (scan-stuck ts T at b e Y) ([], sym (append-nil (run ts T).ids))

-- and whatever begins them all begins it
run-longest : (ts : List Token) → Valid ts → (T is : List ℕ) → ((Y : List ℕ) → Bytes Y → Prefix is (scan ts (T ++ Y)).ids)
    → Prefix is (run ts T).ids
run-longest ts v T is h = go (run ts T).stop refl
  where
    go : (z : Stop) → (run ts T).stop ≡ z → Prefix is (run ts T).ids
    go (waiting at x) e =
        let (y, k, d, a) = forks ts v at x (rest-undecided ts T at x e) in
        fork is (run ts T).ids (scan_at ts at 0 (x ++ y)).ids (scan_at ts at 0 x).ids a
        (rw (scan-resumes ts T at x e y) at (h y k)) (rw (append-nil T, scan-ends ts T at x e) at (h [] tt))
    go (stuck at b) e = rw (scan-stuck ts T at b e []) at (h [] tt)

pub claim_A : (ts : List Token) → Valid ts → (T : List ℕ) → Sure ts T (run ts T).ids
claim_A ts v T = record { begins = λ Y h. run-begins ts T Y; longest = run-longest ts v T }

-- there is one such list
pub sure_unique : (ts : List Token) (T G H : List ℕ) → Sure ts T G → Sure ts T H → G ≡ H
sure_unique ts T G H g h = prefix_both G H (h.longest G g.begins) (g.longest H h.begins)

-- ---- B

-- "If all these scans fail, failure is certain"
pub stuck_fails : (ts : List Token) (T : List ℕ) (at b : ℕ) → (run ts T).stop ≡ stuck at b → AllFail ts T
stuck_fails ts T at b e Y h = rw (scan-stuck ts T at b e Y) tt

-- while it waits, some later bytes let the scan end
pub waiting_open : (ts : List Token) → Valid ts → (T : List ℕ) (at : ℕ) (x : List ℕ) → (run ts T).stop ≡ waiting at x
    → (Y : List ℕ) × Bytes Y × ((scan ts (T ++ Y)).end ≡ done)
waiting_open ts v T at x e =
    let (y, k, d, a) = forks ts v at x (rest-undecided ts T at x e) in
    (y, k, ap (λ (r : Scan). r.end) (scan-resumes ts T at x e y) ∙ d)

pub waiting_holds : (ts : List Token) → Valid ts → (T : List ℕ) (at : ℕ) (x : List ℕ) → (run ts T).stop ≡ waiting at x → AllFail ts T → ⊥
waiting_holds ts v T at x e h =
    let (Y, k, d) = waiting_open ts v T at x e in
    rw d at (h Y k)

pub claim_B : (ts : List Token) → Valid ts → (T : List ℕ) → ((at : ℕ) × (b : ℕ) × ((run ts T).stop ≡ stuck at b)) ↔ AllFail ts T
claim_B ts v T = (λ w. stuck_fails ts T w.0 w.1 w.2, λ h. go h (run ts T).stop refl)
  where
    go : AllFail ts T → (z : Stop) → (run ts T).stop ≡ z → (at : ℕ) × (b : ℕ) × ((run ts T).stop ≡ stuck at b)
    go h (stuck at b) e = (at, b, e)
    go h (waiting at x) e = absurd (waiting_holds ts v T at x e h)

-- "22 carries where the scan of T fails and the byte there."
pub claim_B_place : (ts : List Token) (T : List ℕ) (at b : ℕ) → (run ts T).stop ≡ stuck at b
    → scan ts T ≡ record { ids = (run ts T).ids; end = failed at b }
claim_B_place ts T at b e = rw (append-nil T) at (scan-stuck ts T at b e [])
