-- On loaded memory the scan and the running form are those on the tokens, since matching and deciding are; and the bytes looked at add up
-- as on the tokens. Assumes nothing.
use mathlib.Core.Path.{◌≡◌, refl, sym, ◌∙◌, ap}
use mathlib.Core.Bool.{Bool, true, false}
use Rattle.std.specs.Prelude.{Option, None, Some}
use mathlib.Core.List.{List, [], ◌∷◌}
use Prim.Native.Nat.{ℕ, zero, suc, pred}
use lib.ListN.{length}
use Rattle.spec.specs.Lists.{Bytes}
use Rattle.spec.specs.Token.{Token, longest, proper_prefix, undecided}
use Rattle.spec.specs.Scan.{scanned, scan_at, ran, run_at}
use Rattle.spec.specs.Memory.{Memory}
use Rattle.spec.specs.Match.{match_on, undecided_on}
use Rattle.spec.specs.Looked.{looked_sum}
use Rattle.spec.specs.LookedOn.{sum_on}
use Rattle.spec.specs.Stream.{scan_on, run_on}
use Rattle.laws.specs.StreamLaws.{scan_on-none, scan_on-some, run_on-waits, run_on-none, run_on-some}
use Rattle.spec.specs.Theorems.{match_of}
use Rattle.running.specs.ScanLaws.{scan-none, scan-some}
use Rattle.running.specs.RunLaws.{run-waits, run_none, run-some}

-- ---- memory that matches as the tokens do

-- at every byte string the walk finds the longest token, a string is undecided just where it is so of the tokens, and the bytes that the
-- walks read are those looked at
pub record Agrees (m : Memory) (ts : List Token) : Type 0 where
  pub matches : (s : List ℕ) → Bytes s → match_on m s ≡ match_of (longest ts s)
  pub decides : (s : List ℕ) → Bytes s → undecided_on m s ≡ undecided ts s
  pub sums : (s : List ℕ) → Bytes s → (n : ℕ) → sum_on m n 0 s ≡ looked_sum ts n s

undecided-cons : (ts : List Token) (b : ℕ) (s : List ℕ) → undecided ts (b ∷ s) ≡ proper_prefix ts (b ∷ s)
unfolding undecided
undecided-cons ts b s = refl

module _ (m : Memory) (ts : List Token) (a : Agrees m ts) where
  match_is : (b : ℕ) (s : List ℕ) → Bytes (b ∷ s) → (o : Option Token) → longest ts (b ∷ s) ≡ o → match_on m (b ∷ s) ≡ match_of o
  match_is b s h o e = a.matches (b ∷ s) h ∙ ap match_of e

  undecided-is : (b : ℕ) (s : List ℕ) → Bytes (b ∷ s) → (c : Bool) → proper_prefix ts (b ∷ s) ≡ c → undecided_on m (b ∷ s) ≡ c
  undecided-is b s h c e = a.decides (b ∷ s) h ∙ undecided-cons ts b s ∙ e

  pub scan-on : (pos k : ℕ) (s : List ℕ) → Bytes s → scan_on m pos k s ≡ scan_at ts pos k s
  unfolding scan_on scan_at
  scan-on pos k [] h = refl
  scan-on pos (suc k) (b ∷ s) h = scan-on (suc pos) k s h.1
  scan-on pos zero (b ∷ s) h = go (longest ts (b ∷ s)) refl (λ k. scan-on (suc pos) k s h.1)
    where
      go : (o : Option Token) → longest ts (b ∷ s) ≡ o → ((k : ℕ) → scan_on m (suc pos) k s ≡ scan_at ts (suc pos) k s)
          → scan_on m pos 0 (b ∷ s) ≡ scan_at ts pos 0 (b ∷ s)
      go None e ih = scan_on-none m pos b s (match_is b s h None e) ∙ sym (scan-none ts pos b s e)
      go (Some t) e ih =
          scan_on-some m pos b s t.id (length t.bytes) (match_is b s h (Some t) e)
          ∙ ap (scanned t.id) (ih (pred (length t.bytes)))
          ∙ sym (scan-some ts pos b s t e)

  pub run_on_lem : (pos k : ℕ) (s : List ℕ) → Bytes s → run_on m pos k s ≡ run_at ts pos k s
  unfolding run_on run_at
  run_on_lem pos k [] h = refl
  run_on_lem pos (suc k) (b ∷ s) h = run_on_lem (suc pos) k s h.1
  run_on_lem pos zero (b ∷ s) h = go (proper_prefix ts (b ∷ s)) refl (longest ts (b ∷ s)) refl (λ k. run_on_lem (suc pos) k s h.1)
    where
      go : (c : Bool) → proper_prefix ts (b ∷ s) ≡ c → (o : Option Token) → longest ts (b ∷ s) ≡ o
          → ((k : ℕ) → run_on m (suc pos) k s ≡ run_at ts (suc pos) k s) → run_on m pos 0 (b ∷ s) ≡ run_at ts pos 0 (b ∷ s)
      go true c o e ih = run_on-waits m pos b s (undecided-is b s h true c) ∙ sym (run-waits ts pos b s c)
      go false c None e ih =
          run_on-none m pos b s (undecided-is b s h false c) (match_is b s h None e) ∙ sym (run_none ts pos b s c e)
      go false c (Some t) e ih =
          run_on-some m pos b s t.id (length t.bytes) (undecided-is b s h false c) (match_is b s h (Some t) e)
          ∙ ap (ran t.id) (ih (pred (length t.bytes)))
          ∙ sym (run-some ts pos b s t c e)
