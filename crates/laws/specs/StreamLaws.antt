-- The scan and the running form on any memory, case by case. Assumes nothing.
use Rattle.std.specs.Prelude.{◌≡◌, true, false, List, [], ◌∷◌, ℕ, suc, pred}
use Rattle.spec.specs.Scan.{failed, scanned, waiting, stuck, ran}
use Rattle.spec.specs.Memory.{Memory}
use Rattle.spec.specs.Match.{nothing, found, match_on, undecided_on}
use Rattle.spec.specs.Stream.{scan_on, run_on}

module _ (m : Memory) (pos b : ℕ) (s : List ℕ) where
  pub scan_on-none : match_on m (b ∷ s) ≡ nothing → scan_on m pos 0 (b ∷ s) ≡ record { ids = []; end = failed pos b }
  unfolding scan_on
  scan_on-none e = rw (e, scan_on)

  pub scan_on-some : (i n : ℕ) → match_on m (b ∷ s) ≡ found i n → scan_on m pos 0 (b ∷ s) ≡ scanned i (scan_on m (suc pos) (pred n) s)
  unfolding scan_on
  scan_on-some i n e = rw (e, scan_on)

  pub run_on-waits : undecided_on m (b ∷ s) ≡ true → run_on m pos 0 (b ∷ s) ≡ record { ids = []; stop = waiting pos (b ∷ s) }
  unfolding run_on
  run_on-waits e = rw (e, run_on)

  pub run_on-none : undecided_on m (b ∷ s) ≡ false → match_on m (b ∷ s) ≡ nothing → run_on m pos 0 (b ∷ s)
      ≡ record { ids = []; stop = stuck pos b }
  unfolding run_on
  run_on-none d e = rw (d, run_on) (rw e)

  pub run_on-some : (i n : ℕ) → undecided_on m (b ∷ s) ≡ false → match_on m (b ∷ s) ≡ found i n
      → run_on m pos 0 (b ∷ s) ≡ ran i (run_on m (suc pos) (pred n) s)
  unfolding run_on
  run_on-some i n d e = rw (d, run_on) (rw e)
