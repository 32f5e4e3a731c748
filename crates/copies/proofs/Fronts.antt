-- The front of cells after a part of them was written. Assumes nothing.
use Rattle.std.proofs.Common.{◌≡◌, ap, sym, ◌∙◌, ℕ, ◌+◌, ◌≤◌, List, ◌++◌, length, take, drop, take-add, length-take-le}
use Rattle.std.proofs.Math.Seq.{take-append-add}
use Rattle.std.proofs.lemmas.List.{take-append-le}
use borrow.Rule.Slice.PartMut.{put_mid}

-- the front of a list after a part of it was written
pub put-front : (d new t : List ℕ) (at k len : ℕ) → at ≤ length d → len ≤ length new → take len new ≡ t
    → take (at + len) (put_mid at k d new) ≡ take at d ++ t
put-front d new t at k len h l e =
    let size : length (take at d) ≡ at = length-take-le at d h in
    ap (λ (a : ℕ). take (a + len) (put_mid at k d new)) (sym size)
    ∙ take-append-add (take at d) _ len
    ∙ ap (λ (r : List ℕ). take at d ++ r) (take-append-le len new _ l ∙ e)

-- a part more of a token is copied
pub more-copied : (room new from : List ℕ) (at k len : ℕ) → at ≤ length room → len ≤ length new
    → take at room ≡ take at from → take len new ≡ take len (drop at from)
    → take (at + len) (put_mid at k room new) ≡ take (at + len) from
more-copied room new from at k len h l same e =
    put-front room new _ at k len h l e ∙ ap (λ (r : List ℕ). r ++ take len (drop at from)) same ∙ sym (take-add at len from)
