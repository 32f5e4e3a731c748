-- `stream::join` meets its contract: the held bytes copied to the start, and those of the piece within reach behind them. Assumes nothing.
use Rattle.std.proofs.Common.{◌≡◌, List, ℕ, ◌+◌, ◌++◌, min, length, take, sym, ap, ap₂, ◌∙◌, arith, length-append, length-take}
use Rattle.std.proofs.lemmas.Slice.{take-put_mid}
use Rattle.std.proofs.lemmas.List.{take_min}
use borrow.Rule.Slice.PartMut.{put_mid}
use lib.Seq.{take-append_seam}
use Rattle.stream.specs.Handing.{reached}
use Rattle.stream.proofs.join.Goals as goal

-- `first` written to the start of a list that goes on with `rest`, and `second` behind it
joined : (held piece first second rest : List ℕ) (more k : ℕ) → first ≡ held → second ≡ take more piece → more ≡ min (length piece) reached
    → take (length held + more) (put_mid (length held) k (first ++ rest) second) ≡ held ++ take reached piece
joined held piece first second rest more k e f g =
    let turn : min (length piece) reached ≡ min reached (length piece) = omega arith in
    let cut : second ≡ take reached piece = f ∙ ap (λ (n : ℕ). take n piece) (g ∙ turn) ∙ take_min reached piece in
    let many = ap length cut in
    let l = length-take reached piece in
    let h = ap length e in
    let a = length-append first rest in
    take-put_mid (length held) k (first ++ rest) second (length held + more) (omega arith) (omega arith)
    ∙ ap₂ (λ (x y : List ℕ). x ++ y) (ap (λ (n : ℕ). take n (first ++ rest)) (sym h) ∙ take-append_seam first rest ∙ e) cut

pub returns : goal.returns
returns c =
    joined c.args.held.now c.args.piece.now c.copy_from_slice.new.self c.copy_from_slice-2.new.self _ c.min-more.result _
    c.copy_from_slice.ensures.after c.copy_from_slice-2.ensures.after c.min-more.ensures
