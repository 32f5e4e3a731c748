-- `copies::copy_token` meets its contract: sixteen bytes begin with the token's. Assumes nothing.
use Rattle.std.proofs.Common.{◌≡◌, ℕ, ◌≤◌, List, ◌++◌, length, take, ap, ◌∙◌, arith}
use Rattle.std.proofs.Math.Seq.{take-take, length-take-le}
use Rattle.std.proofs.lemmas.List.{take-append-le}
use Rattle.std.specs.Array.{IsFirstChunk}
use Rattle.copies.proofs.copy_token.Goals as goal

front-of_chunk : (s chunk rest : List ℕ) (len n : ℕ) → IsFirstChunk s chunk n → len ≤ n → take len (chunk ++ rest) ≡ take len s
front-of_chunk s chunk rest len n e h =
    let size : length chunk ≡ n = ap length e.same ∙ length-take-le n s e.enough in
    take-append-le len chunk rest (omega arith) ∙ ap (take len) e.same ∙ take-take len n s h

pub returns-in-Some-Some : goal.returns-in-Some-Some
returns-in-Some-Some c =
    front-of_chunk c.args.from.now c.in-Some-Some.chunk.now _ c.args.len 16 c.in-Some-Some.ensures.cases (omega arith)
