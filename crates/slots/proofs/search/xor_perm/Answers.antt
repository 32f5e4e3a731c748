-- `slots::search::xor_perm` meets its contract. Assumes nothing.
use mathlib.Core.Path.{◌≡◌, ap, ◌∙◌}
use Prim.Native.Nat.{ℕ}
use Rattle.laws.specs.Perm.{bit, xor_perm, perm_bit}
use Rattle.slots.proofs.search.xor_perm.Goals as goal

pub returns : goal.returns
unfolding xor_perm
returns c =
    let a = c.args in
    let e : c.swap_if.result ≡ xor_perm a.word a.d = cc in
    λ d i h. ap (λ (z : ℕ). bit z i) e ∙ perm_bit a.word a.d i d h
