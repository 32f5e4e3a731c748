-- What stands at a slot. Assumes nothing.
use Rattle.std.specs.Prelude.{◌≡◌, ◌⊎◌, Bool, true, false}
use Rattle.std.proofs.Math.Path.{refl, ap, subst}
use Rattle.std.proofs.Common.{sym, ◌∙◌, inr, arith}
use Rattle.std.proofs.Math.Logic.{inl}
use Rattle.std.proofs.Math.Bool.{cond}
use mathlib.Core.List.Memᴰ.{head as here}
use mathlib.Core.List.Memᴰ.{tail as there}
use mathlib.Core.List.{List, [], ◌∷◌, ◌++◌, Memᴰ as Mem}
use mathlib.Core.List.Memᴰ.{cases_cons}
use mathlib.Core.List.Memᴰ.{cast as mem-cast}
use mathlib.Core.List.Memᴰ.{not-nil}
use Prim.Native.Nat.{ℕ, ◌/◌, ◌≤◌, ◌<◌}
use Rattle.std.specs.Int.Bits.{bit_xor}
use Rattle.spec.specs.Lists.{byte_in}
use Rattle.spec.specs.Layout.{Put, slot_word}
use Rattle.laws.specs.Tests.{clash, no_true, in_mem, mem_in}
use Rattle.laws.specs.Nodes.{ByteLabels}
use Rattle.laws.specs.Xor.{xor_cancel, xor_cancel_r, xor_block_of}
use Rattle.laws.specs.Placed.{Good, taken-mem, alone}

module _ (L : List ℕ → List ℕ) (W : List ℕ → ℕ → ℕ) where
  -- the word at a node's slot
  pub hit : {x : Put} {xs : List Put} (b : ℕ) → Good L xs → Mem x xs → Mem b (L x.node)
      → slot_word L W xs (bit_xor x.base b) ≡ W (x.node ++ (b ∷ [])) b
  unfolding slot_word
  hit {x} b g (here {x = y} {xs = xs} e) k =
      subst (λ (z : Put). Mem b (L z.node) → slot_word L W (y ∷ xs) (bit_xor z.base b) ≡ W (z.node ++ (b ∷ [])) b) (sym e) first_one k
    where
      first_one : Mem b (L y.node) → slot_word L W (y ∷ xs) (bit_xor y.base b) ≡ W (y.node ++ (b ∷ [])) b
      first_one m =
          ap (λ (l : ℕ). cond (byte_in (L y.node) l) (W (y.node ++ (l ∷ [])) l) (slot_word L W xs (bit_xor y.base b)))
          (xor_cancel y.base b)
          ∙ ap (λ (c : Bool). cond c (W (y.node ++ (b ∷ [])) b) (slot_word L W xs (bit_xor y.base b))) (mem_in m)
  hit {x} b g (there {x = y} {xs = xs} m) k =
      ap (λ (c : Bool). cond c (W (y.node ++ (l ∷ [])) l) (slot_word L W xs i)) other ∙ hit b g.3 m k
    where
      i : ℕ
      i = bit_xor x.base b

      l : ℕ
      l = bit_xor y.base i

      other : byte_in (L y.node) l ≡ false
      other = no_true _ (λ t. clash (taken-mem L b (bit_xor y.base l) m k (sym (xor_cancel y.base i))) (g.2 l (in_mem _ l t)))

  -- whose word stands at i
  pub record Owner (xs : List Put) (i : ℕ) : Type 0 where
    pub own : Put
    pub lab : ℕ
    pub mem : Mem own xs
    pub child : Mem lab (L own.node)
    pub at : bit_xor own.base lab ≡ i
    pub is : slot_word L W xs i ≡ W (own.node ++ (lab ∷ [])) lab

  pub owner : (xs : List Put) (i : ℕ) → (slot_word L W xs i ≡ 0) ⊎ Owner xs i
  unfolding slot_word
  owner [] i = inl refl
  owner (y ∷ xs) i = go (byte_in (L y.node) l) refl (owner xs i)
    where
      l : ℕ
      l = bit_xor y.base i

      go : (c : Bool) → byte_in (L y.node) l ≡ c → (slot_word L W xs i ≡ 0) ⊎ Owner xs i → (slot_word L W (y ∷ xs) i ≡ 0) ⊎ Owner (y ∷ xs) i
      go true e r = inr (record {
        own = y;
        lab = l;
        mem = here refl;
        child = in_mem _ l e;
        at = xor_cancel y.base i;
        is = ap (λ (c : Bool). cond c (W (y.node ++ (l ∷ [])) l) (slot_word L W xs i)) e;
      })
      go false e (inl z) = inl (ap (λ (c : Bool). cond c (W (y.node ++ (l ∷ [])) l) (slot_word L W xs i)) e ∙ z)
      go false e (inr o) = inr (record {
        own = o.own;
        lab = o.lab;
        mem = there o.mem;
        child = o.child;
        at = o.at;
        is = ap (λ (c : Bool). cond c (W (y.node ++ (l ∷ [])) l) (slot_word L W xs i)) e ∙ o.is;
      })

  -- an owner by the byte of the walk is the node of the walk
  pub ours : {x : Put} {xs : List Put} (b : ℕ) → Good L xs → Mem x xs → (o : Owner xs (bit_xor x.base b)) → o.lab ≡ b
      → Mem b (L x.node)
  ours {x} {xs} b g m o e =
      let same_base : o.own.base ≡ x.base = xor_cancel_r o.own.base x.base b (ap (bit_xor o.own.base) (sym e) ∙ o.at) in
      let p : o.own ≡ x = alone L xs g o.mem m same_base in
      subst (λ (z : Put). Mem b (L z.node)) p (mem-cast (sym e) o.child)

  -- nothing stands in block 0
  pub block-zero : (xs : List Put) → ByteLabels L → Good L xs → (i : ℕ) → i < 256 → slot_word L W xs i ≡ 0
  block-zero xs small g i h = go (owner xs i)
    where
      low : (ys : List Put) → Good L ys → {x : Put} → Mem x ys → 1 ≤ x.base / 256
      low [] g m = absurd (not-nil m)
      low (y ∷ ys) g {x} m = pick (cases_cons m) (low ys g.3)
        where
          pick : (x ≡ y) ⊎ Mem x ys → (Mem x ys → 1 ≤ x.base / 256) → 1 ≤ x.base / 256
          pick (inl e) r = subst (λ (z : Put). 1 ≤ z.base / 256) (sym e) g.0
          pick (inr n) r = r n

      go : (slot_word L W xs i ≡ 0) ⊎ Owner xs i → slot_word L W xs i ≡ 0
      go (inl z) = z
      go (inr o) =
          let a = low xs g o.mem in
          let q = xor_block_of o.own.base o.lab (small o.own.node o.lab o.child) in
          let r = ap (λ (z : ℕ). z / 256) o.at in
          absurd (omega arith)
