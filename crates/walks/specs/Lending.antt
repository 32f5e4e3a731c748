-- A `&κ mut [T]` that is lent for a call, as steps of the calculus: lent as a `&[T]` or as a `&mut [T]`, for a lifetime ν that is made
-- for the call.
--     lends_shared     [the `&κ mut [T]`; κ's token; …]   to   [a `&ν [T]` of the same list; ν's token; Shared; …]
--                      by the law of T by which a `&T` is made (`Shares`)
--     ends-shared      and back, at the same list
--     lends-mut        [the `&κ mut [T]`; κ's token; …]   to   [a `&ν mut [T]` of the same list; ν's token; Again; …]
--     ends-mut         [what says the last list zs; ν's token; Again; …]   to   [the `&κ mut [T]` at zs; κ's token; …]
-- Assumes `Logic`.
use Rattle.std.specs.Prelude.{◌≡◌, refl, ℕ, List, [], ◌∷◌, length}
use Rattle.std.proofs.Common.{sym, ap, subst}
use seplogic.Ra.Ura.{Ura}
use base.Fraction.{full_share}
use mir.Syntax.{Lifetime}
use base.Share
use base.Fml.{Lft, GName, Share, Fml, fsep, flft, fobs, fauth, flent, fobor}
use contract.BorrowLft.{meet_⊑_left, meet_⊑_right}
use types.Logic.{Logic}
use types.Kit.{Item, Goal, Soaks, Seq, Step, step, ‵, ◌⊛◌, some, later, ◌$◌, move, use1, use2, use3, drop, split, join, pick, fsplit}
use types.Kit.{fjoin, feq_i, await}
use types.Tokens.{lft_new, lft_end, lent_back}
use types.SemTy.{cells, Arr}
use types.Share.{arr_parts}
use Rattle.std.specs.Borrow.{RattleType, Bor, MutBor}
use denote.Shadow.{pure_l, pure_i}
use denote.Memory.{mem, shares}
use denote.Slice.{slice_val, MutSlice, ShrSlice, heres, Room, finally, mut_slice_at, coded_holeys}
use denote.Shares.{Shares}
use denote.Lend.{Held, lends_shr_slice, lends_slice, slice_back}
use denote.Index.{row, whole_out, whole_in, opens_slice, closes_slice}

abbrev pub at-list : {X : Type 0} → ℕ → ℕ → GName → List X → MutBor (List X)
at-list b o γ ys = record { ref_ptr = (b, o); ghost_name = γ; now = ys }

-- the same as a `&[T]` shows it
abbrev pub shr-list : {X : Type 0} → ℕ → ℕ → List X → Bor (List X)
shr-list b o ys = record { ref_ptr = (b, o); now = ys }

-- the holder's own borrow, open, with both halves of its ghost variable
abbrev Open : (R : RattleType) → Lft → Share → GName → ℕ → ℕ → List R.Denot → Fml
Open R κ q γ b o ys = fsep (fobor κ q (Held R (length ys) b o γ)) (fsep (fobs γ ((coded_holeys R).code (heres R ys)))
    (fauth γ ((coded_holeys R).code (heres R ys))))

-- what the holder keeps while the slice is lent as a `&[T]`: half of κ's token opens the borrow, and the other half, by which the elements
-- are shared out, is kept too
abbrev pub Shared : (R : RattleType) → Lft → Share → GName → ℕ → ℕ → List R.Denot → ℕ → Fml
Shared R κ q γ b o ys ν = fsep (flent (ν ∷ []) ((arr_parts (shares R) (length ys)).part full_share ys b o))
    (fsep (Open R κ (Share.left q) γ b o ys) (flft κ (Share.right q)))

-- and as a `&mut [T]`
abbrev pub Again : (R : RattleType) → Lft → Share → GName → ℕ → ℕ → List R.Denot → ℕ → GName → Fml
Again R κ q γ b o ys ν δ = fsep (flent (ν ∷ []) (Held R (length ys) b o δ)) (Open R κ q γ b o ys)

module _ {M : Type 1} {𝓤 : Ura M} {𝓛 : Logic 𝓤} {K : Type 0} {Γ : List (Item 𝓤)} {G : Goal 𝓤 𝓛.H} where
  -- the borrow is opened, with what its type says of it in hand
  opened : K → Soaks G → (ℓ : Lifetime) (R : RattleType) (κ : Lft) (q : Share) (γ : GName) (b o : ℕ) (ys : List R.Denot)
      → (Room R (length ys) → Seq K 𝓛 (‵ (row R full_share ys b o) ∷ ‵ (Open R κ q γ b o ys) ∷ Γ) G)
      → Seq K 𝓛 (‵ ((MutSlice ℓ κ R).own_val (at-list b o γ ys) (slice_val (b, o) (length ys) ∷ [])) ∷ ‵ (flft κ q) ∷ Γ) G
  opened t z ℓ R κ q γ b o ys k =
      fsplit t $ pure_l t (mut_slice_at R (at-list b o γ ys) (slice_val (b, o) (length ys) ∷ [])) (λ p. fsplit t $
      opens_slice t z R ys b o $ move t (2 ∷ 3 ∷ []) $ fjoin t $ move t (2 ∷ 0 ∷ []) $ fjoin t $ move t (1 ∷ 0 ∷ []) $ k p.1)

  -- and closed at zs
  closed : K → Soaks G → (ℓ : Lifetime) (R : RattleType) (κ : Lft) (q : Share) (γ : GName) (b o : ℕ) (ys zs : List R.Denot)
      → Room R (length ys) → length zs ≡ length ys
      → Step K 𝓛 (‵ ((MutSlice ℓ κ R).own_val (at-list b o γ zs) (slice_val (b, o) (length ys) ∷ [])) ∷ ‵ (flft κ q) ∷ Γ) G
      (‵ (row R full_share zs b o) ∷ ‵ (Open R κ q γ b o ys) ∷ Γ) G
  closed t z ℓ R κ q γ b o ys zs room e = step (λ s. move t (1 ∷ []) $ fsplit t $ move t (1 ∷ []) $ fsplit t $ move t (3 ∷ 2 ∷ 0 ∷ 1 ∷ [])
      $ closes_slice t z R ys zs e b o $
      fjoin t $ pure_i t (mut_slice_at R (at-list b o γ zs) (slice_val (b, o) (length ys) ∷ [])) (tt, (tt, tt))
      (ap (λ (m : ℕ). slice_val (b, o) m ∷ []) (sym e), subst (Room R) (sym e) room) $ fjoin t $ s)

module _ {M : Type 1} {𝓤 : Ura M} {𝓛 : Logic 𝓤} {K : Type 0} {Γ : List (Item 𝓤)} {G : Goal 𝓤 𝓛.H} where
  -- `shr` is the law by which a `&R` is made: its elements name no lifetime that ends before κ
  pub lends_shared : K → Soaks G → (ℓ ℓ' : Lifetime) (R : RattleType) (κ : Lft) → Shares 𝓛 R κ → (q : Share) (γ : GName) (b o : ℕ)
      (ys : List R.Denot)
      → ((ν : ℕ) → Seq K 𝓛 (‵ ((ShrSlice ℓ' (ν ∷ []) R).own_val (shr-list b o ys) (slice_val (b, o) (length ys) ∷ []))
      ∷ ‵ (flft (ν ∷ []) full_share) ∷ ‵ (Shared R κ q γ b o ys ν) ∷ Γ) G)
      → Seq K 𝓛 (‵ ((MutSlice ℓ κ R).own_val (at-list b o γ ys) (slice_val (b, o) (length ys) ∷ [])) ∷ ‵ (flft κ q) ∷ Γ) G
  lends_shared t z ℓ ℓ' R κ shr q γ b o ys k =
      let h = Share.left q in
      let r = Share.right q in
      move t (1 ∷ []) $ use1 𝓛 (‵ (flft κ h) ⊛ ‵ (flft κ r)) (𝓛.lfts.lft_split κ q) $ split t $ move t (2 ∷ 0 ∷ []) $
      opened t z ℓ R κ h γ b o ys (λ room. lft_new t z (λ ν. move t (1 ∷ []) $ feq_i t ℕ (length ys) (length ys) refl $ fjoin t $
      -- [the elements; ν's token; the borrow; half of κ's token]
      move t (1 ∷ 3 ∷ []) $ join t $ move t (1 ∷ 0 ∷ []) $
      use2 𝓛 (later ((‵ ((ShrSlice ℓ' (ν ∷ []) R).own_val (shr-list b o ys) (slice_val (b, o) (length ys) ∷ []))
      ⊛ ‵ (flent (ν ∷ []) ((arr_parts (shares R) (length ys)).part full_share ys b o)))
      ⊛ (‵ (flft (ν ∷ []) full_share) ⊛ ‵ (flft κ r))))
      (lends_shr_slice 𝓛 R ℓ' (ν ∷ []) full_share ys b o room κ shr ((ν ∷ [], full_share) ∷ (κ, r) ∷ [])
      (meet_⊑_right (ν ∷ []) κ) (meet_⊑_left (ν ∷ []) κ)) $
      await t z $ split t $ split t $ move t (2 ∷ []) $ split t $
      -- [ν's token; half of κ's; the slice; what is lent; the borrow]
      move t (4 ∷ 1 ∷ []) $ fjoin t $ move t (3 ∷ 0 ∷ []) $ fjoin t $ move t (2 ∷ 1 ∷ 0 ∷ []) $ k ν))

  pub ends-shared : K → Soaks G → (ℓ ℓ' : Lifetime) (R : RattleType) (κ : Lft) (q : Share) (γ : GName) (b o : ℕ) (ys : List R.Denot)
      (ν : ℕ) → Room R (length ys) → {P : Fml}
      → Step K 𝓛 (‵ ((MutSlice ℓ κ R).own_val (at-list b o γ ys) (slice_val (b, o) (length ys) ∷ [])) ∷ ‵ (flft κ q) ∷ Γ) G (‵ P
      ∷ ‵ (flft (ν ∷ []) full_share) ∷ ‵ (Shared R κ q γ b o ys ν) ∷ Γ) G
  ends-shared t z ℓ ℓ' R κ q γ b o ys ν room =
      let h = Share.left q in
      let r = Share.right q in
      step (λ s. drop t $ lft_end t z $ move t (1 ∷ []) $ fsplit t $ move t (2 ∷ 0 ∷ [])
      $ lent_back t z $ fsplit t $ drop t $ move t (1 ∷ []) $ fsplit t $ move t (2 ∷ 0 ∷ []) $ closed t z ℓ R κ h γ b o ys ys room refl $
      move t (1 ∷ 2 ∷ []) $ use2 𝓛 (‵ (flft κ q)) (𝓛.lfts.lft_join κ q) $ move t (1 ∷ 0 ∷ []) $ s)

  pub lends-mut : K → Soaks G → (ℓ ℓ' : Lifetime) (R : RattleType) (κ : Lft) (q : Share) (γ : GName) (b o : ℕ) (ys : List R.Denot)
      → ((ν : ℕ) (δ : GName) → Seq K 𝓛 (‵ ((MutSlice ℓ' (ν ∷ []) R).own_val (at-list b o δ ys) (slice_val (b, o) (length ys) ∷ []))
      ∷ ‵ (flft (ν ∷ []) full_share) ∷ ‵ (Again R κ q γ b o ys ν δ) ∷ Γ) G)
      → Seq K 𝓛 (‵ ((MutSlice ℓ κ R).own_val (at-list b o γ ys) (slice_val (b, o) (length ys) ∷ [])) ∷ ‵ (flft κ q) ∷ Γ) G
  lends-mut t z ℓ ℓ' R κ q γ b o ys k =
      opened t z ℓ R κ q γ b o ys (λ room. lft_new t z (λ ν. move t (1 ∷ [])
      $ use1 𝓛 (‵ (cells (mem R) ys b o)) (whole_in 𝓛 R ys b o) $
      use1 𝓛 (later (some (λ (δ : GName). ‵ ((MutSlice ℓ' (ν ∷ []) R).own_val (at-list b o δ ys) (slice_val (b, o) (length ys) ∷ []))
      ⊛ ‵ (flent (ν ∷ []) (Held R (length ys) b o δ))))) (lends_slice 𝓛 R ℓ' (ν ∷ []) ys b o room) $
      await t z $ pick t (λ δ. split t $ move t (1 ∷ 3 ∷ []) $ fjoin t $ move t (1 ∷ 2 ∷ 0 ∷ []) $ k ν δ)))

  pub ends-mut : K → Soaks G → (ℓ : Lifetime) (R : RattleType) (κ : Lft) (q : Share) (γ : GName) (b o : ℕ) (ys zs : List R.Denot)
      (ν : ℕ) (δ : GName) → Room R (length ys) → length zs ≡ length ys
      → Step K 𝓛 (‵ ((MutSlice ℓ κ R).own_val (at-list b o γ zs) (slice_val (b, o) (length ys) ∷ [])) ∷ ‵ (flft κ q) ∷ Γ) G
      (‵ (finally R δ zs) ∷ ‵ (flft (ν ∷ []) full_share) ∷ ‵ (Again R κ q γ b o ys ν δ) ∷ Γ) G
  ends-mut t z ℓ R κ q γ b o ys zs ν δ room e = step (λ s. move t (1 ∷ []) $ lft_end t z $ move t (2 ∷ []) $ fsplit t
      $ move t (2 ∷ 0 ∷ 3 ∷ []) $
      use3 𝓛 (later (‵ ((Arr (mem R) (length ys)).own_at zs b o))) (slice_back 𝓛 R (ν ∷ []) δ zs (length ys) b o) $ await t z
      $ fsplit t $ drop t $ use1 𝓛 (‵ (row R full_share zs b o)) (whole_out 𝓛 R zs b o) $
      closed t z ℓ R κ q γ b o ys zs room e $ s)
