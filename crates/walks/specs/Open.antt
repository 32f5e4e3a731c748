-- What a function does itself to what it is lent: read or write a `&mut T`, or one element of a slice. The entry becomes the cell; what is
-- left of the reference stands at the END of the context until it is closed, so that no other entry moves.
--     opens_at, closes_at          a `&mut T`
--     opens-elem, closes-elem      the element at i of a `&mut [T]`
--     looks-elem, shuts-elem       the element at i of a `&[T]`, to be read. T can be copied (`Copied`)
-- Assumes `Logic`.
use Rattle.std.specs.Prelude.{◌≡◌, ℕ, ◌<◌, List, [], ◌∷◌, ◌++◌, length, get_or, set}
use Rattle.std.proofs.Common.{sym, ◌∙◌, ap, subst, length-set}
use seplogic.Ra.Ura.{Ura}
use base.Fraction.{full_share}
use mir.Val.{Val}
use base.Fml.{Lft, Share, Fml, feq, fsep, fobs, fauth, fobor, fhide}
use types.Logic.{Logic}
use types.Kit.{Item, ‵, ◌⊛◌, nth, only, Goal, Soaks, Seq, Step, step, ◌$◌, move, drop, split, join, feq_i, feq_l, fsplit, fjoin}
use Rattle.std.specs.Borrow.{RattleType}
use denote.Laws.{Is, shows}
use denote.Copied.{Copied}
use denote.Opens.{Shut}
use denote.Ref.{Bor, MutBor, at_last, mut_vals}
use denote.Memory.{mem, shares as shares_of, cell_at}
use denote.Lend.{Held}
use denote.Index.{row, others as but-one, place as place_of, elem_out, elem_put, elem_back, opens_slice, closes_slice, looks_slice}
use denote.Index.{shuts_slice}
use types.SemTy.{Body as Lies}
use denote.Struct.Steps.{spelt}
use denote.Slice.{Room, slice_val, shr_slice_at, mut_slice_at, coded_holeys, heres, elements_shared}
use denote.Shadow.{pure_l, pure_i}
use denote.Steps.{peeks, opens, closes, owned}
use Rattle.walks.specs.Loan.{Mut, Shr, Ref}
use Rattle.walks.specs.Positions.{rel, ins, others, puts, parted, placed, placed_item, parted2}
use Rattle.walks.specs.Positions.{parted2_item, joined}
use Rattle.walks.specs.PlainData.{Plain}

-- ---- a `&mut T` that the function itself reads and writes
-- what is left of it while it is open
abbrev pub Opened : (R : RattleType) → Lft → Share → MutBor R.Denot → List Val → Fml
Opened R κ q x vs = fsep (feq (List Val) vs (mut_vals x)) (fsep (fobor κ q (Lies (mem R) x.ref_ptr.0 x.ref_ptr.1 x.ghost_name))
    (fsep (fobs x.ghost_name (R.coded.code x.now)) (fauth x.ghost_name (R.coded.code x.now))))

module _ {M : Type 1} {𝓤 : Ura M} {𝓛 : Logic 𝓤} {K : Type 0} (Γ : List (Item 𝓤)) {G : Goal 𝓤 𝓛.H} where
  open_at : K → Soaks G → (j : ℕ) (R : RattleType) (pr : Plain 𝓛 R) (κ : Lft) (q : Share) (x : MutBor R.Denot) (vs : List Val)
      → nth 𝓛 j Γ ≡ ‵ (Ref R κ q x vs)
      → (Is R x.now (pr.vals x.now)
      → Seq K 𝓛 (puts 𝓛 (j ∷ []) (‵ (cell_at full_share R.mir (pr.vals x.now) x.ref_ptr.0 x.ref_ptr.1) ∷ []) Γ
      ++ (‵ (Opened R κ q x vs) ∷ [])) G) → Seq K 𝓛 Γ G
  open_at t z j R pr κ q x vs e k = parted Γ j (Ref R κ q x vs) e (
      fsplit t $ fsplit t $ feq_l t (λ p. fsplit t $ opens t z R x.ref_ptr.0 x.ref_ptr.1 (λ us.
      spelt t R (Is R) (shows 𝓛 R) pr.vals pr.tells full_share x.now us x.ref_ptr.0 x.ref_ptr.1 $ move t (1 ∷ []) $
      peeks t R (Is R) (shows 𝓛 R) x.now (pr.vals x.now) (λ is. drop t $
      -- [the cell; the open borrow; obs; auth; the rest]
      move t (2 ∷ 3 ∷ []) $ fjoin t $ move t (2 ∷ 0 ∷ []) $ fjoin t $ feq_i t (List Val) vs (mut_vals x) p $ fjoin t
      $ move t (1 ∷ 2 ∷ 0 ∷ []) $
      placed Γ j (cell_at full_share R.mir (pr.vals x.now) x.ref_ptr.0 x.ref_ptr.1) (Opened R κ q x vs) (k is)))))

  close_at : K → Soaks G → (j m : ℕ) (R : RattleType) (pr : Plain 𝓛 R) (h : R.Denot) (κ : Lft) (q : Share) (x : MutBor R.Denot)
      (vs us : List Val)
      → only 𝓛 (rel [] (j ∷ m ∷ [])) Γ ≡ (‵ (cell_at full_share R.mir us x.ref_ptr.0 x.ref_ptr.1) ∷ ‵ (Opened R κ q x vs) ∷ [])
      → Is R h us → Seq K 𝓛 (ins 𝓛 j (‵ (Ref R κ q (at_last x h) vs)) (others 𝓛 (rel [] (j ∷ m ∷ [])) Γ)) G → Seq K 𝓛 Γ G
  close_at t z j m R pr h κ q x vs us e is k = parted2 Γ j m (cell_at full_share R.mir us x.ref_ptr.0 x.ref_ptr.1) (Opened R κ q x vs) e (
      move t (1 ∷ []) $ fsplit t $ feq_l t (λ p. fsplit t $ move t (1 ∷ []) $ fsplit t $
      -- [obs; auth; the open borrow; the cell; the rest]
      owned t R (Is R) pr.makes h us is $ move t (4 ∷ 0 ∷ 3 ∷ 1 ∷ 2 ∷ []) $ closes t z R h us x.ref_ptr.0 x.ref_ptr.1 $ fjoin t $
      feq_i t (List Val) vs (mut_vals x) p $ fjoin t $ fjoin t $ joined Γ j m (Ref R κ q (at_last x h) vs) k))

module _ {M : Type 1} {𝓤 : Ura M} {𝓛 : Logic 𝓤} {K : Type 0} {Γ : List (Item 𝓤)} {G : Goal 𝓤 𝓛.H} where
  -- the reference in entry j is opened: entry j is the cell that it points to, and the last entry of the context is what is left of the
  -- reference
  pub opens_at : K → Soaks G → (j : ℕ) (R : RattleType) (pr : Plain 𝓛 R) {κ : Lft} {q : Share} (x : MutBor R.Denot) {vs : List Val}
      → nth 𝓛 j Γ ≡ ‵ (Ref R κ q x vs)
      → (Is R x.now (pr.vals x.now)
      → Seq K 𝓛 (puts 𝓛 (j ∷ []) (‵ (cell_at full_share R.mir (pr.vals x.now) x.ref_ptr.0 x.ref_ptr.1) ∷ []) Γ
      ++ (‵ (Opened R κ q x vs) ∷ [])) G) → Seq K 𝓛 Γ G
  opens_at t z j R pr {κ} {q} x {vs} e k = open_at Γ t z j R pr κ q x vs e k

  -- and closed at h, which the cell holds; m is where what was left of it stands
  pub closes_at : K → Soaks G → (j m : ℕ) (R : RattleType) (pr : Plain 𝓛 R) (h : R.Denot) {κ : Lft} {q : Share} (x : MutBor R.Denot)
      {vs : List Val} (us : List Val)
      → only 𝓛 (rel [] (j ∷ m ∷ [])) Γ ≡ (‵ (cell_at full_share R.mir us x.ref_ptr.0 x.ref_ptr.1) ∷ ‵ (Opened R κ q x vs) ∷ [])
      → Is R h us → Step K 𝓛 (ins 𝓛 j (‵ (Ref R κ q (at_last x h) vs)) (others 𝓛 (rel [] (j ∷ m ∷ [])) Γ)) G Γ G
  closes_at t z j m R pr h {κ} {q} x {vs} us e is = step (λ s. close_at Γ t z j m R pr h κ q x vs us e is s)

-- ---- a slice of which the function itself reads or writes the element at i
-- what is left of a `&mut [T]`, and of a `&[T]`, while one element is out
abbrev pub Gap : (R : RattleType) → Lft → Share → MutBor (List R.Denot) → List Val → ℕ → Fml
Gap R κ q x vs i = fsep (mut_slice_at R x vs) (fsep (but-one (shares_of R) full_share x.now i x.ref_ptr.0 x.ref_ptr.1)
    (fsep (fobor κ q (Held R (length x.now) x.ref_ptr.0 x.ref_ptr.1 x.ghost_name))
    (fsep (fobs x.ghost_name ((coded_holeys R).code (heres R x.now))) (fauth x.ghost_name ((coded_holeys R).code (heres R x.now))))))

abbrev pub View : {M : Type 1} {𝓤 : Ura M} (𝓛 : Logic 𝓤) (R : RattleType) → Lft → Share → Share → Bor (List R.Denot) → List Val → ℕ
    → Item 𝓤
View 𝓛 R κ q s x vs i = ‵ (fsep (shr_slice_at R x vs) (fsep (but-one (shares_of R) s x.now i x.ref_ptr.0 x.ref_ptr.1)
    (fhide (elements_shared R x.now x.ref_ptr.0 x.ref_ptr.1 κ)))) ⊛ Shut 𝓛 κ q (row R s x.now x.ref_ptr.0 x.ref_ptr.1)

-- the cell of the element at i
abbrev pub cell_of : (R : RattleType) → Share → MutBor (List R.Denot) → ℕ → List Val → Fml
cell_of R s x i us = cell_at s R.mir us x.ref_ptr.0 (place_of (mem R).size x.ref_ptr.1 i)

abbrev pub shr_cell_of : (R : RattleType) → Share → Bor (List R.Denot) → ℕ → List Val → Fml
shr_cell_of R s x i us = cell_at s R.mir us x.ref_ptr.0 (place_of (mem R).size x.ref_ptr.1 i)

module _ {M : Type 1} {𝓤 : Ura M} {𝓛 : Logic 𝓤} {K : Type 0} (Γ : List (Item 𝓤)) {G : Goal 𝓤 𝓛.H} where
  elem-open : K → Soaks G → (j : ℕ) (R : RattleType) (pr : Plain 𝓛 R) (i : ℕ) (d : R.Denot) (κ : Lft) (q : Share)
      (x : MutBor (List R.Denot)) (vs : List Val)
      → nth 𝓛 j Γ ≡ ‵ (Mut R κ q x vs) → i < length x.now → (Is R (get_or x.now i d) (pr.vals (get_or x.now i d))
      → Seq K 𝓛 (puts 𝓛 (j ∷ []) (‵ (cell_of R full_share x i (pr.vals (get_or x.now i d))) ∷ []) Γ ++ (‵ (Gap R κ q x vs i) ∷ [])) G)
      → Seq K 𝓛 Γ G
  elem-open t z j R pr i d κ q x vs e l k = parted Γ j (Mut R κ q x vs) e (
      fsplit t $ fsplit t $ pure_l t (mut_slice_at R x vs) (λ p. fsplit t $ opens_slice t z R x.now x.ref_ptr.0 x.ref_ptr.1 $
      elem_out t R (Is R) (shows 𝓛 R) pr.vals pr.tells full_share x.now i d x.ref_ptr.0 x.ref_ptr.1 l (λ is. move t (1 ∷ [])
      $ drop t $
      -- [the element; the others; the open borrow; obs; auth; the rest]
      move t (3 ∷ 4 ∷ []) $ fjoin t $ move t (3 ∷ 0 ∷ []) $ fjoin t $ move t (2 ∷ 0 ∷ []) $ fjoin t
      $ pure_i t (mut_slice_at R x vs) (tt, (tt, tt)) p $ fjoin t $ move t (1 ∷ 2 ∷ 0 ∷ []) $
      placed Γ j (cell_of R full_share x i (pr.vals (get_or x.now i d))) (Gap R κ q x vs i) (k is))))

  elem-close : K → Soaks G → (j m : ℕ) (R : RattleType) (pr : Plain 𝓛 R) (i : ℕ) (y : R.Denot) (κ : Lft) (q : Share)
      (x : MutBor (List R.Denot)) (vs us : List Val)
      → only 𝓛 (rel [] (j ∷ m ∷ [])) Γ ≡ (‵ (cell_of R full_share x i us) ∷ ‵ (Gap R κ q x vs i) ∷ []) → i < length x.now → Is R y us
      → Seq K 𝓛 (ins 𝓛 j (‵ (Mut R κ q (at_last x (set x.now i y)) vs)) (others 𝓛 (rel [] (j ∷ m ∷ [])) Γ)) G → Seq K 𝓛 Γ G
  elem-close t z j m R pr i y κ q x vs us e l is k =
      let zs = set x.now i y in
      let n = length-set x.now i y in
      parted2 Γ j m (cell_of R full_share x i us) (Gap R κ q x vs i) e (
      move t (1 ∷ []) $ fsplit t $ pure_l t (mut_slice_at R x vs) (λ p. fsplit t $ move t (1 ∷ []) $ fsplit t $
      move t (1 ∷ []) $ fsplit t $
      -- [obs; auth; the open borrow; the others; the element; the rest]
      owned t R (Is R) pr.makes y us is $ move t (5 ∷ 0 ∷ 4 ∷ []) $ elem_put t R full_share x.now i y us x.ref_ptr.0 x.ref_ptr.1 l $
      move t (0 ∷ 3 ∷ 1 ∷ 2 ∷ []) $ closes_slice t z R x.now zs n x.ref_ptr.0 x.ref_ptr.1 $ fjoin t $
      pure_i t (mut_slice_at R (at_last x zs) vs) (tt, (tt, tt)) (
        p.0 ∙ ap (λ (m' : ℕ). slice_val x.ref_ptr m' ∷ []) (sym n),
        subst (Room R)
            (sym n) p.1,
      ) $ fjoin t $ fjoin t $
      joined Γ j m (Mut R κ q (at_last x zs) vs) k))

  elem-look : K → Soaks G → (j : ℕ) (R : RattleType) (pr : Plain 𝓛 R) → Copied 𝓛 R → (i : ℕ) (d : R.Denot) (κ : Lft) (q : Share)
      (x : Bor (List R.Denot)) (vs : List Val)
      → nth 𝓛 j Γ ≡ ‵ (Shr R κ q x vs) → i < length x.now → ((s : Share) → Is R (get_or x.now i d) (pr.vals (get_or x.now i d))
      → Seq K 𝓛 (puts 𝓛 (j ∷ []) (‵ (shr_cell_of R s x i (pr.vals (get_or x.now i d))) ∷ []) Γ ++ (View 𝓛 R κ q s x vs i ∷ [])) G)
      → Seq K 𝓛 Γ G
  elem-look t z j R pr cp i d κ q x vs e l k = parted Γ j (Shr R κ q x vs) e (
      fsplit t $ fsplit t $ pure_l t (shr_slice_at R x vs) (λ p.
      looks_slice t z R cp x.now x.ref_ptr.0 x.ref_ptr.1 (λ s.
      elem_out t R (Is R) (shows 𝓛 R) pr.vals pr.tells s x.now i d x.ref_ptr.0 x.ref_ptr.1 l (λ is. move t (1 ∷ []) $ drop t $
      -- [the element; the others; the token's way back; the elements as they are shared; the rest]
      move t (1 ∷ 3 ∷ []) $ fjoin t $ pure_i t (shr_slice_at R x vs) (tt, (tt, tt)) p $ fjoin t $ move t (0 ∷ 2 ∷ []) $ join t $
      move t (1 ∷ 2 ∷ 0 ∷ []) $
      placed_item Γ j (shr_cell_of R s x i (pr.vals (get_or x.now i d))) (View 𝓛 R κ q s x vs i) (k s is)))))

  elem-shut : K → Soaks G → (j m : ℕ) (R : RattleType) (pr : Plain 𝓛 R) (i : ℕ) (d : R.Denot) (κ : Lft) (q s : Share)
      (x : Bor (List R.Denot)) (vs us : List Val)
      → only 𝓛 (rel [] (j ∷ m ∷ [])) Γ ≡ (‵ (shr_cell_of R s x i us) ∷ View 𝓛 R κ q s x vs i ∷ []) → i < length x.now
      → Is R (get_or x.now i d) us
      → Seq K 𝓛 (ins 𝓛 j (‵ (Shr R κ q x vs)) (others 𝓛 (rel [] (j ∷ m ∷ [])) Γ)) G → Seq K 𝓛 Γ G
  elem-shut t z j m R pr i d κ q s x vs us e l is k = parted2_item Γ j m (shr_cell_of R s x i us) (View 𝓛 R κ q s x vs i) e (
      move t (1 ∷ []) $ split t $ fsplit t $ pure_l t (shr_slice_at R x vs) (λ p. fsplit t $
      -- [the others; the elements as they are shared; the token's way back; the element; the rest]
      owned t R (Is R) pr.makes (get_or x.now i d) us is $ move t (4 ∷ 0 ∷ 1 ∷ []) $ elem_back t R s x.now i d us x.ref_ptr.0
      x.ref_ptr.1 l $ move t (0 ∷ 2 ∷ []) $
      shuts_slice t z R s x.now x.ref_ptr.0 x.ref_ptr.1 $
      -- [the token; the elements as they are shared; the rest]
      move t (1 ∷ []) $ pure_i t (shr_slice_at R x vs) (tt, (tt, tt)) p $ fjoin t $ fjoin t $ joined Γ j m (Shr R κ q x vs) k))

module _ {M : Type 1} {𝓤 : Ura M} {𝓛 : Logic 𝓤} {K : Type 0} {Γ : List (Item 𝓤)} {G : Goal 𝓤 𝓛.H} where
  -- of the `&mut [T]` in entry j the element at i is taken out: entry j is its cell, and the last entry of the context is what is left
  -- of the slice
  pub opens-elem : K → Soaks G → (j : ℕ) (R : RattleType) (pr : Plain 𝓛 R) (i : ℕ) (d : R.Denot) {κ : Lft} {q : Share}
      (x : MutBor (List R.Denot)) {vs : List Val}
      → nth 𝓛 j Γ ≡ ‵ (Mut R κ q x vs) → i < length x.now → (Is R (get_or x.now i d) (pr.vals (get_or x.now i d))
      → Seq K 𝓛 (puts 𝓛 (j ∷ []) (‵ (cell_of R full_share x i (pr.vals (get_or x.now i d))) ∷ []) Γ ++ (‵ (Gap R κ q x vs i) ∷ [])) G)
      → Seq K 𝓛 Γ G
  opens-elem t z j R pr i d {κ} {q} x {vs} e l k = elem-open Γ t z j R pr i d κ q x vs e l k

  -- and put back as y, which the cell holds; m is where what was left of the slice stands
  pub closes-elem : K → Soaks G → (j m : ℕ) (R : RattleType) (pr : Plain 𝓛 R) (i : ℕ) (y : R.Denot) {κ : Lft} {q : Share}
      (x : MutBor (List R.Denot)) {vs : List Val} (us : List Val)
      → only 𝓛 (rel [] (j ∷ m ∷ [])) Γ ≡ (‵ (cell_of R full_share x i us) ∷ ‵ (Gap R κ q x vs i) ∷ []) → i < length x.now → Is R y us
      → Step K 𝓛 (ins 𝓛 j (‵ (Mut R κ q (at_last x (set x.now i y)) vs)) (others 𝓛 (rel [] (j ∷ m ∷ [])) Γ)) G Γ G
  closes-elem t z j m R pr i y {κ} {q} x {vs} us e l is = step (λ k. elem-close Γ t z j m R pr i y κ q x vs us e l is k)

  -- the same of a `&[T]`, to be read
  pub looks-elem : K → Soaks G → (j : ℕ) (R : RattleType) (pr : Plain 𝓛 R) → Copied 𝓛 R
      → (i : ℕ) (d : R.Denot) {κ : Lft} {q : Share} (x : Bor (List R.Denot)) {vs : List Val}
      → nth 𝓛 j Γ ≡ ‵ (Shr R κ q x vs) → i < length x.now → ((s : Share) → Is R (get_or x.now i d) (pr.vals (get_or x.now i d))
      → Seq K 𝓛 (puts 𝓛 (j ∷ []) (‵ (shr_cell_of R s x i (pr.vals (get_or x.now i d))) ∷ []) Γ ++ (View 𝓛 R κ q s x vs i ∷ [])) G)
      → Seq K 𝓛 Γ G
  looks-elem t z j R pr cp i d {κ} {q} x {vs} e l k = elem-look Γ t z j R pr cp i d κ q x vs e l k

  pub shuts-elem : K → Soaks G → (j m : ℕ) (R : RattleType) (pr : Plain 𝓛 R) (i : ℕ) (d : R.Denot) (s : Share) {κ : Lft} {q : Share}
      (x : Bor (List R.Denot)) {vs : List Val} (us : List Val)
      → only 𝓛 (rel [] (j ∷ m ∷ [])) Γ ≡ (‵ (shr_cell_of R s x i us) ∷ View 𝓛 R κ q s x vs i ∷ []) → i < length x.now
      → Is R (get_or x.now i d) us
      → Step K 𝓛 (ins 𝓛 j (‵ (Shr R κ q x vs)) (others 𝓛 (rel [] (j ∷ m ∷ [])) Γ)) G Γ G
  shuts-elem t z j m R pr i d s {κ} {q} x {vs} us e l is = step (λ k. elem-shut Γ t z j m R pr i d κ q s x vs us e l is k)
