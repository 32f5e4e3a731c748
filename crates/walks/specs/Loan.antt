-- What a caller's references become for a call and after it, for any list of arguments: each `&mut` that is passed is lent for a lifetime
-- of its own and comes back at its last value, under the name and the lifetime it had. So a walk sees no lifetime and no name of a call.
--     Par              how an argument is passed: by value; a `&[T]` copied; a `&mut [T]` lent as a `&[T]` (viewed) or as a `&mut [T]`
--                      (lent); a `&mut T` lent as one (borrowed)
--     Lfs, Shs, Dens, Vss, News, Ends     per list of arguments: lifetimes, shares, values, machine values, what a call makes, last values
--     seen             the callee's own list, in which `viewed` is `copied`. unseen: its last values as the caller's
--     Made             what the caller shows of what it passes by value, and of the elements of the `&[T]`s
--     holds            what the caller has of its arguments, one entry for each reference: it, with its lifetime's token
--     lend-all         holds a   to   ⇛ ∃ z. (what the callee asks, at z's lifetimes and names) ∗ what is kept
--     end-all          (the tokens ∗ the last values) ∗ what was kept   to   ⇛ holds at the last values, which are as long
-- Assumes `Logic`.
use Rattle.std.specs.Prelude.{◌≡◌, refl, ℕ, List, [], ◌∷◌, ◌++◌, length}
use Rattle.std.proofs.Common.{sym}
use seplogic.Ra.Ura.{Ura}
use base.Fraction.{full_share}
use mir.Syntax.{erased}
use mir.Val.{Val}
use base.Logic.{SProp, ent, sep, ex, guard, emp, id⊢, via}
use base.Fml.{Lft, GName, Share, Fml, ftrue, fsep, feq, flft, fres, fbor}
use types.Logic.{Logic, sem}
use types.Kit.{Item, ‵, raw, given, ◌⊛◌, some, later, ⋆, ◌$◌, ◌∵◌, !, qed, by, move, drop, split, join, use0, use1, use2, use3}
use types.Kit.{rewrite, fsplit, fjoin, feq_l, feq_i, pick, learn, show, check, frame, await, updating, now as at_once, push, pop, done}
use types.SemTy.{Body}
use Rattle.std.specs.Borrow.{RattleType}
use denote.RattleType.{RowLaws}
use denote.Memory.{mem}
use denote.Shares.{Shares}
use denote.Laws.{Is, shows}
use types.Tokens.{lft_new, lft_end}
use denote.Ref.{Bor, MutBor, MutRef, at_last, as_bor, mut_vals}
use denote.Lend.{Held, LentAgain, lends_again, comes_back}
use denote.Slice.{MutSlice, ShrSlice, mut_slice_at, finally, shr_slice_copy}
use denote.Shadow.{pure_l, pure_i}
use denote.Steps.{peeks, nothing}
use Rattle.walks.specs.Lending.{Shared, Again, lends_shared, ends-shared, lends-mut, ends-mut}

pub data Par : Type 2 where
  value : RattleType → Par
  copied : RattleType → Par
  viewed : RattleType → Par
  lent : RattleType → Par
  borrowed : RattleType → Par

abbrev pub Lfs : List Par → Type 0
Lfs [] = Unit {0}
Lfs (value R ∷ ps) = Lfs ps
Lfs (copied R ∷ ps) = Lft × Lfs ps
Lfs (viewed R ∷ ps) = Lft × Lfs ps
Lfs (lent R ∷ ps) = Lft × Lfs ps
Lfs (borrowed R ∷ ps) = Lft × Lfs ps

abbrev pub Shs : List Par → Type 0
Shs [] = Unit {0}
Shs (value R ∷ ps) = Shs ps
Shs (copied R ∷ ps) = Share × Shs ps
Shs (viewed R ∷ ps) = Share × Shs ps
Shs (lent R ∷ ps) = Share × Shs ps
Shs (borrowed R ∷ ps) = Share × Shs ps

abbrev pub Dens : List Par → Type 0
Dens [] = Unit {0}
Dens (value R ∷ ps) = R.Denot × Dens ps
Dens (copied R ∷ ps) = Bor (List R.Denot) × Dens ps
Dens (viewed R ∷ ps) = MutBor (List R.Denot) × Dens ps
Dens (lent R ∷ ps) = MutBor (List R.Denot) × Dens ps
Dens (borrowed R ∷ ps) = MutBor R.Denot × Dens ps

abbrev pub Vss : List Par → Type 0
Vss [] = Unit {0}
Vss (p ∷ ps) = List Val × Vss ps

abbrev pub row : (ps : List Par) → Vss ps → List Val
row [] vss = []
row (p ∷ ps) vss = vss.0 ++ row ps vss.1

-- the callee's own list: to it what is lent as a `&[T]` is one that it may copy
abbrev pub as_seen : Par → Par
as_seen (value R) = value R
as_seen (copied R) = copied R
as_seen (viewed R) = copied R
as_seen (lent R) = lent R
as_seen (borrowed R) = borrowed R

abbrev pub seen : List Par → List Par
seen [] = []
seen (p ∷ ps) = as_seen p ∷ seen ps

abbrev pub seen_vss : (ps : List Par) → Vss ps → Vss (seen ps)
seen_vss [] vss = tt
seen_vss (p ∷ ps) vss = (vss.0, seen_vss ps vss.1)

-- what a call makes: a lifetime for each reference that is lent, and a name for each that is lent as a `&mut`
abbrev pub News : List Par → Type 0
News [] = Unit {0}
News (value R ∷ ps) = News ps
News (copied R ∷ ps) = News ps
News (viewed R ∷ ps) = ℕ × News ps
News (lent R ∷ ps) = (ℕ × GName) × News ps
News (borrowed R ∷ ps) = (ℕ × GName) × News ps

abbrev pub lfs : (ps : List Par) → Lfs ps → News ps → Lfs (seen ps)
lfs [] κs z = tt
lfs (value R ∷ ps) κs z = lfs ps κs z
lfs (copied R ∷ ps) κs z = (κs.0, lfs ps κs.1 z)
lfs (viewed R ∷ ps) κs z = (z.0 ∷ [], lfs ps κs.1 z.1)
lfs (lent R ∷ ps) κs z = (z.0.0 ∷ [], lfs ps κs.1 z.1)
lfs (borrowed R ∷ ps) κs z = (z.0.0 ∷ [], lfs ps κs.1 z.1)

abbrev pub shs : (ps : List Par) → Shs ps → News ps → Shs (seen ps)
shs [] qs z = tt
shs (value R ∷ ps) qs z = shs ps qs z
shs (copied R ∷ ps) qs z = (qs.0, shs ps qs.1 z)
shs (viewed R ∷ ps) qs z = (full_share, shs ps qs.1 z.1)
shs (lent R ∷ ps) qs z = (full_share, shs ps qs.1 z.1)
shs (borrowed R ∷ ps) qs z = (full_share, shs ps qs.1 z.1)

-- the same slice under another name
abbrev pub anew : {X : Type 0} → MutBor X → GName → MutBor X
anew x δ = record { ref_ptr = x.ref_ptr; ghost_name = δ; now = x.now }

abbrev pub dens : (ps : List Par) → Dens ps → News ps → Dens (seen ps)
dens [] a z = tt
dens (value R ∷ ps) a z = (a.0, dens ps a.1 z)
dens (copied R ∷ ps) a z = (a.0, dens ps a.1 z)
dens (viewed R ∷ ps) a z = (as_bor a.0, dens ps a.1 z.1)
dens (lent R ∷ ps) a z = (anew a.0 z.0.1, dens ps a.1 z.1)
dens (borrowed R ∷ ps) a z = (anew a.0 z.0.1, dens ps a.1 z.1)

abbrev pub Ends : List Par → Type 0
Ends [] = Unit {0}
Ends (value R ∷ ps) = Unit {0} × Ends ps
Ends (copied R ∷ ps) = Unit {0} × Ends ps
Ends (viewed R ∷ ps) = Unit {0} × Ends ps
Ends (lent R ∷ ps) = List R.Denot × Ends ps
Ends (borrowed R ∷ ps) = R.Denot × Ends ps

-- the callee's last values as the caller's
abbrev pub unseen : (ps : List Par) → Ends (seen ps) → Ends ps
unseen [] ws = tt
unseen (value R ∷ ps) ws = (ws.0, unseen ps ws.1)
unseen (copied R ∷ ps) ws = (ws.0, unseen ps ws.1)
unseen (viewed R ∷ ps) ws = (ws.0, unseen ps ws.1)
unseen (lent R ∷ ps) ws = (ws.0, unseen ps ws.1)
unseen (borrowed R ∷ ps) ws = (ws.0, unseen ps ws.1)

-- the arguments at their last values
abbrev pub ended : (ps : List Par) → Dens ps → Ends ps → Dens ps
ended [] a ws = tt
ended (value R ∷ ps) a ws = (a.0, ended ps a.1 ws.1)
ended (copied R ∷ ps) a ws = (a.0, ended ps a.1 ws.1)
ended (viewed R ∷ ps) a ws = (a.0, ended ps a.1 ws.1)
ended (lent R ∷ ps) a ws = (at_last a.0 ws.0, ended ps a.1 ws.1)
ended (borrowed R ∷ ps) a ws = (at_last a.0 ws.0, ended ps a.1 ws.1)

-- the last lists are as long as those passed
abbrev pub Long : (ps : List Par) → Dens ps → Ends ps → Type 0
Long [] a ws = Unit {0}
Long (value R ∷ ps) a ws = Long ps a.1 ws.1
Long (copied R ∷ ps) a ws = Long ps a.1 ws.1
Long (viewed R ∷ ps) a ws = Long ps a.1 ws.1
Long (lent R ∷ ps) a ws = (length ws.0 ≡ length a.0.now) × Long ps a.1 ws.1
Long (borrowed R ∷ ps) a ws = Long ps a.1 ws.1

abbrev pub Mut : (R : RattleType) → Lft → Share → MutBor (List R.Denot) → List Val → Fml
Mut R κ q x vs = fsep ((MutSlice erased κ R).own_val x vs) (flft κ q)

abbrev pub Shr : (R : RattleType) → Lft → Share → Bor (List R.Denot) → List Val → Fml
Shr R κ q x vs = fsep ((ShrSlice erased κ R).own_val x vs) (flft κ q)

abbrev pub Ref : (R : RattleType) → Lft → Share → MutBor R.Denot → List Val → Fml
Ref R κ q x vs = fsep ((MutRef erased κ R).own_val x vs) (flft κ q)

-- what the callee's types own, and what its contract says of the last values
abbrev pub owns_p : (ps : List Par) → Lfs ps → Dens ps → Vss ps → Fml
owns_p [] κs a vss = ftrue
owns_p (value R ∷ ps) κs a vss = fsep (R.own_val a.0 vss.0) (owns_p ps κs a.1 vss.1)
owns_p (copied R ∷ ps) κs a vss = fsep ((ShrSlice erased κs.0 R).own_val a.0 vss.0) (owns_p ps κs.1 a.1 vss.1)
owns_p (viewed R ∷ ps) κs a vss = fsep ((ShrSlice erased κs.0 R).own_val (as_bor a.0) vss.0) (owns_p ps κs.1 a.1 vss.1)
owns_p (lent R ∷ ps) κs a vss = fsep ((MutSlice erased κs.0 R).own_val a.0 vss.0) (owns_p ps κs.1 a.1 vss.1)
owns_p (borrowed R ∷ ps) κs a vss = fsep ((MutRef erased κs.0 R).own_val a.0 vss.0) (owns_p ps κs.1 a.1 vss.1)

-- of each `&mut`, what says its last value, and its borrow, closed
abbrev pub lasts_p : (ps : List Par) → Lfs ps → Dens ps → Ends ps → Fml
lasts_p [] κs a ws = ftrue
lasts_p (value R ∷ ps) κs a ws = fsep ftrue (lasts_p ps κs a.1 ws.1)
lasts_p (copied R ∷ ps) κs a ws = fsep ftrue (lasts_p ps κs.1 a.1 ws.1)
lasts_p (viewed R ∷ ps) κs a ws = fsep ftrue (lasts_p ps κs.1 a.1 ws.1)
lasts_p (lent R ∷ ps) κs a ws = fsep (fsep (fsep (finally R a.0.ghost_name ws.0) (feq ℕ (length ws.0) (length a.0.now)))
    (fbor κs.0 (Held R (length a.0.now) a.0.ref_ptr.0 a.0.ref_ptr.1 a.0.ghost_name)))
    (lasts_p ps κs.1 a.1 ws.1)
lasts_p (borrowed R ∷ ps) κs a ws = fsep (fsep (fres a.0.ghost_name (R.coded.code ws.0))
    (fbor κs.0 (Body (mem R) a.0.ref_ptr.0 a.0.ref_ptr.1 a.0.ghost_name)))
    (lasts_p ps κs.1 a.1 ws.1)

-- what is kept of a `&mut T` that is lent for ν under δ
abbrev Stays : (R : RattleType) → Lft → Share → MutBor R.Denot → List Val → ℕ → GName → Fml
Stays R κ q x vs ν δ = fsep (feq (List Val) vs (mut_vals x)) (LentAgain R κ (ν ∷ []) q x.ghost_name x.ref_ptr.0 x.ref_ptr.1 δ x.now)

-- what the caller keeps during the call
abbrev pub kept_p : (ps : List Par) → Lfs ps → Shs ps → Dens ps → Vss ps → News ps → Fml
kept_p [] κs qs a vss z = ftrue
kept_p (value R ∷ ps) κs qs a vss z = kept_p ps κs qs a.1 vss.1 z
kept_p (copied R ∷ ps) κs qs a vss z = fsep ((ShrSlice erased κs.0 R).own_val a.0 vss.0) (kept_p ps κs.1 qs.1 a.1 vss.1 z)
kept_p (viewed R ∷ ps) κs qs a vss z = fsep (fsep (mut_slice_at R a.0 vss.0) (Shared R κs.0 qs.0 a.0.ghost_name a.0.ref_ptr.0
    a.0.ref_ptr.1 a.0.now z.0))
    (kept_p ps κs.1 qs.1 a.1 vss.1 z.1)
kept_p (lent R ∷ ps) κs qs a vss z = fsep (fsep (mut_slice_at R a.0 vss.0) (Again R κs.0 qs.0 a.0.ghost_name a.0.ref_ptr.0
    a.0.ref_ptr.1 a.0.now z.0.0 z.0.1))
    (kept_p ps κs.1 qs.1 a.1 vss.1 z.1)
kept_p (borrowed R ∷ ps) κs qs a vss z = fsep (Stays R κs.0 qs.0 a.0 vss.0 z.0.0 z.0.1)
    (kept_p ps κs.1 qs.1 a.1 vss.1 z.1)

module _ {M : Type 1} {𝓤 : Ura M} (𝓛 : Logic 𝓤) where
  open 𝓛 use {H, A}

  abbrev pub toks_p : (ps : List Par) → Lfs ps → Shs ps → SProp 𝓤
  toks_p [] κs qs = emp 𝓤
  toks_p (value R ∷ ps) κs qs = toks_p ps κs qs
  toks_p (copied R ∷ ps) κs qs = sep 𝓤 (A.lft κs.0 qs.0) (toks_p ps κs.1 qs.1)
  toks_p (viewed R ∷ ps) κs qs = sep 𝓤 (A.lft κs.0 qs.0) (toks_p ps κs.1 qs.1)
  toks_p (lent R ∷ ps) κs qs = sep 𝓤 (A.lft κs.0 qs.0) (toks_p ps κs.1 qs.1)
  toks_p (borrowed R ∷ ps) κs qs = sep 𝓤 (A.lft κs.0 qs.0) (toks_p ps κs.1 qs.1)

  abbrev pub holds : (ps : List Par) → Lfs ps → Shs ps → Dens ps → Vss ps → List (Item 𝓤)
  holds [] κs qs a vss = []
  holds (value R ∷ ps) κs qs a vss = holds ps κs qs a.1 vss.1
  holds (copied R ∷ ps) κs qs a vss = ‵ (Shr R κs.0 qs.0 a.0 vss.0) ∷ holds ps κs.1 qs.1 a.1 vss.1
  holds (viewed R ∷ ps) κs qs a vss = ‵ (Mut R κs.0 qs.0 a.0 vss.0) ∷ holds ps κs.1 qs.1 a.1 vss.1
  holds (lent R ∷ ps) κs qs a vss = ‵ (Mut R κs.0 qs.0 a.0 vss.0) ∷ holds ps κs.1 qs.1 a.1 vss.1
  holds (borrowed R ∷ ps) κs qs a vss = ‵ (Ref R κs.0 qs.0 a.0 vss.0) ∷ holds ps κs.1 qs.1 a.1 vss.1

  -- what is passed by value is made for nothing. Of a `&[T]` that is copied, what a `&T` holds can be had twice; of a `&mut [T]` that is
  -- lent as a `&[T]`, a `&T` can be made, by a token of the slice's lifetime
  abbrev pub Made : (ps : List Par) → Lfs ps → Dens ps → Vss ps → Type 2
  Made [] κs a vss = Unit {2}
  Made (value R ∷ ps) κs a vss = ent 𝓤 (emp 𝓤) (sem 𝓛 (R.own_val a.0 vss.0)) × Made ps κs a.1 vss.1
  Made (copied R ∷ ps) κs a vss = RowLaws R × Made ps κs.1 a.1 vss.1
  Made (viewed R ∷ ps) κs a vss = Shares 𝓛 R κs.0 × Made ps κs.1 a.1 vss.1
  Made (lent R ∷ ps) κs a vss = Made ps κs.1 a.1 vss.1
  Made (borrowed R ∷ ps) κs a vss = Made ps κs.1 a.1 vss.1

  module _ where
    module _ (R : RattleType) (κ : Lft) (q : Share) (x : MutBor (List R.Denot)) (vs : List Val) where
      abbrev OutMut : ℕ → GName → SProp 𝓤
      OutMut ν δ = sep 𝓤 (sep 𝓤 (A.lft (ν ∷ []) full_share) (sem 𝓛 ((MutSlice erased (ν ∷ []) R).own_val (anew x δ) vs)))
          (sem 𝓛 (fsep (mut_slice_at R x vs) (Again R κ q x.ghost_name x.ref_ptr.0 x.ref_ptr.1 x.now ν δ)))

      lend-mut : ent 𝓤 (sem 𝓛 (Mut R κ q x vs)) (H.⇛ (ex 𝓤 (λ (ν : ℕ). ex 𝓤 (OutMut ν))))
      lend-mut = qed 𝓛 (‵ (Mut R κ q x vs) ∷ []) ∵ updating ! $ fsplit ! $
          peeks ! (MutSlice erased κ R) (Is (MutSlice erased κ R)) (shows 𝓛 (MutSlice erased κ R)) x vs (λ p.
          rewrite ! 0 (λ (us : List Val). ‵ ((MutSlice erased κ R).own_val x us)) p.0.0 refl $
          lends-mut ! tt erased erased R κ q x.ghost_name x.ref_ptr.0 x.ref_ptr.1 x.now (λ ν δ. at_once ! $
          show ! (λ (n : ℕ). ex 𝓤 (OutMut n)) ν $ show ! (OutMut ν) δ $
          rewrite ! 0 (λ (us : List Val). ‵ ((MutSlice erased (ν ∷ []) R).own_val (anew x δ) us)) (sym p.0.0) refl $
          move ! (1 ∷ 0 ∷ []) $ join ! $ frame ! $ pure_i ! (mut_slice_at R x vs) (tt, (tt, tt)) p.0 $ fjoin ! $ done !))

      end-mut : (ν : ℕ) (δ : GName) (w : List R.Denot) → ent 𝓤 (sep 𝓤 (sep 𝓤 (A.lft (ν ∷ []) full_share)
          (sem 𝓛 (fsep (fsep (finally R δ w) (feq ℕ (length w) (length x.now)))
          (fbor (ν ∷ []) (Held R (length x.now) x.ref_ptr.0 x.ref_ptr.1 δ)))))
          (sem 𝓛 (fsep (mut_slice_at R x vs) (Again R κ q x.ghost_name x.ref_ptr.0 x.ref_ptr.1 x.now ν δ))))
          (H.⇛ (guard 𝓤 (length w ≡ length x.now) (sem 𝓛 (Mut R κ q (at_last x w) vs))))
      end-mut ν δ w = qed 𝓛 ((‵ (flft (ν ∷ []) full_share) ⊛ ‵ (fsep (fsep (finally R δ w) (feq ℕ (length w) (length x.now)))
          (fbor (ν ∷ []) (Held R (length x.now) x.ref_ptr.0 x.ref_ptr.1 δ))))
          ∷ ‵ (fsep (mut_slice_at R x vs) (Again R κ q x.ghost_name x.ref_ptr.0 x.ref_ptr.1 x.now ν δ)) ∷ []) ∵ updating ! $ split ! $
          move ! (2 ∷ []) $ fsplit ! $ pure_l ! (mut_slice_at R x vs) (λ p. move ! (2 ∷ []) $ fsplit ! $ move ! (1 ∷ []) $ drop !
          $ fsplit ! $ move ! (1 ∷ []) $ feq_l ! (λ e.
          move ! (0 ∷ 2 ∷ 1 ∷ []) $ ends-mut ! tt erased R κ q x.ghost_name x.ref_ptr.0 x.ref_ptr.1 x.now w ν δ p.1 e $
          rewrite ! 0 (λ (us : List Val). ‵ ((MutSlice erased κ R).own_val (at_last x w) us)) (sym p.0) refl $
          at_once ! $ check ! e $ fjoin ! $ done !))

      abbrev OutShr : ℕ → SProp 𝓤
      OutShr ν = sep 𝓤 (sep 𝓤 (A.lft (ν ∷ []) full_share) (sem 𝓛 ((ShrSlice erased (ν ∷ []) R).own_val (as_bor x) vs)))
          (sem 𝓛 (fsep (mut_slice_at R x vs) (Shared R κ q x.ghost_name x.ref_ptr.0 x.ref_ptr.1 x.now ν)))

      lend-shr : Shares 𝓛 R κ → ent 𝓤 (sem 𝓛 (Mut R κ q x vs)) (H.⇛ (ex 𝓤 OutShr))
      lend-shr shr = qed 𝓛 (‵ (Mut R κ q x vs) ∷ []) ∵ updating ! $ fsplit ! $
          peeks ! (MutSlice erased κ R) (Is (MutSlice erased κ R)) (shows 𝓛 (MutSlice erased κ R)) x vs (λ p.
          rewrite ! 0 (λ (us : List Val). ‵ ((MutSlice erased κ R).own_val x us)) p.0.0 refl $
          lends_shared ! tt erased erased R κ shr q x.ghost_name x.ref_ptr.0 x.ref_ptr.1 x.now (λ ν. at_once ! $
          show ! OutShr ν $
          rewrite ! 0 (λ (us : List Val). ‵ ((ShrSlice erased (ν ∷ []) R).own_val (as_bor x) us)) (sym p.0.0) refl $
          move ! (1 ∷ 0 ∷ []) $ join ! $ frame ! $ pure_i ! (mut_slice_at R x vs) (tt, (tt, tt)) p.0 $ fjoin ! $ done !))

      end-shr : (ν : ℕ) → ent 𝓤 (sep 𝓤 (A.lft (ν ∷ []) full_share)
          (sem 𝓛 (fsep (mut_slice_at R x vs) (Shared R κ q x.ghost_name x.ref_ptr.0 x.ref_ptr.1 x.now ν)))) (H.⇛ (sem 𝓛 (Mut R κ q x vs)))
      end-shr ν = qed 𝓛 (‵ (flft (ν ∷ []) full_share) ∷ ‵ (fsep (mut_slice_at R x vs)
          (Shared R κ q x.ghost_name x.ref_ptr.0 x.ref_ptr.1 x.now ν)) ∷ []) ∵ updating ! $
          move ! (1 ∷ []) $ fsplit ! $ pure_l ! (mut_slice_at R x vs) (λ p. move ! (1 ∷ 0 ∷ []) $ nothing ! $
          ends-shared ! tt erased erased R κ q x.ghost_name x.ref_ptr.0 x.ref_ptr.1 x.now ν p.1 $
          rewrite ! 0 (λ (us : List Val). ‵ ((MutSlice erased κ R).own_val x us)) (sym p.0) refl $ at_once ! $ fjoin ! $ done !)

    module _ (R : RattleType) (κ : Lft) (q : Share) (x : MutBor R.Denot) (vs : List Val) where
      abbrev OutRef : ℕ → GName → SProp 𝓤
      OutRef ν δ = sep 𝓤 (sep 𝓤 (A.lft (ν ∷ []) full_share) (sem 𝓛 ((MutRef erased (ν ∷ []) R).own_val (anew x δ) vs)))
          (sem 𝓛 (Stays R κ q x vs ν δ))

      lend-ref : ent 𝓤 (sem 𝓛 (Ref R κ q x vs)) (H.⇛ (ex 𝓤 (λ (ν : ℕ). ex 𝓤 (OutRef ν))))
      lend-ref = qed 𝓛 (‵ (Ref R κ q x vs) ∷ []) ∵ updating ! $ fsplit ! $
          peeks ! (MutRef erased κ R) (Is (MutRef erased κ R)) (shows 𝓛 (MutRef erased κ R)) x vs (λ p.
          rewrite ! 0 (λ (us : List Val). ‵ ((MutRef erased κ R).own_val x us)) p.0 refl $ lft_new ! tt (λ ν. move ! (1 ∷ 2 ∷ []) $
          use2 𝓛 (later (some (λ (δ : GName). ‵ ((MutRef erased (ν ∷ []) R).own_val (anew x δ) (mut_vals x))
          ⊛ ‵ (LentAgain R κ (ν ∷ []) q x.ghost_name x.ref_ptr.0 x.ref_ptr.1 δ x.now))))
          (lends_again 𝓛 R erased κ (ν ∷ []) q x.ghost_name x.ref_ptr.0 x.ref_ptr.1 erased x.now) $ await ! tt
          $ pick ! (λ δ. split ! $ at_once ! $
          show ! (λ (n : ℕ). ex 𝓤 (OutRef n)) ν $ show ! (OutRef ν) δ $
          rewrite ! 0 (λ (us : List Val). ‵ ((MutRef erased (ν ∷ []) R).own_val (anew x δ) us)) (sym p.0) refl $
          move ! (2 ∷ 0 ∷ []) $ join ! $ frame ! $ feq_i ! (List Val) vs (mut_vals x) p.0 $ fjoin ! $ done !)))

      end-ref : (ν : ℕ) (δ : GName) (w : R.Denot)
          → ent 𝓤 (sep 𝓤 (sep 𝓤 (A.lft (ν ∷ []) full_share) (sem 𝓛 (fsep (fres δ (R.coded.code w))
          (fbor (ν ∷ []) (Body (mem R) x.ref_ptr.0 x.ref_ptr.1 δ))))) (sem 𝓛 (Stays R κ q x vs ν δ)))
          (H.⇛ (sem 𝓛 (Ref R κ q (at_last x w) vs)))
      end-ref ν δ w = qed 𝓛 ((‵ (flft (ν ∷ []) full_share) ⊛ ‵ (fsep (fres δ (R.coded.code w))
          (fbor (ν ∷ []) (Body (mem R) x.ref_ptr.0 x.ref_ptr.1 δ)))) ∷ ‵ (Stays R κ q x vs ν δ) ∷ []) ∵ updating !
          $ split ! $ move ! (1 ∷ []) $ fsplit ! $ move ! (1 ∷ []) $ drop ! $ move ! (1 ∷ []) $ lft_end ! tt $
          move ! (2 ∷ []) $ fsplit ! $ feq_l ! (λ e. move ! (1 ∷ 0 ∷ 2 ∷ []) $
          use3 𝓛 (later (‵ ((MutRef erased κ R).own_val (at_last x w) (mut_vals x)) ⊛ ‵ (flft κ q)))
          (comes_back 𝓛 R erased κ (ν ∷ []) q x.ghost_name x.ref_ptr.0 x.ref_ptr.1 δ x.now w) $ await ! tt $ split ! $
          rewrite ! 0 (λ (us : List Val). ‵ ((MutRef erased κ R).own_val (at_last x w) us)) (sym e) refl $ at_once ! $ fjoin ! $ done !)

    abbrev pub Out : (ps : List Par) (κs : Lfs ps) (qs : Shs ps) (a : Dens ps) (vss : Vss ps) → News ps → SProp 𝓤
    Out ps κs qs a vss z = sep 𝓤 (sep 𝓤 (toks_p (seen ps) (lfs ps κs z) (shs ps qs z))
        (sem 𝓛 (owns_p (seen ps) (lfs ps κs z) (dens ps a z) (seen_vss ps vss))))
        (sem 𝓛 (kept_p ps κs qs a vss z))

    abbrev OutI : (ps : List Par) (κs : Lfs ps) (qs : Shs ps) (a : Dens ps) (vss : Vss ps) → News ps → Item 𝓤
    OutI ps κs qs a vss z = (raw (toks_p (seen ps) (lfs ps κs z) (shs ps qs z))
        ⊛ ‵ (owns_p (seen ps) (lfs ps κs z) (dens ps a z) (seen_vss ps vss)))
        ⊛ ‵ (kept_p ps κs qs a vss z)

    pub lend-all : (ps : List Par) (κs : Lfs ps) (qs : Shs ps) (a : Dens ps) (vss : Vss ps) → Made ps κs a vss
        → ent 𝓤 (⋆ 𝓛 (holds ps κs qs a vss)) (H.⇛ (ex 𝓤 (Out ps κs qs a vss)))
    lend-all [] κs qs a vss m = qed 𝓛 [] ∵ updating ! $ at_once ! $ show ! (Out [] tt tt tt tt) tt $ nothing ! $ nothing ! $ nothing !
        $ join ! $ join ! $ done !
    lend-all (value R ∷ ps) κs qs a vss m =
        qed 𝓛 (raw (⋆ 𝓛 (holds ps κs qs a.1 vss.1)) ∷ []) ∵ updating ! $
        use1 𝓛 (later (some (OutI ps κs qs a.1 vss.1))) (lend-all ps κs qs a.1 vss.1 m.1) $ await ! tt $ pick ! (λ z.
        split ! $ split ! $ at_once ! $ show ! (Out (value R ∷ ps) κs qs a vss) z $ use0 𝓛 (‵ (R.own_val a.0 vss.0)) m.0 $
        move ! (0 ∷ 2 ∷ []) $ fjoin ! $ move ! (1 ∷ 0 ∷ []) $ join ! $ join ! $ done !)
    lend-all (copied R ∷ ps) κs qs a vss m =
        let S = (ShrSlice erased κs.0 R).own_val a.0 vss.0 in
        via 𝓤 (sep 𝓤 (sem 𝓛 (Shr R κs.0 qs.0 a.0 vss.0)) (⋆ 𝓛 (holds ps κs.1 qs.1 a.1 vss.1)))
        (pop 𝓛 (‵ (Shr R κs.0 qs.0 a.0 vss.0)) (holds ps κs.1 qs.1 a.1 vss.1))
        (qed 𝓛 (‵ (Shr R κs.0 qs.0 a.0 vss.0) ∷ raw (⋆ 𝓛 (holds ps κs.1 qs.1 a.1 vss.1)) ∷ []) ∵ updating !
        $ move ! (1 ∷ []) $
        use1 𝓛 (later (some (OutI ps κs.1 qs.1 a.1 vss.1))) (lend-all ps κs.1 qs.1 a.1 vss.1 m.1) $ await ! tt
        $ pick ! (λ z.
        split ! $ split ! $ at_once ! $ show ! (Out (copied R ∷ ps) κs qs a vss) z $ move ! (3 ∷ []) $ fsplit ! $
        use1 𝓛 (‵ S ⊛ ‵ S) ((shr_slice_copy 𝓛 erased κs.0 R m.0).twice a.0 vss.0) $ split ! $
        -- [the copy; the slice; its token; tokens; owns; kept]
        move ! (2 ∷ 3 ∷ []) $ join ! $ move ! (1 ∷ 3 ∷ []) $ fjoin ! $ move ! (1 ∷ 0 ∷ []) $ join ! $ move ! (1 ∷ 2 ∷ []) $ fjoin !
        $ move ! (1 ∷ 0 ∷ []) $ join ! $ done !))
    lend-all (viewed R ∷ ps) κs qs a vss m =
        via 𝓤 (sep 𝓤 (sem 𝓛 (Mut R κs.0 qs.0 a.0 vss.0)) (⋆ 𝓛 (holds ps κs.1 qs.1 a.1 vss.1)))
        (pop 𝓛 (‵ (Mut R κs.0 qs.0 a.0 vss.0)) (holds ps κs.1 qs.1 a.1 vss.1))
        (qed 𝓛 (‵ (Mut R κs.0 qs.0 a.0 vss.0) ∷ raw (⋆ 𝓛 (holds ps κs.1 qs.1 a.1 vss.1)) ∷ []) ∵ updating ! $
        use1 𝓛 (later (some (λ (ν : ℕ). (‵ (flft (ν ∷ []) full_share)
        ⊛ ‵ ((ShrSlice erased (ν ∷ []) R).own_val (as_bor a.0) vss.0))
        ⊛ ‵ (fsep (mut_slice_at R a.0 vss.0) (Shared R κs.0 qs.0 a.0.ghost_name a.0.ref_ptr.0 a.0.ref_ptr.1 a.0.now
        ν))))) (lend-shr R κs.0 qs.0 a.0 vss.0 m.0) $
        await ! tt $ pick ! (λ ν. split ! $ split ! $ move ! (3 ∷ []) $
        use1 𝓛 (later (some (OutI ps κs.1 qs.1 a.1 vss.1))) (lend-all ps κs.1 qs.1 a.1 vss.1 m.1) $ await ! tt
        $ pick ! (λ z.
        split ! $ split ! $ at_once ! $ show ! (Out (viewed R ∷ ps) κs qs a vss) (ν, z) $
        -- [tokens; owns; kept; the token; the slice; what stays]
        move ! (3 ∷ 0 ∷ []) $ join ! $ move ! (3 ∷ 1 ∷ []) $ fjoin ! $ move ! (1 ∷ 0 ∷ []) $ join ! $ move ! (2 ∷ 1 ∷ []) $ fjoin !
        $ move ! (1 ∷ 0 ∷ []) $ join ! $ done !)))
    lend-all (lent R ∷ ps) κs qs a vss m =
        via 𝓤 (sep 𝓤 (sem 𝓛 (Mut R κs.0 qs.0 a.0 vss.0)) (⋆ 𝓛 (holds ps κs.1 qs.1 a.1 vss.1)))
        (pop 𝓛 (‵ (Mut R κs.0 qs.0 a.0 vss.0)) (holds ps κs.1 qs.1 a.1 vss.1))
        (qed 𝓛 (‵ (Mut R κs.0 qs.0 a.0 vss.0) ∷ raw (⋆ 𝓛 (holds ps κs.1 qs.1 a.1 vss.1)) ∷ []) ∵ updating ! $
        use1 𝓛 (later (some (λ (ν : ℕ). some (λ (δ : GName). (‵ (flft (ν ∷ []) full_share)
        ⊛ ‵ ((MutSlice erased (ν ∷ []) R).own_val (anew a.0 δ) vss.0))
        ⊛ ‵ (fsep (mut_slice_at R a.0 vss.0) (Again R κs.0 qs.0 a.0.ghost_name a.0.ref_ptr.0 a.0.ref_ptr.1 a.0.now ν
        δ)))))) (lend-mut R κs.0 qs.0 a.0 vss.0) $
        await ! tt $ pick ! (λ ν. pick ! (λ δ. split ! $ split ! $ move ! (3 ∷ []) $
        use1 𝓛 (later (some (OutI ps κs.1 qs.1 a.1 vss.1))) (lend-all ps κs.1 qs.1 a.1 vss.1 m) $ await ! tt
        $ pick ! (λ z.
        split ! $ split ! $ at_once ! $ show ! (Out (lent R ∷ ps) κs qs a vss) ((ν, δ), z) $
        move ! (3 ∷ 0 ∷ []) $ join ! $ move ! (3 ∷ 1 ∷ []) $ fjoin ! $ move ! (1 ∷ 0 ∷ []) $ join ! $ move ! (2 ∷ 1 ∷ []) $ fjoin !
        $ move ! (1 ∷ 0 ∷ []) $ join ! $ done !))))
    lend-all (borrowed R ∷ ps) κs qs a vss m =
        via 𝓤 (sep 𝓤 (sem 𝓛 (Ref R κs.0 qs.0 a.0 vss.0)) (⋆ 𝓛 (holds ps κs.1 qs.1 a.1 vss.1)))
        (pop 𝓛 (‵ (Ref R κs.0 qs.0 a.0 vss.0)) (holds ps κs.1 qs.1 a.1 vss.1))
        (qed 𝓛 (‵ (Ref R κs.0 qs.0 a.0 vss.0) ∷ raw (⋆ 𝓛 (holds ps κs.1 qs.1 a.1 vss.1)) ∷ []) ∵ updating ! $
        use1 𝓛 (later (some (λ (ν : ℕ). some (λ (δ : GName). (‵ (flft (ν ∷ []) full_share)
        ⊛ ‵ ((MutRef erased (ν ∷ []) R).own_val (anew a.0 δ) vss.0))
        ⊛ ‵ (Stays R κs.0 qs.0 a.0 vss.0 ν δ))))) (lend-ref R κs.0 qs.0 a.0 vss.0) $
        await ! tt $ pick ! (λ ν. pick ! (λ δ. split ! $ split ! $ move ! (3 ∷ []) $
        use1 𝓛 (later (some (OutI ps κs.1 qs.1 a.1 vss.1))) (lend-all ps κs.1 qs.1 a.1 vss.1 m) $ await ! tt
        $ pick ! (λ z.
        split ! $ split ! $ at_once ! $ show ! (Out (borrowed R ∷ ps) κs qs a vss) ((ν, δ), z) $
        move ! (3 ∷ 0 ∷ []) $ join ! $ move ! (3 ∷ 1 ∷ []) $ fjoin ! $ move ! (1 ∷ 0 ∷ []) $ join ! $ move ! (2 ∷ 1 ∷ []) $ fjoin !
        $ move ! (1 ∷ 0 ∷ []) $ join ! $ done !))))

    abbrev pub In : (ps : List Par) (κs : Lfs ps) (qs : Shs ps) (a : Dens ps) (vss : Vss ps) → News ps → Ends (seen ps) → SProp 𝓤
    In ps κs qs a vss z ws = sep 𝓤 (sep 𝓤 (toks_p (seen ps) (lfs ps κs z) (shs ps qs z))
        (sem 𝓛 (lasts_p (seen ps) (lfs ps κs z) (dens ps a z) ws)))
        (sem 𝓛 (kept_p ps κs qs a vss z))

    abbrev InI : (ps : List Par) (κs : Lfs ps) (qs : Shs ps) (a : Dens ps) (vss : Vss ps) → News ps → Ends (seen ps) → Item 𝓤
    InI ps κs qs a vss z ws = (raw (toks_p (seen ps) (lfs ps κs z) (shs ps qs z))
        ⊛ ‵ (lasts_p (seen ps) (lfs ps κs z) (dens ps a z) ws)) ⊛ ‵ (kept_p ps κs qs a vss z)

    pub end-all : (ps : List Par) (κs : Lfs ps) (qs : Shs ps) (a : Dens ps) (vss : Vss ps) (z : News ps) (ws : Ends (seen ps))
        → ent 𝓤 (In ps κs qs a vss z ws) (H.⇛ (guard 𝓤 (Long ps a (unseen ps ws))
        (⋆ 𝓛 (holds ps κs qs (ended ps a (unseen ps ws)) vss))))
    end-all [] κs qs a vss z ws = qed 𝓛 (raw (In [] κs qs a vss z ws) ∷ []) ∵ updating ! $ at_once ! $ check ! tt $ drop ! $ done !
    end-all (value R ∷ ps) κs qs a vss z ws =
        qed 𝓛 (InI (value R ∷ ps) κs qs a vss z ws ∷ []) ∵ split ! $ split ! $ move ! (1 ∷ []) $ fsplit ! $ drop ! $ move ! (1 ∷ 0 ∷ [])
        $ join ! $ join ! $
        by ! (end-all ps κs qs a.1 vss.1 z ws.1)
    end-all (copied R ∷ ps) κs qs a vss z ws =
        let hs = holds ps κs.1 qs.1 (ended ps a.1 (unseen ps ws.1)) vss.1 in
        qed 𝓛 (InI (copied R ∷ ps) κs qs a vss z ws ∷ []) ∵ updating ! $ split ! $ split ! $
        use1 𝓛 (‵ (flft κs.0 qs.0) ⊛ raw (toks_p (seen ps) (lfs ps κs.1 z) (shs ps qs.1 z))) (id⊢ 𝓤 _) $ split ! $
        move ! (2 ∷ []) $ fsplit ! $ drop ! $ move ! (3 ∷ []) $ fsplit ! $
        -- [the copy; kept; lasts; the token; tokens]
        move ! (4 ∷ 2 ∷ []) $ join ! $ move ! (0 ∷ 2 ∷ []) $ join ! $
        use1 𝓛 (later (given (Long ps a.1 (unseen ps ws.1)) (raw (⋆ 𝓛 hs)))) (end-all ps κs.1 qs.1 a.1 vss.1 z ws.1)
        $ await ! tt $ learn ! (λ l.
        at_once ! $ check ! l $ move ! (1 ∷ 2 ∷ []) $ fjoin ! $
        by ! (push 𝓛 (‵ (Shr R κs.0 qs.0 a.0 vss.0)) hs))
    end-all (viewed R ∷ ps) κs qs a vss z ws =
        let hs = holds ps κs.1 qs.1 (ended ps a.1 (unseen ps ws.1)) vss.1 in
        qed 𝓛 (InI (viewed R ∷ ps) κs qs a vss z ws ∷ []) ∵ updating ! $ split ! $ split ! $
        use1 𝓛 (‵ (flft (z.0 ∷ []) full_share) ⊛ raw (toks_p (seen ps) (lfs ps κs.1 z.1) (shs ps qs.1 z.1))) (id⊢ 𝓤 _) $ split ! $
        move ! (2 ∷ []) $ fsplit ! $ drop ! $ move ! (3 ∷ []) $ fsplit ! $
        move ! (4 ∷ 2 ∷ []) $ join ! $ move ! (0 ∷ 2 ∷ []) $ join ! $
        use1 𝓛 (later (given (Long ps a.1 (unseen ps ws.1)) (raw (⋆ 𝓛 hs)))) (end-all ps κs.1 qs.1 a.1 vss.1 z.1 ws.1)
        $ await ! tt $ learn ! (λ l.
        move ! (2 ∷ 1 ∷ []) $ join ! $ use1 𝓛 (later (‵ (Mut R κs.0 qs.0 a.0 vss.0)))
        (end-shr R κs.0 qs.0 a.0 vss.0 z.0) $ await ! tt $
        at_once ! $ check ! l $ by ! (push 𝓛 (‵ (Mut R κs.0 qs.0 a.0 vss.0)) hs))
    end-all (lent R ∷ ps) κs qs a vss z ws =
        let hs = holds ps κs.1 qs.1 (ended ps a.1 (unseen ps ws.1)) vss.1 in
        qed 𝓛 (InI (lent R ∷ ps) κs qs a vss z ws ∷ []) ∵ updating ! $ split ! $ split ! $
        use1 𝓛 (‵ (flft (z.0.0 ∷ []) full_share) ⊛ raw (toks_p (seen ps) (lfs ps κs.1 z.1) (shs ps qs.1 z.1))) (id⊢ 𝓤 _) $ split ! $
        move ! (2 ∷ []) $ fsplit ! $ move ! (4 ∷ []) $ fsplit ! $
        -- [what stays; kept; what is said; lasts; the token; tokens]
        move ! (5 ∷ 3 ∷ []) $ join ! $ move ! (0 ∷ 2 ∷ []) $ join ! $
        use1 𝓛 (later (given (Long ps a.1 (unseen ps ws.1)) (raw (⋆ 𝓛 hs)))) (end-all ps κs.1 qs.1 a.1 vss.1 z.1 ws.1)
        $ await ! tt $ learn ! (λ l.
        move ! (3 ∷ 2 ∷ []) $ join ! $ move ! (0 ∷ 2 ∷ []) $ join ! $
        use1 𝓛 (later (given (length ws.0 ≡ length a.0.now) (‵ (Mut R κs.0 qs.0 (at_last a.0 ws.0) vss.0))))
        (end-mut R κs.0 qs.0 a.0 vss.0 z.0.0 z.0.1 ws.0) $ await ! tt $ learn ! (λ e.
        at_once ! $ check ! (e, l) $ by ! (push 𝓛 (‵ (Mut R κs.0 qs.0 (at_last a.0 ws.0) vss.0)) hs)))
    end-all (borrowed R ∷ ps) κs qs a vss z ws =
        let hs = holds ps κs.1 qs.1 (ended ps a.1 (unseen ps ws.1)) vss.1 in
        qed 𝓛 (InI (borrowed R ∷ ps) κs qs a vss z ws ∷ []) ∵ updating ! $ split ! $ split ! $
        use1 𝓛 (‵ (flft (z.0.0 ∷ []) full_share) ⊛ raw (toks_p (seen ps) (lfs ps κs.1 z.1) (shs ps qs.1 z.1))) (id⊢ 𝓤 _) $ split ! $
        move ! (2 ∷ []) $ fsplit ! $ move ! (4 ∷ []) $ fsplit ! $
        move ! (5 ∷ 3 ∷ []) $ join ! $ move ! (0 ∷ 2 ∷ []) $ join ! $
        use1 𝓛 (later (given (Long ps a.1 (unseen ps ws.1)) (raw (⋆ 𝓛 hs)))) (end-all ps κs.1 qs.1 a.1 vss.1 z.1 ws.1)
        $ await ! tt $ learn ! (λ l.
        move ! (3 ∷ 2 ∷ []) $ join ! $ move ! (0 ∷ 2 ∷ []) $ join ! $
        use1 𝓛 (later (‵ (Ref R κs.0 qs.0 (at_last a.0 ws.0) vss.0))) (end-ref R κs.0 qs.0 a.0 vss.0 z.0.0
        z.0.1 ws.0) $ await ! tt $
        at_once ! $ check ! l $ by ! (push 𝓛 (‵ (Ref R κs.0 qs.0 (at_last a.0 ws.0) vss.0)) hs))
