-- The end of a walk: the references are given up at their last values, and the result and what is ensured are shown.
--     After            what a contract promises of the result, over the list of parameters
--     ends_with        the end of a walk: the result, the last lists, that they are as long, what is ensured
--     Ending           the type of what it proves, where several returns share it
-- Assumes `Logic`.
use Rattle.std.specs.Prelude.{◌≡◌, refl, ℕ, List, [], ◌∷◌, length}
use seplogic.Ra.Ura.{Ura}
use mir.Syntax.{erased}
use mir.Val.{Val}
use base.Logic.{SProp, ent, sep, ex, emp, via}
use base.Fml.{Lft, Share, Fml, fsep, feq, flft, fres, fbor}
use types.Logic.{Logic, sem}
use types.Kit.{‵, raw, ◌⊛◌, later, ⋆, pop, ◌$◌, ◌∵◌, !, qed, move, keep, drop, split, join, use0, use1, feq_i, feq_l, fsplit, fjoin}
use types.Kit.{rewrite, show, frame, await, updating, now as at_once, done}
use types.SemTy.{Body}
use types.Tokens.{name_done}
use Rattle.std.specs.Borrow.{RattleType}
use denote.Memory.{mem}
use denote.Lend.{Held}
use denote.Laws.{Is}
use denote.Ref.{MutBor, at_last}
use denote.Slice.{mut_slice_at, finally, res-finally}
use denote.Shadow.{pure_l}
use denote.Steps.{nothing}
use Rattle.walks.specs.Loan.{Par, value, copied, viewed, lent, borrowed, Lfs, Shs, Dens, Vss, Ends, ended, Long, Mut, Shr, Ref}
use Rattle.walks.specs.Loan.{lasts_p, toks_p, holds}
use Rattle.walks.specs.PlainData.{Plain}
use Rattle.walks.specs.Enter.{Plains}

module _ {M : Type 1} {𝓤 : Ura M} (𝓛 : Logic 𝓤) where
  open 𝓛 use {H, A}

  module _ where
    pub give-mut : (R : RattleType) (κ : Lft) (q : Share) (x : MutBor (List R.Denot)) (vs : List Val) (w : List R.Denot)
        → ent 𝓤 (sem 𝓛 (Mut R κ q (at_last x w) vs)) (H.⇛ (sep 𝓤 (A.lft κ q) (sem 𝓛 (finally R x.ghost_name w))))
    give-mut R κ q x vs w = qed 𝓛 (‵ (Mut R κ q (at_last x w) vs) ∷ []) ∵ updating ! $ fsplit ! $ fsplit !
        $ pure_l ! (mut_slice_at R (at_last x w) vs) (λ p.
        fsplit ! $ name_done ! tt $ at_once ! $ use1 𝓛 (‵ (finally R x.ghost_name w)) (res-finally 𝓛 erased κ R x.ghost_name w)
        $ keep ! (2 ∷ 0 ∷ []) $ done !)

    give-ref : (R : RattleType) (κ : Lft) (q : Share) (x : MutBor R.Denot) (vs : List Val) (w : R.Denot)
        → ent 𝓤 (sem 𝓛 (Ref R κ q (at_last x w) vs)) (H.⇛ (sep 𝓤 (A.lft κ q) (A.res x.ghost_name (R.coded.code w))))
    give-ref R κ q x vs w = qed 𝓛 (‵ (Ref R κ q (at_last x w) vs) ∷ []) ∵ updating ! $ fsplit ! $ fsplit ! $ feq_l ! (λ p.
        fsplit ! $ name_done ! tt $ at_once ! $ keep ! (2 ∷ 0 ∷ []) $ done !)

    -- what a contract says at exit of a `&mut [T]` and of a `&mut T`: its last value, and its borrow, closed
    abbrev LastMut : (R : RattleType) → Lft → MutBor (List R.Denot) → List R.Denot → Fml
    LastMut R κ x w = fsep (fsep (finally R x.ghost_name w) (feq ℕ (length w) (length x.now)))
        (fbor κ (Held R (length x.now) x.ref_ptr.0 x.ref_ptr.1 x.ghost_name))

    abbrev LastRef : (R : RattleType) → Lft → MutBor R.Denot → R.Denot → Fml
    LastRef R κ x w = fsep (fres x.ghost_name (R.coded.code w)) (fbor κ (Body (mem R) x.ref_ptr.0 x.ref_ptr.1 x.ghost_name))

    last-mut : (R : RattleType) (κ : Lft) (q : Share) (x : MutBor (List R.Denot)) (vs : List Val) (w : List R.Denot)
        → length w ≡ length x.now
        → ent 𝓤 (sem 𝓛 (Mut R κ q (at_last x w) vs)) (H.⇛ (sep 𝓤 (A.lft κ q) (sem 𝓛 (LastMut R κ x w))))
    last-mut R κ q x vs w e = qed 𝓛 (‵ (Mut R κ q (at_last x w) vs) ∷ []) ∵ updating ! $ fsplit ! $ fsplit !
        $ pure_l ! (mut_slice_at R (at_last x w) vs) (λ p.
        fsplit ! $ name_done ! tt $ at_once ! $ use1 𝓛 (‵ (finally R x.ghost_name w)) (res-finally 𝓛 erased κ R x.ghost_name w) $
        rewrite ! 1 (λ (m : ℕ). ‵ (fbor κ (Held R m x.ref_ptr.0 x.ref_ptr.1 x.ghost_name))) e refl $
        feq_i ! ℕ (length w) (length x.now) e $ move ! (1 ∷ 0 ∷ []) $ fjoin ! $ fjoin ! $ move ! (1 ∷ 0 ∷ []) $ done !)

    last-ref : (R : RattleType) (κ : Lft) (q : Share) (x : MutBor R.Denot) (vs : List Val) (w : R.Denot)
        → ent 𝓤 (sem 𝓛 (Ref R κ q (at_last x w) vs)) (H.⇛ (sep 𝓤 (A.lft κ q) (sem 𝓛 (LastRef R κ x w))))
    last-ref R κ q x vs w = qed 𝓛 (‵ (Ref R κ q (at_last x w) vs) ∷ []) ∵ updating ! $ fsplit ! $ fsplit ! $ feq_l ! (λ p.
        fsplit ! $ name_done ! tt $ at_once ! $ fjoin ! $ move ! (1 ∷ 0 ∷ []) $ done !)

    give_all : (ps : List Par) → Plains 𝓛 ps → (κs : Lfs ps) (qs : Shs ps) (a : Dens ps) (vss : Vss ps) (ws : Ends ps) → Long ps a ws
        → ent 𝓤 (⋆ 𝓛 (holds 𝓛 ps κs qs (ended ps a ws) vss)) (H.⇛ (sep 𝓤 (toks_p 𝓛 ps κs qs) (sem 𝓛 (lasts_p ps κs a ws))))
    give_all [] pl κs qs a vss ws l = qed 𝓛 [] ∵ updating ! $ at_once ! $ nothing ! $ nothing ! $ done !
    give_all (value R ∷ ps) pl κs qs a vss ws l =
        qed 𝓛 (raw (⋆ 𝓛 (holds 𝓛 ps κs qs (ended ps a.1 ws.1) vss.1)) ∷ []) ∵ updating ! $
        use1 𝓛 (later (raw (toks_p 𝓛 ps κs qs) ⊛ ‵ (lasts_p ps κs a.1 ws.1))) (give_all ps pl.1 κs qs a.1 vss.1 ws.1 l)
        $ await ! tt $ split ! $ at_once ! $ frame ! $
        nothing ! $ fjoin ! $ done !
    give_all (copied R ∷ ps) pl κs qs a vss ws l =
        let rest = holds 𝓛 ps κs.1 qs.1 (ended ps a.1 ws.1) vss.1 in
        via 𝓤 (sep 𝓤 (sem 𝓛 (Shr R κs.0 qs.0 a.0 vss.0)) (⋆ 𝓛 rest))
        (pop 𝓛 (‵ (Shr R κs.0 qs.0 a.0 vss.0)) rest)
        (qed 𝓛 (‵ (Shr R κs.0 qs.0 a.0 vss.0) ∷ raw (⋆ 𝓛 rest) ∷ []) ∵ updating ! $ fsplit ! $ drop ! $ move ! (1 ∷ []) $
        use1 𝓛 (later (raw (toks_p 𝓛 ps κs.1 qs.1) ⊛ ‵ (lasts_p ps κs.1 a.1 ws.1)))
        (give_all ps pl κs.1 qs.1 a.1 vss.1 ws.1 l) $ await ! tt $ split ! $ at_once ! $
        move ! (2 ∷ 0 ∷ []) $ join ! $ frame ! $ nothing ! $ fjoin ! $ done !)
    give_all (viewed R ∷ ps) pl κs qs a vss ws l = absurd pl.0
    give_all (lent R ∷ ps) pl κs qs a vss ws l =
        let rest = holds 𝓛 ps κs.1 qs.1 (ended ps a.1 ws.1) vss.1 in
        let S = Mut R κs.0 qs.0 (at_last a.0 ws.0) vss.0 in
        via 𝓤 (sep 𝓤 (sem 𝓛 S) (⋆ 𝓛 rest)) (pop 𝓛 (‵ S) rest)
        (qed 𝓛 (‵ S ∷ raw (⋆ 𝓛 rest) ∷ []) ∵ updating ! $
        use1 𝓛 (later (‵ (flft κs.0 qs.0) ⊛ ‵ (LastMut R κs.0 a.0 ws.0))) (last-mut R κs.0 qs.0 a.0 vss.0 ws.0 l.0)
        $ await ! tt $ split ! $ move ! (2 ∷ []) $
        use1 𝓛 (later (raw (toks_p 𝓛 ps κs.1 qs.1) ⊛ ‵ (lasts_p ps κs.1 a.1 ws.1)))
        (give_all ps pl κs.1 qs.1 a.1 vss.1 ws.1 l.1) $ await ! tt $ split ! $ at_once ! $
        -- [tokens; lasts; the token; the last list]
        move ! (2 ∷ 0 ∷ []) $ join ! $ frame ! $ move ! (1 ∷ 0 ∷ []) $ fjoin ! $ done !)
    give_all (borrowed R ∷ ps) pl κs qs a vss ws l =
        let rest = holds 𝓛 ps κs.1 qs.1 (ended ps a.1 ws.1) vss.1 in
        let S = Ref R κs.0 qs.0 (at_last a.0 ws.0) vss.0 in
        via 𝓤 (sep 𝓤 (sem 𝓛 S) (⋆ 𝓛 rest)) (pop 𝓛 (‵ S) rest)
        (qed 𝓛 (‵ S ∷ raw (⋆ 𝓛 rest) ∷ []) ∵ updating ! $
        use1 𝓛 (later (‵ (flft κs.0 qs.0) ⊛ ‵ (LastRef R κs.0 a.0 ws.0))) (last-ref R κs.0 qs.0 a.0 vss.0 ws.0)
        $ await ! tt $ split ! $ move ! (2 ∷ []) $
        use1 𝓛 (later (raw (toks_p 𝓛 ps κs.1 qs.1) ⊛ ‵ (lasts_p ps κs.1 a.1 ws.1)))
        (give_all ps pl κs.1 qs.1 a.1 vss.1 ws.1 l) $ await ! tt $ split ! $ at_once ! $
        move ! (2 ∷ 0 ∷ []) $ join ! $ frame ! $ move ! (1 ∷ 0 ∷ []) $ fjoin ! $ done !)

    -- what a contract's `post` is, over the list of parameters
    abbrev pub After : (ps : List Par) → Lfs ps → Shs ps → Dens ps → (R : RattleType) → (R.Denot → Ends ps → SProp 𝓤) → Val → SProp 𝓤
    After ps κs qs a R Ens v = H.⇛ (ex 𝓤 (λ (r : R.Denot). sep 𝓤 (sep 𝓤 (toks_p 𝓛 ps κs qs) (sem 𝓛 (R.own_val r (v ∷ []))))
        (ex 𝓤 (λ (ws : Ends ps). sep 𝓤 (sem 𝓛 (lasts_p ps κs a ws)) (Ens r ws)))))

    pub ends_with : (ps : List Par) → Plains 𝓛 ps → (κs : Lfs ps) (qs : Shs ps) (a : Dens ps) (vss : Vss ps) (R : RattleType)
        → Plain 𝓛 R
        → (Ens : R.Denot → Ends ps → SProp 𝓤) (v : Val) (r : R.Denot) → Is R r (v ∷ []) → (ws : Ends ps) → Long ps a ws
        → ent 𝓤 (emp 𝓤) (Ens r ws)
        → ent 𝓤 (⋆ 𝓛 (holds 𝓛 ps κs qs (ended ps a ws) vss)) (After ps κs qs a R Ens v)
    ends_with ps pl κs qs a vss R pr Ens v r is ws l ens =
        qed 𝓛 (raw (⋆ 𝓛 (holds 𝓛 ps κs qs (ended ps a ws) vss)) ∷ []) ∵ updating ! $
        use1 𝓛 (later (raw (toks_p 𝓛 ps κs qs) ⊛ ‵ (lasts_p ps κs a ws))) (give_all ps pl κs qs a vss ws l) $ await ! tt $ split !
        $ at_once ! $
        show ! (λ (r' : R.Denot). sep 𝓤 (sep 𝓤 (toks_p 𝓛 ps κs qs) (sem 𝓛 (R.own_val r' (v ∷ []))))
        (ex 𝓤 (λ (us : Ends ps). sep 𝓤 (sem 𝓛 (lasts_p ps κs a us)) (Ens r' us)))) r $
        use0 𝓛 (‵ (R.own_val r (v ∷ []))) (pr.makes r (v ∷ []) is) $ move ! (1 ∷ 0 ∷ []) $ join ! $ frame ! $
        show ! (λ (us : Ends ps). sep 𝓤 (sem 𝓛 (lasts_p ps κs a us)) (Ens r us)) ws $ frame ! $ use0 𝓛 (raw (Ens r ws)) ens $ done !

module _ {M : Type 1} {𝓤 : Ura M} (𝓛 : Logic 𝓤) where
  -- the type of what `ends_with` proves, where several returns share it
  abbrev pub Ending : (ps : List Par) → Lfs ps → Shs ps → Dens ps → Vss ps → Ends ps → SProp 𝓤 → Type 1
  Ending ps κs qs a vss ws P = ent 𝓤 (⋆ 𝓛 (holds 𝓛 ps κs qs (ended ps a ws) vss)) P
