-- The locals of a walk. Its context is
--     [the cell of local 0; …; the cell of local n-1; what frees them; the references of the parameters, one entry each, in order]
-- and no step moves an entry, so that `look ! i` and `init ! i` are local i everywhere, and reference j is entry n + 1 + j.
--     begins           the locals are allocated and the arguments stored
--     leaves           the locals are freed, whatever they hold
--     reborrow         `&mut *x` of a slice: two statements of MIR
--     respell          the value in a local's cell is written otherwise, by an equation
-- Assumes `Logic`.
use Rattle.std.specs.Prelude.{◌≡◌, refl, ℕ, zero, List, [], ◌∷◌, ◌++◌, get_or, T as Holds}
use Rattle.std.proofs.Common.{sym, ap, subst}
use seplogic.Ra.Ura.{Ura}
use base.Fraction.{full_share}
use mir.Syntax.{Ty, Step as PStep, place, field, deref, ty_ref, Lifetime, Mutability, copy, aggregate, addr_of, Body, seq, assign, Local}
use mir.Syntax.{Fn}
use mir.Val.{Val, vptr, WT, has_ty}
use base.Logic.{SProp, ent, sep, guard, wand, emp, ex∗, id⊢, via, snd∗, emp∗, assoc∗, mono_l, mono_r, all_i, wand_i, guard_i}
use base.Fml.{Share, Fml, ftrue, ffalse, feq, flt, fsep, fand, for, fwand, fex, fall, fupd, fhide, fat, froom, fleft, fdies, flft, fdead}
use base.Fml.{fobs, fauth, fres, fown, fbor, fobor, flent, fshr_bor, finv, fnamed, ftok, fkid, fme, fsent}
use prog.Wp.{Heap, Env, Spot, Calls, Loops, Wp, WpFn, ty_of, alloc, pass, params, release, at_return, no_local}
use types.Logic.{Logic, sem}
use types.Kit.{Item, ‵, raw, given, ◌⊛◌, some as exists, later, mean, ⋆, nth, del, put, pull, unpull, fill, push, pop, ++⊢, ⊢++}
use types.Kit.{Post, Goal, prop, runs, frees, at_ret, aim, Seq, Step, step, ◌$◌, ◌∵◌, !, qed, by, move, split, join, use1, use2, fsplit}
use types.Kit.{fjoin, frame, done}
use types.Part.{Part, agg, whole, sub, look_in}
use types.Run.{Reads, Walks, Finds, look, init, stop, hop, fld, from, load, addr, and_then, no_more, assigns}
use denote.Slice.{slice_ty, slice_val}

abbrev pub Blocks : List Local → Type 0
Blocks [] = Unit {0}
Blocks (l ∷ ls) = ℕ × Blocks ls

module _ {M : Type 1} (𝓤 : Ura M) (H : Heap 𝓤) where
  abbrev pub Fitted : List Local → List Val → Type 0
  Fitted ls [] = Unit {0}
  Fitted [] (v ∷ vs) = ⊥
  Fitted (l ∷ ls) (v ∷ vs) = (Holds (has_ty (ty_of 𝓤 H l) v) × WT v) × Fitted ls vs

  -- the arguments are of the types of the locals after the first
  abbrev pub Stored : List Local → List Val → Type 0
  Stored [] vs = ⊥
  Stored (l ∷ ls) vs = Fitted ls vs

  abbrev pub env_at : (ls : List Local) → Blocks ls → Env 𝓤 H
  env_at [] bs = []
  env_at (l ∷ ls) bs = (ty_of 𝓤 H l, bs.0) ∷ env_at ls bs.1

  abbrev pub dying : Env 𝓤 H → Fml
  dying [] = ftrue
  dying (e ∷ E) = fsep (fdies e.0 e.1) (dying E)

  abbrev pub rooms : Env 𝓤 H → List (Item 𝓤)
  rooms [] = []
  rooms (e ∷ E) = ‵ (froom e.0 e.1 zero) ∷ rooms E

  abbrev pub filled : Env 𝓤 H → List Val → List (Item 𝓤)
  filled E [] = rooms E
  filled [] (v ∷ vs) = []
  filled (e ∷ E) (v ∷ vs) = ‵ (fat full_share e.0 e.1 zero v) ∷ filled E vs

  abbrev pub stored : Env 𝓤 H → List Val → List (Item 𝓤)
  stored [] vs = []
  stored (e ∷ E) vs = ‵ (froom e.0 e.1 zero) ∷ filled E vs

module _ {M : Type 1} {𝓤 : Ura M} (𝓛 : Logic 𝓤) where
  open 𝓛 use {H}

  alloc_all : (ls : List Local) (P : SProp 𝓤) (Kt : Env 𝓤 H → SProp 𝓤)
      → ((bs : Blocks ls) → ent 𝓤 (sep 𝓤 (⋆ 𝓛 (rooms 𝓤 H (env_at 𝓤 H ls bs))) (sep 𝓤 (sem 𝓛 (dying 𝓤 H (env_at 𝓤 H ls bs))) P))
      (Kt (env_at 𝓤 H ls bs))) → ent 𝓤 P (alloc 𝓤 H ls Kt)
  alloc_all [] P Kt k = via 𝓤 (sep 𝓤 (emp 𝓤) (sep 𝓤 (emp 𝓤) P)) (via 𝓤 (sep 𝓤 (emp 𝓤) P) (emp∗ 𝓤 P) (mono_r 𝓤 (emp 𝓤) (emp∗ 𝓤 P))) (k tt)
  alloc_all (l ∷ ls) P Kt k =
      let τ = ty_of 𝓤 H l in
      all_i 𝓤 (λ (b : ℕ). wand 𝓤 (sep 𝓤 (H.room τ b zero) (H.dies τ b)) (alloc 𝓤 H ls (λ E. Kt ((τ, b) ∷ E)))) (λ b.
      wand_i 𝓤 P (sep 𝓤 (H.room τ b zero) (H.dies τ b)) (alloc 𝓤 H ls (λ E. Kt ((τ, b) ∷ E)))
      (alloc_all ls (sep 𝓤 P (sep 𝓤 (H.room τ b zero) (H.dies τ b))) (λ E. Kt ((τ, b) ∷ E)) (λ bs.
      let E = env_at 𝓤 H ls bs in
      via 𝓤 (sep 𝓤 (⋆ 𝓛 (rooms 𝓤 H ((τ, b) ∷ E))) (sep 𝓤 (sem 𝓛 (dying 𝓤 H ((τ, b) ∷ E))) P))
      (qed 𝓛 (raw (⋆ 𝓛 (rooms 𝓤 H E)) ∷ (‵ (dying 𝓤 H E) ⊛ (raw P ⊛ (‵ (froom τ b zero) ⊛ ‵ (fdies τ b)))) ∷ []) ∵
      move ! (1 ∷ []) $ split ! $ move ! (1 ∷ []) $ split ! $ move ! (1 ∷ []) $ split ! $
      -- [the room; what frees it; P; what frees the rest; the other rooms]
      move ! (0 ∷ 4 ∷ []) $ use2 𝓛 (raw (⋆ 𝓛 (rooms 𝓤 H ((τ, b) ∷ E)))) (push 𝓛 (‵ (froom τ b zero)) (rooms 𝓤 H E)) $ frame !
      $ move ! (0 ∷ 2 ∷ []) $ fjoin ! $ done !)
      (k (b, bs)))))

  pass_all : (ls : List Local) (bs : Blocks ls) (vs : List Val) → Fitted 𝓤 H ls vs → (R Q : SProp 𝓤)
      → ent 𝓤 (sep 𝓤 (⋆ 𝓛 (filled 𝓤 H (env_at 𝓤 H ls bs) vs)) R) Q → ent 𝓤 (sep 𝓤 (⋆ 𝓛 (rooms 𝓤 H (env_at 𝓤 H ls bs))) R)
      (pass 𝓤 H (env_at 𝓤 H ls bs) vs Q)
  pass_all ls bs [] fit R Q k = k
  pass_all [] bs (v ∷ vs) fit R Q k = absurd fit
  pass_all (l ∷ ls) bs (v ∷ vs) fit R Q k =
      let τ = ty_of 𝓤 H l in
      let b = bs.0 in
      let E = env_at 𝓤 H ls bs.1 in
      let at = H.at full_share τ b zero v in
      let P = ⋆ 𝓛 (rooms 𝓤 H E) in
      via 𝓤 (sep 𝓤 (H.room τ b zero) (wand 𝓤 at (pass 𝓤 H E vs Q)))
      (via 𝓤 (sep 𝓤 (H.room τ b zero) (sep 𝓤 P R))
      (via 𝓤 (sep 𝓤 (sep 𝓤 (H.room τ b zero) P) R) (mono_l 𝓤 R (pop 𝓛 (‵ (froom τ b zero)) (rooms 𝓤 H E)))
      (assoc∗ 𝓤 (H.room τ b zero) P R))
      (mono_r 𝓤 (H.room τ b zero) (wand_i 𝓤 (sep 𝓤 P R) at (pass 𝓤 H E vs Q)
      (via 𝓤 (sep 𝓤 P (sep 𝓤 R at)) (assoc∗ 𝓤 P R at)
      (pass_all ls bs.1 vs fit.1 (sep 𝓤 R at) Q
      (via 𝓤 (sep 𝓤 (⋆ 𝓛 (‵ (fat full_share τ b zero v) ∷ filled 𝓤 H E vs)) R)
      (qed 𝓛 (raw (⋆ 𝓛 (filled 𝓤 H E vs)) ∷ (raw R ⊛ ‵ (fat full_share τ b zero v)) ∷ []) ∵ move ! (1 ∷ []) $ split !
      $ move ! (1 ∷ 2 ∷ []) $
      use2 𝓛 (raw (⋆ 𝓛 (‵ (fat full_share τ b zero v) ∷ filled 𝓤 H E vs))) (push 𝓛 (‵ (fat full_share τ b zero v))
      (filled 𝓤 H E vs)) $ done !) k))))))
      (guard_i 𝓤 (Holds (has_ty τ v) × WT v) (sep 𝓤 (H.room τ b zero) (wand 𝓤 at (pass 𝓤 H E vs Q))) fit.0)

  store-all : (ls : List Local) (bs : Blocks ls) (vs : List Val) → Stored 𝓤 H ls vs → (R Q : SProp 𝓤)
      → ent 𝓤 (sep 𝓤 (⋆ 𝓛 (stored 𝓤 H (env_at 𝓤 H ls bs) vs)) R) Q → ent 𝓤 (sep 𝓤 (⋆ 𝓛 (rooms 𝓤 H (env_at 𝓤 H ls bs))) R)
      (params 𝓤 H (env_at 𝓤 H ls bs) vs Q)
  store-all [] bs vs fit R Q k = absurd fit
  store-all (l ∷ ls) bs vs fit R Q k =
      let F = ‵ (froom (ty_of 𝓤 H l) bs.0 zero) in
      let E = env_at 𝓤 H ls bs.1 in
      let S = H.room (ty_of 𝓤 H l) bs.0 zero in
      via 𝓤 (sep 𝓤 (⋆ 𝓛 (rooms 𝓤 H E)) (sep 𝓤 S R))
      (qed 𝓛 (raw (⋆ 𝓛 (rooms 𝓤 H (env_at 𝓤 H (l ∷ ls) bs))) ∷ raw R ∷ []) ∵
      use1 𝓛 (raw S ⊛ raw (⋆ 𝓛 (rooms 𝓤 H E))) (pop 𝓛 F (rooms 𝓤 H E)) $ split ! $ move ! (1 ∷ 0 ∷ []) $ done !)
      (pass_all ls bs.1 vs fit (sep 𝓤 S R) Q
      (via 𝓤 (sep 𝓤 (⋆ 𝓛 (F ∷ filled 𝓤 H E vs)) R)
      (qed 𝓛 (raw (⋆ 𝓛 (filled 𝓤 H E vs)) ∷ (raw S ⊛ raw R) ∷ []) ∵ move ! (1 ∷ []) $ split ! $ move ! (0 ∷ 2 ∷ []) $
      use2 𝓛 (raw (⋆ 𝓛 (F ∷ filled 𝓤 H E vs))) (push 𝓛 F (filled 𝓤 H E vs)) $ done !) k))

  release-all : (E : Env 𝓤 H) (P : SProp 𝓤) → ent 𝓤 (sep 𝓤 (⋆ 𝓛 (rooms 𝓤 H E)) (sep 𝓤 (sem 𝓛 (dying 𝓤 H E)) P)) (release 𝓤 H E P)
  release-all [] P = via 𝓤 (sep 𝓤 (emp 𝓤) P) (snd∗ 𝓤 (emp 𝓤) (sep 𝓤 (emp 𝓤) P)) (snd∗ 𝓤 (emp 𝓤) P)
  release-all (e ∷ E) P =
      qed 𝓛 (raw (⋆ 𝓛 (rooms 𝓤 H (e ∷ E))) ∷ (‵ (dying 𝓤 H (e ∷ E)) ⊛ raw P) ∷ []) ∵
      use1 𝓛 (‵ (froom e.0 e.1 zero) ⊛ raw (⋆ 𝓛 (rooms 𝓤 H E))) (pop 𝓛 (‵ (froom e.0 e.1 zero)) (rooms 𝓤 H E))
      $ split ! $ move ! (2 ∷ []) $ split ! $ fsplit ! $
      -- [what frees it; what frees the rest; P; the room; the other rooms]
      move ! (3 ∷ 0 ∷ []) $ join ! $ frame ! $ move ! (2 ∷ 0 ∷ 1 ∷ []) $ by ! (release-all E P)

-- a cell as room, with the cell's share. A formula that is no cell stays, and its share is whole
abbrev as_room : Fml → Fml × Share
as_room ftrue = (ftrue, full_share)
as_room ffalse = (ffalse, full_share)
as_room (feq X x y) = (feq X x y, full_share)
as_room (flt m n) = (flt m n, full_share)
as_room (fsep P Q) = (fsep P Q, full_share)
as_room (fand P Q) = (fand P Q, full_share)
as_room (for P Q) = (for P Q, full_share)
as_room (fwand P Q) = (fwand P Q, full_share)
as_room (fex X F) = (fex X F, full_share)
as_room (fall X F) = (fall X F, full_share)
as_room (fupd P) = (fupd P, full_share)
as_room (fhide P) = (fhide P, full_share)
as_room (fat q τ b o v) = (froom τ b o, q)
as_room (froom τ b o) = (froom τ b o, full_share)
as_room (fleft q τ τs b o) = (fleft q τ τs b o, full_share)
as_room (fdies τ b) = (fdies τ b, full_share)
as_room (flft κ q) = (flft κ q, full_share)
as_room (fdead κ) = (fdead κ, full_share)
as_room (fobs γ u) = (fobs γ u, full_share)
as_room (fauth γ u) = (fauth γ u, full_share)
as_room (fres γ u) = (fres γ u, full_share)
as_room (fown A γ x) = (fown A γ x, full_share)
as_room (fbor κ P) = (fbor κ P, full_share)
as_room (fobor κ q P) = (fobor κ q P, full_share)
as_room (flent κ P) = (flent κ P, full_share)
as_room (fshr_bor κ F) = (fshr_bor κ F, full_share)
as_room (finv P) = (finv P, full_share)
as_room (fnamed n P) = (fnamed n P, full_share)
as_room (ftok m) = (ftok m, full_share)
as_room (fkid h a) = (fkid h a, full_share)
as_room (fme h) = (fme h, full_share)
as_room (fsent t) = (fsent t, full_share)

abbrev pub full : List Share → List Share
full [] = []
full (q ∷ qs) = full_share ∷ full qs

abbrev pub first_of : List Share → Share
first_of [] = full_share
first_of (q ∷ qs) = q

abbrev pub rest_of : List Share → List Share
rest_of [] = []
rest_of (q ∷ qs) = qs

module _ {M : Type 1} {𝓤 : Ura M} (𝓛 : Logic 𝓤) where
  open 𝓛 use {H}

  roomy : (F : Fml) → (as_room F).1 ≡ full_share → ent 𝓤 (sem 𝓛 F) (sem 𝓛 (as_room F).0)
  roomy ftrue e = id⊢ 𝓤 _
  roomy ffalse e = id⊢ 𝓤 _
  roomy (feq X x y) e = id⊢ 𝓤 _
  roomy (flt m n) e = id⊢ 𝓤 _
  roomy (fsep P Q) e = id⊢ 𝓤 _
  roomy (fand P Q) e = id⊢ 𝓤 _
  roomy (for P Q) e = id⊢ 𝓤 _
  roomy (fwand P Q) e = id⊢ 𝓤 _
  roomy (fex X F) e = id⊢ 𝓤 _
  roomy (fall X F) e = id⊢ 𝓤 _
  roomy (fupd P) e = id⊢ 𝓤 _
  roomy (fhide P) e = id⊢ 𝓤 _
  roomy (fat q τ b o v) e = subst (λ (s : Share). ent 𝓤 (H.at s τ b o v) (H.room τ b o)) (sym e) (𝓛.laws.at_room τ b o v)
  roomy (froom τ b o) e = id⊢ 𝓤 _
  roomy (fleft q τ τs b o) e = id⊢ 𝓤 _
  roomy (fdies τ b) e = id⊢ 𝓤 _
  roomy (flft κ q) e = id⊢ 𝓤 _
  roomy (fdead κ) e = id⊢ 𝓤 _
  roomy (fobs γ u) e = id⊢ 𝓤 _
  roomy (fauth γ u) e = id⊢ 𝓤 _
  roomy (fres γ u) e = id⊢ 𝓤 _
  roomy (fown A γ x) e = id⊢ 𝓤 _
  roomy (fbor κ P) e = id⊢ 𝓤 _
  roomy (fobor κ q P) e = id⊢ 𝓤 _
  roomy (flent κ P) e = id⊢ 𝓤 _
  roomy (fshr_bor κ F) e = id⊢ 𝓤 _
  roomy (finv P) e = id⊢ 𝓤 _
  roomy (fnamed n P) e = id⊢ 𝓤 _
  roomy (ftok m) e = id⊢ 𝓤 _
  roomy (fkid h a) e = id⊢ 𝓤 _
  roomy (fme h) e = id⊢ 𝓤 _
  roomy (fsent t) e = id⊢ 𝓤 _

  abbrev pub item_room : Item 𝓤 → Item 𝓤 × Share
  item_room (‵ F) = (‵ (as_room F).0, (as_room F).1)
  item_room (raw P) = (raw P, full_share)
  item_room (i ⊛ j) = (i ⊛ j, full_share)
  item_room (exists F) = (exists F, full_share)
  item_room (given φ i) = (given φ i, full_share)
  item_room (later i) = (later i, full_share)

  pub item-roomy : (i : Item 𝓤) → (item_room i).1 ≡ full_share → ent 𝓤 (mean 𝓛 i) (mean 𝓛 (item_room i).0)
  item-roomy (‵ F) e = roomy F e
  item-roomy (raw P) e = id⊢ 𝓤 _
  item-roomy (i ⊛ j) e = id⊢ 𝓤 _
  item-roomy (exists F) e = id⊢ 𝓤 _
  item-roomy (given φ i) e = id⊢ 𝓤 _
  item-roomy (later i) e = id⊢ 𝓤 _

  -- the first entries, one for each local, as rooms; that the cells among them are whole; and what comes after them and what frees them
  abbrev pub emptied : Env 𝓤 H → List (Item 𝓤) → List (Item 𝓤)
  emptied [] Γ = Γ
  emptied (e ∷ E) [] = []
  emptied (e ∷ E) (i ∷ Γ) = (item_room i).0 ∷ emptied E Γ

  abbrev pub shares : Env 𝓤 H → List (Item 𝓤) → List Share
  shares [] Γ = []
  shares (e ∷ E) [] = []
  shares (e ∷ E) (i ∷ Γ) = (item_room i).1 ∷ shares E Γ

  abbrev pub Whole : Env 𝓤 H → List (Item 𝓤) → Type 0
  Whole E Γ = shares E Γ ≡ full (shares E Γ)

  abbrev pub beyond : Env 𝓤 H → List (Item 𝓤) → List (Item 𝓤)
  beyond [] Γ = del 𝓛 zero Γ
  beyond (e ∷ E) [] = []
  beyond (e ∷ E) (i ∷ Γ) = beyond E Γ

  empties : (E : Env 𝓤 H) (Γ : List (Item 𝓤)) → Whole E Γ → ent 𝓤 (⋆ 𝓛 Γ) (⋆ 𝓛 (emptied E Γ))
  empties [] Γ ws = id⊢ 𝓤 _
  empties (e ∷ E) [] ws = id⊢ 𝓤 _
  empties (e ∷ E) (i ∷ Γ) ws =
      via 𝓤 (sep 𝓤 (mean 𝓛 i) (⋆ 𝓛 Γ)) (pop 𝓛 i Γ)
      (via 𝓤 (sep 𝓤 (mean 𝓛 (item_room i).0) (⋆ 𝓛 Γ)) (mono_l 𝓤 (⋆ 𝓛 Γ) (item-roomy i (ap first_of ws)))
      (via 𝓤 (sep 𝓤 (mean 𝓛 (item_room i).0) (⋆ 𝓛 (emptied E Γ)))
      (mono_r 𝓤 (mean 𝓛 (item_room i).0) (empties E Γ (ap rest_of ws)))
      (push 𝓛 (item_room i).0 (emptied E Γ))))

module _ {M : Type 1} {𝓤 : Ura M} {𝓛 : Logic 𝓤} {K : Type 0} {Γ : List (Item 𝓤)} where
  -- the locals are allocated and the arguments stored
  open 𝓛 use {H}

  pub begins : K → (C : Calls 𝓤 H) (Λ : Loops 𝓤 H) (f : Fn) (vs : List Val) (Kf : Val → SProp 𝓤) → Stored 𝓤 H f.locals vs
      → ((bs : Blocks f.locals) → Seq K 𝓛 (stored 𝓤 H (env_at 𝓤 H f.locals bs) vs ++ (‵ (dying 𝓤 H (env_at 𝓤 H f.locals bs)) ∷ Γ))
      (runs C Λ (env_at 𝓤 H f.locals bs) f.body (at_ret (env_at 𝓤 H f.locals bs) Kf))) → Seq K 𝓛 Γ (prop (WpFn 𝓤 H C Λ f vs Kf))
  unfolding WpFn
  begins t C Λ f vs Kf fit k = record {
    prf = alloc_all 𝓛 f.locals (⋆ 𝓛 Γ) (λ E. params 𝓤 H E vs (Wp 𝓤 H C Λ E f.body (at_return 𝓤 H E Kf))) (λ bs.
        let E = env_at 𝓤 H f.locals bs in
        let Θ = ‵ (dying 𝓤 H E) ∷ Γ in
        via 𝓤 (sep 𝓤 (⋆ 𝓛 (rooms 𝓤 H E)) (⋆ 𝓛 Θ)) (mono_r 𝓤 (⋆ 𝓛 (rooms 𝓤 H E)) (push 𝓛 (‵ (dying 𝓤 H E)) Γ))
        (store-all 𝓛 f.locals bs vs fit (⋆ 𝓛 Θ) (Wp 𝓤 H C Λ E f.body (at_return 𝓤 H E Kf))
        (via 𝓤 (⋆ 𝓛 (stored 𝓤 H E vs ++ Θ)) (++⊢ 𝓛 (stored 𝓤 H E vs) Θ) (k bs).prf)));
  }

  -- the locals are freed, whatever they hold
  pub leaves : K → {E : Env 𝓤 H} {g : Goal 𝓤 H} → emptied 𝓛 E Γ ≡ rooms 𝓤 H E ++ (‵ (dying 𝓤 H E) ∷ beyond 𝓛 E Γ)
      → Whole 𝓛 E Γ
      → Step K 𝓛 (beyond 𝓛 E Γ) g Γ (frees E g)
  leaves t {E} {g} e full = step (λ s. record {
    prf =
        let Θ = beyond 𝓛 E Γ in
        via 𝓤 (⋆ 𝓛 (rooms 𝓤 H E ++ (‵ (dying 𝓤 H E) ∷ Θ)))
        (subst (λ (Δ : List (Item 𝓤)). ent 𝓤 (⋆ 𝓛 Γ) (⋆ 𝓛 Δ)) e (empties 𝓛 E Γ full))
        (via 𝓤 (sep 𝓤 (⋆ 𝓛 (rooms 𝓤 H E)) (⋆ 𝓛 (‵ (dying 𝓤 H E) ∷ Θ))) (⊢++ 𝓛 (rooms 𝓤 H E) (‵ (dying 𝓤 H E) ∷ Θ))
        (via 𝓤 (sep 𝓤 (⋆ 𝓛 (rooms 𝓤 H E)) (sep 𝓤 (sem 𝓛 (dying 𝓤 H E)) (⋆ 𝓛 Θ)))
        (mono_r 𝓤 (⋆ 𝓛 (rooms 𝓤 H E)) (pop 𝓛 (‵ (dying 𝓤 H E)) Θ))
        (via 𝓤 (sep 𝓤 (⋆ 𝓛 (rooms 𝓤 H E)) (sep 𝓤 (sem 𝓛 (dying 𝓤 H E)) (aim 𝓤 H g)))
        (mono_r 𝓤 (⋆ 𝓛 (rooms 𝓤 H E)) (mono_r 𝓤 (sem 𝓛 (dying 𝓤 H E)) s.prf)) (release-all 𝓛 E (aim 𝓤 H g)))));
  })

  -- a field of the slice in entry i
  pub part_at : K → (i : ℕ) {ρ : Ty} {b : ℕ} {v : Val} {τ : Ty} {o : ℕ} {u : Val} {back : Val → Item 𝓤} → nth 𝓛 i Γ
      ≡ ‵ (fat full_share (slice_ty ρ) b zero v)
      → Part K 𝓛 (‵ (fat full_share (slice_ty ρ) b zero v)) full_share τ b o u back → Reads K 𝓛 Γ τ b o u
  part_at t i {ρ} {b} {v} {τ} {o} {u} {back} e p = look_in t i (subst (λ (j : Item 𝓤). Part K 𝓛 j full_share τ b o u back) (sym e) p)

  module _ {E : Env 𝓤 H} where
    -- a place that begins at local i, whose type and block are known
    pub local_at : K → {i : ℕ} {τ : Ty} {b : ℕ} {st : List PStep} {sp : Spot 𝓤 H} → get_or E i (no_local 𝓤 H) ≡ (τ, b)
        → Walks K 𝓛 Γ E (τ, b, zero) st sp → Finds K 𝓛 Γ E (place i st) sp
    local_at t {i} {τ} {b} {st} {sp} e w = from t (subst (λ (p : Ty × ℕ). Walks K 𝓛 Γ E (p.0, p.1, zero) st sp) (sym e) w)

module _ {M : Type 1} {𝓤 : Ura M} {𝓛 : Logic 𝓤} {K : Type 0} {Γ : List (Item 𝓤)} where
  -- what lies in the cell of entry i is of the cell's type
  open 𝓛 use {H}

  pub typed_at : K → (i : ℕ) {s : Share} {τ : Ty} {b o : ℕ} {v : Val} {G : Goal 𝓤 H} → nth 𝓛 i Γ ≡ ‵ (fat s τ b o v)
      → (Holds (has_ty τ v) × WT v → Seq K 𝓛 Γ G) → Seq K 𝓛 Γ G
  typed_at t i {s} {τ} {b} {o} {v} {G} e k =
      let P = H.at s τ b o v in
      let Θ = ⋆ 𝓛 (del 𝓛 i Γ) in
      record {
        prf = via 𝓤 (sep 𝓤 P Θ) (subst (λ (x : Item 𝓤). ent 𝓤 (⋆ 𝓛 Γ) (sep 𝓤 (mean 𝓛 x) Θ)) e (pull 𝓛 i Γ))
            (via 𝓤 (sep 𝓤 (guard 𝓤 (Holds (has_ty τ v) × WT v) P) Θ) (mono_l 𝓤 Θ (𝓛.laws.at_wt s τ b o v))
            (ex∗ 𝓤 (λ (_ : Holds (has_ty τ v) × WT v). P) Θ (λ wt. via 𝓤 (⋆ 𝓛 Γ)
            (subst (λ (x : Item 𝓤). ent 𝓤 (sep 𝓤 (mean 𝓛 x) Θ) (⋆ 𝓛 Γ)) e (unpull 𝓛 i Γ)) (k wt).prf)));
      }

module _ {M : Type 1} {𝓤 : Ura M} {𝓛 : Logic 𝓤} {K : Type 0} {Γ : List (Item 𝓤)} {E : Env 𝓤 𝓛.H}
    {C : Calls 𝓤 𝓛.H} {Λ : Loops 𝓤 𝓛.H} {q : Post 𝓤 𝓛.H} where
  -- a slice's reference in local i is copied to local k, by way of its pointer in local j
  open 𝓛 use {H}

  pub reborrow : K → (i j k : ℕ) {ℓ ℓ' ℓ'' : Lifetime} {μ μ' μ'' : Mutability} {τ τ' τ'' σ : Ty} {bi bj bk b o n : ℕ} {rest : Body}
      → (get_or E i (no_local 𝓤 H) ∷ get_or E j (no_local 𝓤 H) ∷ get_or E k (no_local 𝓤 H) ∷ [])
      ≡ ((slice_ty (ty_ref ℓ μ τ), bi) ∷ (ty_ref ℓ' μ' τ', bj) ∷ (slice_ty (ty_ref ℓ'' μ'' τ''), bk) ∷ [])
      → (nth 𝓛 i Γ ∷ nth 𝓛 j Γ ∷ nth 𝓛 i (put 𝓛 j (‵ (fat full_share (ty_ref ℓ' μ' τ') bj zero (vptr b o))) Γ)
      ∷ nth 𝓛 j (put 𝓛 j (‵ (fat full_share (ty_ref ℓ' μ' τ') bj zero (vptr b o))) Γ)
      ∷ nth 𝓛 k (put 𝓛 j (‵ (fat full_share (ty_ref ℓ' μ' τ') bj zero (vptr b o))) Γ) ∷ [])
      ≡ (‵ (fat full_share (slice_ty (ty_ref ℓ μ τ)) bi zero (slice_val (b, o) n)) ∷ ‵ (froom (ty_ref ℓ' μ' τ') bj zero)
      ∷ ‵ (fat full_share (slice_ty (ty_ref ℓ μ τ)) bi zero (slice_val (b, o) n))
      ∷ ‵ (fat full_share (ty_ref ℓ' μ' τ') bj zero (vptr b o)) ∷ ‵ (froom (slice_ty (ty_ref ℓ'' μ'' τ'')) bk zero) ∷ [])
      → Step K 𝓛 (put 𝓛 k (‵ (fat full_share (slice_ty (ty_ref ℓ'' μ'' τ'')) bk zero (slice_val (b, o) n)))
      (put 𝓛 j (‵ (fat full_share (ty_ref ℓ' μ' τ') bj zero (vptr b o))) Γ))
      (runs C Λ E rest q) Γ
      (runs C Λ E (seq (assign (place j []) (addr_of (place i (field 0 ∷ deref σ ∷ []))))
      (seq (assign (place k []) (aggregate (copy (place j []) ∷ copy (place i (field 1 ∷ [])) ∷ []))) rest)) q)
  reborrow t i j k {σ = σ} es cs =
      let ei = ap (λ (l : List (Ty × ℕ)). get_or l 0 (no_local 𝓤 H)) es in
      let ej = ap (λ (l : List (Ty × ℕ)). get_or l 1 (no_local 𝓤 H)) es in
      let ek = ap (λ (l : List (Ty × ℕ)). get_or l 2 (no_local 𝓤 H)) es in
      step (λ s. typed_at t i (ap (nth 𝓛 0) cs) (λ wt.
      assigns t (addr t (local_at t ei (fld t refl (hop t (part_at t i (ap (nth 𝓛 0) cs) (sub t 0 refl (whole t))) (stop t)))))
      (local_at t ej (stop t)) (init t j (ap (nth 𝓛 1) cs) (tt, tt)) $
      assigns t (agg t (and_then t (load t (local_at t ej (stop t)) (look t j (ap (nth 𝓛 3) cs)))
      (and_then t (load t (local_at t ei (fld t refl (stop t)))
      (part_at t i (ap (nth 𝓛 2) cs) (sub t 1 refl (whole t)))) (no_more t)))) (local_at t ek (stop t))
      (init t k (ap (nth 𝓛 4) cs) (tt, wt.1)) $ s))

module _ {M : Type 1} {𝓤 : Ura M} {𝓛 : Logic 𝓤} {K : Type 0} {Γ : List (Item 𝓤)} {G : Goal 𝓤 𝓛.H} where
  -- the value in the cell of entry i is written otherwise
  open 𝓛 use {H}

  pub respell : K → (i : ℕ) {s : Share} {τ : Ty} {b o : ℕ} {v u : Val} → nth 𝓛 i Γ ≡ ‵ (fat s τ b o v) → v ≡ u
      → Step K 𝓛 (put 𝓛 i (‵ (fat s τ b o u)) Γ) G Γ G
  respell t i {s} {τ} {b} {o} {v} {u} e p =
      let Θ = ⋆ 𝓛 (del 𝓛 i Γ) in
      step (λ k. record {
        prf = via 𝓤 (sep 𝓤 (H.at s τ b o u) Θ)
            (subst (λ (x : Val). ent 𝓤 (⋆ 𝓛 Γ) (sep 𝓤 (H.at s τ b o x) Θ)) p
            (subst (λ (x : Item 𝓤). ent 𝓤 (⋆ 𝓛 Γ) (sep 𝓤 (mean 𝓛 x) Θ)) e (pull 𝓛 i Γ)))
            (via 𝓤 (⋆ 𝓛 (put 𝓛 i (‵ (fat s τ b o u)) Γ)) (fill 𝓛 i (‵ (fat s τ b o u)) Γ) k.prf);
      })
