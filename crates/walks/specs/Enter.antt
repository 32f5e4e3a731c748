-- The beginning of a walk: from a contract's triple to the values of the parameters, and what is known of them.
--     Plains ps        a `Plain` for each parameter by value
--     spelled          the machine values of the arguments; Known, what is known of them; fitted, that they may be stored in the locals
--     met              the theorem of a function from its walk, at one choice of what its triple binds
--     said1, said2, told0, told2       clauses of one, two and no facts, shown and learned
-- Assumes `Logic`.
use Rattle.std.specs.Prelude.{◌≡◌, refl, List, [], ◌∷◌, ◌++◌, length}
use Rattle.std.proofs.Common.{sym, subst}
use seplogic.Ra.Ura.{Ura}
use mir.Syntax.{Ty, erased}
use mir.Val.{Val}
use base.Logic.{SProp, ent, sep, ex, guard, emp, id⊢, via, emp∗, mono_l, mono_r}
use base.Fml.{ftrue, flft}
use types.Logic.{Logic, sem}
use contract.Monad.{Fun, fact, fact_i, fact_use}
use types.Kit.{‵, raw, given, ◌⊛◌, some as exists, ⋆, push, ◌$◌, ◌∵◌, !, qed, by, move, drop, split, use1, use2, fsplit, fjoin}
use types.Kit.{pick, learn, show, check, done}
use denote.Laws.{Is, Typed, shows, Typed-app}
use denote.Ref.{MutRef, mut_vals}
use denote.Slice.{MutSlice, ShrSlice, Room, shr_slice_vals, mut_slice_vals}
use denote.Steps.{peeks}
use denote.Triple.Walked.{needs}
use Rattle.walks.specs.Loan.{Par, value, copied, viewed, lent, borrowed, Lfs, Shs, Dens, Vss, row, Mut, Shr, Ref, owns_p, toks_p}
use Rattle.walks.specs.Loan.{holds}
use Rattle.walks.specs.PlainData.{Plain}

module _ {M : Type 1} {𝓤 : Ura M} (𝓛 : Logic 𝓤) where
  abbrev pub Plains : List Par → Type 2
  Plains [] = Unit {2}
  Plains (value R ∷ ps) = Plain 𝓛 R × Plains ps
  Plains (copied R ∷ ps) = Plains ps
  Plains (viewed R ∷ ps) = ⊥ × Unit {2}  -- a function's own parameter is none
  Plains (lent R ∷ ps) = Plains ps
  Plains (borrowed R ∷ ps) = Plains ps

  abbrev pub spelled : (ps : List Par) → Plains ps → Dens ps → Vss ps
  spelled [] pl a = tt
  spelled (value R ∷ ps) pl a = (pl.0.vals a.0, spelled ps pl.1 a.1)
  spelled (copied R ∷ ps) pl a = (shr_slice_vals a.0, spelled ps pl a.1)
  spelled (viewed R ∷ ps) pl a = absurd pl.0
  spelled (lent R ∷ ps) pl a = (mut_slice_vals a.0, spelled ps pl a.1)
  spelled (borrowed R ∷ ps) pl a = (mut_vals a.0, spelled ps pl a.1)

  -- what is known of the arguments: of plain data its relation, of a slice that it has room
  abbrev pub Known : (ps : List Par) → Plains ps → Dens ps → Type 0
  Known [] pl a = Unit {0}
  Known (value R ∷ ps) pl a = Is R a.0 (pl.0.vals a.0) × Known ps pl.1 a.1
  Known (copied R ∷ ps) pl a = Room R (length a.0.now) × Known ps pl a.1
  Known (viewed R ∷ ps) pl a = Unit {0}
  Known (lent R ∷ ps) pl a = Room R (length a.0.now) × Known ps pl a.1
  Known (borrowed R ∷ ps) pl a = Known ps pl a.1

  abbrev pub mirs_p : List Par → List Ty
  mirs_p [] = []
  mirs_p (value R ∷ ps) = R.mir ++ mirs_p ps
  mirs_p (copied R ∷ ps) = (ShrSlice erased [] R).mir ++ mirs_p ps
  mirs_p (viewed R ∷ ps) = (ShrSlice erased [] R).mir ++ mirs_p ps
  mirs_p (lent R ∷ ps) = (MutSlice erased [] R).mir ++ mirs_p ps
  mirs_p (borrowed R ∷ ps) = (MutRef erased [] R).mir ++ mirs_p ps

  -- the machine values of what is known are of their types: so they may be stored in the locals (`begins`)
  pub fitted : (ps : List Par) (pl : Plains ps) (a : Dens ps) → Known ps pl a → Typed (mirs_p ps) (row ps (spelled ps pl a))
  fitted [] pl a kn = tt
  fitted (value R ∷ ps) pl a kn = Typed-app R.mir (mirs_p ps) (pl.0.vals a.0) (row ps (spelled ps pl.1 a.1))
      (pl.0.lawful.typed a.0 (pl.0.vals a.0) kn.0) (fitted ps pl.1 a.1 kn.1)
  fitted (copied R ∷ ps) pl a kn = ((tt, (tt, (record { fits = kn.0.0 }, tt))), fitted ps pl a.1 kn.1)
  fitted (viewed R ∷ ps) pl a kn = absurd pl.0
  fitted (lent R ∷ ps) pl a kn = ((tt, (tt, (record { fits = kn.0.0 }, tt))), fitted ps pl a.1 kn.1)
  fitted (borrowed R ∷ ps) pl a kn = ((tt, tt), fitted ps pl a.1 kn)

  -- what a clause of two facts, and one of none, tells and asks
  pub told2 : {φ ψ : Type 0} → ent 𝓤 (sep 𝓤 (fact 𝓤 φ) (fact 𝓤 ψ)) (fact 𝓤 (φ × ψ))
  told2 {φ} {ψ} = needs 𝓤 ψ (fact 𝓤 φ) (λ y. fact_use 𝓤 φ (id⊢ 𝓤 (fact 𝓤 φ)) (λ x. fact_i 𝓤 (φ × ψ) (fact 𝓤 φ) (x, y)))

  pub said1 : {φ : Type 0} → φ → ent 𝓤 (emp 𝓤) (fact 𝓤 φ)
  said1 {φ} x = fact_i 𝓤 φ (emp 𝓤) x

  pub said2 : {φ ψ : Type 0} → φ → ψ → ent 𝓤 (emp 𝓤) (sep 𝓤 (fact 𝓤 φ) (fact 𝓤 ψ))
  said2 {φ} {ψ} x y = via 𝓤 (sep 𝓤 (emp 𝓤) (emp 𝓤)) (emp∗ 𝓤 (emp 𝓤)) (via 𝓤 (sep 𝓤 (fact 𝓤 φ) (emp 𝓤)) (mono_l 𝓤 (emp 𝓤) (said1 x))
      (mono_r 𝓤 (fact 𝓤 φ) (said1 y)))

  pub told0 : (P : SProp 𝓤) → ent 𝓤 P (fact 𝓤 (Unit {0}))
  told0 P = fact_i 𝓤 (Unit {0}) P tt

  module _ where
    enters : (ps : List Par) (pl : Plains ps) (κs : Lfs ps) (qs : Shs ps) (a : Dens ps) (vss : Vss ps)
        → ent 𝓤 (sep 𝓤 (toks_p 𝓛 ps κs qs) (sem 𝓛 (owns_p ps κs a vss)))
        (ex 𝓤 (λ (_ : vss ≡ spelled ps pl a). guard 𝓤 (Known ps pl a) (⋆ 𝓛 (holds 𝓛 ps κs qs a vss))))
    enters [] pl κs qs a vss = qed 𝓛 (raw (emp 𝓤) ∷ ‵ ftrue ∷ []) ∵ show ! (λ (_ : vss ≡ tt). guard 𝓤 (Unit {0}) (emp 𝓤)) refl
        $ check ! tt $ drop ! $ drop ! $ done !
    enters (value R ∷ ps) pl κs qs a vss =
        let rest = holds 𝓛 ps κs qs a.1 vss.1 in
        qed 𝓛 (raw (toks_p 𝓛 ps κs qs) ∷ ‵ (owns_p (value R ∷ ps) κs a vss) ∷ []) ∵ move ! (1 ∷ []) $ fsplit ! $
        peeks ! R (Is R) (shows 𝓛 R) a.0 vss.0 (λ p. drop ! $ move ! (1 ∷ 0 ∷ []) $
        use2 𝓛 (exists (λ (_ : vss.1 ≡ spelled ps pl.1 a.1). given (Known ps pl.1 a.1) (raw (⋆ 𝓛 rest))))
        (enters ps pl.1 κs qs a.1 vss.1) $
        pick ! (λ e. learn ! (λ kn. show ! (λ (_ : vss ≡ spelled (value R ∷ ps) pl a). guard 𝓤 (Known (value R ∷ ps) pl a) (⋆ 𝓛 rest))
        (λ i. (pl.0.tells a.0 vss.0 p i, e i)) $ check ! (subst (Is R a.0) (pl.0.tells a.0 vss.0 p) p, kn) $ done !)))
    enters (copied R ∷ ps) pl κs qs a vss =
        let rest = holds 𝓛 ps κs.1 qs.1 a.1 vss.1 in
        let S = ShrSlice erased κs.0 R in
        qed 𝓛 ((‵ (flft κs.0 qs.0) ⊛ raw (toks_p 𝓛 ps κs.1 qs.1)) ∷ ‵ (owns_p (copied R ∷ ps) κs a vss) ∷ []) ∵ split !
        $ move ! (2 ∷ []) $ fsplit ! $
        peeks ! S (Is S) (shows 𝓛 S) a.0 vss.0 (λ p. move ! (3 ∷ 1 ∷ []) $
        use2 𝓛 (exists (λ (_ : vss.1 ≡ spelled ps pl a.1). given (Known ps pl a.1) (raw (⋆ 𝓛 rest))))
        (enters ps pl κs.1 qs.1 a.1 vss.1) $
        pick ! (λ e. learn ! (λ kn. show ! (λ (_ : vss ≡ spelled (copied R ∷ ps) pl a). guard 𝓤 (Known (copied R ∷ ps) pl a)
        (⋆ 𝓛 (holds 𝓛 (copied R ∷ ps) κs qs a vss)))
        (λ i. (p.0.0 i, e i)) $ check ! (p.0.1, kn) $ move ! (1 ∷ 2 ∷ []) $ fjoin !
        $ by ! (push 𝓛 (‵ (Shr R κs.0 qs.0 a.0 vss.0)) rest))))
    enters (viewed R ∷ ps) pl κs qs a vss = absurd pl.0
    enters (lent R ∷ ps) pl κs qs a vss =
        let rest = holds 𝓛 ps κs.1 qs.1 a.1 vss.1 in
        let S = MutSlice erased κs.0 R in
        qed 𝓛 ((‵ (flft κs.0 qs.0) ⊛ raw (toks_p 𝓛 ps κs.1 qs.1)) ∷ ‵ (owns_p (lent R ∷ ps) κs a vss) ∷ []) ∵ split !
        $ move ! (2 ∷ []) $ fsplit ! $
        peeks ! S (Is S) (shows 𝓛 S) a.0 vss.0 (λ p. move ! (3 ∷ 1 ∷ []) $
        use2 𝓛 (exists (λ (_ : vss.1 ≡ spelled ps pl a.1). given (Known ps pl a.1) (raw (⋆ 𝓛 rest))))
        (enters ps pl κs.1 qs.1 a.1 vss.1) $
        pick ! (λ e. learn ! (λ kn. show ! (λ (_ : vss ≡ spelled (lent R ∷ ps) pl a). guard 𝓤 (Known (lent R ∷ ps) pl a)
        (⋆ 𝓛 (holds 𝓛 (lent R ∷ ps) κs qs a vss)))
        (λ i. (p.0.0 i, e i)) $ check ! (p.0.1, kn) $ move ! (1 ∷ 2 ∷ []) $ fjoin !
        $ by ! (push 𝓛 (‵ (Mut R κs.0 qs.0 a.0 vss.0)) rest))))
    enters (borrowed R ∷ ps) pl κs qs a vss =
        let rest = holds 𝓛 ps κs.1 qs.1 a.1 vss.1 in
        let S = MutRef erased κs.0 R in
        qed 𝓛 ((‵ (flft κs.0 qs.0) ⊛ raw (toks_p 𝓛 ps κs.1 qs.1)) ∷ ‵ (owns_p (borrowed R ∷ ps) κs a vss) ∷ []) ∵ split !
        $ move ! (2 ∷ []) $ fsplit ! $
        peeks ! S (Is S) (shows 𝓛 S) a.0 vss.0 (λ p. move ! (3 ∷ 1 ∷ []) $
        use2 𝓛 (exists (λ (_ : vss.1 ≡ spelled ps pl a.1). given (Known ps pl a.1) (raw (⋆ 𝓛 rest))))
        (enters ps pl κs.1 qs.1 a.1 vss.1) $
        pick ! (λ e. learn ! (λ kn. show ! (λ (_ : vss ≡ spelled (borrowed R ∷ ps) pl a). guard 𝓤 (Known (borrowed R ∷ ps) pl a)
        (⋆ 𝓛 (holds 𝓛 (borrowed R ∷ ps) κs qs a vss)))
        (λ i. (p.0 i, e i)) $ check ! kn $ move ! (1 ∷ 2 ∷ []) $ fjoin !
        $ by ! (push 𝓛 (‵ (Ref R κs.0 qs.0 a.0 vss.0)) rest))))

    -- the theorem of a function, at one choice of what its triple binds: the machine values are spelled out, what is known of the
    -- arguments and what is required is in hand
    pub met : (ps : List Par) (pl : Plains ps) (κs : Lfs ps) (qs : Shs ps) (a : Dens ps) (vss : Vss ps) {req : SProp 𝓤} (φ : Type 0)
        → ent 𝓤 req (fact 𝓤 φ)
        → (run : Fun 𝓤) {Q : Val → SProp 𝓤}
        → (Known ps pl a → φ → ent 𝓤 (⋆ 𝓛 (holds 𝓛 ps κs qs a (spelled ps pl a))) (run (row ps (spelled ps pl a)) Q))
        → ent 𝓤 (sep 𝓤 (sep 𝓤 (toks_p 𝓛 ps κs qs) (sem 𝓛 (owns_p ps κs a vss))) req) (run (row ps vss) Q)
    met ps pl κs qs a vss {req} φ asked run {Q} k =
        let P = sep 𝓤 (toks_p 𝓛 ps κs qs) (sem 𝓛 (owns_p ps κs a vss)) in
        via 𝓤 (sep 𝓤 P (fact 𝓤 φ)) (mono_r 𝓤 P asked) (needs 𝓤 φ P (λ x.
        qed 𝓛 (raw P ∷ []) ∵ use1 𝓛 (exists (λ (_ : vss ≡ spelled ps pl a). given (Known ps pl a)
        (raw (⋆ 𝓛 (holds 𝓛 ps κs qs a vss))))) (enters ps pl κs qs a vss) $
        pick ! (λ e. learn ! (λ kn. by ! (subst (λ (us : Vss ps). ent 𝓤 (⋆ 𝓛 (holds 𝓛 ps κs qs a us)) (run (row ps us) Q)) (sym e)
        (k kn x))))))
