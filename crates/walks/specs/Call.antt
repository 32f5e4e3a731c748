-- A call. What the caller holds at the positions π is lent for a lifetime of the call's own, and stands there at its last values after it;
-- what the callee ensures is learned. Of the callee its contract is cited, nothing else.
--     Bind, at         what a call binds, at the caller's lifetimes and at those that the call makes
--     calls-of         a call that statements follow. calls-of-last    one that is the last statement of a part
--     calls-to         a call whose result is written to a local at once, by its plain value
--     copies           operands that are locals. copies-but    the same in a call that is lent local arrays, whose entries are then away
-- Assumes `Logic`.
use Rattle.std.specs.Prelude.{◌≡◌, ℕ, zero, ◌+◌, ◌-◌, cond, List, [], ◌∷◌, T, ltb, get_or}
use Rattle.std.proofs.Common.{sym, ap, subst}
use seplogic.Ra.Ura.{Ura}
use base.Fraction.{full_share}
use mir.Syntax.{Callee, Ty, Place, place, Opd as Operand, copy, Body, seq, call}
use mir.Val.{Val, WT, has_ty}
use base.Logic.{SProp, ent, sep, wand, emp, id⊢, via, comm∗, assoc∗, mono_l, wand_i, apply∗}
use base.Fml.{Fml, ftrue, fat}
use prog.Wp.{Env, Calls, Loops, no_local, spot_of, eval_opds, Tables}
use types.Logic.{Logic, sem}
use sound.WpLaws.{FmC, fm_of, eval_opds_fm}
use contract.Monad.{fact}
use types.Kit.{Item, ‵, raw, given, ◌⊛◌, some as exists, later, ⋆, nth, del, only, Post, Goal, runs, lands, settles, Soaks, soak}
use types.Kit.{aim, Seq, ◌$◌, ◌∵◌, !, qed, by, move, drop, split, join, use0, use1, pick, learn, await, updating, now as at_once}
use types.Run.{Opds, Writes, land, look, stop, from, load, and_then, no_more}
use Rattle.std.specs.Borrow.{RattleType}
use denote.Laws.{Is, Typed, shows}
use denote.Steps.{only as only_one, peeks}
use Rattle.walks.specs.Loan.{Par, Lfs, Shs, Dens, Vss, row, News, lfs, shs, dens, Ends, ended, Long, owns_p, lasts_p, kept_p, toks_p}
use Rattle.walks.specs.Loan.{holds, Made, seen, seen_vss, unseen, lend-all, end-all}
use Rattle.walks.specs.Positions.{rel, others, puts, apart, puts⊢}
use Rattle.walks.specs.PlainData.{Plain}
use Rattle.walks.specs.Leave.{After}

module _ {M : Type 1} {𝓤 : Ura M} {K : Type 0} (𝓛 : Logic 𝓤) (Γ : List (Item 𝓤)) (E : Env 𝓤 𝓛.H)
    (C : Calls 𝓤 𝓛.H) (f : Callee) (xs : List Operand) where
  -- `after w` is what is to be shown once it has returned w
  open 𝓛 use {H}

  lent-call : FmC 𝓤 H 𝓛.laws C → (π : List ℕ) (ps : List Par) (κs : Lfs ps) (qs : Shs ps) (a : Dens ps) (vss : Vss ps)
      → Made 𝓛 ps κs a vss
      → (R : RattleType) (req : News ps → SProp 𝓤) (Ens : News ps → R.Denot → Ends (seen ps) → SProp 𝓤)
      (Said : R.Denot → Ends (seen ps) → Type 0)
      → ((z : News ps) → ent 𝓤 (sep 𝓤 (sep 𝓤 (toks_p 𝓛 (seen ps) (lfs ps κs z) (shs ps qs z))
      (sem 𝓛 (owns_p (seen ps) (lfs ps κs z) (dens ps a z) (seen_vss ps vss)))) (req z))
      (C f (row ps vss) (After 𝓛 (seen ps) (lfs ps κs z) (shs ps qs z) (dens ps a z) R (Ens z))))
      → ((z : News ps) → ent 𝓤 (emp 𝓤) (req z))
      → ((z : News ps) (r : R.Denot) (ws : Ends (seen ps)) → ent 𝓤 (Ens z r ws) (fact 𝓤 (Said r ws)))
      → only 𝓛 π Γ ≡ holds 𝓛 ps κs qs a vss → Opds K 𝓛 (others 𝓛 π Γ) E xs (row ps vss)
      → (after : Val → Goal 𝓤 H) → ((w : Val) → Soaks (after w))
      → ((w : Val) (r : R.Denot) (ws : Ends (seen ps)) → Long ps a (unseen ps ws) → Is R r (w ∷ []) → Said r ws
      → Seq K 𝓛 (puts 𝓛 π (holds 𝓛 ps κs qs (ended ps a (unseen ps ws)) vss) Γ) (after w))
      → ent 𝓤 (⋆ 𝓛 Γ) (H.⇛ (eval_opds 𝓤 H E xs (λ us. C f us (λ w. aim 𝓤 H (after w)))))
  lent-call fm π ps κs qs a vss made R req Ens Said meets asked tells at-π os after soaks k =
      let Θ = others 𝓛 π Γ in
      let hs = holds 𝓛 ps κs qs a vss in
      let Kt : List Val → SProp 𝓤 = λ us. C f us (λ w. aim 𝓤 H (after w)) in
      let Ts : News ps → SProp 𝓤 = λ z. toks_p 𝓛 (seen ps) (lfs ps κs z) (shs ps qs z) in
      let Os : News ps → Fml = λ z. owns_p (seen ps) (lfs ps κs z) (dens ps a z) (seen_vss ps vss) in
      let Ks : News ps → Fml = λ z. kept_p ps κs qs a vss z in
      let Q : News ps → Val → SProp 𝓤 = λ z. After 𝓛 (seen ps) (lfs ps κs z) (shs ps qs z) (dens ps a z) R (Ens z) in
      via 𝓤 (sep 𝓤 (⋆ 𝓛 hs) (⋆ 𝓛 Θ))
      (subst (λ (Δ : List (Item 𝓤)). ent 𝓤 (⋆ 𝓛 Γ) (sep 𝓤 (⋆ 𝓛 Δ) (⋆ 𝓛 Θ))) at-π (apart 𝓛 π Γ))
      (qed 𝓛 (raw (⋆ 𝓛 hs) ∷ raw (⋆ 𝓛 Θ) ∷ []) ∵ updating ! $
      use1 𝓛 (later (exists (λ (z : News ps). (raw (Ts z) ⊛ ‵ (Os z)) ⊛ ‵ (Ks z)))) (lend-all 𝓛 ps κs qs a vss made) $ await ! tt
      $ pick ! (λ z. split ! $ at_once ! $
      use0 𝓛 (raw (req z)) (asked z) $ move ! (1 ∷ 0 ∷ []) $ join ! $ use1 𝓛 (raw (C f (row ps vss) (Q z))) (meets z) $
      -- [the call; what is kept; the rest]
      join ! $ move ! (1 ∷ 0 ∷ []) $ by ! (
      let B = sep 𝓤 (C f (row ps vss) (Q z)) (sem 𝓛 (Ks z)) in
      via 𝓤 (sep 𝓤 (eval_opds 𝓤 H E xs (λ us. wand 𝓤 B (Kt us))) B)
      (mono_l 𝓤 B (os.go (λ us. wand 𝓤 B (Kt us)) (wand_i 𝓤 (⋆ 𝓛 Θ) B (Kt (row ps vss))
      (via 𝓤 (sep 𝓤 (C f (row ps vss) (Q z)) (sep 𝓤 (sem 𝓛 (Ks z)) (⋆ 𝓛 Θ)))
      (via 𝓤 (sep 𝓤 B (⋆ 𝓛 Θ)) (comm∗ 𝓤 (⋆ 𝓛 Θ) B) (assoc∗ 𝓤 (C f (row ps vss) (Q z)) (sem 𝓛 (Ks z)) (⋆ 𝓛 Θ)))
      (fm f (row ps vss) (Q z) (λ w. aim 𝓤 H (after w)) (sep 𝓤 (sem 𝓛 (Ks z)) (⋆ 𝓛 Θ)) (λ w.
      via 𝓤 (H.⇛ (aim 𝓤 H (after w)))
      (qed 𝓛 (raw (Q z w) ∷ (‵ (Ks z) ⊛ raw (⋆ 𝓛 Θ)) ∷ []) ∵ updating ! $
      use1 𝓛 (later (exists (λ (r : R.Denot). (raw (Ts z) ⊛ ‵ (R.own_val r (w ∷ [])))
      ⊛ exists (λ (ws : Ends (seen ps)). ‵ (lasts_p (seen ps) (lfs ps κs z) (dens ps a z) ws) ⊛ raw (Ens z r ws))))) (id⊢ 𝓤 _) $
      await ! tt $ pick ! (λ r. split ! $ split ! $ move ! (1 ∷ []) $
      peeks ! R (Is R) (shows 𝓛 R) r (w ∷ []) (λ is. drop ! $ move ! (1 ∷ []) $ pick ! (λ ws. split ! $
      move ! (1 ∷ []) $ use1 𝓛 (given (Said r ws) (‵ ftrue)) (tells z r ws) $ learn ! (λ said. drop ! $
      -- [the last values; the tokens; what was kept and the rest]
      move ! (1 ∷ 0 ∷ []) $ join ! $ move ! (1 ∷ []) $ split ! $ move ! (2 ∷ 0 ∷ []) $ join ! $
      use1 𝓛 (later (given (Long ps a (unseen ps ws)) (raw (⋆ 𝓛 (holds 𝓛 ps κs qs (ended ps a (unseen ps ws)) vss)))))
      (end-all 𝓛 ps κs qs a vss z ws) $ await ! tt $ learn ! (λ l. at_once ! $
      by ! (via 𝓤 (⋆ 𝓛 (puts 𝓛 π (holds 𝓛 ps κs qs (ended ps a (unseen ps ws)) vss) Γ))
      (puts⊢ 𝓛 π (holds 𝓛 ps κs qs (ended ps a (unseen ps ws)) vss) Γ) (k w r ws l is said).prf)))))))
      (soak 𝓤 H 𝓛.laws (after w) (soaks w))))))))
      (eval_opds_fm 𝓤 H 𝓛.laws E xs (λ us. wand 𝓤 B (Kt us)) Kt B (λ us. via 𝓤 (sep 𝓤 B (wand 𝓤 B (Kt us)))
      (comm∗ 𝓤 (wand 𝓤 B (Kt us)) B) (apply∗ 𝓤 B (Kt us)))))))

-- what a call binds, at the caller's lifetimes; and at those that the call makes. It is what a signature's triple binds, where the
-- bounds are none
abbrev pub Bind : List Par → Type 0
Bind ps = Lfs ps × Shs ps × Unit {0} × Dens ps × Vss ps

abbrev pub at : (ps : List Par) → Bind ps → News ps → Bind (seen ps)
at ps t z = (lfs ps t.0 z, shs ps t.1 z, tt, dens ps t.3 z, seen_vss ps t.4)

module _ {M : Type 1} {𝓤 : Ura M} (𝓛 : Logic 𝓤) (ps : List Par) (t : Bind ps) where
  -- what the callee is given, and what its contract asks, at the lifetimes that the call makes
  abbrev pub Asked : News ps → SProp 𝓤 → SProp 𝓤
  Asked z req =
      sep 𝓤 (sep 𝓤 (toks_p 𝓛 (seen ps) (at ps t z).0 (at ps t z).1)
      (sem 𝓛 (owns_p (seen ps) (at ps t z).0 (at ps t z).3 (at ps t z).4))) req

  -- the context after the call
  abbrev pub Back : List ℕ → List (Item 𝓤) → Ends ps → List (Item 𝓤)
  Back π Γ ws = puts 𝓛 (rel [] π) (holds 𝓛 ps t.0 t.1 (ended ps t.3 ws) t.4) Γ

module _ {M : Type 1} {𝓤 : Ura M} {𝓛 : Logic 𝓤} {K : Type 0} {Γ : List (Item 𝓤)} {E : Env 𝓤 𝓛.H} {f : Callee}
    {xs : List Operand} {Λ : Loops 𝓤 𝓛.H} {q : Post 𝓤 𝓛.H} {d : Place} where
  -- `meets` is `λ z. k (at ps t z, g)`, k the callee's contract: from it antt finds req and Ens, what is required and ensured at z. They
  -- are not asked at t itself, since comparing a clause at t with the same clause at z is what costs time. `tells` is where z falls out
  open 𝓛 use {H}

  pub calls-of : K → (𝓣 : Tables 𝓤 H) → {rest : Body} (π : List ℕ) (ps : List Par) (t : Bind ps) → Made 𝓛 ps t.0 t.3 t.4
      → (R : RattleType) {req : News ps → SProp 𝓤} {Ens : News ps → R.Denot → Ends (seen ps) → SProp 𝓤}
      {Said : R.Denot → Ends (seen ps) → Type 0}
      → ((z : News ps) → ent 𝓤 (Asked 𝓛 ps t z (req z))
      (𝓣.C f (row ps t.4) (After 𝓛 (seen ps) (at ps t z).0 (at ps t z).1 (at ps t z).3 R (Ens z))))
      → ((z : News ps) → ent 𝓤 (emp 𝓤) (req z))
      → ((z : News ps) (r : R.Denot) (ws : Ends (seen ps)) → ent 𝓤 (Ens z r ws) (fact 𝓤 (Said r ws)))
      → only 𝓛 (rel [] π) Γ ≡ holds 𝓛 ps t.0 t.1 t.3 t.4 → Opds K 𝓛 (others 𝓛 (rel [] π) Γ) E xs (row ps t.4)
      → ((w : Val) (r : R.Denot) (ws : Ends (seen ps)) → Long ps t.3 (unseen ps ws) → Is R r (w ∷ []) → Said r ws
      → Seq K 𝓛 (Back 𝓛 ps t π Γ (unseen ps ws)) (lands 𝓣.C Λ E d w rest q))
      → Seq K 𝓛 Γ (runs 𝓣.C Λ E (seq (call f xs d) rest) q)
  calls-of k 𝓣 {rest} π ps t made R {req} {Ens} {Said} meets asked tells at-π os go = record {
    prf = lent-call 𝓛 Γ E 𝓣.C f xs (fm_of 𝓤 H 𝓛.laws 𝓣) (rel [] π) ps t.0 t.1 t.3 t.4 made R req Ens Said meets asked
        tells at-π os
        (λ w. lands 𝓣.C Λ E d w rest q) (λ w. tt) go;
  }

  -- the same, of the last statement of a part
  pub calls-of-last : K → (𝓣 : Tables 𝓤 H) → (π : List ℕ) (ps : List Par) (t : Bind ps) → Made 𝓛 ps t.0 t.3 t.4
      → (R : RattleType) {req : News ps → SProp 𝓤} {Ens : News ps → R.Denot → Ends (seen ps) → SProp 𝓤}
      {Said : R.Denot → Ends (seen ps) → Type 0}
      → ((z : News ps) → ent 𝓤 (Asked 𝓛 ps t z (req z))
      (𝓣.C f (row ps t.4) (After 𝓛 (seen ps) (at ps t z).0 (at ps t z).1 (at ps t z).3 R (Ens z))))
      → ((z : News ps) → ent 𝓤 (emp 𝓤) (req z))
      → ((z : News ps) (r : R.Denot) (ws : Ends (seen ps)) → ent 𝓤 (Ens z r ws) (fact 𝓤 (Said r ws)))
      → only 𝓛 (rel [] π) Γ ≡ holds 𝓛 ps t.0 t.1 t.3 t.4 → Opds K 𝓛 (others 𝓛 (rel [] π) Γ) E xs (row ps t.4)
      → ((w : Val) (r : R.Denot) (ws : Ends (seen ps)) → Long ps t.3 (unseen ps ws) → Is R r (w ∷ []) → Said r ws
      → Seq K 𝓛 (Back 𝓛 ps t π Γ (unseen ps ws)) (settles E d w q))
      → Seq K 𝓛 Γ (runs 𝓣.C Λ E (call f xs d) q)
  calls-of-last k 𝓣 π ps t made R {req} {Ens} {Said} meets asked tells at-π os go = record {
    prf = lent-call 𝓛 Γ E 𝓣.C f xs (fm_of 𝓤 H 𝓛.laws 𝓣) (rel [] π) ps t.0 t.1 t.3 t.4 made R req Ens Said meets asked
        tells at-π os
        (λ w. settles E d w q) (λ w. tt) go;
  }

module _ {M : Type 1} {𝓤 : Ura M} {𝓛 : Logic 𝓤} {K : Type 0} {Γ : List (Item 𝓤)} {E : Env 𝓤 𝓛.H} {f : Callee}
    {xs : List Operand} {Λ : Loops 𝓤 𝓛.H} {q : Post 𝓤 𝓛.H} {i : ℕ} where
  -- a call whose result is written to local i, where it stands by its plain value: `init ! i refl` or `store ! i refl` writes it
  open 𝓛 use {H}

  pub calls-to : K → (𝓣 : Tables 𝓤 H) → {rest : Body} (π : List ℕ) (ps : List Par) (t : Bind ps) → Made 𝓛 ps t.0 t.3 t.4
      → (R : RattleType) (pr : Plain 𝓛 R) {req : News ps → SProp 𝓤} {Ens : News ps → R.Denot → Ends (seen ps) → SProp 𝓤}
      {Said : R.Denot → Ends (seen ps) → Type 0}
      → ((z : News ps) → ent 𝓤 (Asked 𝓛 ps t z (req z))
      (𝓣.C f (row ps t.4) (After 𝓛 (seen ps) (at ps t z).0 (at ps t z).1 (at ps t z).3 R (Ens z))))
      → ((z : News ps) → ent 𝓤 (emp 𝓤) (req z))
      → ((z : News ps) (r : R.Denot) (ws : Ends (seen ps)) → ent 𝓤 (Ens z r ws) (fact 𝓤 (Said r ws)))
      → only 𝓛 (rel [] π) Γ ≡ holds 𝓛 ps t.0 t.1 t.3 t.4 → Opds K 𝓛 (others 𝓛 (rel [] π) Γ) E xs (row ps t.4)
      → {Γ' : Ends ps → Val → List (Item 𝓤)} → R.mir ≡ (spot_of 𝓤 H E i).0 ∷ []
      → ((ws : Ends ps) (v : Val) → T (has_ty (spot_of 𝓤 H E i).0 v) × WT v
      → Writes K 𝓛 (Back 𝓛 ps t π Γ ws)
      (spot_of 𝓤 H E i).0 (spot_of 𝓤 H E i).1 (spot_of 𝓤 H E i).2 v (Γ' ws v))
      → ((r : R.Denot) (ws : Ends (seen ps)) → Long ps t.3 (unseen ps ws) → Is R r (pr.vals r) → Said r ws
      → Seq K 𝓛 (Γ' (unseen ps ws) (only_one (pr.vals r))) (runs 𝓣.C Λ E rest q))
      → Seq K 𝓛 Γ (runs 𝓣.C Λ E (seq (call f xs (place i [])) rest) q)
  calls-to k 𝓣 {rest} π ps t made R pr meets asked tells at-π os mir into go =
      calls-of k 𝓣 π ps t made R meets asked tells at-π os (λ w r ws l is said.
      let e = pr.tells r (w ∷ []) is in
      let fits = (subst (λ (τs : List Ty). Typed τs (w ∷ [])) mir (pr.lawful.typed r (w ∷ []) is)).0 in
      subst (λ (v : Val). T (has_ty (spot_of 𝓤 H E i).0 v) × WT v → Seq K 𝓛
      (Back 𝓛 ps t π Γ (unseen ps ws)) (lands 𝓣.C Λ E (place i []) v rest q))
      (sym (ap only_one e)) (λ wt. land k (from k (stop k)) (into (unseen ps ws) _ wt) $ go r ws l (subst (Is R r) e is) said) fits)

-- ---- operands that are locals, in a call that is lent the locals ns: the entries of these are not there when the operands are read
abbrev before : List ℕ → ℕ → ℕ
before [] i = 0
before (n ∷ ns) i = cond (ltb n i) 1 0 + before ns i

module _ {M : Type 1} {𝓤 : Ura M} (𝓛 : Logic 𝓤) where
  open 𝓛 use {H}

  abbrev pub entries : List ℕ → List ℕ → List (Item 𝓤) → List (Item 𝓤)
  entries ns [] Γ = []
  entries ns (i ∷ is) Γ = nth 𝓛 (i - before ns i) Γ ∷ entries ns is Γ

  abbrev pub cells_of : Env 𝓤 H → List ℕ → List Val → List (Item 𝓤)
  cells_of E [] [] = []
  cells_of E [] (v ∷ vs) = ‵ ftrue ∷ []
  cells_of E (i ∷ is) [] = []
  cells_of E (i ∷ is) (v ∷ vs) =
      ‵ (fat full_share (get_or E i (no_local 𝓤 H)).0 (get_or E i (no_local 𝓤 H)).1 zero v) ∷ cells_of E is vs

  abbrev pub copies_of : List ℕ → List Operand
  copies_of [] = []
  copies_of (i ∷ is) = copy (place i []) ∷ copies_of is

  abbrev Full : List (Item 𝓤) → Type 0
  Full [] = ⊥
  Full (i ∷ Γ) = Unit {0}

module _ {M : Type 1} {𝓤 : Ura M} {𝓛 : Logic 𝓤} {K : Type 0} {Γ : List (Item 𝓤)} {E : Env 𝓤 𝓛.H} where
  each_copy : K → (ns is : List ℕ) (vs : List Val) → entries 𝓛 ns is Γ ≡ cells_of 𝓛 E is vs
      → Opds K 𝓛 Γ E (copies_of 𝓛 is) vs
  each_copy t ns [] [] e = no_more t
  each_copy t ns [] (v ∷ vs) e = absurd (subst (Full 𝓛) (sym e) tt)
  each_copy t ns (i ∷ is) [] e = absurd (subst (Full 𝓛) e tt)
  each_copy t ns (i ∷ is) (v ∷ vs) e = and_then t (load t (from t (stop t)) (look t (i - before ns i) (ap (nth 𝓛 0) e)))
      (each_copy t ns is vs (ap (del 𝓛 0) e))

  pub copies-but : K → (ns is : List ℕ) {vs : List Val} → entries 𝓛 ns is Γ ≡ cells_of 𝓛 E is vs
      → Opds K 𝓛 Γ E (copies_of 𝓛 is) vs
  copies-but t ns is {vs} e = each_copy t ns is vs e

  -- the same where the call is lent no local
  pub copies : K → (is : List ℕ) {vs : List Val} → entries 𝓛 [] is Γ ≡ cells_of 𝓛 E is vs → Opds K 𝓛 Γ E (copies_of 𝓛 is) vs
  copies t is e = copies-but t [] is e
