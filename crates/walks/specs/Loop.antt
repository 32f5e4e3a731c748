-- A walk as a whole, and a `while` in it.
--     Walked, starts   what a walk proves, and its first step
--     whiles           a `while`: a type of states, a measure, and for each state what the locals hold (none: room) and what the lists
--                      are. The invariant is computed from these
--     Turn, next-turn  a turn of it from a state, and its end at the next state, whose measure is smaller
--     forgets          what these locals hold is forgotten, as at the end of a turn
-- Assumes `Logic`.
use Rattle.std.specs.Prelude.{◌≡◌, ℕ, zero, ◌<◌, List, [], ◌∷◌, ◌++◌}
use Rattle.std.proofs.Common.{ap}
use Rattle.std.proofs.Math.Option.{Option, none, some}
use seplogic.Ra.Ura.{Ura}
use base.Fraction.{full_share}
use mir.Syntax.{Body, seq, block, loop, Fn}
use mir.Val.{Val}
use base.Logic.{SProp, ent, sep, id⊢, via, mono_l}
use base.Fml.{Share, fat, froom}
use prog.Wp.{after_seq, after_block, after_turn, Env, Calls, Loops, Wp, WpFn, at_return, Tables}
use mathlib.Core.WellFounded.InvImage
use lib.WfN.{lt-wf_rel}
use types.Logic.{Logic}
use types.Kit.{Item, ‵, mean, ⋆, nth, del, put, pull, fill, Goal, prop, runs, at_ret, Seq, Step, step, ◌$◌, ◌∵◌, Go, Sq, any_q, ! }
use types.Kit.{qed}
use types.Run.{first, blocks as Within-block, Below, again, loops}
use Rattle.std.specs.Borrow.{RattleType}
use Rattle.walks.specs.Loan.{Par, Lfs, Shs, Dens, Vss, row, Ends, ended, holds}
use Rattle.walks.specs.Enter.{Plains, spelled}
use Rattle.walks.specs.Leave.{After}
use Rattle.walks.specs.Locals.{Blocks, Stored, env_at, dying, stored, begins, item_room, item-roomy, full, first_of, rest_of}

-- ---- a walk as a whole
module _ {M : Type 1} {𝓤 : Ura M} (𝓛 : Logic 𝓤) (ps : List Par) (pl : Plains 𝓛 ps) (κs : Lfs ps)
    (qs : Shs ps) (a : Dens ps)
    (C : Calls 𝓤 𝓛.H) (Λ : Loops 𝓤 𝓛.H) (fn : Fn) (R : RattleType) (Ens : R.Denot → Ends ps → SProp 𝓤) where
  open 𝓛 use {H}

  abbrev pub Walked : Type 1
  Walked = ent 𝓤 (⋆ 𝓛 (holds 𝓛 ps κs qs a (spelled 𝓛 ps pl a))) (WpFn 𝓤 H C Λ fn (row ps (spelled 𝓛 ps pl a))
      (After 𝓛 ps κs qs a R Ens))

  -- the first argument is `fitted … kn`
  pub starts : Stored 𝓤 H fn.locals (row ps (spelled 𝓛 ps pl a))
      → ((bs : Blocks fn.locals) → Seq (Go {0}) 𝓛 (stored 𝓤 H (env_at 𝓤 H fn.locals bs) (row ps (spelled 𝓛 ps pl a))
      ++ (‵ (dying 𝓤 H (env_at 𝓤 H fn.locals bs))
      ∷ holds 𝓛 ps κs qs a (spelled 𝓛 ps pl a))) (runs C Λ (env_at 𝓤 H fn.locals bs) fn.body
      (at_ret (env_at 𝓤 H fn.locals bs) (After 𝓛 ps κs qs a R Ens)))) → Walked
  starts fit k = qed 𝓛 (holds 𝓛 ps κs qs a (spelled 𝓛 ps pl a)) ∵
      begins ! C Λ fn (row ps (spelled 𝓛 ps pl a)) (After 𝓛 ps κs qs a R Ens) fit k

-- ---- an invariant of a loop: the cells of the locals, each with a value or as room, and what frees them
module _ {M : Type 1} {𝓤 : Ura M} (𝓛 : Logic 𝓤) where
  open 𝓛 use {H}

  abbrev pub cells : Env 𝓤 H → List (Option Val) → List (Item 𝓤)
  cells [] vs = []
  cells (e ∷ E) [] = ‵ (froom e.0 e.1 zero) ∷ cells E []
  cells (e ∷ E) (none ∷ vs) = ‵ (froom e.0 e.1 zero) ∷ cells E vs
  cells (e ∷ E) (some v ∷ vs) = ‵ (fat full_share e.0 e.1 zero v) ∷ cells E vs

  -- the entries at these positions as rooms
  abbrev pub roomed : List ℕ → List (Item 𝓤) → List (Item 𝓤)
  roomed [] Γ = Γ
  roomed (n ∷ ns) Γ = roomed ns (put 𝓛 n (item_room 𝓛 (nth 𝓛 n Γ)).0 Γ)

  abbrev pub shares_at : List ℕ → List (Item 𝓤) → List Share
  shares_at [] Γ = []
  shares_at (n ∷ ns) Γ = (item_room 𝓛 (nth 𝓛 n Γ)).1 ∷ shares_at ns (put 𝓛 n (item_room 𝓛 (nth 𝓛 n Γ)).0 Γ)

  rooming : (ns : List ℕ) (Γ : List (Item 𝓤)) → shares_at ns Γ ≡ full (shares_at ns Γ) → ent 𝓤 (⋆ 𝓛 Γ) (⋆ 𝓛 (roomed ns Γ))
  rooming [] Γ e = id⊢ 𝓤 _
  rooming (n ∷ ns) Γ e =
      let i = nth 𝓛 n Γ in
      let Θ = ⋆ 𝓛 (del 𝓛 n Γ) in
      via 𝓤 (sep 𝓤 (mean 𝓛 i) Θ) (pull 𝓛 n Γ)
      (via 𝓤 (sep 𝓤 (mean 𝓛 (item_room 𝓛 i).0) Θ) (mono_l 𝓤 Θ (item-roomy 𝓛 i (ap first_of e)))
      (via 𝓤 (⋆ 𝓛 (put 𝓛 n (item_room 𝓛 i).0 Γ)) (fill 𝓛 n (item_room 𝓛 i).0 Γ)
      (rooming ns (put 𝓛 n (item_room 𝓛 i).0 Γ) (ap rest_of e))))

module _ {M : Type 1} {𝓤 : Ura M} {𝓛 : Logic 𝓤} {K : Type 0} {Γ : List (Item 𝓤)} {G : Goal 𝓤 𝓛.H} where
  -- what the locals at these positions hold is forgotten, as at the end of a turn
  pub forgets : K → (ns : List ℕ) → shares_at 𝓛 ns Γ ≡ full (shares_at 𝓛 ns Γ) → Step K 𝓛 (roomed 𝓛 ns Γ) G Γ G
  forgets t ns e = step (λ s. record { prf = via 𝓤 (⋆ 𝓛 (roomed 𝓛 ns Γ)) (rooming 𝓛 ns Γ e) s.prf })

-- ---- a `while`, whose invariant is given by what the locals hold and what the slices are, in each state of it; the measure falls at
-- each turn
module _ {M : Type 1} {𝓤 : Ura M} (𝓛 : Logic 𝓤) (ps : List Par) (κs : Lfs ps) (qs : Shs ps) (a : Dens ps)
    (vss : Vss ps) (𝓣 : Tables 𝓤 𝓛.H) (E : Env 𝓤 𝓛.H) {X : Type 0}
    (measure : X → ℕ) (ws : X → Ends ps) (vs : X → List (Option Val)) where
  open 𝓛 use {H}

  abbrev pub Inv : X → List (Item 𝓤)
  Inv t = cells 𝓛 E (vs t) ++ (‵ (dying 𝓤 H E) ∷ holds 𝓛 ps κs qs (ended ps a (ws t)) vss)

  -- a turn from the state t, of a loop that `rest` follows
  abbrev pub Turn : Body → Body → (Val → SProp 𝓤) → X → Type 1
  Turn b rest Q t = Sq 𝓛 (Inv t) (runs 𝓣.C 𝓣.Λ E b (any_q (after_turn 𝓤 H (Below 𝓛 (λ (u' u : X). measure u' < measure u) Inv t)
      (after_block 𝓤 H (after_seq 𝓤 H (Wp 𝓤 H 𝓣.C 𝓣.Λ E rest (at_return 𝓤 H E Q)) (at_return 𝓤 H E Q))))))

  pub whiles : (b rest : Body) (Q : Val → SProp 𝓤) → ((t : X) → Turn b rest Q t) → (t : X)
      → Sq 𝓛 (Inv t) (runs 𝓣.C 𝓣.Λ E (seq (block (loop b)) rest) (at_ret E Q))
  whiles b rest Q turn t = first ! $ Within-block ! $ loops ! 𝓣 (λ (u' u : X). measure u' < measure u)
      (InvImage.wf measure lt-wf_rel.wf) Inv turn t

  -- the end of a turn, at the next state
  pub next-turn : (t t' : X) → measure t' < measure t → Sq 𝓛 (Inv t') (prop (Below 𝓛 (λ (u' u : X). measure u' < measure u) Inv t))
  next-turn t t' lt = again ! (λ (u' u : X). measure u' < measure u) Inv t t' lt
