-- Statements and operands that name locals, as a walk writes them.
--     var ! i refl             the operand that is local i.        part ! i k refl refl refl     the operand that is field k of local i
--     sets ! i rv refl typed   `i = rv`, into the room of local i. resets    the same where local i holds a value
--     takes ! i refl typed     the result of a call, into the room of local i. retakes, retakes-last     the same where local i holds a
--                              value; and of a call that is the last statement of a part
-- Assumes `Logic`.
use Rattle.std.specs.Prelude.{◌≡◌, ℕ, zero, ◌+◌, List, [], ◌∷◌, get_or, T as Holds}
use Rattle.std.proofs.Common.{sym, subst}
use Rattle.std.proofs.Math.Option.{some}
use seplogic.Ra.Ura.{Ura}
use base.Fraction.{full_share}
use mir.Syntax.{Sym, Width, int_big, Ty, Tys, ty_struct, field, place, copy, Rv as RValue, Body, seq, assign}
use mir.Val.{Val, Vals, vint, Fits, vstruct, WT, has_ty}
use mir.Fields.{get_v, set_v}
use base.Logic.{via, guard_i}
use base.Fml.{fat, froom}
use prog.Memory.{field_at}
use prog.Wp.{Env, Calls, Loops, no_local, next}
use types.Logic.{Logic}
use types.Kit.{Item, ‵, nth, put, Post, post, prop, runs, lands, settles, Step}
use types.Part.{Part, whole, sub, look_in}
use types.Run.{Opd, Rv, look, init, store, stop, fld, from, load, assigns, land, land_last}
use Rattle.walks.specs.Locals.{local_at}

module _ {M : Type 1} {𝓤 : Ura M} (𝓛 : Logic 𝓤) where
  -- the cell of local i with a value, and its room
  open 𝓛 use {H}

  abbrev pub cell : Env 𝓤 H → ℕ → Val → Item 𝓤
  cell E i v = ‵ (fat full_share (get_or E i (no_local 𝓤 H)).0 (get_or E i (no_local 𝓤 H)).1 zero v)

  abbrev pub vacant : Env 𝓤 H → ℕ → Item 𝓤
  vacant E i = ‵ (froom (get_or E i (no_local 𝓤 H)).0 (get_or E i (no_local 𝓤 H)).1 zero)

  -- v is of the type of local i
  abbrev pub Suits : Env 𝓤 H → ℕ → Val → Type 0
  Suits E i v = Holds (has_ty (get_or E i (no_local 𝓤 H)).0 v) × WT v

module _ {M : Type 1} {𝓤 : Ura M} {𝓛 : Logic 𝓤} {K : Type 0} {Γ : List (Item 𝓤)} {E : Env 𝓤 𝓛.H} where
  open 𝓛 use {H}

  pub var : K → (i : ℕ) {v : Val} → nth 𝓛 i Γ ≡ cell 𝓛 E i v → Opd K 𝓛 Γ E (copy (place i [])) v
  var t i e = load t (from t (stop t)) (look t i e)

  pub part : K → (i k : ℕ) {ν : Sym} {τs : Tys} {b : ℕ} {vs : Vals} {τ : Ty} {d : ℕ} → get_or E i (no_local 𝓤 H) ≡ (ty_struct ν τs, b)
      → nth 𝓛 i Γ ≡ ‵ (fat full_share (ty_struct ν τs) b zero (vstruct vs)) → field_at zero τs k ≡ some (τ, d)
      → Opd K 𝓛 Γ E (copy (place i (field k ∷ []))) (get_v vs k)
  part t i k {ν} {τs} {b} {vs} {τ} {d} ei e ef =
      let back : Val → Item 𝓤 = λ u. ‵ (fat full_share (ty_struct ν τs) b zero (vstruct (set_v vs k u))) in
      load t (local_at t ei (fld t ef (stop t)))
      (look_in t i (subst (λ (j : Item 𝓤). Part K 𝓛 j full_share τ b (zero + d) (get_v vs k) back) (sym e) (sub t k ef (whole t))))

  -- a constant that MIR writes as a large one, as 65536
  pub big-lit : K → {w : Width} {n : ℕ} → Fits w n → Opd K 𝓛 Γ E (int_big w n) (vint w n)
  big-lit t {w} {n} z = record { go = λ Kt h. via 𝓤 (Kt (vint w n)) h (guard_i 𝓤 (Fits w n) (Kt (vint w n)) z) }

  module _ {C : Calls 𝓤 H} {Λ : Loops 𝓤 H} {q : Post 𝓤 H} where
    pub sets : K → (i : ℕ) {rv : RValue} {rest : Body} {v : Val} → Rv K 𝓛 Γ E rv v → nth 𝓛 i Γ ≡ vacant 𝓛 E i → Suits 𝓛 E i v
        → Step K 𝓛 (put 𝓛 i (cell 𝓛 E i v) Γ) (runs C Λ E rest q) Γ (runs C Λ E (seq (assign (place i []) rv) rest) q)
    sets t i rv e wt = assigns t rv (from t (stop t)) (init t i e wt)

    pub resets : K → (i : ℕ) {rv : RValue} {rest : Body} {u v : Val} → Rv K 𝓛 Γ E rv v → nth 𝓛 i Γ ≡ cell 𝓛 E i u
        → Suits 𝓛 E i v
        → Step K 𝓛 (put 𝓛 i (cell 𝓛 E i v) Γ) (runs C Λ E rest q) Γ (runs C Λ E (seq (assign (place i []) rv) rest) q)
    resets t i rv e wt = assigns t rv (from t (stop t)) (store t i e wt)

    pub takes : K → (i : ℕ) {rest : Body} {v : Val} → nth 𝓛 i Γ ≡ vacant 𝓛 E i → Suits 𝓛 E i v
        → Step K 𝓛 (put 𝓛 i (cell 𝓛 E i v) Γ) (runs C Λ E rest q) Γ (lands C Λ E (place i []) v rest q)
    takes t i e wt = land t (from t (stop t)) (init t i e wt)

    pub retakes : K → (i : ℕ) {rest : Body} {u v : Val} → nth 𝓛 i Γ ≡ cell 𝓛 E i u → Suits 𝓛 E i v
        → Step K 𝓛 (put 𝓛 i (cell 𝓛 E i v) Γ) (runs C Λ E rest q) Γ (lands C Λ E (place i []) v rest q)
    retakes t i e wt = land t (from t (stop t)) (store t i e wt)

  pub retakes-last : K → (i : ℕ) {q : Post 𝓤 H} {u v : Val} → nth 𝓛 i Γ ≡ cell 𝓛 E i u → Suits 𝓛 E i v
      → Step K 𝓛 (put 𝓛 i (cell 𝓛 E i v) Γ) (prop (post 𝓤 H q next)) Γ (settles E (place i []) v q)
  retakes-last t i e wt = land_last t (from t (stop t)) (store t i e wt)
