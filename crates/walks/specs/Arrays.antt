-- A local array in a walk by hand: `let mut a = [v; n]`, lent as a `&mut [T]`, all of it or its first elements. While it is lent, the
-- entry of the local is the slice of its memory, as a parameter's entry is, so that `calls-of` lends it on; what the lender keeps stands
-- at the END of the context, so that no other entry moves.
--     repeated         n times a value of T is a value of `[T; n]`: with it `init` stores `[v; n]`
--     lends_local, ends-local      entry i, the local's cell, becomes the slice, for a lifetime of its own; and the slice at its last list
--                      becomes the local's room again, m the entry of what was kept
--     lends_first, ends-first      the same of the first k elements, `&mut a[..k]`
--     slices-local     the two statements of `&mut a`: the address of local i into j, and with the length the slice into k
-- Assumes `Logic`.
use Rattle.std.proofs.Common.{◌∙◌, ap, sym, subst, take_all, take-append-drop, lit<}
use Rattle.std.specs.Prelude.{◌≡◌, length, replicate, take, drop as skip, get_or, T as Holds, ltb}
use Rattle.std.proofs.Math.Path.{refl}
use Prim.Native.Nat.{ℕ, zero, suc, ◌^◌}
use mathlib.Core.List.{List, [], ◌∷◌, ◌++◌}
use Rattle.std.proofs.lemmas.List.{length-replicate}
use seplogic.Ra.Ura.{Ura}
use base.Fraction.{full_share}
use mir.Syntax.{Lifetime, ty_array, Ty, erased, ty_ref, Mutability, place, copy, int, w64, addr_of, aggregate, Body, seq, assign}
use mir.Val.{Val, vptr}
use base.Logic.{ent, sep, via, snd∗}
use base.Fml.{GName, Fml, fsep, fat, froom, flft, flent, ftrue}
use prog.Wp.{Env, Calls, Loops, no_local}
use types.Logic.{Logic, sem}
use types.Kit.{Item, Goal, Soaks, Seq, Step, step, ‵, some, later, ◌⊛◌, ◌$◌, ◌∵◌, !, qed, by, move, drop, use1, use3, split, pick}
use types.Kit.{rewrite, fsplit, fjoin, fpick, fpack, feq_i, await, done, raw, mean, ⋆, nth, del, put, pull, fill, ++⊢, Post, runs, use0}
use types.Kit.{use2}
use types.Run.{forget, look, init, stop, load, lit, addr, and_then, no_more, assigns}
use types.SemTy.{cells, Arr}
use types.Share.{arr_parts}
use types.Tokens.{lft_new, lft_end}
use Rattle.std.specs.Borrow.{RattleType}
use denote.Memory.{mem, shares, cell_at, part_at, part_of, lone}
use denote.Array.{Array, array_val, array_vals, Array-Tells, each, Array-Makes}
use denote.ArrayMemory.{Single, Array-apart, Array-whole}
use denote.Laws.{Is, shows, Tells}
use denote.Index.{row, whole_in, whole_out}
use denote.Lend.{Held, lends_slice, slice_back}
use denote.Slice.{slice_val, MutSlice, Room, finally, slice_ty, mut_slice_vals}
use denote.Steps.{only, peeks, nothing}
use borrow.Table.Elements.{at, cut_app, join_app, same_len}
use Rattle.walks.specs.Lending.{at-list}
use Rattle.walks.specs.Branches.{le_refl}
use types.Part.{agg}
use denote.Ref.{MutBor, at_last}
use denote.Shadow.{shadow}
use Rattle.walks.specs.Positions.{parted}
use Rattle.walks.specs.Loan.{Mut}
use Rattle.walks.specs.PlainData.{Plain}
use Rattle.walks.specs.Leave.{give-mut}
use Rattle.walks.specs.Locals.{local_at}

-- the cells of an array from element k on
abbrev pub others : (R : RattleType) → ℕ → ℕ → List R.Denot → Fml
others R l k xs = cells (mem R) (skip k xs) l (at 0 (mem R).size (length (take k xs)))

module _ {M : Type 1} {𝓤 : Ura M} (𝓛 : Logic 𝓤) (R : RattleType) (n : ℕ) (l : ℕ) where
  open 𝓛 use {H}

  pub as-cells : Single R.mir → (x : R.Denot) (u : Val)
      → ent 𝓤 (sep 𝓤 (H.at full_share (ty_array (lone R.mir) n) l 0 (array_val (replicate n u)))
      (sem 𝓛 ((Array R n).own_val (replicate n x) (array_val (replicate n u) ∷ []))))
      (sem 𝓛 (cells (mem R) (replicate n x) l 0))
  unfolding part_of
  as-cells one x u = qed 𝓛 (‵ (fat full_share (ty_array (lone R.mir) n) l 0 (array_val (replicate n u)))
      ∷ ‵ ((Array R n).own_val (replicate n x) (array_val (replicate n u) ∷ [])) ∷ []) ∵
      use1 𝓛 (‵ (cell_at full_share (Array R n).mir (array_val (replicate n u) ∷ []) l 0))
      (𝓛.laws.at_raw full_share (ty_array (lone R.mir) n) l 0 (array_val (replicate n u))) $ fjoin ! $
      fpack ! (List Val) (λ us. fsep (cell_at full_share (Array R n).mir us l 0) ((Array R n).own_val (replicate n x) us))
      (array_val (replicate n u) ∷ []) $
      use1 𝓛 (‵ ((arr_parts (shares R) n).part full_share (replicate n x) l 0))
      (Array-apart 𝓛 R full_share one n (replicate n x) l 0) $ fsplit ! $ drop ! $
      by ! (whole_in 𝓛 R (replicate n x) l 0)

  pub as_room : (vals : R.Denot → List Val) → Tells R (Is R) vals → (zs : List R.Denot) → length zs ≡ n
      → ent 𝓤 (sem 𝓛 (cells (mem R) zs l 0)) (sem 𝓛 (froom (ty_array (lone R.mir) n) l 0))
  unfolding part_of
  as_room vals tells zs e = qed 𝓛 (‵ (cells (mem R) zs l 0) ∷ []) ∵
      use1 𝓛 (‵ (row R full_share zs l 0)) (whole_out 𝓛 R zs l 0) $ feq_i ! ℕ (length zs) n e $ fjoin ! $
      use1 𝓛 (‵ (part_at (Array R n) full_share zs l 0)) (Array-whole 𝓛 R full_share n zs l 0) $
      fpick ! (λ vs. fsplit ! $ move ! (1 ∷ []) $
      peeks ! (Array R n) (Is (Array R n)) (shows 𝓛 (Array R n)) zs vs (λ is. drop ! $
      rewrite ! 0 (λ (us : List Val). ‵ (cell_at full_share (Array R n).mir us l 0)) (Array-Tells R vals tells n zs vs is) refl $
      use1 𝓛 (‵ (fat full_share (ty_array (lone R.mir) n) l 0 (only (array_vals vals zs))))
      (𝓛.laws.raw_at full_share (ty_array (lone R.mir) n) l 0 (only (array_vals vals zs))) $ forget ! 0 refl $ done !))

  -- the cells of an array, as those of its first k elements and the others; and joined again, with other first ones
  pub cut : (k : ℕ) (xs : List R.Denot) → ent 𝓤 (sem 𝓛 (cells (mem R) xs l 0))
      (sep 𝓤 (sem 𝓛 (cells (mem R) (take k xs) l 0)) (sem 𝓛 (others R l k xs)))
  cut k xs = subst (λ (ys : List R.Denot). ent 𝓤 (sem 𝓛 (cells (mem R) ys l 0))
      (sep 𝓤 (sem 𝓛 (cells (mem R) (take k xs) l 0)) (sem 𝓛 (others R l k xs)))) (take-append-drop k xs)
      (cut_app 𝓛 (mem R) (take k xs) (skip k xs) l 0)

  pub joined : (k : ℕ) (xs zs : List R.Denot) → length zs ≡ length (take k xs)
      → ent 𝓤 (sep 𝓤 (sem 𝓛 (cells (mem R) zs l 0)) (sem 𝓛 (others R l k xs))) (sem 𝓛 (cells (mem R) (zs ++ skip k xs) l 0))
  joined k xs zs e = subst (λ (m : ℕ). ent 𝓤 (sep 𝓤 (sem 𝓛 (cells (mem R) zs l 0))
      (sem 𝓛 (cells (mem R) (skip k xs) l (at 0 (mem R).size m)))) (sem 𝓛 (cells (mem R) (zs ++ skip k xs) l 0))) e
      (join_app 𝓛 (mem R) zs (skip k xs) l 0)

module _ {M : Type 1} {𝓤 : Ura M} {𝓛 : Logic 𝓤} {K : Type 0} {Γ : List (Item 𝓤)} {G : Goal 𝓤 𝓛.H} where
  pub lends-array : K → Soaks G → (ℓ : Lifetime) (R : RattleType) (b : ℕ) (ys : List R.Denot) → Room R (length ys)
      → ((ν : ℕ) (δ : GName) → Seq K 𝓛 (‵ ((MutSlice ℓ (ν ∷ []) R).own_val (at-list b 0 δ ys) (slice_val (b, 0) (length ys) ∷ []))
      ∷ ‵ (flft (ν ∷ []) full_share) ∷ ‵ (flent (ν ∷ []) (Held R (length ys) b 0 δ)) ∷ Γ) G)
      → Seq K 𝓛 (‵ (cells (mem R) ys b 0) ∷ Γ) G
  lends-array t z ℓ R b ys room k = lft_new t z (λ ν. move t (1 ∷ []) $
      use1 𝓛 (later (some (λ (δ : GName). ‵ ((MutSlice ℓ (ν ∷ []) R).own_val (at-list b 0 δ ys) (slice_val (b, 0) (length ys) ∷ []))
      ⊛ ‵ (flent (ν ∷ []) (Held R (length ys) b 0 δ))))) (lends_slice 𝓛 R ℓ (ν ∷ []) ys b 0 room) $
      await t z $ pick t (λ δ. split t $ move t (0 ∷ 2 ∷ 1 ∷ []) $ k ν δ))

  pub ends-array : K → Soaks G → (R : RattleType) (b : ℕ) (ys zs : List R.Denot) (ν : ℕ) (δ : GName)
      → Step K 𝓛 (‵ (cells (mem R) zs b 0) ∷ Γ) G
      (‵ (finally R δ zs) ∷ ‵ (flft (ν ∷ []) full_share) ∷ ‵ (flent (ν ∷ []) (Held R (length ys) b 0 δ)) ∷ Γ) G
  ends-array t z R b ys zs ν δ = step (λ s. move t (1 ∷ []) $ lft_end t z $ move t (0 ∷ 2 ∷ 1 ∷ []) $
      use3 𝓛 (later (‵ ((Arr (mem R) (length ys)).own_at zs b 0))) (slice_back 𝓛 R (ν ∷ []) δ zs (length ys) b 0) $ await t z $
      fsplit t $ drop t $ s)

each_repeated : (R : RattleType) (x : R.Denot) (u : Val) → Is R x (u ∷ []) → (n : ℕ)
    → shadow (each R.Denot R.own_val (replicate n x) (replicate n u))
each_repeated R x u is zero = tt
each_repeated R x u is (suc n) = (is, each_repeated R x u is n)

pub repeated : (R : RattleType) (n : ℕ) (x : R.Denot) (u : Val) → Is R x (u ∷ [])
    → Is (Array R n) (replicate n x) (array_val (replicate n u) ∷ [])
repeated R n x u is = (replicate n u, ((refl, length-replicate n x), each_repeated R x u is n))

-- the slice of a local array in block l
abbrev pub local : {X : Type 0} → ℕ → GName → List X → MutBor (List X)
local l δ xs = at-list l 0 δ xs

-- what is kept while the first k elements, ys, are lent: their loan, and the cells of the others
abbrev pub Behind : (R : RattleType) → ℕ → ℕ → GName → ℕ → List R.Denot → List R.Denot → Fml
Behind R l ν δ k ys xs = fsep (flent (ν ∷ []) (Held R (length ys) l 0 δ)) (others R l k xs)

module _ {M : Type 1} {𝓤 : Ura M} {𝓛 : Logic 𝓤} {K : Type 0} (Γ : List (Item 𝓤)) {G : Goal 𝓤 𝓛.H} where
  put_back : (j : ℕ) (F : Fml) → Seq K 𝓛 (put 𝓛 j (‵ F) Γ) G → Seq K 𝓛 (‵ F ∷ raw (⋆ 𝓛 (del 𝓛 j Γ)) ∷ []) G
  put_back j F k = record { prf = via 𝓤 (⋆ 𝓛 (put 𝓛 j (‵ F) Γ)) (fill 𝓛 j (‵ F) Γ) k.prf }

  put-and : (j : ℕ) (F L : Fml) → Seq K 𝓛 (put 𝓛 j (‵ F) Γ ++ (‵ L ∷ [])) G
      → Seq K 𝓛 (‵ F ∷ raw (⋆ 𝓛 (del 𝓛 j Γ)) ∷ ‵ L ∷ []) G
  put-and j F L k =
      let Δ = put 𝓛 j (‵ F) Γ in
      use2 𝓛 (raw (⋆ 𝓛 Δ)) (fill 𝓛 j (‵ F) Γ) $
      record { prf = via 𝓤 (⋆ 𝓛 (Δ ++ (‵ L ∷ []))) (++⊢ 𝓛 Δ (‵ L ∷ [])) k.prf }

  -- F in the place of entry j, whatever stands there
  over : K → (j : ℕ) (F : Fml) → Seq K 𝓛 (put 𝓛 j (‵ F) Γ) G → Seq K 𝓛 (‵ F ∷ raw (⋆ 𝓛 Γ) ∷ []) G
  over t j F k = move t (1 ∷ []) $ use1 𝓛 (raw (⋆ 𝓛 (del 𝓛 j Γ)))
      (via 𝓤 (sep 𝓤 (mean 𝓛 (nth 𝓛 j Γ)) (⋆ 𝓛 (del 𝓛 j Γ))) (pull 𝓛 j Γ)
      (snd∗ 𝓤 (mean 𝓛 (nth 𝓛 j Γ)) (⋆ 𝓛 (del 𝓛 j Γ)))) $
      move t (1 ∷ 0 ∷ []) $ put_back j F k

  -- the first k of the n elements of local i are lent; their list has a name of its own, so that no step writes its elements out
  lend-first : K → Soaks G → (i : ℕ) (R : RattleType) → Plain 𝓛 R → Single R.mir → (n k : ℕ) (x : R.Denot) (u : Val) (l : ℕ)
      → Is R x (u ∷ []) → Room R (length (take k (replicate n x)))
      → nth 𝓛 i Γ ≡ ‵ (fat full_share (ty_array (lone R.mir) n) l 0 (array_val (replicate n u)))
      → ((ys : List R.Denot) → ys ≡ take k (replicate n x) → (ν : ℕ) (δ : GName)
      → Seq K 𝓛 (put 𝓛 i (‵ (Mut R (ν ∷ []) full_share (local l δ ys) (mut_slice_vals (local l δ ys)))) Γ
      ++ (‵ (Behind R l ν δ k ys (replicate n x)) ∷ [])) G) → Seq K 𝓛 Γ G
  lend-first t z i R pr one n k x u l is room e go =
      let xs = replicate n x in
      let ys = take k xs in
      parted Γ i (fat full_share (ty_array (lone R.mir) n) l 0 (array_val (replicate n u))) e (
      use0 𝓛 (‵ ((Array R n).own_val xs (array_val (replicate n u) ∷ [])))
      (Array-Makes 𝓛 R pr.makes n xs (array_val (replicate n u) ∷ []) (repeated R n x u is)) $ move t (1 ∷ 0 ∷ []) $
      use2 𝓛 (‵ (cells (mem R) xs l 0)) (as-cells 𝓛 R n l one x u) $
      use1 𝓛 (‵ (cells (mem R) ys l 0) ⊛ ‵ (others R l k xs)) (cut 𝓛 R n l k xs) $ split t $
      lends-array t z erased R l ys room (λ ν δ.
      -- [the slice; its token; the loan; the others; the rest of the context]
      fjoin t $ move t (1 ∷ 2 ∷ []) $ fjoin t $ move t (1 ∷ 2 ∷ 0 ∷ []) $
      put-and i (Mut R (ν ∷ []) full_share (local l δ ys) (mut_slice_vals (local l δ ys))) (Behind R l ν δ k ys xs) (go ys refl ν δ)))

module _ {M : Type 1} {𝓤 : Ura M} {𝓛 : Logic 𝓤} {K : Type 0} (Γ : List (Item 𝓤)) {G : Goal 𝓤 𝓛.H} where
  end-first : K → Soaks G → (i m : ℕ) (R : RattleType) (pr : Plain 𝓛 R) (n k : ℕ) (x : R.Denot) (ys zs : List R.Denot) (l ν : ℕ)
      (δ : GName) → ys ≡ take k (replicate n x)
      → nth 𝓛 i Γ ≡ ‵ (Mut R (ν ∷ []) full_share (at_last (local l δ ys) zs) (mut_slice_vals (local l δ ys)))
      → nth 𝓛 m (put 𝓛 i (‵ ftrue) Γ) ≡ ‵ (Behind R l ν δ k ys (replicate n x)) → length zs ≡ length ys
      → Seq K 𝓛 (put 𝓛 i (‵ (froom (ty_array (lone R.mir) n) l 0)) (del 𝓛 m (put 𝓛 i (‵ ftrue) Γ))) G → Seq K 𝓛 Γ G
  end-first t z i m R pr n k x ys zs l ν δ ey e e' len go =
      let xs = replicate n x in
      let Θ = put 𝓛 i (‵ ftrue) Γ in
      let Δ = del 𝓛 m Θ in
      let long = len ∙ ap length ey in
      parted Γ i (Mut R (ν ∷ []) full_share (at_last (local l δ ys) zs) (mut_slice_vals (local l δ ys))) e (
      use1 𝓛 (later (‵ (flft (ν ∷ []) full_share) ⊛ ‵ (finally R δ zs)))
      (give-mut 𝓛 R (ν ∷ []) full_share (local l δ ys) (mut_slice_vals (local l δ ys)) zs) $ await t z $ split t $
      -- [the token; the last list; the rest of the context]
      nothing t $ move t (0 ∷ 3 ∷ []) $ use2 𝓛 (raw (⋆ 𝓛 Θ)) (fill 𝓛 i (‵ ftrue) Γ) $
      use1 𝓛 (‵ (Behind R l ν δ k ys xs) ⊛ raw (⋆ 𝓛 Δ))
      (subst (λ (j : Item 𝓤). ent 𝓤 (⋆ 𝓛 Θ) (sep 𝓤 (mean 𝓛 j) (⋆ 𝓛 Δ))) e' (pull 𝓛 m Θ)) $ split t $ fsplit t $
      -- [the loan; the others; the rest of the context; the token; the last list]
      move t (4 ∷ 3 ∷ 0 ∷ 1 ∷ 2 ∷ []) $ ends-array t z R l ys zs ν δ $
      use2 𝓛 (‵ (cells (mem R) (zs ++ skip k xs) l 0)) (joined 𝓛 R n l k xs zs long) $
      use1 𝓛 (‵ (froom (ty_array (lone R.mir) n) l 0))
      (as_room 𝓛 R n l pr.vals pr.tells (zs ++ skip k xs) (same_len k xs zs long ∙ length-replicate n x)) $
      over Δ t i (froom (ty_array (lone R.mir) n) l 0) go)

all : {X : Type 0} (n : ℕ) (x : X) → take n (replicate n x) ≡ replicate n x
all n x = take_all n (replicate n x) (le_refl (sym (length-replicate n x)))

module _ {M : Type 1} {𝓤 : Ura M} {𝓛 : Logic 𝓤} {K : Type 0} {Γ : List (Item 𝓤)} {G : Goal 𝓤 𝓛.H} where
  pub lends_first : K → Soaks G → (i : ℕ) (R : RattleType) → Plain 𝓛 R → Single R.mir → (n k : ℕ) (x : R.Denot) (u : Val) {l : ℕ}
      → Is R x (u ∷ []) → Room R (length (take k (replicate n x)))
      → nth 𝓛 i Γ ≡ ‵ (fat full_share (ty_array (lone R.mir) n) l 0 (array_val (replicate n u)))
      → ((ys : List R.Denot) → ys ≡ take k (replicate n x) → (ν : ℕ) (δ : GName)
      → Seq K 𝓛 (put 𝓛 i (‵ (Mut R (ν ∷ []) full_share (local l δ ys) (mut_slice_vals (local l δ ys)))) Γ
      ++ (‵ (Behind R l ν δ k ys (replicate n x)) ∷ [])) G) → Seq K 𝓛 Γ G
  lends_first t z i R pr one n k x u {l} is room e go = lend-first Γ t z i R pr one n k x u l is room e go

  pub ends-first : K → Soaks G → (i m : ℕ) (R : RattleType) (pr : Plain 𝓛 R) (n k : ℕ) (x : R.Denot) (ys zs : List R.Denot)
      {l ν : ℕ} {δ : GName} → ys ≡ take k (replicate n x)
      → nth 𝓛 i Γ ≡ ‵ (Mut R (ν ∷ []) full_share (at_last (local l δ ys) zs) (mut_slice_vals (local l δ ys)))
      → nth 𝓛 m (put 𝓛 i (‵ ftrue) Γ) ≡ ‵ (Behind R l ν δ k ys (replicate n x)) → length zs ≡ length ys
      → Step K 𝓛 (put 𝓛 i (‵ (froom (ty_array (lone R.mir) n) l 0)) (del 𝓛 m (put 𝓛 i (‵ ftrue) Γ))) G Γ G
  ends-first t z i m R pr n k x ys zs {l} {ν} {δ} ey e e' len =
      step (λ go. end-first Γ t z i m R pr n k x ys zs l ν δ ey e e' len go)

  -- the whole of it
  pub lends_local : K → Soaks G → (i : ℕ) (R : RattleType) → Plain 𝓛 R → Single R.mir → (n : ℕ) (x : R.Denot) (u : Val) {l : ℕ}
      → Is R x (u ∷ []) → Room R (length (replicate n x))
      → nth 𝓛 i Γ ≡ ‵ (fat full_share (ty_array (lone R.mir) n) l 0 (array_val (replicate n u)))
      → ((ys : List R.Denot) → ys ≡ replicate n x → (ν : ℕ) (δ : GName)
      → Seq K 𝓛 (put 𝓛 i (‵ (Mut R (ν ∷ []) full_share (local l δ ys) (mut_slice_vals (local l δ ys)))) Γ
      ++ (‵ (Behind R l ν δ n ys (replicate n x)) ∷ [])) G) → Seq K 𝓛 Γ G
  lends_local t z i R pr one n x u is room e go = lends_first t z i R pr one n n x u is
      (subst (λ (xs : List R.Denot). Room R (length xs)) (sym (all n x)) room) e (λ ys ey. go ys (ey ∙ all n x))

  pub ends-local : K → Soaks G → (i m : ℕ) (R : RattleType) (pr : Plain 𝓛 R) (n : ℕ) (x : R.Denot) (ys zs : List R.Denot)
      {l ν : ℕ} {δ : GName} → ys ≡ replicate n x
      → nth 𝓛 i Γ ≡ ‵ (Mut R (ν ∷ []) full_share (at_last (local l δ ys) zs) (mut_slice_vals (local l δ ys)))
      → nth 𝓛 m (put 𝓛 i (‵ ftrue) Γ) ≡ ‵ (Behind R l ν δ n ys (replicate n x)) → length zs ≡ length ys
      → Step K 𝓛 (put 𝓛 i (‵ (froom (ty_array (lone R.mir) n) l 0)) (del 𝓛 m (put 𝓛 i (‵ ftrue) Γ))) G Γ G
  ends-local t z i m R pr n x ys zs ey e e' len = ends-first t z i m R pr n n x ys zs (ey ∙ sym (all n x)) e e' len

module _ {M : Type 1} {𝓤 : Ura M} {𝓛 : Logic 𝓤} {K : Type 0} {Γ : List (Item 𝓤)} {E : Env 𝓤 𝓛.H}
    {C : Calls 𝓤 𝓛.H}
    {Λ : Loops 𝓤 𝓛.H} {q : Post 𝓤 𝓛.H} where
  open 𝓛 use {H}

  pub slices-local : K → (i j k n : ℕ) {ℓ ℓ' : Lifetime} {μ μ' : Mutability} {σ τ τ' : Ty} {bi bj bk : ℕ} {rest : Body}
      → (get_or E i (no_local 𝓤 H) ∷ get_or E j (no_local 𝓤 H) ∷ get_or E k (no_local 𝓤 H) ∷ [])
      ≡ ((σ, bi) ∷ (ty_ref ℓ μ τ, bj) ∷ (slice_ty (ty_ref ℓ' μ' τ'), bk) ∷ [])
      → (nth 𝓛 j Γ ∷ nth 𝓛 j (put 𝓛 j (‵ (fat full_share (ty_ref ℓ μ τ) bj zero (vptr bi zero))) Γ)
      ∷ nth 𝓛 k (put 𝓛 j (‵ (fat full_share (ty_ref ℓ μ τ) bj zero (vptr bi zero))) Γ) ∷ [])
      ≡ (‵ (froom (ty_ref ℓ μ τ) bj zero) ∷ ‵ (fat full_share (ty_ref ℓ μ τ) bj zero (vptr bi zero))
      ∷ ‵ (froom (slice_ty (ty_ref ℓ' μ' τ')) bk zero) ∷ [])
      → Holds (ltb n (2 ^ 64))
      → Step K 𝓛 (put 𝓛 k (‵ (fat full_share (slice_ty (ty_ref ℓ' μ' τ')) bk zero (slice_val (bi, zero) n)))
      (put 𝓛 j (‵ (fat full_share (ty_ref ℓ μ τ) bj zero (vptr bi zero))) Γ)) (runs C Λ E rest q) Γ
      (runs C Λ E (seq (assign (place j []) (addr_of (place i [])))
      (seq (assign (place k []) (aggregate (copy (place j []) ∷ int w64 n ∷ []))) rest)) q)
  slices-local t i j k n es cs fits =
      let ei = ap (λ (l : List (Ty × ℕ)). get_or l 0 (no_local 𝓤 H)) es in
      let ej = ap (λ (l : List (Ty × ℕ)). get_or l 1 (no_local 𝓤 H)) es in
      let ek = ap (λ (l : List (Ty × ℕ)). get_or l 2 (no_local 𝓤 H)) es in
      step (λ s. assigns t (addr t (local_at t ei (stop t))) (local_at t ej (stop t)) (init t j (ap (nth 𝓛 0) cs) (tt, tt)) $
      assigns t (agg t (and_then t (load t (local_at t ej (stop t)) (look t j (ap (nth 𝓛 1) cs)))
      (and_then t (lit t fits) (no_more t))))
      (local_at t ek (stop t)) (init t k (ap (nth 𝓛 2) cs) (tt, (tt, (record { fits = lit< fits }, tt)))) $ s)
