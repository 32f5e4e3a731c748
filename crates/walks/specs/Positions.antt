-- Entries of a context by their positions: taken out, others put in their places, and no other entry moves. `rel` is what `Kit` has
-- privately: positions in the whole context as positions in what is left once those before them are out.
--     others π Γ, puts π ks Γ      Γ without its entries at π; and Γ with ks in their places
--     parted, placed               entry j by itself beside the rest; another in its place, with one more at the end
--     parted2, joined              the entries j and m by themselves beside the rest; one in their place, at j
--     placed_item, parted2_item    `placed` and `parted2` where the second is any entry
-- Assumes `Logic`.
use Rattle.std.specs.Prelude.{◌≡◌, ℕ, zero, suc, List, [], ◌∷◌, ◌++◌, ltb, Bool, true, false}
use Rattle.std.proofs.Common.{subst}
use seplogic.Ra.Ura.{Ura}
use base.Logic.{ent, sep, emp, via, snd∗, emp∗, comm∗, assoc∗, assoc', mono_l, mono_r}
use Rattle.std.specs.Borrow.{Fml}
use types.Logic.{Logic, sem}
use types.Kit.{Item, ‵, raw, mean, ⋆, nth, del, pull, only, push, pop, ++⊢, Goal, Seq, ◌$◌, use2}

abbrev pub dec_if : Bool → ℕ → ℕ
dec_if true zero = zero
dec_if true (suc n) = n
dec_if false n = n

abbrev pub lower : List ℕ → ℕ → ℕ → ℕ
lower [] i n = n
lower (s ∷ ss) i n = lower ss i (dec_if (ltb s i) n)

abbrev pub rel : List ℕ → List ℕ → List ℕ
rel seen [] = []
rel seen (i ∷ js) = lower seen i i ∷ rel (i ∷ seen) js

module _ {M : Type 1} {𝓤 : Ura M} (𝓛 : Logic 𝓤) where
  abbrev pub ins : ℕ → Item 𝓤 → List (Item 𝓤) → List (Item 𝓤)
  ins n k [] = k ∷ []
  ins zero k (i ∷ Γ) = k ∷ i ∷ Γ
  ins (suc n) k (i ∷ Γ) = i ∷ ins n k Γ

  pub ins⊢ : (n : ℕ) (k : Item 𝓤) (Γ : List (Item 𝓤)) → ent 𝓤 (sep 𝓤 (mean 𝓛 k) (⋆ 𝓛 Γ)) (⋆ 𝓛 (ins n k Γ))
  ins⊢ n k [] = push 𝓛 k []
  ins⊢ zero k (i ∷ Γ) = push 𝓛 k (i ∷ Γ)
  ins⊢ (suc n) k (i ∷ Γ) =
      let P = mean 𝓛 k in
      let Q = mean 𝓛 i in
      via 𝓤 (sep 𝓤 P (sep 𝓤 Q (⋆ 𝓛 Γ))) (mono_r 𝓤 P (pop 𝓛 i Γ))
      (via 𝓤 (sep 𝓤 (sep 𝓤 P Q) (⋆ 𝓛 Γ)) (assoc' 𝓤 P Q (⋆ 𝓛 Γ))
      (via 𝓤 (sep 𝓤 (sep 𝓤 Q P) (⋆ 𝓛 Γ)) (mono_l 𝓤 (⋆ 𝓛 Γ) (comm∗ 𝓤 P Q))
      (via 𝓤 (sep 𝓤 Q (sep 𝓤 P (⋆ 𝓛 Γ))) (assoc∗ 𝓤 Q P (⋆ 𝓛 Γ))
      (via 𝓤 (sep 𝓤 Q (⋆ 𝓛 (ins n k Γ))) (mono_r 𝓤 Q (ins⊢ n k Γ)) (push 𝓛 i (ins n k Γ))))))

  abbrev pub others : List ℕ → List (Item 𝓤) → List (Item 𝓤)
  others [] Γ = Γ
  others (n ∷ π) Γ = others π (del 𝓛 n Γ)

  abbrev pub puts : List ℕ → List (Item 𝓤) → List (Item 𝓤) → List (Item 𝓤)
  puts [] ks Γ = Γ
  puts (n ∷ π) [] Γ = others (n ∷ π) Γ
  puts (n ∷ π) (k ∷ ks) Γ = ins n k (puts π ks (del 𝓛 n Γ))

  pub apart : (π : List ℕ) (Γ : List (Item 𝓤)) → ent 𝓤 (⋆ 𝓛 Γ) (sep 𝓤 (⋆ 𝓛 (only 𝓛 π Γ)) (⋆ 𝓛 (others π Γ)))
  apart [] Γ = emp∗ 𝓤 (⋆ 𝓛 Γ)
  apart (n ∷ π) Γ =
      let P = mean 𝓛 (nth 𝓛 n Γ) in
      let Q = ⋆ 𝓛 (only 𝓛 π (del 𝓛 n Γ)) in
      let R = ⋆ 𝓛 (others π (del 𝓛 n Γ)) in
      via 𝓤 (sep 𝓤 P (⋆ 𝓛 (del 𝓛 n Γ))) (pull 𝓛 n Γ)
      (via 𝓤 (sep 𝓤 P (sep 𝓤 Q R)) (mono_r 𝓤 P (apart π (del 𝓛 n Γ)))
      (via 𝓤 (sep 𝓤 (sep 𝓤 P Q) R) (assoc' 𝓤 P Q R)
      (mono_l 𝓤 R (push 𝓛 (nth 𝓛 n Γ) (only 𝓛 π (del 𝓛 n Γ))))))

  pub puts⊢ : (π : List ℕ) (ks Γ : List (Item 𝓤)) → ent 𝓤 (sep 𝓤 (⋆ 𝓛 ks) (⋆ 𝓛 (others π Γ))) (⋆ 𝓛 (puts π ks Γ))
  puts⊢ [] ks Γ = snd∗ 𝓤 (⋆ 𝓛 ks) (⋆ 𝓛 Γ)
  puts⊢ (n ∷ π) [] Γ = snd∗ 𝓤 (emp 𝓤) (⋆ 𝓛 (others (n ∷ π) Γ))
  puts⊢ (n ∷ π) (k ∷ ks) Γ =
      let P = mean 𝓛 k in
      let Q = ⋆ 𝓛 ks in
      let R = ⋆ 𝓛 (others π (del 𝓛 n Γ)) in
      via 𝓤 (sep 𝓤 (sep 𝓤 P Q) R) (mono_l 𝓤 R (pop 𝓛 k ks))
      (via 𝓤 (sep 𝓤 P (sep 𝓤 Q R)) (assoc∗ 𝓤 P Q R)
      (via 𝓤 (sep 𝓤 P (⋆ 𝓛 (puts π ks (del 𝓛 n Γ)))) (mono_r 𝓤 P (puts⊢ π ks (del 𝓛 n Γ)))
      (ins⊢ n k (puts π ks (del 𝓛 n Γ)))))

module _ {M : Type 1} {𝓤 : Ura M} {𝓛 : Logic 𝓤} {K : Type 0} (Γ : List (Item 𝓤)) {G : Goal 𝓤 𝓛.H} where
  -- entry j by itself, and the other entries
  pub parted : (j : ℕ) (F : Fml) → nth 𝓛 j Γ ≡ ‵ F → Seq K 𝓛 (‵ F ∷ raw (⋆ 𝓛 (del 𝓛 j Γ)) ∷ []) G → Seq K 𝓛 Γ G
  parted j F e k = record {
    prf = via 𝓤 (sep 𝓤 (sem 𝓛 F) (⋆ 𝓛 (del 𝓛 j Γ)))
        (subst (λ (i : Item 𝓤). ent 𝓤 (⋆ 𝓛 Γ) (sep 𝓤 (mean 𝓛 i) (⋆ 𝓛 (del 𝓛 j Γ)))) e (pull 𝓛 j Γ)) k.prf;
  }

  -- another in its place, and one more at the end
  pub placed_item : (j : ℕ) (F : Fml) (L : Item 𝓤) → Seq K 𝓛 (puts 𝓛 (j ∷ []) (‵ F ∷ []) Γ ++ (L ∷ [])) G
      → Seq K 𝓛 (‵ F ∷ raw (⋆ 𝓛 (del 𝓛 j Γ)) ∷ L ∷ []) G
  placed_item j F L k =
      let Δ = puts 𝓛 (j ∷ []) (‵ F ∷ []) Γ in
      use2 𝓛 (raw (⋆ 𝓛 Δ)) (puts⊢ 𝓛 (j ∷ []) (‵ F ∷ []) Γ)
      $ record { prf = via 𝓤 (⋆ 𝓛 (Δ ++ (L ∷ []))) (++⊢ 𝓛 Δ (L ∷ [])) k.prf }

  pub placed : (j : ℕ) (F L : Fml) → Seq K 𝓛 (puts 𝓛 (j ∷ []) (‵ F ∷ []) Γ ++ (‵ L ∷ [])) G
      → Seq K 𝓛 (‵ F ∷ raw (⋆ 𝓛 (del 𝓛 j Γ)) ∷ ‵ L ∷ []) G
  placed j F L k = placed_item j F (‵ L) k

  -- the entries j and m by themselves
  pub parted2_item : (j m : ℕ) (F : Fml) (L : Item 𝓤) → only 𝓛 (rel [] (j ∷ m ∷ [])) Γ ≡ (‵ F ∷ L ∷ [])
      → Seq K 𝓛 (‵ F ∷ L ∷ raw (⋆ 𝓛 (others 𝓛 (rel [] (j ∷ m ∷ [])) Γ)) ∷ []) G → Seq K 𝓛 Γ G
  parted2_item j m F L e k =
      let Θ = ⋆ 𝓛 (others 𝓛 (rel [] (j ∷ m ∷ [])) Γ) in
      record {
        prf = via 𝓤 (sep 𝓤 (⋆ 𝓛 (‵ F ∷ L ∷ [])) Θ)
            (subst (λ (Δ : List (Item 𝓤)). ent 𝓤 (⋆ 𝓛 Γ) (sep 𝓤 (⋆ 𝓛 Δ) Θ)) e (apart 𝓛 (rel [] (j ∷ m ∷ [])) Γ))
            (via 𝓤 (sep 𝓤 (sem 𝓛 F) (sep 𝓤 (mean 𝓛 L) Θ)) (assoc∗ 𝓤 (sem 𝓛 F) (mean 𝓛 L) Θ) k.prf);
      }

  pub parted2 : (j m : ℕ) (F L : Fml) → only 𝓛 (rel [] (j ∷ m ∷ [])) Γ ≡ (‵ F ∷ ‵ L ∷ [])
      → Seq K 𝓛 (‵ F ∷ ‵ L ∷ raw (⋆ 𝓛 (others 𝓛 (rel [] (j ∷ m ∷ [])) Γ)) ∷ []) G → Seq K 𝓛 Γ G
  parted2 j m F L e k = parted2_item j m F (‵ L) e k

  -- one in their place, at j
  pub joined : (j m : ℕ) (F : Fml) → Seq K 𝓛 (ins 𝓛 j (‵ F) (others 𝓛 (rel [] (j ∷ m ∷ [])) Γ)) G
      → Seq K 𝓛 (‵ F ∷ raw (⋆ 𝓛 (others 𝓛 (rel [] (j ∷ m ∷ [])) Γ)) ∷ []) G
  joined j m F k =
      let Θ = others 𝓛 (rel [] (j ∷ m ∷ [])) Γ in
      record { prf = via 𝓤 (⋆ 𝓛 (ins 𝓛 j (‵ F) Θ)) (ins⊢ 𝓛 j (‵ F) Θ) k.prf }
