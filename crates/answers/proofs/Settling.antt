-- The end of a load: the memory that the tokens leave, and the emptied memory, are the same from whatever the build went through.
use Rattle.std.specs.Prelude.{◌≡◌, refl, Bool, List, [], ◌++◌, ℕ, ◌≤◌, ◌<◌, ◌⊎◌, ℤ, negsuc, length, drop, replicate, Ok, Err}
use Rattle.std.proofs.Common.{sym, ap, ap₂, ◌∙◌, subst, inl, inr, arith}
use Rattle.std.proofs.lemmas.List.{length-replicate}
use Rattle.std.proofs.Math.Seq.{drop_at}
use Rattle.spec.specs.Lists.{over}
use Rattle.spec.specs.Token.{Token}
use Rattle.spec.specs.Trie.{node_count}
use Rattle.spec.specs.Memory.{Memory, memory, single_list, offset_list, blob_bytes, root_list, table_list, padded, memory_of, emptied}
use Rattle.spec.specs.Load.{Room, Form, Place, Start, halts, goes, refused, load, turned_down, settled}
use Rattle.spec.specs.Load as spec
use Rattle.laws.specs.Reads.{LongEnough, single-length, offset-length, root-length}
use Rattle.nodes.specs.Run.{room, Nodes}
use Rattle.refusals.specs.Numbers.{number}
use Rattle.refusals.specs.Places.{place_of}
use Rattle.refusals.specs.declared.LoadError.{LoadError}
use Rattle.tokens.specs.Built.{Built, Kept}
use Rattle.tokens.proofs.CellRuns.{over_of}
use Rattle.tokens.proofs.PushMeans.{count_more}
use Rattle.tokens.specs.declared.Build.{Build}
use Rattle.answers.specs.Answers.{loaded, WorkKept}
use Rattle.answers.specs.LoadParts.{BuiltAs}
use Rattle.answers.specs.declared.Counts.{Counts}

-- ---- parts of memory

pub same_memory : {s s' : List ℤ} {os os' bl bl' rs rs' tb tb' : List ℕ} → s ≡ s' → os ≡ os' → bl ≡ bl' → rs ≡ rs' → tb ≡ tb'
    → memory s os bl rs tb ≡ memory s' os' bl' rs' tb'
same_memory a b c d e = cc

-- what lies past the new cells decides
over_kept : {A : Type 0} (n : ℕ) (new l l' : List A) → length new ≡ n → drop n l' ≡ drop n l → over new l' ≡ over new l
over_kept {A} n new l l' e k = ap (λ (x : List A). new ++ x) (ap (λ (i : ℕ). drop i l') e ∙ k ∙ ap (λ (i : ℕ). drop i l) (sym e))

over_behind : {A : Type 0} (n : ℕ) (v : A) (l : List A) → drop n (over (replicate n v) l) ≡ drop n l
over_behind n v l =
    let k = length-replicate n v in
    drop_at (replicate n v) (drop (length (replicate n v)) l) n k ∙ ap (λ (i : ℕ). drop i l) k

-- emptying touches no cell past the fixed lengths
kept_emptied : (s : List ℤ) (os rs : List ℕ)
    → Kept s os rs (over (replicate 256 (negsuc 0)) s) (over (replicate {A = ℕ} 65537 0) os) (over (replicate {A = ℕ} 65536 0) rs)
kept_emptied s os rs = record { single = over_behind 256 (negsuc 0) s; offsets = over_behind 65537 0 os; roots = over_behind 65536 0 rs }

pub begun_kept : {s s' : List ℤ} {os rs os' rs' : List ℕ} (bl tb bl' tb' : List ℕ)
    → memory s' os' bl' rs' tb' ≡ emptied (memory s os bl rs tb) → Kept s os rs s' os' rs'
unfolding emptied
begun_kept {s} {os = os} {rs = rs} bl tb bl' tb' begun =
    subst (λ (m : Memory). Kept s os rs m.single m.offsets m.roots) (sym begun) (kept_emptied s os rs)

pub kept_trans : {s s' s'' : List ℤ} {os os' os'' rs rs' rs'' : List ℕ} → Kept s os rs s' os' rs' → Kept s' os' rs' s'' os'' rs''
    → Kept s os rs s'' os'' rs''
kept_trans K J = record { single = J.single ∙ K.single; offsets = J.offsets ∙ K.offsets; roots = J.roots ∙ K.roots }

-- memory that kept those cells is emptied to the same
module _ {s s' : List ℤ} {os os' rs rs' : List ℕ} (K : Kept s os rs s' os' rs') (bl bl' tb tb' : List ℕ) (eb : length bl' ≡ length bl)
    (et : length tb' ≡ length tb) where
  pub emptied-same : emptied (memory s' os' bl' rs' tb') ≡ emptied (memory s os bl rs tb)
  unfolding emptied
  emptied-same =
      same_memory
      (over_kept 256 (replicate 256 (negsuc 0)) s s' (length-replicate {A = ℤ} 256 (negsuc 0)) K.single)
      (over_kept 65537 (replicate {A = ℕ} 65537 0) os os' (length-replicate {A = ℕ} 65537 0) K.offsets)
      (ap (λ (n : ℕ). replicate n 0) eb)
      (over_kept 65536 (replicate {A = ℕ} 65536 0) rs rs' (length-replicate {A = ℕ} 65536 0) K.roots)
      (ap (λ (n : ℕ). replicate n 0) et)

-- ---- the build of a source's records

-- the tokens of a build that was packed, and what is theirs in memory that kept the cells past the fixed lengths
module _ {ts : List Token} {s : List ℤ} {os bl rs : List ℕ} {ns : Nodes} {st : Build} (B : Built ts s os bl rs ns st) {s₀ : List ℤ}
    {os₀ rs₀ : List ℕ} (bl₀ tb₀ tb : List ℕ) (K : Kept s₀ os₀ rs₀ s os rs) (eb : length bl ≡ length bl₀) (et : length tb ≡ length tb₀) where
  pub finished_memory : {os' rs' tb' : List ℕ} → os' ≡ over (offset_list ts) os → rs' ≡ over (root_list ts) rs
      → tb' ≡ padded (table_list ts) (length tb)
      → memory s os' bl rs' tb' ≡ memory_of ts (memory s₀ os₀ bl₀ rs₀ tb₀)
  unfolding memory_of
  finished_memory eo er ea =
      same_memory
      (over_of 256 s (single_list ts) s₀ B.single (single-length ts) K.single)
      (eo ∙ over_kept 65537 (offset_list ts) os₀ os (offset-length ts) K.offsets)
      (B.blob ∙ ap (padded (blob_bytes ts)) eb)
      (er ∙ over_kept 65536 (root_list ts) rs₀ rs (root-length ts) K.roots)
      (ea ∙ ap (padded (table_list ts)) et)

-- what `finish` asks of the build of a source's records
pub records_made : {ts : List Token} {s : List ℤ} {os bl rs : List ℕ} {ns : Nodes} {st : Build} → Built ts s os bl rs ns st
    → (1 ≤ st.made) × (0 < st.tokens → st.made ≤ room ns)
records_made {ts} {ns = ns} {st = st} B = ((let k = B.made in let h = count_more ts in omega arith), λ h. go h B.node-room)
  where
    go : 0 < st.tokens → (node_count ts ≤ room ns) ⊎ (ts ≡ []) → st.made ≤ room ns
    go h (inl k) = let m = B.made in omega arith
    go h (inr k) = let t = B.tokens in let z = ap (λ (us : List Token). length us) k in absurd (omega arith)

-- memory of the same lengths is long enough
pub long_kept : {s s' : List ℤ} {os os' rs rs' : List ℕ} (bl tb bl' tb' : List ℕ) → LongEnough (memory s os bl rs tb)
    → length s' ≡ length s → length os' ≡ length os → length rs' ≡ length rs → LongEnough (memory s' os' bl' rs' tb')
long_kept bl tb bl' tb' h es eo er =
    let a = h.single in
    let b = h.offsets in
    let c = h.roots in
    record { single = omega arith; offsets = omega arith; roots = omega arith }

-- ---- what a load comes to

module _ (form : Form) (partial : Bool) (r : Room) (body : List ℕ) (m : Memory) where
  -- accepted: the counts and the memory of the tokens
  pub accepted-settles : (c : Counts) (m' : Memory) → BuiltAs form partial r body (Ok c) m m'
      → loaded (Ok c) m' ≡ settled m (load form partial r body)
  unfolding settled
  accepted-settles c m' T =
      ap₂ (λ (x : spec.Counts) (k : Memory). record { answer = record { number = 0; place = spec.nowhere; counts = x }; memory = k }) T.2
      T.3
      ∙ ap (settled m) (sym T.1)

  -- refused: the memory emptied
  pub refused-settles : (e : LoadError) (m' : Memory) → load form partial r body ≡ refused (number e.refusal) (place_of e.place)
      → m' ≡ emptied m → loaded (Err e) m' ≡ settled m (load form partial r body)
  unfolding settled
  refused-settles e m' T h = ap (turned_down (number e.refusal) (place_of e.place)) h ∙ ap (settled m) (sym T)

-- ---- the work memory

-- it is free where the records are read, and as it was where the start halts
pub works-free : (start : Start) (mode : Bool) (body : List ℕ) → start ≡ goes mode body → (ns : Nodes) (us bs : List ℕ) (ns' : Nodes)
    (us' bs' : List ℕ) → WorkKept start ns us bs ns' us' bs'
works-free start mode body e ns us bs ns' us' bs' = subst (λ (x : Start). WorkKept x ns us bs ns' us' bs') (sym e) tt

pub works-kept : (start : Start) (n : ℕ) (place : Place) → start ≡ halts n place → (ns : Nodes) (us bs : List ℕ)
    → WorkKept start ns us bs ns us bs
works-kept start n place e ns us bs = subst (λ (x : Start). WorkKept x ns us bs ns us bs) (sym e) (refl, refl, refl)
