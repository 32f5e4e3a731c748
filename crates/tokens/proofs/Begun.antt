-- Emptied memory holds no token, and it is the same from whatever a push left. Assumes nothing.
use mathlib.Core.Path.{◌≡◌, refl, sym, ap, ◌∙◌, subst}
use mathlib.Core.Logic.{inr}
use mathlib.Core.List.{List, [], ◌∷◌}
use Prim.Native.Nat.{ℕ, ◌-◌, ◌≤◌, ◌<◌}
use native.Mathlib.Omega.{arith}
use lib.IntN.{ℤ, pos, negsuc}
use lib.ListN.{length, take, drop, get_or, replicate, length-append, length-replicate, get_or-replicate, get_or-append}
use Rattle.spec.specs.Lists.{each, fold, over}
use Rattle.spec.specs.Token.{id_of}
use Rattle.nodes.specs.Run.{Nodes}
use Rattle.spec.specs.Trie.{nodes, node_count}
use Rattle.spec.specs.Memory.{Memory, memory, id_or_none, length_before, single_list, blob_bytes, padded, emptied}
use Rattle.spec.specs.Load.{last_id}
use Rattle.loading.specs.Accepted.{none-held}
use Rattle.nodes.proofs.InsertionMeans.{stands_none}
use Rattle.tokens.specs.Built.{Built}
use Rattle.tokens.proofs.CellRuns.{by_index}
use Rattle.tokens.specs.declared.Build.{Build}

-- a build without tokens: node 0 is there
abbrev pub begun : Build
begun = record { previous = 0; tokens = 0; made = 1; used = 0 }

-- a list that begins with n cells of v
over_at : {A : Type 0} (n : ℕ) (v d : A) (l : List A) (i : ℕ) → i < n → get_or (over (replicate n v) l) i d ≡ v
over_at n v d l i h =
    let k = length-replicate n v in
    get_or-append (replicate n v) (drop (length (replicate n v)) l) d i (omega arith) ∙ get_or-replicate n i v d h

over_long : {A : Type 0} (n : ℕ) (v : A) (l : List A) → n ≤ length (over (replicate n v) l)
over_long n v l = let k = length-replicate n v in let j = length-append (replicate n v) (drop (length (replicate n v)) l) in omega arith

no_single : (s : List ℤ) → take 256 (over (replicate 256 (negsuc 0)) s) ≡ single_list []
unfolding single_list
no_single s =
    by_index (over (replicate 256 (negsuc 0)) s) (λ (b : ℕ). id_or_none (id_of [] (b ∷ []))) 256 (pos 0) (over_long 256 (negsuc 0) s)
    (λ i h. over_at 256 (negsuc 0) (pos 0) s i h ∙ (unfold id_of in refl))

no_blob : (n : ℕ) (l : List ℕ) → l ≡ replicate n 0 → l ≡ padded (blob_bytes []) (length l)
unfolding blob_bytes each
no_blob n l e =
    let k : n ≡ length l - 0 = (let j = ap length e ∙ length-replicate n 0 in omega arith) in
    e ∙ ap (λ (x : ℕ). replicate x 0) k

module _ (s : List ℤ) (os bl rs : List ℕ) (ns : Nodes) where
  pub none-built : Built [] (over (replicate 256 (negsuc 0)) s) (over (replicate 65537 0) os) (replicate (length bl) 0)
      (over (replicate 65536 0) rs) ns begun
  unfolding last_id node_count nodes fold each length_before
  none-built = record {
    valid = (none-held (record { nodes = 0; blob = 0; table = 0 })).valid;
    previous = refl;
    tokens = refl;
    made = refl;
    used = unfold blob_bytes in refl;
    single = no_single s;
    offsets = λ i h. over_at 65537 0 0 os i (omega arith);
    blob = no_blob (length bl) (replicate (length bl) 0) refl;
    blob-room = (unfold blob_bytes in omega arith);
    stands = stands_none (over (replicate 65536 0) rs) ns (λ i h. over_at 65536 0 0 rs i h);
    node-room = inr refl;
  }

  -- the same of memory that is emptied
  pub built-begins : (tb : List ℕ) {s' : List ℤ} {os' bl' rs' tb' : List ℕ} → memory s' os' bl' rs' tb' ≡ emptied (memory s os bl rs tb)
      → Built [] s' os' bl' rs' ns begun
  unfolding emptied
  built-begins tb e = subst (λ (m : Memory). Built [] m.single m.offsets m.blob m.roots ns begun) (sym e) none-built
