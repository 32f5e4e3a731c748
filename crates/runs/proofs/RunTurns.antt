-- The steps of a run over a stretch: what holds before each turn of its loop, and at each of its ends. Assumes nothing.
use mathlib.Core.Path.{◌≡◌, refl, sym, ap, ap₂, ◌∙◌, subst, subst₂}
use mathlib.Core.Bool.{true, false}
use mathlib.Core.List.{List, [], ◌∷◌, ◌++◌, append-nil, append_assoc}
use Prim.Native.Nat.{ℕ, zero, suc, pred, ◌+◌, ◌-◌, ◌*◌, ◌≤◌, ◌<◌}
use native.Mathlib.Omega.{arith}
use native.Mathlib.Nat.{add-zero}
use lib.ListN.{length, drop, get_or, set, length-append, length-drop}
use lib.Seq.{drop-drop, drop-cons}
use Rattle.tally.specs.declared.Tally.{Tally}
use Rattle.spec.specs.Lists.{over}
use Rattle.matching.proofs.WalkBounds.{match_within}
use Rattle.matching.proofs.BytesLeft.{LeftOf, left_all, left_few, left-place, left_on}
use Rattle.matching.proofs.BytesLeft as left
use Rattle.spec.specs.Scan.{waiting, stuck, ran}
use Rattle.spec.specs.Memory.{Memory}
use Rattle.spec.specs.Match.{nothing, found, match_on, undecided_on}
use Rattle.spec.specs.LookedOn.{looked_on, sum_on}
use Rattle.spec.specs.Stream.{run_on}
use Rattle.laws.specs.StreamLaws.{run_on-waits, run_on-none, run_on-some}
use Rattle.laws.specs.SumLaws.{looks-short, Summed, summed-first, summed-next, summed-are, summed-short}
use Rattle.runs.specs.declared.Ran.{Ran}
use Rattle.runs.specs.declared.Ran.TheVariants.{Through, Waiting, Stuck}
use Rattle.runs.specs.Running.{prepend, Alike, run_from, Runs, place_of, given_of, Looks, RunsTo}

-- ── The steps of a run ───────────────────────────────────────────────

skip : (m : Memory) (pos k : ℕ) (s : List ℕ) → k ≤ length s → run_on m pos k s ≡ run_on m (pos + k) 0 (drop k s)
unfolding run_on
skip m pos zero s h = ap (λ (p : ℕ). run_on m p 0 s) (sym (add-zero pos))
skip m pos (suc k) [] h = absurd (omega arith)
skip m pos (suc k) (b ∷ s) h =
    let e : suc pos + k ≡ pos + suc k = omega arith in
    skip m (suc pos) k s (omega arith) ∙ ap (λ (p : ℕ). run_on m p 0 (drop k s)) e

-- one step of a run, from a place of S
module _ (m : Memory) (pos : ℕ) (S : List ℕ) (i : ℕ) (h : i < length S) where
  here : drop i S ≡ get_or S i 0 ∷ drop (suc i) S
  here = drop-cons S i 0 h

  from-waits : undecided_on m (drop i S) ≡ true → run_from m pos S i ≡ record { ids = []; stop = waiting (pos + i) (drop i S) }
  from-waits u =
      ap (run_on m (pos + i) 0) here
      ∙ run_on-waits m (pos + i) (get_or S i 0) (drop (suc i) S) (ap (undecided_on m) (sym here) ∙ u)
      ∙ ap (λ (s : List ℕ). record { ids = []; stop = waiting (pos + i) s }) (sym here)

  from-none : undecided_on m (drop i S) ≡ false → match_on m (drop i S) ≡ nothing → run_from m pos S i
      ≡ record { ids = []; stop = stuck (pos + i) (get_or S i 0) }
  from-none u e =
      ap (run_on m (pos + i) 0) here
      ∙ run_on-none m (pos + i) (get_or S i 0) (drop (suc i) S) (ap (undecided_on m) (sym here) ∙ u) (ap (match_on m) (sym here) ∙ e)

  from_some : (id n : ℕ) → undecided_on m (drop i S) ≡ false → match_on m (drop i S) ≡ found id n → 1 ≤ n → i + n ≤ length S
      → run_from m pos S i ≡ ran id (run_from m pos S (i + n))
  from_some id n u e l k =
      let a : suc (pos + i) + pred n ≡ pos + (i + n) = omega arith in
      let b : suc i + pred n ≡ i + n = omega arith in
      let c = length-drop (suc i) S in
      ap (run_on m (pos + i) 0) here
      ∙ run_on-some m (pos + i) (get_or S i 0) (drop (suc i) S) id n (ap (undecided_on m) (sym here) ∙ u) (ap (match_on m) (sym here) ∙ e)
      ∙ ap (ran id) (skip m (suc (pos + i)) (pred n) (drop (suc i) S) (omega arith)
      ∙ ap₂ (λ (p : ℕ) (t : List ℕ). run_on m p 0 t) a (drop-drop (pred n) (suc i) S ∙ ap (λ (j : ℕ). drop j S) b))

-- ── The bytes looked at ──────────────────────────────────────────────

-- a stretch looks like itself
pub alike_self : (m : Memory) (s : List ℕ) (stop : ℕ) → Alike m s s stop
alike_self m s stop =
    record { long = omega arith; undecided = λ i h. refl; matched = λ i h. refl; looked = λ i h. refl; byte = λ i h. refl }

-- those of n ids before the place i, so many
module _ (m : Memory) (src : List ℕ) (stop i n looked : ℕ) (l : Looks m src stop i n looked) where
  -- at most 255 for each
  pub looks_few : looked ≤ 255 * n
  looks_few = summed-short m src i n looked (l src (alike_self m src stop))

  -- those of the id found there on top
  looks-next : i < stop → stop ≤ length src → (id len : ℕ) → match_on m (drop i src) ≡ found id len → 1 ≤ len
      → Looks m src stop (i + len) (n + 1) (looked + looked_on m (drop i src))
  looks-next h long id len e one S a =
      let room = a.long in
      subst (λ (x : ℕ). Summed m S (i + len) (n + 1) (looked + x)) (a.looked i h)
      (summed-next m S i n looked (l S a) (omega arith) id len (a.matched i h ∙ e) one)

-- ── The loop ─────────────────────────────────────────────────────────

-- where the loop stands: at the place i, with so much given, which is the ids found and what was looked at for them
pub record Stands (m : Memory) (src : List ℕ) (stop : ℕ) (lent out : List ℕ) (i : ℕ) (given : Tally) : Type 0 where
  pub ids : List ℕ
  pub written : out ≡ over ids lent
  pub count : given.count ≡ length ids
  pub looked : Looks m src stop i (length ids) given.looked
  pub few : length ids ≤ i
  pub place : i ≤ length src
  pub runs : Runs m src stop (λ S pos. prepend ids (run_from m pos S i))

pub stands_first : (m : Memory) (src : List ℕ) (stop : ℕ) (lent : List ℕ) → Stands m src stop lent lent 0 (record { count = 0; looked = 0 })
stands_first m src stop lent = record {
  ids = [];
  written = refl;
  count = refl;
  looked = λ S a. summed-first m S;
  few = omega arith;
  place = omega arith;
  runs = λ S pos a. ap (λ (p : ℕ). run_on m p 0 S) (sym (add-zero pos));
}

-- one id more behind those written
over_snoc : (ids lent : List ℕ) (v : ℕ) → length ids < length lent → set (over ids lent) (length ids) v ≡ over (ids ++ (v ∷ [])) lent
over_snoc [] [] v h = absurd (omega arith)
over_snoc [] (x ∷ l) v h = refl
over_snoc (w ∷ ids) [] v h = absurd (omega arith)
over_snoc (w ∷ ids) (x ∷ l) v h = ap (λ (r : List ℕ). w ∷ r) (over_snoc ids l v (omega arith))

module _ {m : Memory} {src : List ℕ} {stop : ℕ} {lent out : List ℕ} {i : ℕ} {given : Tally}
    (w : Stands m src stop lent out i given) where
  module _ (h : i < stop) (long : stop ≤ length src) where
    -- a token is found: its id is written, and the loop goes on behind it
    pub stands-next : length src ≤ length lent → (id len : ℕ) → undecided_on m (drop i src) ≡ false
        → match_on m (drop i src) ≡ found id len
        → Stands m src stop lent (set out given.count id) (i + len)
        (record { count = given.count + 1; looked = given.looked + looked_on m (drop i src) })
    stands-next room id len u e =
        let b = match_within m (drop i src) id len e in
        let d = length-append w.ids (id ∷ []) in
        let p = length-drop i src in
        record {
          ids = w.ids ++ (id ∷ []);
          written = ap₂ (λ (o : List ℕ) (j : ℕ). set o j id) w.written w.count ∙ over_snoc w.ids lent id (omega (arith, w.few));
          count = omega (arith, w.count);
          looked =
              subst (λ (n : ℕ). Looks m src stop (i + len) n (given.looked + looked_on m (drop i src))) (sym d)
              (looks-next m src stop i (length w.ids) given.looked w.looked h long id len e b.0);
          few = omega (arith, w.few, b.0);
          place = omega (arith, b.1);
          runs = λ S pos a. let q = a.long in
              w.runs S pos a
              ∙ ap (prepend w.ids)
              (from_some m pos S i (omega arith) id len (a.undecided i h ∙ u) (a.matched i h ∙ e) b.0 (omega (arith, b.1)))
              ∙ ap (λ (x : List ℕ). record { ids = x; stop = (run_from m pos S (i + len)).stop })
              (sym (append_assoc w.ids (id ∷ []) (run_from m pos S (i + len)).ids));
        }

    pub ends-waiting : undecided_on m (drop i src) ≡ true → RunsTo m src stop lent out (Waiting i given)
    ends-waiting u = record {
      ids = w.ids;
      written = w.written;
      count = w.count;
      looked = w.looked;
      few = w.few;
      comes = (
        h,
        u,
        λ S pos a. let q = a.long in
            w.runs S pos a ∙ ap (prepend w.ids) (from-waits m pos S i (omega arith) (a.undecided i h ∙ u))
            ∙ ap (λ (x : List ℕ). record { ids = x; stop = waiting (pos + i) (drop i S) }) (append-nil w.ids),
      );
    }

    pub ends_stuck : undecided_on m (drop i src) ≡ false → match_on m (drop i src) ≡ nothing
        → RunsTo m src stop lent out (Stuck i given)
    ends_stuck u e = record {
      ids = w.ids;
      written = w.written;
      count = w.count;
      looked = w.looked;
      few = w.few;
      comes = (
        h,
        λ S pos a. let q = a.long in
            w.runs S pos a ∙ ap (prepend w.ids) (from-none m pos S i (omega arith) (a.undecided i h ∙ u) (a.matched i h ∙ e))
            ∙ ap₂ (λ (x : List ℕ) (b : ℕ). record { ids = x; stop = stuck (pos + i) b }) (append-nil w.ids) (a.byte i h),
      );
    }

  pub ends_through : stop ≤ i → RunsTo m src stop lent out (Through i given)
  ends_through h = record {
    ids = w.ids;
    written = w.written;
    count = w.count;
    looked = w.looked;
    few = w.few;
    comes = (h, w.place, w.runs);
  }

-- ── The bytes left ───────────────────────────────────────────────────

-- the same of the bytes that are left, which are those from the place on
pub record Left (m : Memory) (src : List ℕ) (stop : ℕ) (lent out rest : List ℕ) (given : Tally) : Type 0 where
  pub bytes : LeftOf src rest
  pub stands : Stands m src stop lent out (left.place_of src rest) given

pub left_first : (m : Memory) (src : List ℕ) (stop : ℕ) (lent : List ℕ)
    → Left m src stop lent lent src (record { count = 0; looked = 0 })
left_first m src stop lent =
    let none : 0 ≡ left.place_of src src = omega arith in
    record {
      bytes = left_all src;
      stands = subst (λ (i : ℕ). Stands m src stop lent lent i (record { count = 0; looked = 0 })) none (stands_first m src stop lent);
    }

module _ {m : Memory} {src : List ℕ} {stop : ℕ} {lent out rest : List ℕ} {given : Tally}
    (l : Left m src stop lent out rest given) (long : stop ≤ length src) where
  abbrev place : ℕ
  place = left.place_of src rest

  -- what is given so far, and one id more
  pub left-fits : length src ≤ 4294967295 → (given.count + 1 ≤ 18446744073709551615)
      × (given.looked + looked_on m rest ≤ 18446744073709551615)
  left-fits h =
      let w = l.stands in
      let s = looks_few m src stop place (length w.ids) given.looked w.looked in
      (omega (arith, w.count, w.few, w.place), omega (arith, w.few, w.place, s, (looks-short m rest).0))

  -- there is a cell for it
  pub left-room : length src ≤ length lent → 1 ≤ length rest → given.count < length lent
  left-room h some = omega (arith, l.stands.count, l.stands.few, left_few src rest l.bytes)

  pub left_through : length rest ≤ length src - stop → RunsTo m src stop lent out (Through place given)
  left_through h = ends_through l.stands (omega (arith, left_few src rest l.bytes))

  module _ (before : length src - stop < length rest) where
    ahead : place < stop
    ahead = omega (arith, left_few src rest l.bytes)

    pub left-waiting : undecided_on m rest ≡ true → RunsTo m src stop lent out (Waiting place given)
    left-waiting u = ends-waiting l.stands ahead long (ap (undecided_on m) (sym l.bytes) ∙ u)

    module _ (u : undecided_on m rest ≡ false) where
      decided : undecided_on m (drop place src) ≡ false
      decided = ap (undecided_on m) (sym l.bytes) ∙ u

      pub left_stuck : match_on m rest ≡ nothing → RunsTo m src stop lent out (Stuck place given)
      left_stuck e = ends_stuck l.stands ahead long decided (ap (match_on m) (sym l.bytes) ∙ e)

      -- a token's id is written, and the bytes after it are left
      pub left-next : length src ≤ length lent → (id len : ℕ) → match_on m rest ≡ found id len
          → Left m src stop lent (set out given.count id) (drop len rest)
          (record { count = given.count + 1; looked = given.looked + looked_on m rest })
      left-next room id len e =
          let w = match_within m rest id len e in
          let next = stands-next l.stands ahead long room id len decided (ap (match_on m) (sym l.bytes) ∙ e) in
          record {
            bytes = left_on src rest l.bytes len w.1;
            stands =
                subst₂ (λ (s : List ℕ) (i : ℕ). Stands m src stop lent (set out given.count id) i
                (record { count = given.count + 1; looked = given.looked + looked_on m s }))
                (sym l.bytes) (sym (left-place src rest l.bytes len w.1)) next;
          }

-- ── What is given ────────────────────────────────────────────────────

module _ {m : Memory} {src : List ℕ} {stop : ℕ} {lent out : List ℕ} {r : Ran} (w : RunsTo m src stop lent out r) where
  -- a run gives no more ids than bytes passed, and looks at most at 255 bytes for each
  pub few_given : ((given_of r).count ≤ place_of r) × ((given_of r).looked ≤ 255 * (given_of r).count)
  few_given =
      let h = looks_few m src stop (place_of r) (length w.ids) (given_of r).looked w.looked in
      (omega (arith, w.count, w.few), omega (arith, w.count, h))

  -- what it looked at is the sum for its ids, over what looks like the stretch
  pub sum_given : (S : List ℕ) → Alike m src S stop → (given_of r).looked ≡ sum_on m (length w.ids) 0 S
  sum_given S a = sym (summed-are m S (place_of r) (length w.ids) (given_of r).looked (w.looked S a))
