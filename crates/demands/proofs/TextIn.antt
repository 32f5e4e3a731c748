-- Text in, ids out: what loaded memory gives is what its tokens say, and an accepted text leaves loaded memory. Assumes nothing.
use mathlib.Core.Path.{◌≡◌, refl, sym, ap, ap₂, ◌∙◌, subst}
use mathlib.Core.Bool.{Bool, true, false}
use Rattle.std.specs.Prelude.{None}
use mathlib.Core.List.{List, [], ◌∷◌, ◌++◌}
use Prim.Native.Nat.{ℕ, suc, ◌≤◌}
use native.Mathlib.Omega.{arith}
use lib.ListN.{length}
use borrow.Author.Tests.{le-leb}
use Rattle.spec.specs.Lists.{all, each}
use Rattle.spec.specs.Answer.{whole}
use Rattle.spec.specs.Utf8.{lossy}
use Rattle.spec.specs.Token.{Token, joined, present}
use Rattle.spec.specs.Scan.{scan}
use Rattle.spec.specs.Memory.{Memory, too_short, Loaded}
use Rattle.spec.specs.Encode.{Encoding, encoding, encode_answer, Output, usable, encode_on, encode_looked}
use Rattle.spec.specs.Decode.{lookup, Decoding, decoding, decode_output, decode_on, text_output, decode_text_on, first_absent}
use Rattle.spec.specs.Decode.{lossy_output}
use Rattle.spec.specs.Decode.{decode_lossy_on}
use Rattle.spec.specs.Load.{table_room, Form, load, LoadResult, load_on}
use Rattle.running.specs.ScanLaws.{ids_present, round_trip}
use Rattle.laws.specs.Tests.{and_l, and_r}
use Rattle.laws.specs.Spans.{looking, present-bytes}
use Rattle.laws.specs.Matching.{matching}
use Rattle.laws.specs.Looking.{looks, looks-sum}
use Rattle.laws.specs.Encoding.{encoding-is_scan, encoding-is_cut}
use Rattle.laws.specs.Decoding.{decoding-joins, decoding-stops, decoding-fills}
use Rattle.loading.specs.Accepted.{full-is_full}
use Rattle.loading.specs.Left.{loads_accepted, loads_loaded}
use Rattle.demands.proofs.Room.{loaded-long}
use Rattle.demands.proofs.Demand3.{demand3}
use Rattle.demands.specs.DemandTheorems.{Gives, TextInIdsOut, TextAccepted}
use Rattle.demands.proofs.LentCalls.{demand3-lent, demand3-by_value}

room-table : (table used bases : ℕ) → table_room table used bases ≤ table
unfolding table_room
room-table table used bases = omega arith

-- on memory that is long enough, an entry answers by its definition without number 1
module _ (m : Memory) (long : too_short m ≡ false) (n : ℕ) where
  encode-on : (s : List ℕ) (e : Encoding) → encoding m (usable n) s ≡ e
      → encode_on m n s ≡ record { answer = encode_answer (length e.ids) e.end; cells = e.ids }
  unfolding encode_on
  encode-on s e q = rw (long, encode_on) (ap (λ (x : Encoding). encode_output x) q)
    where
      encode_output : Encoding → Output
      encode_output x = record { answer = encode_answer (length x.ids) x.end; cells = x.ids }

  decode-on : (ids : List ℕ) (d : Decoding) → decoding m n ids ≡ d → decode_on m n ids ≡ decode_output d
  unfolding decode_on
  decode-on ids d q = rw (long, decode_on) (ap decode_output q)

  text-on : (ids : List ℕ) (d : Decoding) → decoding m n ids ≡ d → decode_text_on m n ids ≡ text_output d d.end
  unfolding decode_text_on
  text-on ids d q = rw (long, decode_text_on) (ap (λ (x : Decoding). text_output x x.end) q)

  lossy-on : (ids : List ℕ) → first_absent m 0 ids ≡ None → length (lossy (each (lookup m) ids)) ≤ n
      → decode_lossy_on m n ids
      ≡ record { answer = whole (length (lossy (each (lookup m) ids))); cells = lossy (each (lookup m) ids) }
  unfolding decode_lossy_on lossy_output
  lossy-on ids a h = rw (long, decode_lossy_on) (rw (a, lossy_output) (rw (le-leb (length (lossy (each (lookup m) ids))) n h)))

-- no id is absent, and the bytes found are the tokens'
module _ {m : Memory} {ts : List Token} (L : Loaded m ts) where
  none-absent : (ids : List ℕ) (index : ℕ) → all (present ts) ids ≡ true → first_absent m index ids ≡ None
  unfolding first_absent all
  none-absent [] index p = refl
  none-absent (i ∷ ids) index p =
      go (lookup m i) refl
      (let h = present-bytes ts L.valid i (and_l (present ts i) (all (present ts) ids) p) in
      subst (λ (bs : List ℕ). 1 ≤ length bs) (sym (looking m ts L i)) h)
      (none-absent ids (suc index) (and_r (present ts i) (all (present ts) ids) p))
    where
      go : (bs : List ℕ) → lookup m i ≡ bs → 1 ≤ length (lookup m i) → first_absent m (suc index) ids ≡ None
          → first_absent m index (i ∷ ids) ≡ None
      go [] e h r = absurd (let k = ap length e in omega arith)
      go (b ∷ bs) e h r = rw (e, first_absent) r

  looked-up : (ids : List ℕ) → each (lookup m) ids ≡ joined ts ids
  unfolding each joined
  looked-up [] = refl
  looked-up (i ∷ ids) = ap₂ (λ (x y : List ℕ). x ++ y) (looking m ts L i) (looked-up ids)

-- loaded memory gives what its tokens say
pub loaded-gives : (m : Memory) (ts : List Token) → Loaded m ts → Gives ts m
loaded-gives m ts L =
    let l = loaded-long m ts L in record {
      matches = matching m ts L;
      looks = looks m ts L;
      encodes = λ s h n k. encode-on m l n s _ (encoding-is_scan m ts L s h (usable n) k);
      cuts = λ s h n k. encode-on m l n s _ (encoding-is_cut m ts L s h (usable n) k);
      totals = λ s h n. unfold encode_looked in looks-sum m ts L s h (length (encode_on m n s).cells);
      decodes = λ ids p n k. decode-on m l n ids _ (decoding-joins m ts L ids p n k);
      stops = λ ids p i rest a n k. decode-on m l n (ids ++ i ∷ rest) _ (decoding-stops m ts L ids p i rest a n k);
      fills = λ ids p i rest a n k f. decode-on m l n (ids ++ i ∷ rest) _ (decoding-fills m ts L ids p i rest a n k f);
      texts = λ ids p n k. text-on m l n ids _ (decoding-joins m ts L ids p n k) ∙ (unfold text_output in refl);
      loses = λ ids p n k.
          subst (λ (bs : List ℕ). length (lossy bs) ≤ n → decode_lossy_on m n ids ≡ record {
            answer = whole (length (lossy bs));
            cells =
                lossy bs;
          })
          (looked-up L ids) (lossy-on m l n ids (none-absent L ids 0 p)) k;
      returns = λ s e n k. back l s (round_trip ts L.valid s e) n k;
      streams = demand3 m ts L;
      lent = demand3-lent m ts L;
      by_value = demand3-by_value m ts L;
    }
  where
    back : too_short m ≡ false → (s : List ℕ) → joined ts (scan ts s).ids ≡ s → (n : ℕ) → length s ≤ n
        → decode_on m n (scan ts s).ids ≡ record { answer = whole (length s); cells = s }
    back l s j n k =
        let room : length (joined ts (scan ts s).ids) ≤ n = subst (λ (x : List ℕ). length x ≤ n) (sym j) k in
        decode-on m l n (scan ts s).ids _ (decoding-joins m ts L (scan ts s).ids (ids_present ts L.valid s) n room)
        ∙ ap (λ (x : List ℕ). record { answer = whole (length x); cells = x }) j

module _ (form : Form) (partial : Bool) (nodes used bases : ℕ) (m : Memory) (s : List ℕ) (r : LoadResult) where
  abbrev table : ℕ
  table = table_room (length m.table) used bases

  pub text_in-ids-out : TextInIdsOut form partial nodes used bases m s r
  text_in-ids-out h L e =
      let zero : (load_on form partial nodes table m s).answer.number ≡ 0 = ap (λ (x : LoadResult). x.answer.number) (sym L) ∙ e in
      let (mode, body, ts, starts, a, M) = loads_loaded form partial nodes table m s h (room-table (length m.table) used bases) zero in
      let q = L ∙ loads_accepted form partial nodes table m s mode body starts ts a in (
        mode,
        ts,
        record {
          states = record { body = body; starts = starts; tokens = a };
          counts = ap (λ (x : LoadResult). x.answer.counts) q;
          valid = M.valid;
          gives = loaded-gives r.memory ts (subst (λ (x : LoadResult). Loaded x.memory ts) (sym L) M);
          full = λ f. full-is_full form _ body ts (ap (λ (b : Bool). load form b (record {
            nodes = nodes;
            blob = length m.blob;
            table = table;
          }) body) (sym f) ∙ a);
        },
      )

  pub text-accepted : TextAccepted form partial nodes used bases m s r
  text-accepted L mode ts S = L ∙ loads_accepted form partial nodes table m s mode S.body S.starts ts S.tokens
