-- Demand 3 of the calls as their contracts have them, lent their stream and by value. Assumes nothing.
use mathlib.Core.Path.{◌≡◌, sym, ◌∙◌, ap, subst}
use mathlib.Core.List.{List, [], ◌∷◌, map}
use lib.ListN.{get_or}
use Rattle.spec.specs.Token.{Token}
use Rattle.spec.specs.Memory.{Memory, Loaded}
use Rattle.spec.specs.Stream.{StreamRecord, Call, Called, call_on}
use Rattle.spec.specs.Plain.{start, Reply, Follows, reply_to, replies_on}
use Rattle.stream_record.specs.declared.Stream.{Stream}
use Rattle.stream_record.specs.Answers.{record_of}
use Rattle.demands.proofs.Demand3.{demand3, replies_nil, replies_cons}
use Rattle.demands.specs.DemandTheorems.{Made, Plainly, Seen, answer_in, reply_of, Lent, Demand3Lent, Given, reply_given, ByValue}
use Rattle.demands.specs.DemandTheorems.{Demand3ByValue}

-- where a contract says that what is seen is the reply of the definition, all that is seen of a list of calls is so
module _ {G : Type 0} (left : G → Stream) (Says : Called → Call → G → Type 0) (reply : G → Reply)
    (tells : (d : Called) (c : Call) (g : G) → Says d c g → reply g ≡ reply_to c d)
    (leaves : (d : Called) (c : Call) (g : G) → Says d c g → record_of (left g) ≡ d.stream) where
  replies-seen : (m : Memory) (s : Stream) (cs : List Call) (gs : List G) → Made left Says m s cs gs
      → map reply gs ≡ replies_on m (record_of s) cs
  replies-seen m s [] [] l = sym (replies_nil m (record_of s))
  replies-seen m s [] (g ∷ gs) l = absurd l
  replies-seen m s (c ∷ cs) [] l = absurd l
  replies-seen m s (c ∷ cs) (g ∷ gs) (l, ls) =
      let d = call_on m (record_of s) c in
      let rest = replies-seen m (left g) cs gs ls ∙ ap (λ (r : StreamRecord). replies_on m r cs) (leaves d c g l) in
      (λ i. tells d c g l i ∷ rest i) ∙ sym (replies_cons m (record_of s) c cs)

  plainly : (m : Memory) (ts : List Token) → Loaded m ts → Plainly reply (Made left Says m) ts
  plainly m ts loaded s new cs bytes gs calls =
      let (q, f) = demand3 m ts loaded cs bytes in
      let e = replies-seen m s cs gs calls ∙ ap (λ (r : StreamRecord). replies_on m r cs) new in
      (q, subst (λ (rs : List Reply). Follows ts start cs rs q) (sym e) f)

pub demand3-lent : Demand3Lent
demand3-lent =
    plainly (λ (g : Seen). g.stream) Lent reply_of
    (λ d c g l. λ i. record {
      answer = answer_in (l.number i) (l.values i);
      out = l.cells i;
      stream = l.stream i;
      looked = get_or (l.values i) 3 0;
    })
    (λ d c g l. l.stream)

pub demand3-by_value : Demand3ByValue
demand3-by_value =
    plainly (λ (g : Given). g.called.stream) ByValue reply_given
    (λ d c g l. λ i. record { answer = l.answer i; out = l.cells i; stream = l.stream i; looked = l.looked i })
    (λ d c g l. l.stream)
