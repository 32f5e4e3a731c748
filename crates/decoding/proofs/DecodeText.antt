-- Text decoding follows from decoding to bytes. Assumes nothing.
use mathlib.Core.Path.{◌≡◌, refl, ap, sym, ◌∙◌}
use mathlib.Core.Bool.{Bool, true, false}
use Rattle.std.specs.Prelude.{None, Some}
use mathlib.Core.List.{List}
use Prim.Native.Nat.{ℕ, zero, suc, ◌≤◌}
use native.Mathlib.Omega.{arith}
use lib.ListN.{length, take, length-append}
use lib.Seq.{take-append_seam}
use Rattle.spec.specs.Utf8.{first_bad}
use Rattle.spec.specs.Answer.{Answer, whole}
use Rattle.spec.specs.Memory.{Memory, too_short}
use Rattle.spec.specs.Encode.{Output, refused}
use Rattle.spec.specs.Decode.{DecodeEnd, complete, absent, full, decoding, decode_output, decode_on}
use Rattle.spec.specs.Decode.{text_answer, text_output, decode_text_on}
use Rattle.std.specs.Prelude.{Ok, Err}
use Rattle.decoding.specs.declared.DecodeError.{DecodeError}
use Rattle.decoding.specs.declared.DecodeError.TheVariants.{ShortMemory, Absent, Full, NotUtf8}
use Rattle.decoding.specs.Answers.{answer_of, Answered}
use Rattle.decoding.proofs.DecodePasses.{on_short, on_enough}

-- what text decoding makes of an output of decoding to bytes
abbrev pub text_of : ℕ → Output → Output
text_of zero o = record { answer = text_answer o.cells (first_bad o.cells); cells = o.cells }
text_of (suc k) o = o

text_of_other : (k : ℕ) (o : Output) → (k ≡ 0 → ⊥) → text_of k o ≡ o
text_of_other zero o h = absurd (h refl)
text_of_other (suc k) o h = refl

text_output_lem : (bs : List ℕ) (e : DecodeEnd) → text_output (record { bytes = bs; end = e }) e
    ≡ text_of (decode_output (record { bytes = bs; end = e })).answer.number (decode_output (record { bytes = bs; end = e }))
unfolding text_output
text_output_lem bs complete = refl
text_output_lem bs (absent k i) = refl
text_output_lem bs (full k) = refl

text_short : (m : Memory) (n : ℕ) (ids : List ℕ) → too_short m ≡ true → decode_text_on m n ids ≡ refused 1
unfolding decode_text_on
text_short m n ids e = rw (e, decode_text_on)

text_enough : (m : Memory) (n : ℕ) (ids : List ℕ) → too_short m ≡ false
    → decode_text_on m n ids ≡ text_output (decoding m n ids) (decoding m n ids).end
unfolding decode_text_on
text_enough m n ids e = rw (e, decode_text_on)

output_count : (bs : List ℕ) (e : DecodeEnd) → (decode_output (record { bytes = bs; end = e })).answer.count ≡ length bs
output_count bs complete = refl
output_count bs (absent k i) = refl
output_count bs (full k) = refl

-- a refusal has a number
refused_number : (e : DecodeError) → (answer_of (Err e)).number ≡ 0 → ⊥
refused_number ShortMemory h = omega arith
refused_number (Absent len index id) h = omega arith
refused_number (Full len index) h = omega arith
refused_number (NotUtf8 len offset) h = omega arith

module _ (m : Memory) (n : ℕ) (ids : List ℕ) where
  pub text-on : decode_text_on m n ids ≡ text_of (decode_on m n ids).answer.number (decode_on m n ids)
  text-on = go (too_short m) refl
    where
      go : (c : Bool) → too_short m ≡ c → decode_text_on m n ids ≡ text_of (decode_on m n ids).answer.number (decode_on m n ids)
      go true e = rw (on_short m n ids e) (text_short m n ids e)
      go false e = rw (on_enough m n ids e) (text_enough m n ids e ∙ text_output_lem (decoding m n ids).bytes (decoding m n ids).end)

  -- the count is the number of cells
  pub on-count : (decode_on m n ids).answer.count ≡ length (decode_on m n ids).cells
  on-count = go (too_short m) refl
    where
      go : (c : Bool) → too_short m ≡ c → (decode_on m n ids).answer.count ≡ length (decode_on m n ids).cells
      go true e = rw (on_short m n ids e)
      go false e = rw (on_enough m n ids e) (output_count (decoding m n ids).bytes (decoding m n ids).end)

  module _ (before after : List ℕ) (same : length after ≡ length before) where
    module _ (len : ℕ) (d : Answered (decode_on m n ids) (Ok len) before after) where
      whole-count : length (decode_on m n ids).cells ≡ len
      whole-count = sym on-count ∙ ap (λ (a : Answer). a.count) (sym d.answer)

      -- the bytes that stand are inside the output
      pub whole-inside : len ≤ length after
      whole-inside = let e = simp length-append at (ap length d.cells) in omega (arith, whole-count, e)

      -- and are those that were decoded
      pub whole_part : take len after ≡ (decode_on m n ids).cells
      whole_part = rw (d.cells, ← whole-count) (take-append_seam (decode_on m n ids).cells _)

      number : (decode_on m n ids).answer.number ≡ 0
      number = ap (λ (a : Answer). a.number) (sym d.answer)

      text : decode_text_on m n ids ≡ text_of 0 (decode_on m n ids)
      text = text-on ∙ ap (λ (k : ℕ). text_of k (decode_on m n ids)) number

      pub text-good : first_bad (take len after) ≡ None → Answered (decode_text_on m n ids) (Ok len) before after
      text-good h =
          rw text
          (record {
            answer =
                ap whole (sym whole-count) ∙ ap (text_answer (decode_on m n ids).cells) (sym (ap first_bad (sym whole_part) ∙ h));
            cells = d.cells;
          })

      pub text-bad : (k : ℕ) → first_bad (take len after) ≡ Some k → Answered (decode_text_on m n ids) (Err (NotUtf8 len k)) before after
      text-bad k h =
          rw text
          (record {
            answer =
                ap (λ (c : ℕ). record { number = 29; count = c; place = k; value = 0 }) (sym whole-count)
                ∙ ap (text_answer (decode_on m n ids).cells) (sym (ap first_bad (sym whole_part) ∙ h));
            cells = d.cells;
          })

    -- any refusal stands
    pub text-other : (e : DecodeError) → Answered (decode_on m n ids) (Err e) before after
        → Answered (decode_text_on m n ids) (Err e) before after
    text-other e d =
        rw (text-on ∙ text_of_other _ (decode_on m n ids) (λ z. refused_number e (ap (λ (a : Answer). a.number) d.answer ∙ z))) d
