-- What `read` answers, part by part. The head's tests, then each part's answer: where it is a record, the rest of the rule is asked, and
-- where it is a refusal, the rule is broken. Assumes nothing.
use Rattle.std.specs.Prelude.{Option, Result, Ok, Err}
use Rattle.octets.specs.Words.{ℕ, ◌≡◌, Bool, true, false, List, get_or, drop, eqb}
use Rattle.octets.specs.Octets.{octets_at, all_zero}
use Rattle.octets.proofs.Tools.{refl, sym, ap, ◌∙◌}
use Rattle.octets.proofs.OctetsLaws.{zero_number}
use Rattle.octets.proofs.Choices.{and_left, and_right, and-true}
use Rattle.codec.specs.declared.Refusal.{Refusal}
use Rattle.codec.specs.declared.Head.{Head}
use Rattle.codec.specs.Layout.{fields_at}
use Rattle.codec.specs.Codec.{Codec, passes, ok}
use Rattle.codec.specs.Answers.{Builds}
use Rattle.codec.specs.Head.{head_layout, head_numbers}
use Rattle.codec.proofs.AnswerLaws.{refusal_not0}
use Rattle.codec.proofs.CodecLaws.{built-done, built-refused, done_ok, done-value, refused-ok}
use Rattle.authority.specs.declared.current.CurrentFenceToken.{CurrentFenceToken}
use Rattle.authority.specs.declared.mutation.FenceMutationAuthority.{FenceMutationAuthority}
use Rattle.authority.specs.Current.{current_codec}
use Rattle.authority.specs.Mutation.{mutation_codec}
use Rattle.records.specs.declared.cookie_value.FenceCookieValue.{FenceCookieValue}
use Rattle.records.specs.CookieValue.{cookie_value_codec}
use Rattle.inspection.specs.declared.FenceInspection.{FenceInspection}
use Rattle.inspection.specs.Inspected.{flag_listed, part_of}
use Rattle.inspection.specs.Inner.Steps.{part_obeys, part_codec}
use Rattle.inspection.specs.Inspection.{inspection_mark, inspection, front_tests, inspection_codec}
use Rattle.inspection.proofs.PartLaws.{part_fits, taken}
use Rattle.inspection.proofs.InspectionLaws.{from_tail, from_part, from_mutation, from_current, ruled, holds, fails}

-- a part's refusal is the whole's where the part's rule is one of the whole's tests
refused-by : {R S : Type 0} {C : Codec R} {P : Codec S} {vs ws : List ℕ} {r : Result R Refusal} (e : Refusal) → r ≡ Err e → Builds P ws (Err e) →
    (ok P ws ≡ false → ok C vs ≡ false) → Builds C vs r
refused-by e i b h =
    let broken = refused-ok b (refusal_not0 e) in
    rw i (built-refused refl (h broken) (b.number ∙ simp broken, refl))

module _ (s : List ℕ) {head : Head} (got : head_numbers head ≡ fields_at head_layout s 0) {b : Bool} (tested : b ≡ passes front_tests (head_numbers head)) where
  abbrev numbers : List ℕ
  numbers = fields_at inspection_codec.layout s 0

  front : b ≡ passes front_tests numbers
  front = tested ∙ ap (passes front_tests) got

  module _ (right : b ≡ true) where
    rest₁ : ok inspection_codec numbers ≡ from_current numbers
    rest₁ = holds (passes front_tests numbers) (from_current numbers) (ruled numbers) (sym front ∙ right)

    listed : flag_listed (get_or numbers 2 0) ≡ true
    listed = and_left (flag_listed (get_or numbers 2 0)) _ (and_right (eqb (get_or numbers 1 0) 5) _ (and_right (eqb (get_or numbers 0 0) inspection_mark) _ (sym front ∙ right)))

    abbrev entry_numbers : List ℕ
    entry_numbers = fields_at cookie_value_codec.layout s 48

    -- the entry's rule under the flag that was read is the rule's
    entry-fits : ok (part_codec head.byte) entry_numbers ≡ part_fits (get_or numbers 2 0) (drop 10 numbers)
    entry-fits =
        and-true (part_obeys head.byte entry_numbers)
        ∙ ap (λ f. part_obeys f entry_numbers) (ap (λ ns. get_or ns 2 0) got)
        ∙ taken (get_or numbers 2 0) entry_numbers listed

    pub current-refused : {r : Result FenceInspection Refusal} (e : Refusal) → r ≡ Err e → Builds current_codec (fields_at current_codec.layout s 8) (Err e) → Builds inspection_codec numbers r
    current-refused e i p = refused-by e i p (fails (passes current_codec.tests (drop 4 numbers)) (from_mutation numbers) rest₁)

    module _ {c : CurrentFenceToken} (current : Builds current_codec (fields_at current_codec.layout s 8) (Ok c)) where
      rest₂ : ok inspection_codec numbers ≡ from_mutation numbers
      rest₂ = holds (passes current_codec.tests (drop 4 numbers)) (from_mutation numbers) rest₁ (done_ok current refl)

      pub mutation-refused : {r : Result FenceInspection Refusal} (e : Refusal) → r ≡ Err e → Builds mutation_codec (fields_at mutation_codec.layout s 32) (Err e) → Builds inspection_codec numbers r
      mutation-refused e i p = refused-by e i p (fails (passes mutation_codec.tests (drop 8 numbers)) (from_part numbers) rest₂)

      module _ {m : FenceMutationAuthority} (mutation : Builds mutation_codec (fields_at mutation_codec.layout s 32) (Ok m)) where
        rest₃ : ok inspection_codec numbers ≡ from_part numbers
        rest₃ = holds (passes mutation_codec.tests (drop 8 numbers)) (from_part numbers) rest₂ (done_ok mutation refl)

        pub entry-refused : {r : Result FenceInspection Refusal} (e : Refusal) → r ≡ Err e → Builds (part_codec head.byte) entry_numbers (Err e) → Builds inspection_codec numbers r
        entry-refused e i p =
            refused-by e i p (λ h. fails (part_fits (get_or numbers 2 0) (drop 10 numbers)) (from_tail numbers) rest₃ (sym entry-fits ∙ h))

        module _ {e : Option FenceCookieValue} (entry : Builds (part_codec head.byte) entry_numbers (Ok e)) {z : Bool} (zeros : z ≡ all_zero (octets_at s 88 40)) where
          rest₄ : ok inspection_codec numbers ≡ z
          rest₄ =
              holds (part_fits (get_or numbers 2 0) (drop 10 numbers)) (from_tail numbers) rest₃ (sym entry-fits ∙ done_ok entry refl)
              ∙ zero_number (octets_at s 88 40) ∙ sym zeros

          pub tail-refused : z ≡ false → ok inspection_codec numbers ≡ false
          tail-refused h = rest₄ ∙ h

          pub read-done : z ≡ true → Builds inspection_codec numbers (Ok (inspection c m e))
          read-done h =
              built-done refl (rest₄ ∙ h)
              (refl, λ i. inspection (done-value current refl i) (done-value mutation refl i) ((done-value entry refl ∙ ap (λ f. part_of f entry_numbers) (ap (λ ns. get_or ns 2 0) got)) i))
