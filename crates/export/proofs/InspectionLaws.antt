-- The numbers of an inspection obey its rule where the flag is listed, those of the current record and of the mutation authority obey theirs, and
-- those in the place of the entry are zero with flag 0, or obey the cookie value's with flag 1 (`ruled` of `inspection`). Assumes nothing.
use Rattle.octets.specs.Words.{ℕ, ◌≡◌, Bool, true, false, ◌&&◌, ◌<◌, List, eqb}
use Rattle.octets.proofs.Tools.{refl, sym, ap, ◌∙◌, arith, eq-eqb, ne_eqb}
use mathlib.Core.Bool.{and-true}
use Rattle.octets.specs.Octets.{all_zero}
use Rattle.codec.specs.Codec.{ok}
use Rattle.authority.specs.Current.{current_codec, current_numbers}
use Rattle.authority.specs.Mutation.{mutation_codec}
use Rattle.records.specs.CookieValue.{cookie_value_codec, cookie_value_numbers}
use Rattle.inspection.specs.Inspection.{inspection_codec}
use Rattle.inspection.proofs.InspectionLaws.{ruled}
use Rattle.export.specs.declared.inspection_view.InspectionFields.{InspectionFields}
use Rattle.export.specs.Inner.Steps.{inspection_numbers}

-- two parts, and the third after them
together : (c m e : Bool) → (c && (m && (e && true))) ≡ ((c && m) && e)
together true true e = and-true e
together true false e = refl
together false m e = refl

module _ (f : InspectionFields) where
  abbrev pub parts : Bool
  parts = ok current_codec (current_numbers f.current) && ok mutation_codec (mutation_codec.fields f.mutation)

  pub without_entry : f.flag ≡ 0 → ok inspection_codec (inspection_numbers f) ≡ (parts && all_zero (cookie_value_numbers f.value))
  without_entry e =
      ruled (inspection_numbers f) ∙ rw (e, and-true (all_zero (cookie_value_numbers f.value)))
      (together (ok current_codec (current_numbers f.current)) (ok mutation_codec (mutation_codec.fields f.mutation)) (all_zero (cookie_value_numbers f.value)))

  pub with_entry : f.flag ≡ 1 → ok inspection_codec (inspection_numbers f) ≡ (parts && ok cookie_value_codec (cookie_value_numbers f.value))
  with_entry e =
      ruled (inspection_numbers f) ∙ rw e
      (together (ok current_codec (current_numbers f.current)) (ok mutation_codec (mutation_codec.fields f.mutation)) (ok cookie_value_codec (cookie_value_numbers f.value)))

  pub unlisted : (f.flag ≡ 0 → ⊥) → (f.flag ≡ 1 → ⊥) → ok inspection_codec (inspection_numbers f) ≡ false
  unlisted n m = ruled (inspection_numbers f) ∙ rw (ne_eqb _ _ n, ne_eqb _ _ m)
