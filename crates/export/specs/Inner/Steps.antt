-- What the functions inside a view are held to: an image and a layout stored field by field, and the parts of an inspection.
-- Assumes nothing.
use Rattle.std.specs.Prelude.{ℕ, ◌≡◌, Bool, true, false, cond, ◌&&◌, List, [], ◌∷◌, ◌++◌, eqb, Option, Some, None}
use Rattle.octets.specs.Octets.{all_zero, put}
use Rattle.codec.specs.Layout.{fields_at}
use Rattle.codec.specs.Inner.Stores.{puts}
use Rattle.codec.specs.Codec.{ok, decode_number, decode_value}
use Rattle.export.specs.View.{View, pick, spread, wide, fitting, image, numbers}
use Rattle.codec.specs.Head.{head_fields}
use Rattle.authority.specs.Current.{current_numbers}
use Rattle.authority.specs.Mutation.{mutation_codec}
use Rattle.records.specs.CookieValue.{cookie_value_numbers}
use Rattle.inspection.specs.Inspection.{inspection_mark}
use Rattle.export.specs.declared.inspection_view.InspectionFields.{InspectionFields}

-- d with the own numbers of the bytes s as an image at the start
abbrev pub shown : {R : Type 0} → View R → List ℕ → List ℕ → List ℕ
shown W s d = puts (wide W.slots) (pick W.slots (fields_at W.codec.layout s 0)) d 0

-- d with the numbers that an image f gives, as the record's layout has them
abbrev pub stored : {R : Type 0} → View R → List ℕ → List ℕ → List ℕ
stored W f d = puts W.codec.layout (numbers W f) d 0

-- the numbers of an inspection's layout, by the flag and those of its parts
abbrev pub inspection_numbers : InspectionFields → List ℕ
inspection_numbers f =
    head_fields inspection_mark 5 f.flag ++ (current_numbers f.current ++ (mutation_codec.fields f.mutation ++ (cookie_value_numbers f.value ++ (0 ∷ []))))

-- Of the numbers that an image f gives: they fit their fields, and x has them, or one does not fit.
abbrev pub Given : {R X : Type 0} → View R → (X → List ℕ) → List ℕ → Option X → Type 0
Given W told f None = fitting W.codec.layout (numbers W f) ≡ false
Given W told f (Some x) = (fitting W.codec.layout (numbers W f) ≡ true) × (told x ≡ numbers W f)

-- of accepted bytes s: their record's image stands at the start of what held d and holds d' then
abbrev pub Shows : {R : Type 0} → View R → List ℕ → List ℕ → List ℕ → Type 0
Shows W s d d' = decode_number W.codec s ≡ 0 → d' ≡ put d 0 (image W (decode_value W.codec s))
