-- Document 01, 'Record layouts': "Inspection, 128: "OEI1"; version 5; flag 0 or 1; 0; Current at 8; Mutation at 32; Cookie value at
-- 48, all zero with flag 0; 88 to 127 zero." Assumes nothing.
use Rattle.std.specs.Prelude.{ℕ, List, [], ◌∷◌, ◌++◌, get_or, take, drop, eqb, Option, None}
use Rattle.octets.specs.Octets.{all_zero}
use Rattle.codec.specs.Layout.{Field, little}
use Rattle.codec.specs.Codec.{Test, test, shifted, given, Codec}
use Rattle.codec.specs.Head.{head_layout, head_fields, head_tests}
use Rattle.authority.specs.declared.current.CurrentFenceToken.{CurrentFenceToken}
use Rattle.authority.specs.declared.mutation.FenceMutationAuthority.{FenceMutationAuthority}
use Rattle.authority.specs.Current.{current_codec, CurrentFormed}
use Rattle.authority.specs.Mutation.{mutation_codec, MutationFormed}
use Rattle.records.specs.declared.cookie_value.FenceCookieValue.{FenceCookieValue}
use Rattle.records.specs.CookieValue.{cookie_value_codec}
use Rattle.inspection.specs.declared.FenceInspection.{FenceInspection}
use Rattle.inspection.specs.Inspected.{flag_listed, present_flag, part_fields, part_of, PartFormed}

-- "OEI1": 4f 45 49 31
abbrev pub inspection_mark : ℕ
inspection_mark = 0x4f45_4931

abbrev pub inspection : CurrentFenceToken → FenceMutationAuthority → Option FenceCookieValue → FenceInspection
inspection c m e = record { current = c; mutation = m; entry = e }

-- mark, version 5, flag and zero
abbrev pub front_tests : List Test
front_tests = head_tests inspection_mark (λ version. eqb version 5) flag_listed

-- with flag 0 zeros at 48; with flag 1 a cookie value there, after ten fields
abbrev pub part_tests : List Test
part_tests =
    given (λ vs. eqb (get_or vs 2 0) 0) (test 48 (λ vs. all_zero (take 6 (drop 10 vs))) ∷ []) ++
    given (λ vs. eqb (get_or vs 2 0) 1) (shifted 48 10 cookie_value_codec.tests)

-- the forty octets at the end
abbrev pub tail_layout : List Field
tail_layout = little 40 ∷ []

abbrev pub inspection_codec : Codec FenceInspection
inspection_codec = record {
  layout = head_layout ++ (current_codec.layout ++ (mutation_codec.layout ++ (cookie_value_codec.layout ++ tail_layout)));
  tests =
      front_tests ++
      (shifted 8 4 current_codec.tests ++ (shifted 32 8 mutation_codec.tests ++ (part_tests ++ (test 88 (λ vs. eqb (get_or vs 16 0) 0) ∷ []))));
  of = λ vs. inspection (current_codec.of (drop 4 vs)) (mutation_codec.of (drop 8 vs)) (part_of (get_or vs 2 0) (drop 10 vs));
  fields = λ v.
      head_fields inspection_mark 5 (present_flag v.entry) ++
      (current_codec.fields v.current ++ (mutation_codec.fields v.mutation ++ (part_fields v.entry ++ (0 ∷ []))));
  blank = inspection current_codec.blank mutation_codec.blank None;
}

-- a value of its type
abbrev pub InspectionFormed : FenceInspection → Type 0
InspectionFormed v = CurrentFormed v.current × MutationFormed v.mutation × PartFormed v.entry
