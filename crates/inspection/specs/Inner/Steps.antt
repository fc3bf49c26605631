-- What the reader of an inner entry is held to, under a flag: the codec of six numbers that are zero under 0, and else a cookie value's.
-- Assumes nothing.
use Rattle.std.specs.Prelude.{ℕ, Bool, cond, List, [], ◌∷◌, take, eqb, Option, None}
use Rattle.octets.specs.Octets.{all_zero}
use Rattle.codec.specs.Codec.{test, Codec, ok}
use Rattle.records.specs.declared.cookie_value.FenceCookieValue.{FenceCookieValue}
use Rattle.records.specs.CookieValue.{cookie_value_codec}
use Rattle.inspection.specs.Inspected.{part_fields, part_of}

abbrev pub part_obeys : ℕ → List ℕ → Bool
part_obeys flag vs = cond (eqb flag 0) (all_zero (take 6 vs)) (ok cookie_value_codec vs)

abbrev pub part_codec : ℕ → Codec (Option FenceCookieValue)
part_codec flag = record {
  layout = cookie_value_codec.layout;
  tests = test 0 (part_obeys flag) ∷ [];
  of = part_of flag;
  fields = part_fields;
  blank = None;
}
