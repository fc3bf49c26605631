-- Document 01, 'Record layouts': the inner entry of an inspection, a "flag 0 or 1" and a "Cookie value at 48, all zero with flag 0".
-- Assumes nothing.
use Rattle.std.specs.Prelude.{ℕ, Bool, true, cond, ◌||◌, List, [], ◌∷◌, eqb, Option, None, Some}
use Rattle.codec.specs.Codec.{sound}
use Rattle.records.specs.declared.cookie_value.FenceCookieValue.{FenceCookieValue}
use Rattle.records.specs.CookieValue.{cookie_value_codec, CookieValueFormed}

-- "flag 0 or 1"
abbrev pub flag_listed : ℕ → Bool
flag_listed flag = eqb flag 0 || eqb flag 1

-- the flag of the inner entry, and its six numbers: all zero where there is none
abbrev pub present_flag : Option FenceCookieValue → ℕ
present_flag None = 0
present_flag (Some v) = 1

abbrev pub part_fields : Option FenceCookieValue → List ℕ
part_fields None = 0 ∷ 0 ∷ 0 ∷ 0 ∷ 0 ∷ 0 ∷ []
part_fields (Some v) = cookie_value_codec.fields v

-- the inner entry by its numbers
abbrev pub part_numbers : Option FenceCookieValue → List ℕ
part_numbers e = present_flag e ∷ part_fields e

-- the inner entry that a flag and accepted numbers stand for
abbrev pub part_of : ℕ → List ℕ → Option FenceCookieValue
part_of flag vs = cond (eqb flag 0) None (Some (cookie_value_codec.of vs))

-- an inner entry is sound where there is none, or its cookie value is
abbrev pub sound_part : Option FenceCookieValue → Bool
sound_part None = true
sound_part (Some v) = sound cookie_value_codec v

-- a value of its type
abbrev pub PartFormed : Option FenceCookieValue → Type 0
PartFormed None = Unit {0}
PartFormed (Some v) = CookieValueFormed v
