-- What the answers of a record's functions tell: document 01's number, and the record, the all-zero one with every refusal (document 01,
-- 'Numbers given back'). Assumes nothing.
use Rattle.std.specs.Prelude.{ℕ, List, Result, Ok, Err}
use Rattle.codec.specs.declared.Refusal.{Refusal}
use Rattle.codec.specs.declared.Refusal.TheVariants.{WrongLength, BrokenRule, UnsoundRecord, NoRoom}
use Rattle.codec.specs.Codec.{Codec, Built, Made, Decoded, Encoded}

-- the number of a refusal
abbrev pub refusal_number : Refusal → ℕ
refusal_number WrongLength = 1
refusal_number BrokenRule = 2
refusal_number UnsoundRecord = 3
refusal_number NoRoom = 4

-- of an answer: 0 where it is done
abbrev pub number_told : {A : Type 0} → Result A Refusal → ℕ
number_told (Ok v) = 0
number_told (Err e) = refusal_number e

module _ {R : Type 0} (C : Codec R) where
  -- the record of an answer
  abbrev pub record_told : Result R Refusal → R
  record_told (Ok v) = v
  record_told (Err e) = C.blank

  -- What a contract says of a call, by what its answer tells. Of a constructor, with the fields' numbers vs, and with the record w:
  abbrev pub Builds : List ℕ → Result R Refusal → Type 0
  Builds vs r = Built C vs (number_told r) (record_told r)

  abbrev pub Makes : R → Result R Refusal → Type 0
  Makes w r = Made C w (number_told r) (record_told r)

  -- of a decoder, on the bytes s:
  abbrev pub Decodes : List ℕ → Result R Refusal → Type 0
  Decodes s r = Decoded C s (number_told r) (record_told r)

  -- of an encoder, whose output held out and holds out' then:
  abbrev pub Encodes : R → List ℕ → Result (Unit {0}) Refusal → List ℕ → Type 0
  Encodes v out r out' = Encoded C v out (number_told r) out'
