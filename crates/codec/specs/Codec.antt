-- A codec: what a record's bytes mean. What decoding and encoding give, for any record (document 01, 'Numbers given back'), and the first
-- field at fault (document 02, K6). Assumes nothing.
use Rattle.std.specs.Prelude.{ℕ, ◌+◌, ◌≡◌, Bool, true, false, cond, not, ◌&&◌, ◌||◌, List, [], ◌∷◌, ◌++◌, length, drop, eqb, leb}
use Rattle.codec.specs.Layout.{Field, size, fields_at, laid}

-- A test on the numbers of a record's fields, with the offset in the record of the field that it is about; of two fields that have to
-- agree, that of the later one.
pub record Test : Type 0 where
  pub offset : ℕ
  pub holds : List ℕ → Bool

abbrev pub test : ℕ → (List ℕ → Bool) → Test
test n p = record { offset = n; holds = p }

-- no test fails
abbrev pub passes : List Test → List ℕ → Bool
passes [] vs = true
passes (t ∷ ts) vs = t.holds vs && passes ts vs

-- the tests of a part that stands n octets into a record, after k of its fields
abbrev pub shifted : ℕ → ℕ → List Test → List Test
shifted n k [] = []
shifted n k (t ∷ ts) = test (n + t.offset) (λ vs. t.holds (drop k vs)) ∷ shifted n k ts

-- tests that are asked only where b holds
abbrev pub given : (List ℕ → Bool) → List Test → List Test
given b [] = []
given b (t ∷ ts) = test t.offset (λ vs. not (b vs) || t.holds vs) ∷ given b ts

-- the first field at fault, by its offset, where one is
pub data Fault : Type 0 where
  clean : Fault
  fault_at : ℕ → Fault

abbrev pub is_clean : Fault → Bool
is_clean clean = true
is_clean (fault_at n) = false

abbrev pub first_fault : List Test → List ℕ → Fault
first_fault [] vs = clean
first_fault (t ∷ ts) vs = cond (t.holds vs) (first_fault ts vs) (fault_at t.offset)

pub record Codec (R : Type 0) : Type 0 where
  -- the fields, in their order
  pub layout : List Field
  -- the rule on the fields' numbers, in the order of the offsets
  pub tests : List Test
  -- the record that accepted numbers stand for, and the numbers of a record
  pub of : List ℕ → R
  pub fields : R → List ℕ
  -- the all-zero record, which stands in every refusal
  pub blank : R

-- a codec whose rule asks b besides: that of a constructor which refuses more than the rule on the fields does
abbrev pub asking : {R : Type 0} → Bool → Codec R → Codec R
asking b C = record { layout = C.layout; tests = test 0 (λ vs. b) ∷ C.tests; of = C.of; fields = C.fields; blank = C.blank }

-- What is answered where something of a length has to have room, by the number of an earlier refusal (0: there is none): that refusal,
-- else 4 where there is too little room, else 0.
unfoldable pub room_answer : ℕ → ℕ → ℕ → ℕ
room_answer earlier len room = cond (eqb earlier 0) (cond (leb len room) 0 4) earlier

-- of a record to be encoded: 3 where it is unsound
abbrev pub unsound_number : Bool → ℕ
unsound_number sound = cond sound 0 3

-- what an output holds then: under 0 the bytes b at the start and the rest as it was; under a refusal all as it was
unfoldable pub written : ℕ → List ℕ → List ℕ → List ℕ
written n b out = cond (eqb n 0) (b ++ drop (length b) out) out

module _ {R : Type 0} (C : Codec R) where
  -- the rule holds of the fields' numbers
  abbrev pub ok : List ℕ → Bool
  ok vs = passes C.tests vs

  -- of the fields' numbers, as a constructor has them: 0 done, or 2 and the all-zero record
  abbrev pub fields_number : List ℕ → ℕ
  fields_number vs = cond (ok vs) 0 2

  abbrev pub fields_value : List ℕ → R
  fields_value vs = cond (ok vs) (C.of vs) C.blank

  -- of bytes: 1 where the length is not the record's, else as of the fields' numbers
  unfoldable pub decode_number : List ℕ → ℕ
  decode_number s = cond (eqb (length s) (size C.layout)) (fields_number (fields_at C.layout s 0)) 1

  unfoldable pub decode_value : List ℕ → R
  decode_value s = cond (eqb (length s) (size C.layout)) (fields_value (fields_at C.layout s 0)) C.blank

  -- the first field at fault of bytes: "a wrong length gives 0, before all"
  unfoldable pub fault_of : List ℕ → Fault
  fault_of s = cond (eqb (length s) (size C.layout)) (first_fault C.tests (fields_at C.layout s 0)) (fault_at 0)

  -- a record is sound where its numbers obey the rule
  abbrev pub sound : R → Bool
  sound v = ok (C.fields v)

  -- a record's bytes
  abbrev pub bytes : R → List ℕ
  bytes v = laid C.layout (C.fields v)

  -- of a record and an output: 3 unsound, 4 too little room, 0 done
  abbrev pub encode_number : R → List ℕ → ℕ
  encode_number v out = room_answer (unsound_number (sound v)) (size C.layout) (length out)

  -- What a contract says of a call, in one form for every record. Of a constructor, with the fields' numbers vs:
  pub record Built (vs : List ℕ) (n : ℕ) (v : R) : Type 0 where
    pub number : n ≡ fields_number vs
    pub value : v ≡ fields_value vs

  -- of a constructor, with the record w that its arguments are the parts of: w itself, where it is sound
  pub record Made (w : R) (n : ℕ) (v : R) : Type 0 where
    pub number : n ≡ cond (sound w) 0 2
    pub value : v ≡ cond (sound w) w C.blank

  -- of a decoder, on the bytes s:
  pub record Decoded (s : List ℕ) (n : ℕ) (v : R) : Type 0 where
    pub number : n ≡ decode_number s
    pub value : v ≡ decode_value s

  -- of an encoder, whose output held out and holds out' then:
  pub record Encoded (v : R) (out : List ℕ) (n : ℕ) (out' : List ℕ) : Type 0 where
    pub number : n ≡ encode_number v out
    pub output : out' ≡ written (encode_number v out) (bytes v) out
