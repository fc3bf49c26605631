-- What is promised of every record's functions, from their contracts alone (demand 2). `Formed v` says that v is a value of its type: each
-- number within its width, each array of its length, which the language guarantees of every value that code can hold. Assumes nothing.
use Rattle.std.specs.Prelude.{ℕ, ◌≤◌, ◌≡◌, Bool, true, false, ◌&&◌, List, [], ◌∷◌, ◌++◌, length, take, drop, eqb, leb}
use Rattle.octets.specs.Octets.{Bytes}
use Rattle.codec.specs.Layout.{size, Fit}
use Rattle.codec.specs.Codec.{Test, Codec, decode_number, fault_of, is_clean, sound, Built, Made, Decoded, Encoded}

-- no test stands before one of a smaller offset, nor before n
abbrev pub rising : ℕ → List Test → Bool
rising n [] = true
rising n (t ∷ ts) = leb n t.offset && rising t.offset ts

module _ {R : Type 0} (C : Codec R) where
  -- accepted bytes encode to themselves: where a decoder gives v for s, v is sound, and an encoder with room writes s again
  pub record Returned (s : List ℕ) (v : R) : Type 0 where
    pub sound_record : sound C v ≡ true
    pub again : (out : List ℕ) (n : ℕ) (out' : List ℕ) → length s ≤ length out → Encoded C v out n out' → (n ≡ 0) × (out' ≡ s ++ drop (length s) out)

  abbrev pub Accepted : Type 0
  Accepted = (s : List ℕ) (v : R) → Bytes s → Decoded C s 0 v → Returned s v

  -- a sound record decodes to itself: what an encoder wrote of v, a decoder takes, and gives v
  abbrev pub Kept : (R → Type 0) → Type 0
  Kept Formed = (v : R) (out out' : List ℕ) (n : ℕ) (w : R) → Formed v → Encoded C v out 0 out' → Decoded C (take (size C.layout) out') n w → (n ≡ 0) × (w ≡ v)

  -- an unsound record is given for no bytes
  abbrev pub Never : Type 0
  Never = (s : List ℕ) (v : R) → Bytes s → sound C v ≡ false → Decoded C s 0 v → ⊥

  -- what a constructor gives is sound, and has the numbers that its arguments stand for, or is the record of its arguments
  abbrev pub Constructed : Type 0
  Constructed =
      ((vs : List ℕ) (v : R) → Fit C.layout vs → Built C vs 0 v → (sound C v ≡ true) × (C.fields v ≡ vs))
      × ((w v : R) → Made C w 0 v → (sound C v ≡ true) × (v ≡ w))

  -- bytes decode exactly if no field is at fault
  abbrev pub Told : Type 0
  Told = (s : List ℕ) → is_clean (fault_of C s) ≡ eqb (decode_number C s) 0

  -- the tests stand in the order of their offsets, so that the first that fails is about the first field at fault
  abbrev pub InOrder : Type 0
  InOrder = rising 0 C.tests ≡ true

  -- the laws of a record
  pub record Laws (Formed : R → Type 0) : Type 0 where
    pub accepted : Accepted
    pub kept : Kept Formed
    pub never : Never
    pub constructed : Constructed
