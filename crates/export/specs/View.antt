-- A record for programs in other languages: its own numbers side by side, least significant octet first. A number has eight octets, which
-- is how a C struct of `uint64_t` holds it on x86-64; an address has its sixteen octets as they stand. What decoding into such an image
-- gives and what encoding from one, for any codec; the numbers given back are those of document 01, 'Numbers given back', with 1 also for
-- an image of another length and 4 also for an image without room. Assumes nothing.
use Rattle.std.specs.Prelude.{ℕ, ◌^◌, ◌≡◌, Bool, true, cond, ◌&&◌, List, [], ◌∷◌, ◌++◌, length, drop, replicate, eqb, ltb, leb}
use Rattle.codec.specs.Layout.{Field, little, width, size, fields_at, laid}
use Rattle.codec.specs.Codec.{Codec, ok, decode_number, decode_value, room_answer, unsound_number, written}

-- a field of a layout holds one of the record's own numbers, which has so many octets in an image, or always the same number: a mark, a
-- version, a reserved zero
pub data Slot : Type 0 where
  own : ℕ → Slot
  fixed : ℕ → Slot

-- a view of a codec: what each field of its layout holds
pub record View (R : Type 0) : Type 0 where
  pub codec : Codec R
  pub slots : List Slot

abbrev pub view_over : {R : Type 0} → Codec R → List Slot → View R
view_over C xs = record { codec = C; slots = xs }

-- the own numbers among those of a layout
abbrev pub pick : List Slot → List ℕ → List ℕ
pick [] vs = []
pick (x ∷ xs) [] = []
pick (own n ∷ xs) (v ∷ vs) = v ∷ pick xs vs
pick (fixed n ∷ xs) (v ∷ vs) = pick xs vs

-- the numbers of a layout whose own ones are given
abbrev pub spread : List Slot → List ℕ → List ℕ
spread [] ws = []
spread (own n ∷ xs) [] = 0 ∷ spread xs []
spread (own n ∷ xs) (w ∷ ws) = w ∷ spread xs ws
spread (fixed n ∷ xs) ws = n ∷ spread xs ws

-- the layout of an image
abbrev pub wide : List Slot → List Field
wide [] = []
wide (own n ∷ xs) = little n ∷ wide xs
wide (fixed n ∷ xs) = wide xs

-- every number fits its field
abbrev pub fitting : List Field → List ℕ → Bool
fitting [] vs = true
fitting (f ∷ fs) [] = true
fitting (f ∷ fs) (v ∷ vs) = ltb v (256 ^ width f) && fitting fs vs

-- the first n octets of out are zero where it has so many; the rest as it was
unfoldable pub cleared : ℕ → List ℕ → List ℕ
cleared n out = cond (leb n (length out)) (replicate n 0 ++ drop n out) out

module _ {R : Type 0} (W : View R) where
  -- the length of an image, and the image of a record
  abbrev pub image_size : ℕ
  image_size = size (wide W.slots)

  abbrev pub image : R → List ℕ
  image v = laid (wide W.slots) (pick W.slots (W.codec.fields v))

  -- Of bytes s and room for an image: 1 or 2 as of the decoder, else 4 where there is too little room, else 0.
  unfoldable pub view_decode_number : List ℕ → List ℕ → ℕ
  view_decode_number s out = room_answer (decode_number W.codec s) image_size (length out)

  -- What stands there then: under 0 the record's image at the start and the rest as it was; under 4 all as it was; under 1 and 2 zeros in
  -- the place of the image, where there is room, so that no older image is taken for the record
  unfoldable pub view_decode_out : List ℕ → List ℕ → List ℕ
  view_decode_out s out =
      cond (eqb (decode_number W.codec s) 0) (written (view_decode_number s out) (image (decode_value W.codec s)) out) (cleared image_size out)

  -- the numbers of the layout that an image gives
  abbrev pub numbers : List ℕ → List ℕ
  numbers f = spread W.slots (fields_at (wide W.slots) f 0)

  -- they are a sound record's where each fits its field and they obey the record's rule
  unfoldable pub sound_image : List ℕ → Bool
  sound_image f = fitting W.codec.layout (numbers f) && ok W.codec (numbers f)

  -- the refusal of an image: 1 where it has not the image's length, else 3 where it is no sound record's; 0 where there is none
  unfoldable pub image_refusal : List ℕ → ℕ
  image_refusal f = cond (eqb (length f) image_size) (unsound_number (sound_image f)) 1

  -- Of an image f and an output: that refusal, else 4 where there is too little room for the record, else 0.
  unfoldable pub view_encode_number : List ℕ → List ℕ → ℕ
  view_encode_number f out = room_answer (image_refusal f) (size W.codec.layout) (length out)

  -- what the output holds then: under 0 the record's bytes at the start and the rest as it was; untouched on a refusal
  unfoldable pub view_encode_out : List ℕ → List ℕ → List ℕ
  view_encode_out f out = written (view_encode_number f out) (laid W.codec.layout (numbers f)) out

  -- What a contract says of a call, in one form for every record. Of a decoder, on the bytes s, whose output held out and holds out' then:
  pub record ViewDecoded (s out : List ℕ) (n : ℕ) (out' : List ℕ) : Type 0 where
    pub number : n ≡ view_decode_number s out
    pub output : out' ≡ view_decode_out s out

  -- of an encoder, on the image f:
  pub record ViewEncoded (f out : List ℕ) (n : ℕ) (out' : List ℕ) : Type 0 where
    pub number : n ≡ view_encode_number f out
    pub output : out' ≡ view_encode_out f out
