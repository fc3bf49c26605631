-- There and back, once for every view: the image that decoding gives encodes to the same bytes, and the bytes that encoding gives decode
-- to the same image. By the laws of codecs and layouts: numbers are back from their octets, and octets from their numbers. Assumes nothing.
use Rattle.octets.specs.Words.{ℕ, ◌≤◌, ◌≡◌, Bool, true, false, cond, List, [], ◌∷◌, ◌++◌, length, take, drop, eqb, leb}
use Rattle.octets.proofs.Tools.{refl, sym, ap, ◌∙◌, arith, eq-eqb, eqb-true, leb-true}
use Rattle.octets.proofs.Choices.{and_left, and_right}
use lib.Dec.{lit<}
use lib.Seq.{take_at}
use native.Mathlib.Nat.{pow-le-pow_right, lt_of_lt_of_le}
use Rattle.octets.specs.Octets.{Bytes}
use Rattle.codec.specs.Layout.{Field, width, size, fields_at, laid, Fit}
use Rattle.codec.specs.Codec.{Codec, ok, decode_number, decode_value, unsound_number}
use Rattle.codec.proofs.LayoutLaws.{laid-fields, fields_laid, length-laid, fit-fields, length_fields}
use Rattle.codec.proofs.CodecLaws.{accepted-ok, room-done, room-given, written-done}
use Rattle.export.specs.View.{Slot, own, fixed, View, pick, spread, wide, fitting, image_size, image, numbers, sound_image, image_refusal, view_decode_number, view_decode_out, view_encode_number, view_encode_out, ViewDecoded, ViewEncoded}
use Rattle.laws.specs.Images.{BytesBack, ImageBack, RoundTrips}
use Rattle.export.proofs.ViewLaws.{Viewable, roomy, length-pick, count-numbers, fit-fitting, fitting-fit, known}

-- ---- numbers

pick-spread : (xs : List Slot) (ws : List ℕ) → length ws ≡ length (wide xs) → pick xs (spread xs ws) ≡ ws
pick-spread [] [] e = refl
pick-spread [] (w ∷ ws) e = absurd (omega arith)
pick-spread (own n ∷ xs) [] e = absurd (omega arith)
pick-spread (own n ∷ xs) (w ∷ ws) e = ap (λ (l : List ℕ). w ∷ l) (pick-spread xs ws (omega arith))
pick-spread (fixed n ∷ xs) ws e = pick-spread xs ws e

-- own numbers that fit their fields fit those of an image
wide-fit : (xs : List Slot) (fs : List Field) (vs : List ℕ) → length xs ≡ length fs → roomy xs fs ≡ true → Fit fs vs → Fit (wide xs) (pick xs vs)
wide-fit [] fs vs e h g = tt
wide-fit (x ∷ xs) [] vs e h g = absurd (omega arith)
wide-fit (x ∷ xs) (f ∷ fs) [] e h g = absurd g
wide-fit (own n ∷ xs) (f ∷ fs) (v ∷ vs) e h g =
    (lt_of_lt_of_le g.0 (pow-le-pow_right (lit< tt) (leb-true (width f) n (and_left _ _ h))), wide-fit xs fs vs (omega arith) (and_right (leb (width f) n) _ h) g.1)
wide-fit (fixed n ∷ xs) (f ∷ fs) (v ∷ vs) e h g = wide-fit xs fs vs (omega arith) h g.1

is_zero : (b : Bool) → eqb (cond b 0 2) 0 ≡ b
is_zero true = refl
is_zero false = refl

-- the decoder takes the bytes of numbers that fit where they obey the rule
taken : {R : Type 0} (C : Codec R) (vs : List ℕ) → length vs ≡ length C.layout → Fit C.layout vs → eqb (decode_number C (laid C.layout vs)) 0 ≡ ok C vs
unfolding decode_number
taken C vs count fit = simp (eq-eqb _ _ (length-laid C.layout vs count), fields_laid C.layout vs fit) (is_zero (ok C vs))

-- ---- what 0 tells, and where it is answered

-- no refusal says that the length is right and the image a sound record's
refusal-zero : (a b : Bool) → ◌≡◌ {A = ℕ} (cond a (unsound_number b) 1) 0 → (a ≡ true) × (b ≡ true)
refusal-zero true true e = (refl, refl)
refusal-zero true false e = absurd (omega arith)
refusal-zero false b e = absurd (omega arith)

module _ {R : Type 0} (W : View R) (f : List ℕ) where
  no-refusal : image_refusal W f ≡ 0 → (length f ≡ image_size W) × ((fitting W.codec.layout (numbers W f) ≡ true) × (ok W.codec (numbers W f) ≡ true))
  unfolding image_refusal sound_image
  no-refusal e =
      let both = refusal-zero (eqb (length f) (image_size W)) (sound_image W f) e in
      (eqb-true _ _ both.0, (and_left _ _ both.1, and_right (fitting W.codec.layout (numbers W f)) _ both.1))

  unrefused : length f ≡ image_size W → fitting W.codec.layout (numbers W f) ≡ true → ok W.codec (numbers W f) ≡ true → image_refusal W f ≡ 0
  unfolding image_refusal sound_image
  unrefused e a b = simp (eq-eqb _ _ e, a, b)

  -- an encoder that answers 0: the image is not refused, and what stands at the start of its output
  encode-told : {out out' : List ℕ} → ViewEncoded W f out 0 out' → (image_refusal W f ≡ 0) × (out' ≡ laid W.codec.layout (numbers W f) ++ drop (length (laid W.codec.layout (numbers W f))) out)
  unfolding view_encode_number view_encode_out
  encode-told {out} d = (
    (room-done (image_refusal W f) (size W.codec.layout) (length out) (sym d.number)).0,
    d.output ∙ written-done (view_encode_number W f out) (laid W.codec.layout (numbers W f)) out (sym d.number),
  )

  -- and where it answers 0
  encode-given : {out out' : List ℕ} {n : ℕ} → image_refusal W f ≡ 0 → size W.codec.layout ≤ length out → ViewEncoded W f out n out' →
      (n ≡ 0) × (out' ≡ laid W.codec.layout (numbers W f) ++ drop (length (laid W.codec.layout (numbers W f))) out)
  unfolding view_encode_number view_encode_out
  encode-given {out} z room d =
      let zero : view_encode_number W f out ≡ 0 = rw z (room-given (size W.codec.layout) (length out) room) in
      (d.number ∙ zero, d.output ∙ written-done (view_encode_number W f out) (laid W.codec.layout (numbers W f)) out zero)

module _ {R : Type 0} (W : View R) (s : List ℕ) where
  -- the same of a decoder into an image
  decode-told : {out out' : List ℕ} → ViewDecoded W s out 0 out' →
      (decode_number W.codec s ≡ 0) × (out' ≡ image W (decode_value W.codec s) ++ drop (length (image W (decode_value W.codec s))) out)
  unfolding view_decode_number view_decode_out
  decode-told {out} d =
      let zero = (room-done (decode_number W.codec s) (image_size W) (length out) (sym d.number)).0 in
      (zero, d.output ∙ simp (eq-eqb _ _ zero) (written-done (view_decode_number W s out) (image W (decode_value W.codec s)) out (sym d.number)))

  decode-given : {out out' : List ℕ} {n : ℕ} → decode_number W.codec s ≡ 0 → image_size W ≤ length out → ViewDecoded W s out n out' →
      (n ≡ 0) × (out' ≡ image W (decode_value W.codec s) ++ drop (length (image W (decode_value W.codec s))) out)
  unfolding view_decode_number view_decode_out
  decode-given {out} z room d =
      let zero : view_decode_number W s out ≡ 0 = rw z (room-given (image_size W) (length out) room) in
      (d.number ∙ zero, d.output ∙ simp (eq-eqb _ _ z) (written-done (view_decode_number W s out) (image W (decode_value W.codec s)) out zero))

-- ---- there and back

module _ {R : Type 0} {W : View R} {Formed : R → Type 0} (L : Viewable W Formed) where
  -- of accepted bytes s: their record's image has the image's length and gives the bytes' own numbers again
  image-numbers : (s : List ℕ) → Bytes s → decode_number W.codec s ≡ 0 →
      (length (image W (decode_value W.codec s)) ≡ image_size W) × (numbers W (image W (decode_value W.codec s)) ≡ fields_at W.codec.layout s 0)
  image-numbers s h e =
      let v = decode_value W.codec s in
      let vs : List ℕ = fields_at W.codec.layout s 0 in
      let fit = fit-fields W.codec.layout s 0 h in
      let own-numbers : W.codec.fields v ≡ vs = known L.lawful s fit e in
      let wider = wide-fit W.slots W.codec.layout vs L.counted L.narrow fit in
      let count = length-pick W.slots vs (length_fields W.codec.layout s 0 ∙ sym L.counted) in (
        ap (λ (l : List ℕ). length (laid (wide W.slots) (pick W.slots l))) own-numbers ∙ length-laid (wide W.slots) (pick W.slots vs) count,
        rw own-numbers (ap (spread W.slots) (fields_laid (wide W.slots) (pick W.slots vs) wider) ∙ (rw own-numbers at (L.same v))),
      )

  bytes_back : BytesBack W
  bytes_back s out out' bytes bytes' n h d room e =
      let fs = W.codec.layout in
      let told = decode-told W s d in
      let a = accepted-ok W.codec {s = s} {v = decode_value W.codec s} (record { number = sym told.0; value = refl }) in
      let there = image-numbers s h told.0 in
      let f : List ℕ = image W (decode_value W.codec s) in
      let taken : take (image_size W) out' ≡ f = ap (take (image_size W)) told.1 ∙ take_at f _ (image_size W) there.0 in
      let fits : fitting fs (numbers W f) ≡ true = rw there.1 (fitting-fit fs (fields_at fs s 0) (fit-fields fs s 0 h)) in
      let zero = unrefused W f there.0 fits (rw there.1 a.1.0) in
      let same : laid fs (numbers W f) ≡ s = ap (laid fs) there.1 ∙ laid-fields fs s h a.0 in
      let given = encode-given W f zero (let long = a.0 in omega arith) (rw taken at e) in
      (given.0, given.1 ∙ ap (λ (b : List ℕ). b ++ drop (length b) bytes) same)

  image_back : ImageBack W
  image_back f bytes bytes' out out' n h e room d =
      let fs = W.codec.layout in
      let vs : List ℕ = numbers W f in
      let told = encode-told W f e in
      let right = no-refusal W f told.0 in
      let count = count-numbers W f L.counted in
      let fit = fit-fitting fs vs count right.1.0 in
      let back : fields_at fs (laid fs vs) 0 ≡ vs = fields_laid fs vs fit in
      let read : take (size fs) bytes' ≡ laid fs vs = ap (take (size fs)) told.1 ∙ take_at (laid fs vs) _ (size fs) (length-laid fs vs count) in
      let zero = eqb-true (decode_number W.codec (laid fs vs)) 0 (taken W.codec vs count fit ∙ right.1.1) in
      let own-numbers = known L.lawful (laid fs vs) (rw back fit) zero ∙ back in
      let same : image W (decode_value W.codec (laid fs vs)) ≡ f =
      ap (λ (l : List ℕ). laid (wide W.slots) (pick W.slots l)) own-numbers
      ∙ ap (laid (wide W.slots)) (pick-spread W.slots (fields_at (wide W.slots) f 0) (length_fields (wide W.slots) f 0))
      ∙ laid-fields (wide W.slots) f h right.0 in
      let given = decode-given W (laid fs vs) zero (let long = right.0 in omega arith) (rw read at d) in
      (given.0, given.1 ∙ ap (λ (b : List ℕ). b ++ drop (length b) out) same)

  pub round-trips : RoundTrips W
  round-trips = record { bytes_back = bytes_back; image_back = image_back }
