-- The laws of every view, proved once: what its decoder answers, and its encoder, by what the functions inside did. A view owes `Viewable`:
-- its codec's laws, a slot for each field, room in the image for each own number, and that its fixed fields are those of every record.
-- Assumes nothing.
pub use Rattle.octets.proofs.Tools.{refl, free, rules}
use Rattle.octets.specs.Words.{ℕ, suc, ◌-◌, ◌^◌, ◌<◌, ◌≤◌, ◌≡◌, Bool, true, false, cond, ◌&&◌, List, [], ◌∷◌, ◌++◌, length, drop, eqb, ltb, leb}
use Rattle.octets.proofs.Tools.{sym, ap, ◌∙◌, arith, eq-eqb, ne_eqb, eqb-true, lt-ltb, le-ltb, ltb-true, lt-leb}
use Rattle.octets.proofs.Choices.{and_left, and_right}
use native.Mathlib.Nat.{zero-add}
use Rattle.octets.specs.Octets.{Bytes, octets_at, le, put}
use Rattle.octets.proofs.OctetsLaws.{length-octets, le_below, Bytes-octets, pow_pos, put_in}
use Rattle.codec.specs.Layout.{Field, width, size, fields_at, laid, Fit}
use Rattle.codec.specs.Inner.Stores.{puts}
use Rattle.codec.specs.Codec.{Codec, ok, decode_number, decode_value, room_answer, unsound_number, written, bytes, encode_number, Encoded}
use Rattle.codec.proofs.LayoutLaws.{length-laid, puts-laid, put-laid, fit-fields, length_fields}
use Rattle.codec.proofs.CodecLaws.{Lawful, accepted-ok, room-done, room-given, written-done, written-refused}
use Rattle.export.specs.View.{Slot, own, fixed, View, pick, spread, wide, fitting, image_size, image, view_decode_number, view_decode_out, numbers, cleared, sound_image, image_refusal, view_encode_number, view_encode_out, ViewDecoded, ViewEncoded}
use Rattle.export.specs.Inner.Steps.{shown, stored}

-- each own number has as many octets in the image as in the layout, or more
abbrev pub roomy : List Slot → List Field → Bool
roomy [] fs = true
roomy (x ∷ xs) [] = true
roomy (own n ∷ xs) (f ∷ fs) = leb (width f) n && roomy xs fs
roomy (fixed n ∷ xs) (f ∷ fs) = roomy xs fs

pub record Viewable {R : Type 0} (W : View R) (Formed : R → Type 0) : Type 0 where
  pub lawful : Lawful W.codec Formed
  pub counted : length W.slots ≡ length W.codec.layout
  pub narrow : roomy W.slots W.codec.layout ≡ true
  pub same : (v : R) → spread W.slots (pick W.slots (W.codec.fields v)) ≡ W.codec.fields v

-- ---- numbers

pub length-spread : (xs : List Slot) (ws : List ℕ) → length (spread xs ws) ≡ length xs
length-spread [] ws = refl
length-spread (own n ∷ xs) [] = ap suc (length-spread xs [])
length-spread (own n ∷ xs) (w ∷ ws) = ap suc (length-spread xs ws)
length-spread (fixed n ∷ xs) ws = ap suc (length-spread xs ws)

pub length-pick : (xs : List Slot) (vs : List ℕ) → length vs ≡ length xs → length (pick xs vs) ≡ length (wide xs)
length-pick [] vs e = refl
length-pick (x ∷ xs) [] e = absurd (omega arith)
length-pick (own n ∷ xs) (v ∷ vs) e = ap suc (length-pick xs vs (omega arith))
length-pick (fixed n ∷ xs) (v ∷ vs) e = length-pick xs vs (omega arith)

pub fit-fitting : (fs : List Field) (vs : List ℕ) → length vs ≡ length fs → fitting fs vs ≡ true → Fit fs vs
fit-fitting [] [] e h = tt
fit-fitting [] (v ∷ vs) e h = absurd (omega arith)
fit-fitting (f ∷ fs) [] e h = absurd (omega arith)
fit-fitting (f ∷ fs) (v ∷ vs) e h = (ltb-true _ _ (and_left _ _ h), fit-fitting fs vs (omega arith) (and_right (ltb v (256 ^ width f)) _ h))

pub fitting-fit : (fs : List Field) (vs : List ℕ) → Fit fs vs → fitting fs vs ≡ true
fitting-fit [] [] h = refl
fitting-fit [] (v ∷ vs) h = refl
fitting-fit (f ∷ fs) [] h = refl
fitting-fit (f ∷ fs) (v ∷ vs) h = simp (lt-ltb v (256 ^ width f) h.0, fitting-fit fs vs h.1)

-- a number of n octets fits a field of n; another number r, which is v, by its test
pub whole : (s : List ℕ) → Bytes s → (n at : ℕ) → ltb (le (octets_at s at n)) (256 ^ n) ≡ true
whole s h n at = lt-ltb _ _ (rw length-octets at (le_below (octets_at s at n) (Bytes-octets s at n h)))

pub within : (w : ℕ) {r v : ℕ} → r ≡ v → r ≤ 256 ^ w - 1 → ltb v (256 ^ w) ≡ true
within w {r} {v} e h = let p = pow_pos w in lt-ltb v (256 ^ w) (omega arith)

pub beyond : (w : ℕ) {r v : ℕ} → r ≡ v → 256 ^ w - 1 < r → ltb v (256 ^ w) ≡ false
beyond w {r} {v} e h = le-ltb v (256 ^ w) (omega arith)

-- the numbers that an image gives are as many as the layout's fields
pub count-numbers : {R : Type 0} (W : View R) (f : List ℕ) → length W.slots ≡ length W.codec.layout → length (numbers W f) ≡ length W.codec.layout
count-numbers W f counted = length-spread W.slots (fields_at (wide W.slots) f 0) ∙ counted

-- ---- outputs

-- ---- decoding

module _ {R : Type 0} {C : Codec R} {Formed : R → Type 0} (L : Lawful C Formed) where
  -- the numbers of accepted bytes are those of their record
  pub known : (s : List ℕ) → Fit C.layout (fields_at C.layout s 0) → decode_number C s ≡ 0 → C.fields (decode_value C s) ≡ fields_at C.layout s 0
  known s fit e =
      let a = accepted-ok C {s = s} {v = decode_value C s} (record { number = sym e; value = refl }) in
      ap C.fields a.1.1 ∙ L.back (fields_at C.layout s 0) fit a.1.0

-- the own numbers of accepted bytes, stored one after the other, are the image of their record
pub shown-image : {R : Type 0} {W : View R} {Formed : R → Type 0} (L : Viewable W Formed) (s d : List ℕ) → Bytes s → decode_number W.codec s ≡ 0 →
    shown W s d ≡ put d 0 (image W (decode_value W.codec s))
shown-image {W = W} L s d h e =
    let own = pick W.slots in
    puts-laid (wide W.slots) (own (fields_at W.codec.layout s 0)) d 0
    ∙ ap (λ vs. put d 0 (laid (wide W.slots) (own vs))) (sym (known L.lawful s (fit-fields W.codec.layout s 0 h) e))

-- the answers of a decoder into an image of bytes s, by the decoder's number
module _ {R : Type 0} (W : View R) {s out : List ℕ} {k : ℕ} (sized : k ≡ image_size W) where
  -- a refusal, which clears the image
  pub view-refused : {n : ℕ} {out' : List ℕ} → (n ≡ 0 → ⊥) → n ≡ decode_number W.codec s → out' ≡ cleared k out → ViewDecoded W s out n out'
  unfolding view_decode_number view_decode_out room_answer
  view-refused {n} h e p = record { number = rw (← e, ne_eqb n 0 h); output = rw (← e, ne_eqb n 0 h, ← sized) p }

  -- too little room, by the number m that is not 0
  pub view-short : {m : ℕ} → (m ≡ 0 → ⊥) → 0 ≡ decode_number W.codec s → m ≡ room_answer 0 k (length out) → ViewDecoded W s out m out
  unfolding view_decode_number view_decode_out
  view-short {m} h e q =
      let r : m ≡ room_answer 0 (image_size W) (length out) = q ∙ ap (λ n. room_answer 0 n (length out)) sized in
      record { number = rw (← e) r; output = rw (← e, ← r) (sym (written-refused m (image W (decode_value W.codec s)) out h)) }

  -- the image of the record
  pub view-done : {out' : List ℕ} → 0 ≡ decode_number W.codec s → 0 ≡ room_answer 0 k (length out) →
      length (W.codec.fields (decode_value W.codec s)) ≡ length W.slots → out' ≡ put out 0 (image W (decode_value W.codec s)) → ViewDecoded W s out 0 out'
  unfolding view_decode_number view_decode_out
  view-done e q count p =
      let r : 0 ≡ room_answer 0 (image_size W) (length out) = q ∙ ap (λ n. room_answer 0 n (length out)) sized in
      let picture = image W (decode_value W.codec s) in
      let long : length picture ≡ image_size W = length-laid (wide W.slots) (pick W.slots (W.codec.fields (decode_value W.codec s))) (length-pick W.slots (W.codec.fields (decode_value W.codec s)) count) in
      let room = (room-done 0 (image_size W) (length out) (sym r)).1 in
      let there : put out 0 picture ≡ picture ++ drop (length picture) out = rw zero-add at (put_in out 0 picture (omega arith)) in
      record { number = rw (← e) r; output = rw (← e, ← r) (p ∙ there ∙ sym (written-done 0 picture out refl)) }

-- ---- encoding: the answers on an image f

-- numbers that fit are a sound record's where the rule b holds of them
pub sound-told : {R : Type 0} (W : View R) (f : List ℕ) {b : Bool} → fitting W.codec.layout (numbers W f) ≡ true → b ≡ ok W.codec (numbers W f) → sound_image W f ≡ b
unfolding sound_image
sound-told W f fits e = rw fits (sym e)

-- a sound record's image is not refused
accepted : {R : Type 0} (W : View R) (f : List ℕ) → length f ≡ image_size W → sound_image W f ≡ true → image_refusal W f ≡ 0
unfolding image_refusal
accepted W f long sound = simp (eq-eqb _ _ long, sound)

module _ {R : Type 0} (W : View R) (f : List ℕ) {out : List ℕ} where
  -- under a refusal the output is left
  refused : {m : ℕ} → m ≡ image_refusal W f → (m ≡ 0 → ⊥) → ViewEncoded W f out m out
  unfolding view_encode_number view_encode_out room_answer
  refused {m} e h =
      let answered : m ≡ view_encode_number W f out = rw (sym e) (simp (ne_eqb m 0 h)) in
      record { number = answered; output = sym (rw (sym answered) (written-refused m (laid W.codec.layout (numbers W f)) out h)) }

  -- a wrong length
  pub refused-length : (length f ≡ image_size W → ⊥) → ViewEncoded W f out 1 out
  unfolding image_refusal
  refused-length h = refused (simp (ne_eqb _ _ h)) (λ e. omega arith)

  -- no sound record's; a number that does not fit is none's
  pub refused-unsound : length f ≡ image_size W → sound_image W f ≡ false → ViewEncoded W f out 3 out
  unfolding image_refusal
  refused-unsound e h = refused (simp (eq-eqb _ _ e, h)) (λ e. omega arith)

  pub refused-wide : length f ≡ image_size W → fitting W.codec.layout (numbers W f) ≡ false → ViewEncoded W f out 3 out
  unfolding sound_image
  refused-wide e h = refused-unsound e (simp h)

  module _ (long : length f ≡ image_size W) (sound : sound_image W f ≡ true) where
    -- too little room, by the number m that is not 0
    pub refused-room : {m : ℕ} → (m ≡ 0 → ⊥) → m ≡ room_answer 0 (size W.codec.layout) (length out) → ViewEncoded W f out m out
    unfolding view_encode_number view_encode_out
    refused-room {m} h r =
        let answered : m ≡ view_encode_number W f out = rw (accepted W f long sound) r in
        record { number = answered; output = sym (rw (sym answered) (written-refused m (laid W.codec.layout (numbers W f)) out h)) }

    -- room, and the numbers put at the start
    pub stored-whole : {out' : List ℕ} → length W.slots ≡ length W.codec.layout → 0 ≡ room_answer 0 (size W.codec.layout) (length out) →
        out' ≡ put out 0 (laid W.codec.layout (numbers W f)) → ViewEncoded W f out 0 out'
    unfolding view_encode_number view_encode_out
    stored-whole counted r e =
        let fs = W.codec.layout in
        let answered : 0 ≡ view_encode_number W f out = rw (accepted W f long sound) r in
        let there : put out 0 (laid fs (numbers W f)) ≡ laid fs (numbers W f) ++ drop (length (laid fs (numbers W f))) out =
        put-laid fs (numbers W f) out (count-numbers W f counted) (room-done 0 (size fs) (length out) (sym r)).1
        ∙ ap (λ (n : ℕ). laid fs (numbers W f) ++ drop n out) (sym (length-laid fs (numbers W f) (count-numbers W f counted))) in
        record { number = answered; output = e ∙ there ∙ sym (rw (sym answered) (written-done 0 (laid fs (numbers W f)) out refl)) }
