-- The laws of every codec, proved once: what is promised of a record (`Promises`) follows from `Lawful`, a fact on the numbers of its
-- fields: that `fields` and `of` undo each other on what its rule accepts. The rest is the laws of layouts. Then the answers of
-- constructors, decoders and encoders, which the proofs of functions cite; what they cite besides is passed on from here.
-- Assumes nothing.
pub use Rattle.octets.proofs.Tools.{refl, free, rules}
use Rattle.octets.specs.Words.{ℕ, suc, ◌≤◌, ◌≡◌, Bool, true, false, cond, List, ◌∷◌, ◌++◌, length, take, drop, eqb, leb}
use Rattle.octets.proofs.Tools.{sym, ap, ◌∙◌, true≢false, arith, eq-eqb, ne_eqb, eqb-true, eqb-false, leb-true, le-leb}
use lib.Seq.{take_at}
use native.Mathlib.Nat.{zero-add}
use Rattle.octets.specs.Octets.{Bytes, octets_at, put}
use Rattle.octets.proofs.OctetsLaws.{put_in, octets-whole}
use Rattle.codec.specs.Layout.{size, fields_at, laid, Fit}
use Rattle.codec.specs.Codec.{Codec, asking, fault_at, is_clean, first_fault, fault_of, ok, decode_number, decode_value, sound, bytes, room_answer, unsound_number, written, encode_number, Built, Made, Decoded, Encoded}
use Rattle.codec.specs.Promises.{Accepted, Kept, Never, Constructed, Told, Laws}
use Rattle.codec.proofs.TestLaws.{clean-passes}
use Rattle.codec.proofs.LayoutLaws.{laid-fields, fields_laid, length-laid, fit_length, fit-fields}

-- What a record owes.
pub record Lawful {R : Type 0} (C : Codec R) (Formed : R → Type 0) : Type 0 where
  -- accepted numbers are those of the record that they stand for
  pub back : (vs : List ℕ) → Fit C.layout vs → ok C vs ≡ true → C.fields (C.of vs) ≡ vs
  -- a sound record is the one that its numbers stand for
  pub forth : (v : R) → Formed v → sound C v ≡ true → C.of (C.fields v) ≡ v
  -- and its numbers fit their fields
  pub fits : (v : R) → Formed v → Fit C.layout (C.fields v)
  -- there is a number for each field
  pub counted : (v : R) → length (C.fields v) ≡ length C.layout

-- numbers that fit are the list of them, so it is enough to know each
pub listed : {R : Type 0} (C : Codec R) (vs : List ℕ) → Fit C.layout vs → octets_at vs 0 (length C.layout) ≡ vs
listed C vs f = octets-whole vs (length C.layout) (fit_length C.layout vs f)

-- two numbers at the head of a list, each by an equal one
pub lead : {x y z w : ℕ} {l : List ℕ} → x ≡ z → y ≡ w → x ∷ y ∷ l ≡ z ∷ w ∷ l
lead {l = l} p q = λ i. p i ∷ q i ∷ l

-- ---- of two tests

-- of two tests that answer another number than 0 where they fail, 0 says that both hold
pub both_hold : (a b : Bool) (x y : ℕ) → (a ≡ false → y ≡ 0 → ⊥) → ◌≡◌ {A = ℕ} (cond a (cond b 0 (suc x)) y) 0 → (a ≡ true) × (b ≡ true)
both_hold true true x y h z = (refl, refl)
both_hold true false x y h z = absurd (omega arith)
both_hold false b x y h z = absurd (h refl z)

-- ---- room

-- 0 is answered where there was no refusal and there is room
pub room-done : (earlier len room : ℕ) → room_answer earlier len room ≡ 0 → (earlier ≡ 0) × (len ≤ room)
unfolding room_answer
room-done earlier len room z =
    let both = both_hold (eqb earlier 0) (leb len room) 3 earlier (λ e. eqb-false earlier 0 e) z in
    (eqb-true earlier 0 both.0, leb-true len room both.1)

pub room-given : (len room : ℕ) → len ≤ room → room_answer 0 len room ≡ 0
unfolding room_answer
room-given len room h = rw (le-leb len room h)

unsound-zero : (b : Bool) → unsound_number b ≡ 0 → b ≡ true
unsound-zero true e = refl
unsound-zero false e = absurd (omega arith)

-- ---- an output

pub written-done : (n : ℕ) (b out : List ℕ) → n ≡ 0 → written n b out ≡ b ++ drop (length b) out
unfolding written
written-done n b out e = rw e

pub written-refused : (n : ℕ) (b out : List ℕ) → (n ≡ 0 → ⊥) → written n b out ≡ out
unfolding written
written-refused n b out h = rw (ne_eqb n 0 h)

-- ---- what is promised of every record

module _ {R : Type 0} (C : Codec R) where
  -- the answers of a decoder that gives a record
  accepts : (s : List ℕ) → decode_number C s ≡ 0 → (length s ≡ size C.layout) × (ok C (fields_at C.layout s 0) ≡ true)
  unfolding decode_number
  accepts s e =
      let both = both_hold (eqb (length s) (size C.layout)) (ok C (fields_at C.layout s 0)) 1 1 (λ f z. omega arith) e in
      (eqb-true _ _ both.0, both.1)

  gives : (s : List ℕ) → length s ≡ size C.layout → ok C (fields_at C.layout s 0) ≡ true → decode_value C s ≡ C.of (fields_at C.layout s 0)
  unfolding decode_value
  gives s e h = rw (eq-eqb _ _ e, h)

  -- what stands in the numbers of accepted bytes
  pub accepted-ok : {s : List ℕ} {v : R} → Decoded C s 0 v → (length s ≡ size C.layout) × ((ok C (fields_at C.layout s 0) ≡ true) × (v ≡ C.of (fields_at C.layout s 0)))
  accepted-ok {s} d = let a = accepts s (sym d.number) in (a.0, (a.1, d.value ∙ gives s a.0 a.1))

  pub told : Told C
  unfolding decode_number fault_of
  told s = go (eqb (length s) (size C.layout)) (ok C (fields_at C.layout s 0)) (clean-passes C.tests (fields_at C.layout s 0))
    where
      go : (x y : Bool) → is_clean (first_fault C.tests (fields_at C.layout s 0)) ≡ y →
          is_clean (cond x (first_fault C.tests (fields_at C.layout s 0)) (fault_at 0)) ≡ eqb (cond x (cond y 0 2) 1) 0
      go true true e = e
      go true false e = e
      go false y e = refl

module _ {R : Type 0} {C : Codec R} {Formed : R → Type 0} (L : Lawful C Formed) where
  numbers_of : (s : List ℕ) (v : R) → Bytes s → Decoded C s 0 v → (sound C v ≡ true) × (bytes C v ≡ s)
  numbers_of s v h d =
      let a = accepted-ok C d in
      let back = L.back (fields_at C.layout s 0) (fit-fields C.layout s 0 h) a.1.0 in
      let same : C.fields v ≡ fields_at C.layout s 0 = ap C.fields a.1.1 ∙ back in
      (ap (ok C) same ∙ a.1.0, ap (laid C.layout) same ∙ laid-fields C.layout s h a.0)

  -- an encoder with a sound record and room answers 0
  encodes : (v : R) (out : List ℕ) → sound C v ≡ true → size C.layout ≤ length out → encode_number C v out ≡ 0
  encodes v out e room = rw e (room-given (size C.layout) (length out) room)

  accepted : Accepted C
  accepted s v h d = let m = numbers_of s v h d in record {
    sound_record = m.0;
    again = λ out n out' room e.
        let zero = encodes v out m.0 (let a = (accepted-ok C d).0 in omega arith) in
        (e.number ∙ zero, e.output ∙ written-done (encode_number C v out) (bytes C v) out zero ∙ ap (λ b. b ++ drop (length b) out) m.1);
  }

  kept : Kept C Formed
  unfolding decode_number decode_value
  kept v out out' n w g e d =
      let done = room-done (unsound_number (sound C v)) (size C.layout) (length out) (sym e.number) in
      let h = unsound-zero (sound C v) done.0 in
      let f = L.fits v g in
      let long : length (bytes C v) ≡ size C.layout = length-laid C.layout (C.fields v) (fit_length C.layout (C.fields v) f) in
      let stands : out' ≡ bytes C v ++ drop (length (bytes C v)) out = e.output ∙ written-done (encode_number C v out) (bytes C v) out (sym e.number) in
      let there : take (size C.layout) out' ≡ bytes C v = ap (take (size C.layout)) stands ∙ take_at _ _ (size C.layout) long in
      let read = fields_laid C.layout (C.fields v) f in
      (d.number ∙ ap (decode_number C) there ∙ simp (eq-eqb _ _ long, read, h), d.value ∙ ap (decode_value C) there ∙ simp (eq-eqb _ _ long, read, h) (L.forth v g h))

  never : Never C
  never s v h u d = true≢false (sym (numbers_of s v h d).0 ∙ u)

  constructed : Constructed C
  constructed = (λ vs v f b. built vs v f b (ok C vs) refl, λ w v m. made w v m (sound C w) refl)
    where
      built : (vs : List ℕ) (v : R) → Fit C.layout vs → Built C vs 0 v → (b : Bool) → ok C vs ≡ b → (sound C v ≡ true) × (C.fields v ≡ vs)
      built vs v f p true e =
          let same : C.fields v ≡ vs = ap C.fields (p.value ∙ simp e) ∙ L.back vs f e in
          (ap (ok C) same ∙ e, same)
      built vs v f p false e = let z : ◌≡◌ {A = ℕ} 0 2 = p.number ∙ simp e in absurd (omega arith)

      made : (w v : R) → Made C w 0 v → (b : Bool) → sound C w ≡ b → (sound C v ≡ true) × (v ≡ w)
      made w v p true e = let same : v ≡ w = p.value ∙ simp e in (ap (sound C) same ∙ e, same)
      made w v p false e = let z : ◌≡◌ {A = ℕ} 0 2 = p.number ∙ simp e in absurd (omega arith)

  pub laws : Laws C Formed
  laws = record { accepted = accepted; kept = kept; never = never; constructed = constructed }

-- ---- the answers of a constructor, and of whatever reads the fields' numbers

two_ways : (b : Bool) (n : ℕ) → n ≡ cond b 0 2 → (n ≡ 0 → b ≡ true) × ((n ≡ 0 → ⊥) → b ≡ false)
two_ways true n e = (λ z. refl, λ h. absurd (h e))
two_ways false n e = (λ z. absurd (omega arith), λ h. refl)

module _ {R : Type 0} {C : Codec R} {vs : List ℕ} {n : ℕ} {v : R} where
  -- b is what a test of the rule answered: under true 0 and the numbers' record, under false 2 and the all-zero record
  pub built-done : {b : Bool} → b ≡ ok C vs → b ≡ true → (n ≡ 0) × (v ≡ C.of vs) → Built C vs n v
  built-done e h p = let holds = sym e ∙ h in record { number = simp holds p.0; value = simp holds p.1 }

  pub built-refused : {b : Bool} → b ≡ ok C vs → b ≡ false → (n ≡ 2) × (v ≡ C.blank) → Built C vs n v
  built-refused e h p = let fails = sym e ∙ h in record { number = simp fails p.0; value = simp fails p.1 }

  -- the same of a codec that asks what holds
  pub built-asked : {b : Bool} → b ≡ true → Built C vs n v → Built (asking b C) vs n v
  built-asked e p = record { number = simp e p.number; value = simp e p.value }

  -- and what an answer tells of the numbers: 0 that the rule holds and the record is theirs, another that it does not hold
  pub done_ok : Built C vs n v → n ≡ 0 → ok C vs ≡ true
  done_ok b = (two_ways (ok C vs) n b.number).0

  pub done-value : Built C vs n v → n ≡ 0 → v ≡ C.of vs
  done-value b z = simp (done_ok b z) at b.value

  pub refused-ok : Built C vs n v → (n ≡ 0 → ⊥) → ok C vs ≡ false
  refused-ok b = (two_ways (ok C vs) n b.number).1

-- a constructor that answers the record of its arguments where that is sound
module _ {R : Type 0} {C : Codec R} {w : R} {b : Bool} {n : ℕ} {v : R} where
  pub made-done : b ≡ sound C w → b ≡ true → (n ≡ 0) × (v ≡ w) → Made C w n v
  made-done e h p = let holds = sym e ∙ h in record { number = simp holds p.0; value = simp holds p.1 }

  pub made-refused : b ≡ sound C w → b ≡ false → (n ≡ 2) × (v ≡ C.blank) → Made C w n v
  made-refused e h p = let fails = sym e ∙ h in record { number = simp fails p.0; value = simp fails p.1 }

-- ---- the answers of a decoder, in 01's order: 1 before 2

module _ {R : Type 0} {C : Codec R} {s : List ℕ} {n : ℕ} {v : R} where
  pub decode-length : (length s ≡ size C.layout → ⊥) → (n ≡ 1) × (v ≡ C.blank) → Decoded C s n v
  unfolding decode_number decode_value
  decode-length h p = record { number = simp (ne_eqb _ _ h) p.0; value = simp (ne_eqb _ _ h) p.1 }

  -- the rule on the fields' numbers decides, as of a constructor
  pub decode-read : length s ≡ size C.layout → Built C (fields_at C.layout s 0) n v → Decoded C s n v
  unfolding decode_number decode_value
  decode-read e b = record { number = simp (eq-eqb _ _ e) b.number; value = simp (eq-eqb _ _ e) b.value }

  -- and back: of bytes of the right length a decoder answers as the rule on their numbers does
  pub decoded-read : length s ≡ size C.layout → Decoded C s n v → Built C (fields_at C.layout s 0) n v
  unfolding decode_number decode_value
  decoded-read e d = record { number = simp (eq-eqb _ _ e) at d.number; value = simp (eq-eqb _ _ e) at d.value }

-- ---- the answers of an encoder, by the number n that `encode_number` gives of b, what the test of soundness answered

given : {R : Type 0} (C : Codec R) (v : R) (out : List ℕ) {b : Bool} {n : ℕ} → b ≡ sound C v → n ≡ room_answer (unsound_number b) (size C.layout) (length out) → n ≡ encode_number C v out
given C v out s e = e ∙ ap (λ (a : Bool). room_answer (unsound_number a) (size C.layout) (length out)) s

module _ {R : Type 0} {C : Codec R} {v : R} {out : List ℕ} {b : Bool} {n : ℕ} where
  -- under another number than 0 the output is left as it is
  pub encode-refused : b ≡ sound C v → n ≡ room_answer (unsound_number b) (size C.layout) (length out) → (n ≡ 0 → ⊥) → Encoded C v out n out
  encode-refused s e h =
      record { number = given C v out s e; output = sym (written-refused (encode_number C v out) (bytes C v) out (λ z. h (given C v out s e ∙ z))) }

  -- under 0 the record's bytes are put at the start
  pub encode-put : {out' : List ℕ} → b ≡ sound C v → n ≡ room_answer (unsound_number b) (size C.layout) (length out) → n ≡ 0 →
      length (C.fields v) ≡ length C.layout → out' ≡ put out 0 (bytes C v) → Encoded C v out n out'
  encode-put s e z f p =
      let zero = sym (given C v out s e) ∙ z in
      let room = (room-done (unsound_number (sound C v)) (size C.layout) (length out) zero).1 in
      let long : length (bytes C v) ≡ size C.layout = length-laid C.layout (C.fields v) f in
      let there : put out 0 (bytes C v) ≡ bytes C v ++ drop (length (bytes C v)) out = rw zero-add at (put_in out 0 (bytes C v) (omega arith)) in
      record { number = given C v out s e; output = p ∙ there ∙ sym (written-done (encode_number C v out) (bytes C v) out zero) }
