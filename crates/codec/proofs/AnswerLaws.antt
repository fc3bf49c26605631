-- What an answer tells. A refusal's number is not 0, and no two refusals have one; so the number and the record that an answer tells are
-- that answer's alone. Assumes nothing.
use Rattle.std.specs.Prelude.{ℕ, ◌≡◌, Bool, cond, eqb, List, length, Result, Ok, Err}
use Rattle.octets.proofs.Tools.{refl, sym, ap, ◌∙◌, arith}
use Rattle.codec.specs.declared.Refusal.{Refusal}
use Rattle.codec.specs.declared.Refusal.TheVariants.{WrongLength, BrokenRule, UnsoundRecord, NoRoom}
use Rattle.octets.specs.Octets.{put}
use Rattle.codec.specs.Layout.{size}
use Rattle.codec.specs.Codec.{Codec, sound, bytes, room_answer, unsound_number}
use Rattle.codec.specs.Answers.{refusal_number, number_told, record_told, Encodes}
use Rattle.codec.proofs.CodecLaws.{encode-refused, encode-put}

pub refusal_not0 : (e : Refusal) → refusal_number e ≡ 0 → ⊥
refusal_not0 WrongLength p = omega arith
refusal_not0 BrokenRule p = omega arith
refusal_not0 UnsoundRecord p = omega arith
refusal_not0 NoRoom p = omega arith

-- so an answer that is a refusal has another number than 0
pub by-refusal : {A : Type 0} {r : Result A Refusal} (e : Refusal) → r ≡ Err e → number_told r ≡ 0 → ⊥
by-refusal e i = rw i (refusal_not0 e)

-- the refusal of a number
of_number : ℕ → Refusal
of_number n = cond (eqb n 1) WrongLength (cond (eqb n 2) BrokenRule (cond (eqb n 3) UnsoundRecord NoRoom))

of_back : (e : Refusal) → of_number (refusal_number e) ≡ e
unfolding of_number
of_back WrongLength = refl
of_back BrokenRule = refl
of_back UnsoundRecord = refl
of_back NoRoom = refl

pub refusal-injective : (e f : Refusal) → refusal_number e ≡ refusal_number f → e ≡ f
refusal-injective e f p = sym (of_back e) ∙ ap of_number p ∙ of_back f

pub told-injective : {R : Type 0} (C : Codec R) (x y : Result R Refusal) → number_told x ≡ number_told y → record_told C x ≡ record_told C y → x ≡ y
told-injective C (Ok v) (Ok w) p q = ap Ok q
told-injective C (Ok v) (Err e) p q = absurd (refusal_not0 e (sym p))
told-injective C (Err e) (Ok w) p q = absurd (refusal_not0 e p)
told-injective C (Err e) (Err f) p q = ap Err (refusal-injective e f p)

-- an answer with no record is told by its number alone
pub done-injective : (x y : Result (Unit {0}) Refusal) → number_told x ≡ number_told y → x ≡ y
done-injective (Ok v) (Ok w) p = refl
done-injective (Ok v) (Err e) p = absurd (refusal_not0 e (sym p))
done-injective (Err e) (Ok w) p = absurd (refusal_not0 e p)
done-injective (Err e) (Err f) p = ap Err (refusal-injective e f p)

-- ---- an encoder's answer, by that of the test of soundness and room

module _ {R : Type 0} {C : Codec R} {v : R} {out : List ℕ} {b : Bool} {n : ℕ} where
  -- the test's refusal, which leaves the output as it is
  pub encodes-refused : {r : Result (Unit {0}) Refusal} (e : Refusal) → r ≡ Err e → b ≡ sound C v → n ≡ size C.layout →
      refusal_number e ≡ room_answer (unsound_number b) n (length out) → Encodes C v out r out
  encodes-refused e i s l a = rw i (encode-refused s (a ∙ ap (λ k. room_answer (unsound_number b) k (length out)) l) (refusal_not0 e))

  -- where there is none, the record's bytes are put at the start
  pub encodes-put : {out' : List ℕ} → b ≡ sound C v → n ≡ size C.layout → 0 ≡ room_answer (unsound_number b) n (length out) →
      length (C.fields v) ≡ length C.layout → out' ≡ put out 0 (bytes C v) → Encodes C v out (Ok tt) out'
  encodes-put s l a f p = encode-put s (a ∙ ap (λ k. room_answer (unsound_number b) k (length out)) l) refl f p
