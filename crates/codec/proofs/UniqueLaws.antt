-- Uniqueness of what a record's functions answer, from the contracts that all records share: the number and the record that an answer tells,
-- or the number and an output, are made of the arguments by the codec, and no two answers tell the same. Assumes nothing.
use Rattle.std.specs.Prelude.{Result, Ok}
use Rattle.octets.specs.Words.{ℕ, ◌≡◌, List}
use Rattle.octets.proofs.Tools.{refl, sym, ◌∙◌}
use Rattle.codec.specs.declared.Refusal.{Refusal}
use Rattle.codec.specs.Codec.{Codec}
use Rattle.codec.specs.Answers.{Builds, Makes, Decodes, Encodes}
use Rattle.codec.proofs.AnswerLaws.{told-injective, done-injective}

module _ {R B : Type 0} {C : Codec R} {u : B} where
  pub as-built : {vs : List ℕ} (x y : Result R Refusal) → Builds C vs x → Builds C vs y → (x ≡ y) × (u ≡ u)
  as-built x y p q = (told-injective C x y (p.number ∙ sym q.number) (p.value ∙ sym q.value), refl)

  pub as-made : {w : R} (x y : Result R Refusal) → Makes C w x → Makes C w y → (x ≡ y) × (u ≡ u)
  as-made x y p q = (told-injective C x y (p.number ∙ sym q.number) (p.value ∙ sym q.value), refl)

  pub as-decoded : {s : List ℕ} (x y : Result R Refusal) → Decodes C s x → Decodes C s y → (x ≡ y) × (u ≡ u)
  as-decoded x y p q = (told-injective C x y (p.number ∙ sym q.number) (p.value ∙ sym q.value), refl)

  -- of a constructor that is never refused
  pub as-given : {vs : List ℕ} (x y : R) → Builds C vs (Ok x) → Builds C vs (Ok y) → (x ≡ y) × (u ≡ u)
  as-given x y p q = (p.value ∙ sym q.value, refl)

-- u and v are what is held at the end: of the record, which is handed over, nothing; of the output its bytes
pub as-encoded : {R X Y : Type 0} {C : Codec R} {r : R} {out : List ℕ} (x y : Result (Unit {0}) Refusal) (u v : X × (List ℕ × Y)) → u.0 ≡ v.0 → u.1.1 ≡ v.1.1 →
    Encodes C r out x u.1.0 → Encodes C r out y v.1.0 → (x ≡ y) × (u ≡ v)
as-encoded x y u v e f p q = (done-injective x y (p.number ∙ sym q.number), λ i. (e i, ((p.output ∙ sym q.output) i, f i)))

-- a record put into a slice
pub as-put : {X Y : Type 0} {A : Type 0} {x : A} {z : List ℕ} (u v : X × (List ℕ × Y)) → u.0 ≡ v.0 → u.1.1 ≡ v.1.1 → u.1.0 ≡ z → v.1.0 ≡ z → (x ≡ x) × (u ≡ v)
as-put u v e f p q = (refl, λ i. (e i, ((p ∙ sym q) i, f i)))
