-- The shapes of a proof of uniqueness, each once. A contract is an equation whose right side is made of the arguments, so two answers
-- that meet it are equal: `as-told` where it gives the result, `as-left` where it gives what a lent slice holds at the end, `as-numbered`
-- where it gives a thing by a number that no two share. Assumes nothing.
use Rattle.octets.specs.Words.{◌≡◌}
use Rattle.octets.proofs.Tools.{refl, sym, ◌∙◌}

pub as-told : {A B : Type 0} {x y z : A} {u : B} → x ≡ z → y ≡ z → (x ≡ y) × (u ≡ u)
as-told p q = (p ∙ sym q, refl)

-- u and v are what is held at the end: of the one lent slice, and of nothing else
pub as-left : {R A B : Type 0} {x : R} {z : A} (u v : A × B) → u.1 ≡ v.1 → u.0 ≡ z → v.0 ≡ z → (x ≡ x) × (u ≡ v)
as-left u v e p q = (refl, λ i. ((p ∙ sym q) i, e i))

pub as-numbered : {A B S : Type 0} {z : S} {u : B} (number : A → S) → ((x y : A) → number x ≡ number y → x ≡ y) → (x y : A) →
    number x ≡ z → number y ≡ z → (x ≡ y) × (u ≡ u)
as-numbered number injective x y p q = (injective x y (p ∙ sym q), refl)
