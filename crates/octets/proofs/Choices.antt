-- Choices between two things, for proofs: a choice has what both its sides have; the same choice, written otherwise; a conjunction's parts.
-- Assumes nothing.
use Rattle.octets.specs.Words.{◌≡◌, Bool, true, false, cond, not, ◌&&◌, ◌||◌}
use Rattle.octets.proofs.Tools.{refl, true≢false, sym}

pub pick : {A : Type 0} (P : A → Type 0) (b : Bool) {x y : A} → (b ≡ true → P x) → (b ≡ false → P y) → P (cond b x y)
pick P true f g = f refl
pick P false f g = g refl

-- where it does not matter which way the choice goes
pub cond-all : {A : Type 0} (P : A → Type 0) (b : Bool) {x y : A} → P x → P y → P (cond b x y)
cond-all P b p q = pick P b (λ _. p) (λ _. q)

pub either_way : {A : Type 0} (b : Bool) (x : A) → x ≡ cond b x x
either_way true x = refl
either_way false x = refl

pub other_way : {A : Type 0} (b : Bool) (x y : A) → cond b x y ≡ cond (not b || false) y x
other_way true x y = refl
other_way false x y = refl

pub both : (a b : Bool) → (a && b) ≡ true → (a ≡ true) × (b ≡ true)
both true b q = (refl, q)
both false b q = absurd (true≢false (sym q))

pub and_left : (a b : Bool) → (a && b) ≡ true → a ≡ true
and_left a b h = (both a b h).0

pub and_right : (a b : Bool) → (a && b) ≡ true → b ≡ true
and_right a b h = (both a b h).1

-- the last of some tests is asked by itself
pub and-true : (b : Bool) → (b && true) ≡ b
and-true true = refl
and-true false = refl

-- and where one fails, it does not matter what was asked before
pub and-false : (b : Bool) → (b && false) ≡ false
and-false true = refl
and-false false = refl

pub or-false : (b : Bool) → (b || false) ≡ b
or-false true = refl
or-false false = refl

pub and_assoc : (a b c : Bool) → ((a && b) && c) ≡ (a && (b && c))
and_assoc true b c = refl
and_assoc false b c = refl
