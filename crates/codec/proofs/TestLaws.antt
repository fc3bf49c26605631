-- The laws of rules that are lists of tests: a rule made of two, of a part's, and of tests that are asked under a condition; and that a
-- first fault is told exactly where a test fails. By induction on the list. Assumes nothing.
use Rattle.octets.specs.Words.{ℕ, ◌≡◌, Bool, true, false, cond, not, ◌&&◌, ◌||◌, List, [], ◌∷◌, ◌++◌, drop}
use Rattle.octets.proofs.Tools.{refl, sym, ap, ◌∙◌}
pub use Rattle.octets.proofs.Choices.{and_left, and_right, and-true}
use Rattle.octets.proofs.Choices.{and_assoc}
use Rattle.codec.specs.Codec.{Test, passes, shifted, given, fault_at, is_clean, first_fault}

or-and : (b x y : Bool) → (not b || (x && y)) ≡ ((not b || x) && (not b || y))
or-and true x y = refl
or-and false x y = refl

or-true : (b : Bool) → (not b || true) ≡ true
or-true true = refl
or-true false = refl

pub passes_append : (ts us : List Test) (vs : List ℕ) → passes (ts ++ us) vs ≡ (passes ts vs && passes us vs)
passes_append [] us vs = refl
passes_append (t ∷ ts) us vs = ap (λ b. t.holds vs && b) (passes_append ts us vs) ∙ sym (and_assoc (t.holds vs) (passes ts vs) (passes us vs))

pub passes-shifted : (n k : ℕ) (ts : List Test) (vs : List ℕ) → passes (shifted n k ts) vs ≡ passes ts (drop k vs)
passes-shifted n k [] vs = refl
passes-shifted n k (t ∷ ts) vs = ap (λ b. t.holds (drop k vs) && b) (passes-shifted n k ts vs)

pub passes-given : (b : List ℕ → Bool) (ts : List Test) (vs : List ℕ) → passes (given b ts) vs ≡ (not (b vs) || passes ts vs)
passes-given b [] vs = sym (or-true (b vs))
passes-given b (t ∷ ts) vs = ap (λ x. (not (b vs) || t.holds vs) && x) (passes-given b ts vs) ∙ sym (or-and (b vs) (t.holds vs) (passes ts vs))

-- there is a first fault exactly where a test fails
pub clean-passes : (ts : List Test) (vs : List ℕ) → is_clean (first_fault ts vs) ≡ passes ts vs
clean-passes [] vs = refl
clean-passes (t ∷ ts) vs = go (t.holds vs) (clean-passes ts vs)
  where
    go : (b : Bool) → is_clean (first_fault ts vs) ≡ passes ts vs → is_clean (cond b (first_fault ts vs) (fault_at t.offset)) ≡ (b && passes ts vs)
    go true e = e
    go false e = refl
