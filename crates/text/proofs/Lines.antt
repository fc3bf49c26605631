-- Newlines: joined texts have those of both, and a number in decimal has none. By induction. Assumes nothing.
use Rattle.octets.specs.Words.{ℕ, zero, suc, ◌+◌, ◌/◌, ◌%◌, ◌≡◌, Bool, true, false, cond, List, [], ◌∷◌, ◌++◌, eqb, ltb}
use Rattle.octets.proofs.Tools.{refl, ◌∙◌, arith, ne_eqb}
use Rattle.text.specs.Text.{decimal_in}
use Rattle.text.specs.Promises.{newlines, NewlinesAdd, NoNewline}

one_more : (t : Bool) (m n k : ℕ) → m ≡ n + k → cond t (suc m) m ≡ cond t (suc n) n + k
one_more true m n k e = omega arith
one_more false m n k e = e

pub newlines-append : NewlinesAdd
unfolding newlines
newlines-append [] b = omega arith
newlines-append (x ∷ a) b = one_more (eqb x 10) (newlines (a ++ b)) (newlines a) (newlines b) (newlines-append a b)

digit : (n : ℕ) → newlines ((48 + n) ∷ []) ≡ 0
unfolding newlines
digit n = rw (ne_eqb (48 + n) 10 (λ e. omega arith))

in-none : newlines [] ≡ 0
unfolding newlines
in-none = refl

in-digits : (t : Bool) (n : ℕ) (a : List ℕ) → newlines a ≡ 0 → newlines (cond t ((48 + n) ∷ []) (a ++ ((48 + n % 10) ∷ []))) ≡ 0
in-digits true n a e = digit n
in-digits false n a e = newlines-append a ((48 + n % 10) ∷ []) ∙ rw (e, digit (n % 10))

no-newline-in : (p n : ℕ) → newlines (decimal_in p n) ≡ 0
unfolding decimal_in
no-newline-in zero n = in-none
no-newline-in (suc p) n = in-digits (ltb n 10) n (decimal_in p (n / 10)) (no-newline-in p (n / 10))

pub no-newline : NoNewline
no-newline n = no-newline-in 20 n
