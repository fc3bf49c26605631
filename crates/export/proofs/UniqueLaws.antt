-- Uniqueness of what a view's two functions answer, from the contracts that all views share: a number and an output are made of the
-- arguments by the view. Assumes nothing.
use Rattle.octets.specs.Words.{ℕ, ◌≡◌, List}
use Rattle.octets.proofs.Tools.{sym, ◌∙◌}
use Rattle.export.specs.View.{View, ViewDecoded, ViewEncoded}

-- u and v are what is held at the end: of what is only read nothing more, and of the output its bytes
module _ {X Y : Type 0} (u v : X × (List ℕ × Y)) (e : u.0 ≡ v.0) (f : u.1.1 ≡ v.1.1) where
  alike : {m n k : ℕ} {z : List ℕ} → m ≡ k → n ≡ k → u.1.0 ≡ z → v.1.0 ≡ z → (m ≡ n) × (u ≡ v)
  alike p q r s = (p ∙ sym q, λ i. (e i, ((r ∙ sym s) i, f i)))

  pub as-view-decoded : {R : Type 0} {W : View R} {s out : List ℕ} {m n : ℕ} → ViewDecoded W s out m u.1.0 → ViewDecoded W s out n v.1.0 → (m ≡ n) × (u ≡ v)
  as-view-decoded p q = alike p.number q.number p.output q.output

  pub as-view-encoded : {R : Type 0} {W : View R} {s out : List ℕ} {m n : ℕ} → ViewEncoded W s out m u.1.0 → ViewEncoded W s out n v.1.0 → (m ≡ n) × (u ≡ v)
  as-view-encoded p q = alike p.number q.number p.output q.output
