-- What is answered with a reading beside it, by the room that there is; and that the answer and the room are the contract's alone.
-- Assumes nothing.
use Rattle.octets.specs.Words.{ℕ, ◌<◌, ◌≤◌, ◌≡◌, List, length}
use Rattle.octets.proofs.Tools.{sym, ap, ◌∙◌, lt-leb, le-leb}
use Rattle.octets.specs.Octets.{put, le_bytes}
use Rattle.export.specs.Export.{Lent}

module _ {answer headers : ℕ} {out : List ℕ} where
  pub lent-short : length out < 8 → Lent answer headers out 256 out
  lent-short h = record { number = simp (lt-leb 8 (length out) h); output = simp (lt-leb 8 (length out) h) }

  pub lent-done : {n : ℕ} {out' : List ℕ} → 8 ≤ length out → n ≡ answer → out' ≡ put out 0 (le_bytes 8 headers) → Lent answer headers out n out'
  lent-done h p q = record { number = simp (le-leb 8 (length out) h) p; output = simp (le-leb 8 (length out) h) q }

-- What is held at the end, u or v, is made of the room's octets, a or b, and of nothing else that could differ.
pub as_lent : {X : Type 0} {u v : X} {a b : List ℕ} (make : List ℕ → X) → u ≡ make a → v ≡ make b → {answer headers : ℕ} {out : List ℕ} {m n : ℕ} →
    Lent answer headers out m a → Lent answer headers out n b → (m ≡ n) × (u ≡ v)
as_lent make e f p q = (p.number ∙ sym q.number, e ∙ ap make (p.output ∙ sym q.output) ∙ sym f)
