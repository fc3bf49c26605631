-- The answer of each public function, and what the buffer holds then, are its contract's alone: two buffers that are the same one with the
-- same text at the same place are equal, and so are the places after it. Assumes nothing.
use Rattle.octets.specs.Words.{ℕ, ◌≡◌, List}
use Rattle.octets.proofs.Tools.{refl, sym, ◌∙◌}
use Rattle.octets.specs.Determined.{Determined}
use Rattle.text.specs.Text.{Wrote}
use Rattle.text.proofs as the

-- u and v are what is held at the end: of the buffer, and of nothing else
pub as_written : {B : Type 0} {d text : List ℕ} {at x y : ℕ} (u v : List ℕ × B) → u.1 ≡ v.1 → Wrote d at text u.0 x → Wrote d at text v.0 y → (x ≡ y) × (u ≡ v)
as_written u v e p q = (p.past ∙ sym q.past, λ i. ((p.bytes ∙ sym q.bytes) i, e i))

pub put-byte-determined : Determined the.put_byte.Kinds.ps the.put_byte.Kinds.r the.put_byte.Reads.Learnt
put-byte-determined κs a x y u v = as_written u v refl

pub put-text-determined : Determined the.put_text.Kinds.ps the.put_text.Kinds.r the.put_text.Reads.Learnt
put-text-determined κs a x y u v = as_written u v refl

pub put-decimal-determined : Determined the.put_decimal.Kinds.ps the.put_decimal.Kinds.r the.put_decimal.Reads.Learnt
put-decimal-determined κs a x y u v = as_written u v refl

pub put-numbered-determined : Determined the.put_numbered.Kinds.ps the.put_numbered.Kinds.r the.put_numbered.Reads.Learnt
put-numbered-determined κs a x y u v = as_written u v refl
