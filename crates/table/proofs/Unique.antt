-- The answer of each public function is its contract's alone. Of the search's answer, a part of the caller's table, its bytes and its
-- place: a part has a ghost name besides, which stands for nothing in the program. Assumes nothing.
use Rattle.octets.specs.Words.{ℕ, List}
use Rattle.octets.proofs.Tools.{refl, sym, ◌∙◌}
use Rattle.octets.proofs.UniqueLaws.{as-told}
use Rattle.octets.specs.Determined.{Determined, DeterminedAs}
use Rattle.table.proofs as the

pub find-record-determined : DeterminedAs the.find_record.Kinds.ps the.find_record.Kinds.r the.find_record.Reads.Learnt {S = λ κs. List ℕ × (ℕ × ℕ)} (λ κs x. (x.now, x.ref_ptr))
find-record-determined κs a x y u v p q = (λ i. ((p.bytes ∙ sym q.bytes) i, (p.place ∙ sym q.place) i), refl)

pub is-admissible-determined : Determined the.is_admissible.Kinds.ps the.is_admissible.Kinds.r the.is_admissible.Reads.Learnt
is-admissible-determined κs a x y u v = as-told
