-- Steps of the port's proofs that docs/PORT.md names, and that no proof below needs any more: what is left of an IPv4 packet's tests once the
-- first five are passed; a search that has passed a record; a slot's number. Assumes nothing.
use Rattle.octets.specs.Words.{ℕ, ◌+◌, ◌-◌, ◌*◌, ◌%◌, ◌≤◌, ◌≡◌, Bool, true, false, cond, List, length, take, drop, get_or, eqb}
use Rattle.std.specs.Prelude.{Option, None, Some}
use Rattle.octets.specs.Octets.{octets_at, le, be, same_octets}
use Rattle.octets.proofs.Tools.{refl, sym, ap, ◌∙◌, arith, le-ltb}
use Rattle.packet.specs.Rfc791.{header_length, source}
use Rattle.packet.specs.Reading.{tested, ipv4_tests, ipv4_head}
use Rattle.table.specs.Table.{records, is_under}
use Rattle.table.proofs.TableLaws.{searched, found-on}
use Rattle.verdict.specs.declared.FenceVerdict.{FenceVerdict}
use Rattle.verdict.specs.Verdict.{slot_of, slot_number, slot_numbers}

-- n is the octet that has the header's length, b whether the source is the address, t the total length
pub left : (s a : List ℕ) (n : ℕ) (b : Bool) (t : ℕ) → n ≡ le (octets_at s 0 1) → b ≡ same_octets (source s) (octets_at a 0 4) → t ≡ be (octets_at s 2 2) →
    20 ≤ length s → 20 ≤ 4 * (n % 16) → b ≡ true → 4 * (n % 16) ≤ t → t ≤ length s →
    ipv4_head s a ≡ tested (drop 5 (ipv4_tests s a)) 17 (header_length s)
unfolding ipv4_head
left s a n b t en eb et h1 h2 h3 h4 h5 = simp (le-ltb _ _ h1, ← en, le-ltb _ _ h2, ← eb, h3, ← et, le-ltb _ _ h4, le-ltb _ _ h5)

-- the first of two records is passed: b is what the test of it answered
pub passed : (s : List ℕ) (k t at : ℕ) (b : Bool) → at + 80 ≤ length s → searched 0 k t (records s) ≡ searched at k t (records (drop at s)) →
    b ≡ is_under k t (take (at + 40 - at) (drop at s)) → b ≡ false →
    searched 0 k t (records s) ≡ searched (at + 40) k t (records (drop (at + 40) s))
passed s k t at b room upto asked not = upto ∙ found-on k t s at (at + 40) b refl (omega arith) asked not

-- a slot, from its numbers
slot_back : List ℕ → Option ℕ
slot_back ns = cond (eqb (length ns) 0) None (Some (get_or ns 0 0))

back : (s : Option ℕ) → slot_back (slot_numbers s) ≡ s
unfolding slot_back
back None = refl
back (Some n) = refl

pub number_of : (v : FenceVerdict) (s t : Option ℕ) → slot_numbers s ≡ slot_numbers (slot_of v) → s ≡ t → slot_number t ≡ slot_number (slot_of v)
number_of v s t p q = ap slot_number (sym q ∙ sym (back s) ∙ ap slot_back p ∙ back (slot_of v))
