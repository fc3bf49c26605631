-- What the answer's types stand for: a disposition as the definitions have it, its number, and the answer of the definitions. Assumes
-- nothing.
use Rattle.std.specs.Prelude.{ℕ, Bool, true, false, cond, eqb}
use Rattle.packet.specs.Reading.{Disposition, protected, unrelated, indeterminate, Answer}
use Rattle.packet.specs.declared.PacketEndpointDisposition.{PacketEndpointDisposition}
use Rattle.packet.specs.declared.PacketEndpointDisposition.TheVariants.{Protected, Unrelated, Indeterminate}
use Rattle.packet.specs.declared.PacketReading.{PacketReading}

-- one of three things, by the disposition
abbrev pub by_disposition : {A : Type 0} → Disposition → A → A → A → A
by_disposition protected p u i = p
by_disposition unrelated p u i = u
by_disposition indeterminate p u i = i

-- 01's rules 3 and 4: "packet Unrelated", "packet Indeterminate"
abbrev pub is_unrelated : Disposition → Bool
is_unrelated d = by_disposition d false true false

abbrev pub is_indeterminate : Disposition → Bool
is_indeterminate d = by_disposition d false false true

-- the three cases of packet.rs, which 01's 'Reading a packet' names
abbrev pub disposition_of : PacketEndpointDisposition → Disposition
disposition_of Protected = protected
disposition_of Unrelated = unrelated
disposition_of Indeterminate = indeterminate

-- and back
abbrev pub disposition_from : Disposition → PacketEndpointDisposition
disposition_from d = by_disposition d Protected Unrelated Indeterminate

-- the dispositions by number: 01 gives none, so they are counted from 0 in the order of packet.rs
abbrev pub disposition_number : Disposition → ℕ
disposition_number d = by_disposition d 0 1 2

-- the disposition of a number; one that none has is taken for Indeterminate's
abbrev pub disposition_numbered : ℕ → Disposition
disposition_numbered n = cond (eqb n 0) protected (cond (eqb n 1) unrelated indeterminate)

-- a reading as the definitions have it
abbrev pub answer_of : PacketReading → Answer
answer_of r = record { disposition = disposition_of r.disposition; headers = r.headers }
