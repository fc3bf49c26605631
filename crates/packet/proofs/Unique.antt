-- The reading is the contract's alone: the contract gives the disposition as the definitions have it, and the count, and no two
-- dispositions stand for one, since `disposition_from` gives each back. Nor have two dispositions one number. Assumes nothing.
use Rattle.octets.specs.Words.{◌≡◌}
use Rattle.octets.proofs.Tools.{refl, sym, ap, ◌∙◌}
use Rattle.octets.proofs.UniqueLaws.{as-told, as-numbered}
use Rattle.octets.specs.Determined.{Determined}
use Rattle.packet.specs.Reading.{Disposition, protected, unrelated, indeterminate}
use Rattle.packet.specs.Answers.{disposition_of, disposition_from, disposition_number, disposition_numbered, answer_of}
use Rattle.packet.specs.declared.PacketEndpointDisposition.{PacketEndpointDisposition}
use Rattle.packet.specs.declared.PacketEndpointDisposition.TheVariants.{Protected, Unrelated, Indeterminate}
use Rattle.packet.specs.declared.PacketReading.{PacketReading}
use Rattle.packet.proofs as the

pub disposition-back : (d : PacketEndpointDisposition) → disposition_from (disposition_of d) ≡ d
disposition-back Protected = refl
disposition-back Unrelated = refl
disposition-back Indeterminate = refl

pub disposition-forth : (d : Disposition) → disposition_of (disposition_from d) ≡ d
disposition-forth protected = refl
disposition-forth unrelated = refl
disposition-forth indeterminate = refl

pub disposition-injective : (d e : PacketEndpointDisposition) → disposition_of d ≡ disposition_of e → d ≡ e
disposition-injective d e h = sym (disposition-back d) ∙ ap disposition_from h ∙ disposition-back e

-- a disposition from its number
pub number-back : (d : Disposition) → disposition_numbered (disposition_number d) ≡ d
number-back protected = refl
number-back unrelated = refl
number-back indeterminate = refl

pub number-injective : (d e : Disposition) → disposition_number d ≡ disposition_number e → d ≡ e
number-injective d e h = sym (number-back d) ∙ ap disposition_numbered h ∙ number-back e

pub reading-injective : (x y : PacketReading) → answer_of x ≡ answer_of y → x ≡ y
reading-injective x y e =
    let d : x.disposition ≡ y.disposition = disposition-injective x.disposition y.disposition (ap (λ r. r.disposition) e) in
    λ i. record { disposition = d i; headers = (e i).headers }

pub number-determined : Determined the.PacketEndpointDisposition.number.Kinds.ps the.PacketEndpointDisposition.number.Kinds.r the.PacketEndpointDisposition.number.Reads.Learnt
number-determined κs a x y u v = as-told

pub from-number-determined : Determined the.PacketEndpointDispositionFromU8.from.Kinds.ps the.PacketEndpointDispositionFromU8.from.Kinds.r the.PacketEndpointDispositionFromU8.from.Reads.Learnt
from-number-determined κs a x y u v = as-numbered disposition_of disposition-injective x y

pub classify-l3-udp-source-determined : Determined the.classify_l3_udp_source.Kinds.ps the.classify_l3_udp_source.Kinds.r the.classify_l3_udp_source.Reads.Learnt
classify-l3-udp-source-determined κs a x y u v = as-numbered answer_of reading-injective x y
