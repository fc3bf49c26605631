-- The answer of each public function is its contract's alone. A verdict is told by its slot: no two share one. Assumes nothing.
use Rattle.octets.proofs.UniqueLaws.{as-told, as-numbered}
use Rattle.octets.specs.Determined.{Determined}
use Rattle.verdict.specs.Verdict.{slot_of}
pub use Rattle.verdict.proofs.Laws.{slot-injective, number-injective}
use Rattle.verdict.proofs as the

pub counter-slot-determined : Determined the.FenceVerdict.counter_slot.Kinds.ps the.FenceVerdict.counter_slot.Kinds.r the.FenceVerdict.counter_slot.Reads.Learnt
counter-slot-determined κs a x y u v = as-told

pub slot-number-determined : Determined the.FenceVerdict.slot_number.Kinds.ps the.FenceVerdict.slot_number.Kinds.r the.FenceVerdict.slot_number.Reads.Learnt
slot-number-determined κs a x y u v = as-told

pub must-drop-determined : Determined the.FenceVerdict.must_drop.Kinds.ps the.FenceVerdict.must_drop.Kinds.r the.FenceVerdict.must_drop.Reads.Learnt
must-drop-determined κs a x y u v = as-told

pub new-context-determined : Determined the.PacketFenceContext.new.Kinds.ps the.PacketFenceContext.new.Kinds.r the.PacketFenceContext.new.Reads.Learnt
new-context-determined κs a x y u v = as-told

pub new-snapshot-determined : Determined the.FenceAuthoritySnapshot.new.Kinds.ps the.FenceAuthoritySnapshot.new.Kinds.r the.FenceAuthoritySnapshot.new.Reads.Learnt
new-snapshot-determined κs a x y u v = as-told

pub decide-egress-determined : Determined the.decide_egress.Kinds.ps the.decide_egress.Kinds.r the.decide_egress.Reads.Learnt
decide-egress-determined κs a x y u v = as-numbered slot_of slot-injective x y
