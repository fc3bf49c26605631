-- The answer of each public function is its contract's alone: what the constructor, the decoder and the encoder give is made of the
-- arguments by the codec, and an accessor's answer is one equation. A theorem for each function. Assumes nothing.
use Rattle.octets.proofs.Tools.{refl}
use Rattle.octets.specs.Determined.{Determined}
use Rattle.octets.proofs.UniqueLaws.{as-told}
use Rattle.codec.proofs.UniqueLaws.{as-built, as-made, as-decoded, as-encoded, as-put}
use Rattle.inspection.proofs.inspected as inspected
use Rattle.inspection.proofs.FenceInspection as inspection
use Rattle.inspection.proofs.FenceInspectionRecord as inspection-record

pub inspected-flag-determined : Determined inspected.flag.Kinds.ps inspected.flag.Kinds.r inspected.flag.Reads.Learnt
inspected-flag-determined κs a x y u v = as-told

pub inspected-is-sound-determined : Determined inspected.is_sound.Kinds.ps inspected.is_sound.Kinds.r inspected.is_sound.Reads.Learnt
inspected-is-sound-determined κs a x y u v = as-told

pub new-determined : Determined inspection.new.Kinds.ps inspection.new.Kinds.r inspection.new.Reads.Learnt
new-determined κs a x y u v = as-made x y

pub current-determined : Determined inspection.current.Kinds.ps inspection.current.Kinds.r inspection.current.Reads.Learnt
current-determined κs a x y u v = as-told

pub mutation-determined : Determined inspection.mutation.Kinds.ps inspection.mutation.Kinds.r inspection.mutation.Reads.Learnt
mutation-determined κs a x y u v = as-told

pub entry-determined : Determined inspection.entry.Kinds.ps inspection.entry.Kinds.r inspection.entry.Reads.Learnt
entry-determined κs a x y u v = as-told

pub is-sound-determined : Determined inspection-record.is_sound.Kinds.ps inspection-record.is_sound.Kinds.r inspection-record.is_sound.Reads.Learnt
is-sound-determined κs a x y u v = as-told

pub read-determined : Determined inspection-record.read.Kinds.ps inspection-record.read.Kinds.r inspection-record.read.Reads.Learnt
read-determined κs a x y u v = as-built x y

pub write-determined : Determined inspection-record.write.Kinds.ps inspection-record.write.Kinds.r inspection-record.write.Reads.Learnt
write-determined κs a x y u v = as-put u v refl refl

pub decode-determined : Determined inspection-record.decode.Kinds.ps inspection-record.decode.Kinds.r inspection-record.decode.Reads.Learnt
decode-determined κs a x y u v = as-decoded x y

pub encode-determined : Determined inspection-record.encode.Kinds.ps inspection-record.encode.Kinds.r inspection-record.encode.Reads.Learnt
encode-determined κs a x y u v = as-encoded x y u v refl refl

pub blank-determined : Determined inspection-record.blank.Kinds.ps inspection-record.blank.Kinds.r inspection-record.blank.Reads.Learnt
blank-determined κs a x y u v = as-told

pub if-sound-determined : Determined inspection-record.if_sound.Kinds.ps inspection-record.if_sound.Kinds.r inspection-record.if_sound.Reads.Learnt
if-sound-determined κs a x y u v = as-made x y
