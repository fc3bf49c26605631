-- The answer of each public function is its contract's alone: what the constructor, the decoder and the encoder give is made of the
-- arguments by the codec, and an accessor's answer is one equation. A theorem for each function. Assumes nothing.
use Rattle.octets.proofs.Tools.{refl}
use Rattle.octets.specs.Determined.{Determined}
use Rattle.octets.proofs.UniqueLaws.{as-told}
use Rattle.codec.proofs.UniqueLaws.{as-built, as-made, as-decoded, as-encoded, as-put}
use Rattle.config.proofs.FenceConfig as config
use Rattle.config.proofs.FenceConfigRecord as config-record

pub new-determined : Determined config.new.Kinds.ps config.new.Kinds.r config.new.Reads.Learnt
new-determined κs a x y u v = as-made x y

pub endpoint-determined : Determined config.endpoint.Kinds.ps config.endpoint.Kinds.r config.endpoint.Reads.Learnt
endpoint-determined κs a x y u v = as-told

pub root-cgroup-id-determined : Determined config.root_cgroup_id.Kinds.ps config.root_cgroup_id.Kinds.r config.root_cgroup_id.Reads.Learnt
root-cgroup-id-determined κs a x y u v = as-told

pub capacity-determined : Determined config.capacity.Kinds.ps config.capacity.Kinds.r config.capacity.Reads.Learnt
capacity-determined κs a x y u v = as-told

pub blank-determined : Determined config-record.blank.Kinds.ps config-record.blank.Kinds.r config-record.blank.Reads.Learnt
blank-determined κs a x y u v = as-told

pub is-sound-determined : Determined config-record.is_sound.Kinds.ps config-record.is_sound.Kinds.r config-record.is_sound.Reads.Learnt
is-sound-determined κs a x y u v = as-told

pub read-determined : Determined config-record.read.Kinds.ps config-record.read.Kinds.r config-record.read.Reads.Learnt
read-determined κs a x y u v = as-built x y

pub write-determined : Determined config-record.write.Kinds.ps config-record.write.Kinds.r config-record.write.Reads.Learnt
write-determined κs a x y u v = as-put u v refl refl

pub decode-determined : Determined config-record.decode.Kinds.ps config-record.decode.Kinds.r config-record.decode.Reads.Learnt
decode-determined κs a x y u v = as-decoded x y

pub encode-determined : Determined config-record.encode.Kinds.ps config-record.encode.Kinds.r config-record.encode.Reads.Learnt
encode-determined κs a x y u v = as-encoded x y u v refl refl

pub if-sound-determined : Determined config-record.if_sound.Kinds.ps config-record.if_sound.Kinds.r config-record.if_sound.Reads.Learnt
if-sound-determined κs a x y u v = as-made x y
