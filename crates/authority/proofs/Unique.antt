-- The answer of each public function is its contract's alone: of constructors, decoders and encoders by the codec, and of an accessor by
-- one equation. A theorem for each function. Assumes nothing.
use Rattle.octets.specs.Words.{◌≡◌}
use Rattle.octets.proofs.Tools.{refl}
use Rattle.octets.specs.Determined.{Determined}
use Rattle.octets.proofs.UniqueLaws.{as-told, as-numbered}
use Rattle.codec.proofs.UniqueLaws.{as-made, as-built, as-decoded, as-encoded, as-given, as-put}
use Rattle.authority.specs.declared.current.CurrentFields.{CurrentFields}
use Rattle.authority.specs.Current.{current_numbers}
use Rattle.authority.proofs.mutation.FenceMutationAuthority as mutation
use Rattle.authority.proofs.mutation.FenceMutationAuthorityRecord as mutation-record
use Rattle.authority.proofs.current.CurrentFields as current-fields
use Rattle.authority.proofs.current.CurrentFenceToken as current
use Rattle.authority.proofs.current.CurrentFenceTokenRecord as current-record

pub mutation-initial-determined : Determined mutation.initial.Kinds.ps mutation.initial.Kinds.r mutation.initial.Reads.Learnt
mutation-initial-determined κs a x y u v = as-given x y

pub mutation-new-determined : Determined mutation.new.Kinds.ps mutation.new.Kinds.r mutation.new.Reads.Learnt
mutation-new-determined κs a x y u v = as-built x y

pub mutation-generation-determined : Determined mutation.generation.Kinds.ps mutation.generation.Kinds.r mutation.generation.Reads.Learnt
mutation-generation-determined κs a x y u v = as-told

pub mutation-in-flight-claim-determined : Determined mutation.in_flight_claim.Kinds.ps mutation.in_flight_claim.Kinds.r mutation.in_flight_claim.Reads.Learnt
mutation-in-flight-claim-determined κs a x y u v = as-told

pub mutation-is-sound-determined : Determined mutation-record.is_sound.Kinds.ps mutation-record.is_sound.Kinds.r mutation-record.is_sound.Reads.Learnt
mutation-is-sound-determined κs a x y u v = as-told

pub mutation-write-determined : Determined mutation-record.write.Kinds.ps mutation-record.write.Kinds.r mutation-record.write.Reads.Learnt
mutation-write-determined κs a x y u v = as-put u v refl refl

pub mutation-decode-determined : Determined mutation-record.decode.Kinds.ps mutation-record.decode.Kinds.r mutation-record.decode.Reads.Learnt
mutation-decode-determined κs a x y u v = as-decoded x y

pub mutation-encode-determined : Determined mutation-record.encode.Kinds.ps mutation-record.encode.Kinds.r mutation-record.encode.Reads.Learnt
mutation-encode-determined κs a x y u v = as-encoded x y u v refl refl

pub current-fields-obey-rule-determined : Determined current-fields.obey_rule.Kinds.ps current-fields.obey_rule.Kinds.r current-fields.obey_rule.Reads.Learnt
current-fields-obey-rule-determined κs a x y u v = as-told

pub current-initial-determined : Determined current.initial.Kinds.ps current.initial.Kinds.r current.initial.Reads.Learnt
current-initial-determined κs a x y u v = as-given x y

pub current-lifecycle-open-determined : Determined current.lifecycle_open.Kinds.ps current.lifecycle_open.Kinds.r current.lifecycle_open.Reads.Learnt
current-lifecycle-open-determined κs a x y u v = as-built x y

pub current-retirement-closed-determined : Determined current.retirement_closed.Kinds.ps current.retirement_closed.Kinds.r current.retirement_closed.Reads.Learnt
current-retirement-closed-determined κs a x y u v = as-built x y

pub current-registered-determined : Determined current.registered.Kinds.ps current.registered.Kinds.r current.registered.Reads.Learnt
current-registered-determined κs a x y u v = as-built x y

pub current-durable-fence-token-determined : Determined current.durable_fence_token.Kinds.ps current.durable_fence_token.Kinds.r current.durable_fence_token.Reads.Learnt
current-durable-fence-token-determined κs a x y u v = as-told

pub current-registered-socket-cookie-determined : Determined current.registered_socket_cookie.Kinds.ps current.registered_socket_cookie.Kinds.r current.registered_socket_cookie.Reads.Learnt
current-registered-socket-cookie-determined κs a x y u v = as-told

pub current-is-lifecycle-open-determined : Determined current.is_lifecycle_open.Kinds.ps current.is_lifecycle_open.Kinds.r current.is_lifecycle_open.Reads.Learnt
current-is-lifecycle-open-determined κs a x y u v = as-told

pub current-is-retirement-closed-determined : Determined current.is_retirement_closed.Kinds.ps current.is_retirement_closed.Kinds.r current.is_retirement_closed.Reads.Learnt
current-is-retirement-closed-determined κs a x y u v = as-told

pub current-control-determined : Determined current.control.Kinds.ps current.control.Kinds.r current.control.Reads.Learnt
current-control-determined κs a x y u v = as-told

pub current-is-sound-determined : Determined current-record.is_sound.Kinds.ps current-record.is_sound.Kinds.r current-record.is_sound.Reads.Learnt
current-is-sound-determined κs a x y u v = as-told

pub current-write-determined : Determined current-record.write.Kinds.ps current-record.write.Kinds.r current-record.write.Reads.Learnt
current-write-determined κs a x y u v = as-put u v refl refl

pub current-decode-determined : Determined current-record.decode.Kinds.ps current-record.decode.Kinds.r current-record.decode.Reads.Learnt
current-decode-determined κs a x y u v = as-decoded x y

pub current-encode-determined : Determined current-record.encode.Kinds.ps current-record.encode.Kinds.r current-record.encode.Reads.Learnt
current-encode-determined κs a x y u v = as-encoded x y u v refl refl

pub current-fields-to-record-determined : Determined current-fields.to_record.Kinds.ps current-fields.to_record.Kinds.r current-fields.to_record.Reads.Learnt
current-fields-to-record-determined κs a x y u v = as-built x y

pub current-fields-write-determined : Determined current-fields.write.Kinds.ps current-fields.write.Kinds.r current-fields.write.Reads.Learnt
current-fields-write-determined κs a x y u v = as-put u v refl refl

pub current-read-determined : Determined current-record.read.Kinds.ps current-record.read.Kinds.r current-record.read.Reads.Learnt
current-read-determined κs a x y u v = as-built x y

pub mutation-read-determined : Determined mutation-record.read.Kinds.ps mutation-record.read.Kinds.r mutation-record.read.Reads.Learnt
mutation-read-determined κs a x y u v = as-built x y

fields-injective : (x y : CurrentFields) → current_numbers x ≡ current_numbers y → x ≡ y
fields-injective x y e =
    let zeros : x.zeros ≡ y.zeros = cc in
    let control : x.control ≡ y.control = cc in
    let token : x.durable_fence_token.0 ≡ y.durable_fence_token.0 = cc in
    let cookie : x.registered_socket_cookie.0 ≡ y.registered_socket_cookie.0 = cc in
    λ i. record { zeros = zeros i; control = control i; durable_fence_token = record { 0 = token i }; registered_socket_cookie = record { 0 = cookie i } }

pub current-fields-determined : Determined current.fields.Kinds.ps current.fields.Kinds.r current.fields.Reads.Learnt
current-fields-determined κs a x y u v = as-numbered current_numbers fields-injective x y

pub current-blank-determined : Determined current-record.blank.Kinds.ps current-record.blank.Kinds.r current-record.blank.Reads.Learnt
current-blank-determined κs a x y u v = as-told

pub mutation-blank-determined : Determined mutation-record.blank.Kinds.ps mutation-record.blank.Kinds.r mutation-record.blank.Reads.Learnt
mutation-blank-determined κs a x y u v = as-told

pub current-if-sound-determined : Determined current-record.if_sound.Kinds.ps current-record.if_sound.Kinds.r current-record.if_sound.Reads.Learnt
current-if-sound-determined κs a x y u v = as-made x y

pub mutation-if-sound-determined : Determined mutation-record.if_sound.Kinds.ps mutation-record.if_sound.Kinds.r mutation-record.if_sound.Reads.Learnt
mutation-if-sound-determined κs a x y u v = as-made x y
