-- The answer of each public function is its contract's alone: of constructors, decoders and encoders by the codec, of an accessor by one
-- equation, of a state by its control word, which no two share, and of fields by their numbers. A theorem for each function.
-- Assumes nothing.
use Rattle.std.specs.Prelude.{Result, Ok, Err}
use Rattle.octets.specs.Words.{ℕ, ◌≡◌, true}
use Rattle.octets.proofs.Tools.{refl, sym, ap, ◌∙◌, true≢false}
use Rattle.octets.specs.Determined.{Determined}
use Rattle.octets.proofs.UniqueLaws.{as-told, as-numbered}
use Rattle.codec.proofs.UniqueLaws.{as-made, as-built, as-decoded, as-encoded, as-put}
use Rattle.records.specs.declared.entry.FenceEntryState.{FenceEntryState}
use Rattle.records.specs.declared.entry.UnknownControl.{UnknownControl}
use Rattle.records.specs.declared.entry.EntryFields.{EntryFields}
use Rattle.records.specs.declared.cookie_value.CookieValueFields.{CookieValueFields}
use Rattle.records.specs.Entry.{control_of, state_listed, Names, entry_numbers}
use Rattle.records.specs.CookieValue.{cookie_value_numbers}
use Rattle.records.proofs.States.{control-injective, control-listed}
use Rattle.records.proofs.key.FenceCookieKey as key
use Rattle.records.proofs.key.FenceCookieKeyRecord as key-record
use Rattle.records.proofs.entry.FenceEntryState as state
use Rattle.records.proofs.entry.FenceEntryStateTryFromU32 as state-of
use Rattle.records.proofs.entry.RefusalFromUnknownControl as refusal
use Rattle.records.proofs.entry.EntryFields as entry-fields
use Rattle.records.proofs.entry.FenceEntry as entry
use Rattle.records.proofs.entry.FenceEntryRecord as entry-record
use Rattle.records.proofs.cookie_value.CookieValueFields as value-fields
use Rattle.records.proofs.cookie_value.FenceCookieValue as value
use Rattle.records.proofs.cookie_value.FenceCookieValueRecord as value-record

-- ---- the key

pub key-new-determined : Determined key.new.Kinds.ps key.new.Kinds.r key.new.Reads.Learnt
key-new-determined κs a x y u v = as-built x y

pub key-socket-cookie-determined : Determined key.socket_cookie.Kinds.ps key.socket_cookie.Kinds.r key.socket_cookie.Reads.Learnt
key-socket-cookie-determined κs a x y u v = as-told

pub key-durable-fence-token-determined : Determined key.durable_fence_token.Kinds.ps key.durable_fence_token.Kinds.r key.durable_fence_token.Reads.Learnt
key-durable-fence-token-determined κs a x y u v = as-told

pub key-is-sound-determined : Determined key-record.is_sound.Kinds.ps key-record.is_sound.Kinds.r key-record.is_sound.Reads.Learnt
key-is-sound-determined κs a x y u v = as-told

pub key-read-determined : Determined key-record.read.Kinds.ps key-record.read.Kinds.r key-record.read.Reads.Learnt
key-read-determined κs a x y u v = as-built x y

pub key-write-determined : Determined key-record.write.Kinds.ps key-record.write.Kinds.r key-record.write.Reads.Learnt
key-write-determined κs a x y u v = as-put u v refl refl

pub key-decode-determined : Determined key-record.decode.Kinds.ps key-record.decode.Kinds.r key-record.decode.Reads.Learnt
key-decode-determined κs a x y u v = as-decoded x y

pub key-encode-determined : Determined key-record.encode.Kinds.ps key-record.encode.Kinds.r key-record.encode.Reads.Learnt
key-encode-determined κs a x y u v = as-encoded x y u v refl refl

-- ---- a state

pub state-control-determined : Determined state.control.Kinds.ps state.control.Kinds.r state.control.Reads.Learnt
state-control-determined κs a x y u v = as-told

pub state-is-closed-determined : Determined state.is_closed.Kinds.ps state.is_closed.Kinds.r state.is_closed.Reads.Learnt
state-is-closed-determined κs a x y u v = as-told

-- a word that a state has is listed
listed : (k : ℕ) (st : FenceEntryState) → control_of st ≡ k → state_listed k ≡ true
listed k st h = ap state_listed (sym h) ∙ control-listed st

names-injective : (k : ℕ) (x y : Result FenceEntryState UnknownControl) → Names k x → Names k y → x ≡ y
names-injective k (Ok a) (Ok b) p q = ap Ok (control-injective a b (p ∙ sym q))
names-injective k (Ok a) (Err f) p q = absurd (true≢false (sym (listed k a p) ∙ q.1))
names-injective k (Err e) (Ok b) p q = absurd (true≢false (sym (listed k b q) ∙ p.1))
names-injective k (Err e) (Err f) p q = ap (λ (w : ℕ). Err (record { 0 = w })) (p.0 ∙ sym q.0)

pub state-of-determined : Determined state-of.try_from.Kinds.ps state-of.try_from.Kinds.r state-of.try_from.Reads.Learnt
state-of-determined κs a x y u v = λ p q. (names-injective _ x y p q, refl)

pub refusal-from-determined : Determined refusal.from.Kinds.ps refusal.from.Kinds.r refusal.from.Reads.Learnt
refusal-from-determined κs a x y u v = as-told

-- ---- the entry

pub entry-fields-obey-rule-determined : Determined entry-fields.obey_rule.Kinds.ps entry-fields.obey_rule.Kinds.r entry-fields.obey_rule.Reads.Learnt
entry-fields-obey-rule-determined κs a x y u v = as-told

pub entry-fields-to-record-determined : Determined entry-fields.to_record.Kinds.ps entry-fields.to_record.Kinds.r entry-fields.to_record.Reads.Learnt
entry-fields-to-record-determined κs a x y u v = as-built x y

pub entry-fields-write-determined : Determined entry-fields.write.Kinds.ps entry-fields.write.Kinds.r entry-fields.write.Reads.Learnt
entry-fields-write-determined κs a x y u v = as-put u v refl refl

pub entry-initial-closed-determined : Determined entry.initial_closed.Kinds.ps entry.initial_closed.Kinds.r entry.initial_closed.Reads.Learnt
entry-initial-closed-determined κs a x y u v = as-built x y

pub entry-active-determined : Determined entry.active.Kinds.ps entry.active.Kinds.r entry.active.Reads.Learnt
entry-active-determined κs a x y u v = as-built x y

pub entry-terminal-closed-determined : Determined entry.terminal_closed.Kinds.ps entry.terminal_closed.Kinds.r entry.terminal_closed.Reads.Learnt
entry-terminal-closed-determined κs a x y u v = as-built x y

pub entry-reclaiming-determined : Determined entry.reclaiming.Kinds.ps entry.reclaiming.Kinds.r entry.reclaiming.Reads.Learnt
entry-reclaiming-determined κs a x y u v = as-built x y

pub entry-state-determined : Determined entry.state.Kinds.ps entry.state.Kinds.r entry.state.Reads.Learnt
entry-state-determined κs a x y u v = as-told

pub entry-durable-fence-token-determined : Determined entry.durable_fence_token.Kinds.ps entry.durable_fence_token.Kinds.r entry.durable_fence_token.Reads.Learnt
entry-durable-fence-token-determined κs a x y u v = as-told

pub entry-deadline-boot-ns-determined : Determined entry.deadline_boot_ns.Kinds.ps entry.deadline_boot_ns.Kinds.r entry.deadline_boot_ns.Reads.Learnt
entry-deadline-boot-ns-determined κs a x y u v = as-told

pub entry-control-epoch-determined : Determined entry.control_epoch.Kinds.ps entry.control_epoch.Kinds.r entry.control_epoch.Reads.Learnt
entry-control-epoch-determined κs a x y u v = as-told

pub entry-is-closed-determined : Determined entry.is_closed.Kinds.ps entry.is_closed.Kinds.r entry.is_closed.Reads.Learnt
entry-is-closed-determined κs a x y u v = as-told

pub entry-is-terminal-determined : Determined entry.is_terminal.Kinds.ps entry.is_terminal.Kinds.r entry.is_terminal.Reads.Learnt
entry-is-terminal-determined κs a x y u v = as-told

pub entry-is-reclaiming-determined : Determined entry.is_reclaiming.Kinds.ps entry.is_reclaiming.Kinds.r entry.is_reclaiming.Reads.Learnt
entry-is-reclaiming-determined κs a x y u v = as-told

entry-fields-injective : (x y : EntryFields) → entry_numbers x ≡ entry_numbers y → x ≡ y
entry-fields-injective x y e =
    let zeros : x.zeros ≡ y.zeros = cc in
    let control : x.control ≡ y.control = cc in
    let token : x.durable_fence_token.0 ≡ y.durable_fence_token.0 = cc in
    let deadline : x.deadline_boot_ns.0 ≡ y.deadline_boot_ns.0 = cc in
    let epoch : x.control_epoch.0 ≡ y.control_epoch.0 = cc in
    λ i. record { zeros = zeros i; control = control i; durable_fence_token = record { 0 = token i }; deadline_boot_ns = record { 0 = deadline i }; control_epoch = record { 0 = epoch i } }

pub entry-fields-determined : Determined entry.fields.Kinds.ps entry.fields.Kinds.r entry.fields.Reads.Learnt
entry-fields-determined κs a x y u v = as-numbered entry_numbers entry-fields-injective x y

pub entry-is-sound-determined : Determined entry-record.is_sound.Kinds.ps entry-record.is_sound.Kinds.r entry-record.is_sound.Reads.Learnt
entry-is-sound-determined κs a x y u v = as-told

pub entry-read-determined : Determined entry-record.read.Kinds.ps entry-record.read.Kinds.r entry-record.read.Reads.Learnt
entry-read-determined κs a x y u v = as-built x y

pub entry-write-determined : Determined entry-record.write.Kinds.ps entry-record.write.Kinds.r entry-record.write.Reads.Learnt
entry-write-determined κs a x y u v = as-put u v refl refl

pub entry-decode-determined : Determined entry-record.decode.Kinds.ps entry-record.decode.Kinds.r entry-record.decode.Reads.Learnt
entry-decode-determined κs a x y u v = as-decoded x y

pub entry-encode-determined : Determined entry-record.encode.Kinds.ps entry-record.encode.Kinds.r entry-record.encode.Reads.Learnt
entry-encode-determined κs a x y u v = as-encoded x y u v refl refl

-- ---- the cookie value

pub value-fields-obey-rule-determined : Determined value-fields.obey_rule.Kinds.ps value-fields.obey_rule.Kinds.r value-fields.obey_rule.Reads.Learnt
value-fields-obey-rule-determined κs a x y u v = as-told

pub value-fields-to-record-determined : Determined value-fields.to_record.Kinds.ps value-fields.to_record.Kinds.r value-fields.to_record.Reads.Learnt
value-fields-to-record-determined κs a x y u v = as-built x y

pub value-fields-write-determined : Determined value-fields.write.Kinds.ps value-fields.write.Kinds.r value-fields.write.Reads.Learnt
value-fields-write-determined κs a x y u v = as-put u v refl refl

pub value-new-determined : Determined value.new.Kinds.ps value.new.Kinds.r value.new.Reads.Learnt
value-new-determined κs a x y u v = as-built x y

pub value-key-determined : Determined value.key.Kinds.ps value.key.Kinds.r value.key.Reads.Learnt
value-key-determined κs a x y u v = as-told

pub value-entry-determined : Determined value.entry.Kinds.ps value.entry.Kinds.r value.entry.Reads.Learnt
value-entry-determined κs a x y u v = as-told

value-fields-injective : (x y : CookieValueFields) → cookie_value_numbers x ≡ cookie_value_numbers y → x ≡ y
value-fields-injective x y e =
    let zeros : x.zeros ≡ y.zeros = cc in
    let control : x.control ≡ y.control = cc in
    let cookie : x.socket_cookie.0 ≡ y.socket_cookie.0 = cc in
    let token : x.durable_fence_token.0 ≡ y.durable_fence_token.0 = cc in
    let deadline : x.deadline_boot_ns.0 ≡ y.deadline_boot_ns.0 = cc in
    let epoch : x.control_epoch.0 ≡ y.control_epoch.0 = cc in
    λ i. record {
      zeros = zeros i;
      control = control i;
      socket_cookie = record { 0 = cookie i };
      durable_fence_token = record { 0 = token i };
      deadline_boot_ns = record { 0 = deadline i };
      control_epoch = record { 0 = epoch i };
    }

pub value-fields-determined : Determined value.fields.Kinds.ps value.fields.Kinds.r value.fields.Reads.Learnt
value-fields-determined κs a x y u v = as-numbered cookie_value_numbers value-fields-injective x y

pub value-is-sound-determined : Determined value-record.is_sound.Kinds.ps value-record.is_sound.Kinds.r value-record.is_sound.Reads.Learnt
value-is-sound-determined κs a x y u v = as-told

pub value-read-determined : Determined value-record.read.Kinds.ps value-record.read.Kinds.r value-record.read.Reads.Learnt
value-read-determined κs a x y u v = as-built x y

pub value-write-determined : Determined value-record.write.Kinds.ps value-record.write.Kinds.r value-record.write.Reads.Learnt
value-write-determined κs a x y u v = as-put u v refl refl

pub value-decode-determined : Determined value-record.decode.Kinds.ps value-record.decode.Kinds.r value-record.decode.Reads.Learnt
value-decode-determined κs a x y u v = as-decoded x y

pub value-encode-determined : Determined value-record.encode.Kinds.ps value-record.encode.Kinds.r value-record.encode.Reads.Learnt
value-encode-determined κs a x y u v = as-encoded x y u v refl refl

pub key-blank-determined : Determined key-record.blank.Kinds.ps key-record.blank.Kinds.r key-record.blank.Reads.Learnt
key-blank-determined κs a x y u v = as-told

pub entry-blank-determined : Determined entry-record.blank.Kinds.ps entry-record.blank.Kinds.r entry-record.blank.Reads.Learnt
entry-blank-determined κs a x y u v = as-told

pub value-blank-determined : Determined value-record.blank.Kinds.ps value-record.blank.Kinds.r value-record.blank.Reads.Learnt
value-blank-determined κs a x y u v = as-told

pub key-if-sound-determined : Determined key-record.if_sound.Kinds.ps key-record.if_sound.Kinds.r key-record.if_sound.Reads.Learnt
key-if-sound-determined κs a x y u v = as-made x y

pub entry-if-sound-determined : Determined entry-record.if_sound.Kinds.ps entry-record.if_sound.Kinds.r entry-record.if_sound.Reads.Learnt
entry-if-sound-determined κs a x y u v = as-made x y

pub value-if-sound-determined : Determined value-record.if_sound.Kinds.ps value-record.if_sound.Kinds.r value-record.if_sound.Reads.Learnt
value-if-sound-determined κs a x y u v = as-made x y
