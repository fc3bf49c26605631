-- The views of the seven records: which fields of document 01's 'Record layouts' are a record's own numbers. Marks, versions and zeros
-- are not. Assumes nothing.
use Rattle.std.specs.Prelude.{ℕ, List, [], ◌∷◌, ◌++◌}
use Rattle.authority.specs.declared.current.CurrentFenceToken.{CurrentFenceToken}
use Rattle.authority.specs.declared.mutation.FenceMutationAuthority.{FenceMutationAuthority}
use Rattle.records.specs.declared.key.FenceCookieKey.{FenceCookieKey}
use Rattle.records.specs.declared.entry.FenceEntry.{FenceEntry}
use Rattle.records.specs.declared.cookie_value.FenceCookieValue.{FenceCookieValue}
use Rattle.config.specs.declared.FenceConfig.{FenceConfig}
use Rattle.inspection.specs.declared.FenceInspection.{FenceInspection}
use Rattle.authority.specs.Current.{current_codec}
use Rattle.authority.specs.Mutation.{mutation_codec}
use Rattle.records.specs.Key.{key_codec}
use Rattle.records.specs.Entry.{entry_codec}
use Rattle.records.specs.CookieValue.{cookie_value_codec}
use Rattle.config.specs.Config.{config_mark, config_codec}
use Rattle.inspection.specs.Inspection.{inspection_mark, inspection_codec}
use Rattle.export.specs.View.{Slot, own, fixed, View}

-- control, token, cookie
abbrev pub current_view : View CurrentFenceToken
current_view = record { codec = current_codec; slots = fixed 0 ∷ own 8 ∷ own 8 ∷ own 8 ∷ [] }

-- generation, claim
abbrev pub mutation_view : View FenceMutationAuthority
mutation_view = record { codec = mutation_codec; slots = own 8 ∷ own 8 ∷ [] }

-- cookie, token
abbrev pub key_view : View FenceCookieKey
key_view = record { codec = key_codec; slots = own 8 ∷ own 8 ∷ [] }

-- control, token, deadline, epoch
abbrev pub entry_view : View FenceEntry
entry_view = record { codec = entry_codec; slots = fixed 0 ∷ own 8 ∷ own 8 ∷ own 8 ∷ own 8 ∷ [] }

-- control, cookie, token, deadline, epoch
abbrev pub cookie_value_view : View FenceCookieValue
cookie_value_view = record { codec = cookie_value_codec; slots = fixed 0 ∷ own 8 ∷ own 8 ∷ own 8 ∷ own 8 ∷ own 8 ∷ [] }

-- a head, with its mark: its own number is the octet after the version
abbrev pub head_slots : ℕ → List Slot
head_slots mark = fixed mark ∷ fixed 5 ∷ own 8 ∷ fixed 0 ∷ []

-- family, port, capacity, root cgroup, and the sixteen octets of the address
abbrev pub config_view : View FenceConfig
config_view = record { codec = config_codec; slots = head_slots config_mark ++ (own 8 ∷ fixed 0 ∷ own 8 ∷ own 8 ∷ own 16 ∷ []) }

-- the flag, then the own numbers of the current record, of the mutation authority and of the cookie value
abbrev pub inspection_view : View FenceInspection
inspection_view = record {
  codec = inspection_codec;
  slots =
      head_slots inspection_mark ++ (current_view.slots ++ (mutation_view.slots ++ (cookie_value_view.slots ++ (fixed 0 ∷ []))));
}
