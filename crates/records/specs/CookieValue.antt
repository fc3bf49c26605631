-- Document 01, 'Record layouts': "Cookie value, 40: four zeros, control, cookie (not 0), then token, deadline, epoch as in Entry."
-- Assumes nothing.
use Rattle.std.specs.Prelude.{ℕ, ◌^◌, ◌<◌, Bool, not, ◌&&◌, List, [], ◌∷◌, get_or, eqb}
use Rattle.codec.specs.Words.{little, test, Codec, sound}
use Rattle.records.specs.declared.entry.FenceEntryState.{FenceEntryState}
use Rattle.records.specs.declared.entry.FenceEntryState.TheVariants.{InitialClosed}
use Rattle.records.specs.declared.entry.FenceEntry.{FenceEntry}
use Rattle.records.specs.declared.key.FenceCookieKey.{FenceCookieKey}
use Rattle.records.specs.declared.cookie_value.FenceCookieValue.{FenceCookieValue}
use Rattle.records.specs.declared.cookie_value.CookieValueFields.{CookieValueFields}
use Rattle.records.specs.Key.{key_codec}
use Rattle.records.specs.Entry.{control_of, state_from, state_listed, odd_token, deadline_fits, epoch_fits, entry, entry_codec}

abbrev pub cookie_value : FenceEntryState → ℕ → ℕ → ℕ → ℕ → FenceCookieValue
cookie_value st c t d e = record {
  state = st;
  socket_cookie = record { 0 = c };
  durable_fence_token = record { 0 = t };
  deadline_boot_ns = record { 0 = d };
  control_epoch = record { 0 = e };
}

abbrev pub cookie_value_codec : Codec FenceCookieValue
cookie_value_codec = record {
  layout = little 4 ∷ little 4 ∷ little 8 ∷ little 8 ∷ little 8 ∷ little 8 ∷ [];
  tests =
      test 0 (λ vs. eqb (get_or vs 0 0) 0) ∷
      test 4 (λ vs. state_listed (get_or vs 1 0)) ∷
      test 8 (λ vs. not (eqb (get_or vs 2 0) 0)) ∷
      test 16 (λ vs. odd_token (get_or vs 3 0)) ∷
      test 24 (λ vs. deadline_fits (get_or vs 1 0) (get_or vs 4 0)) ∷
      test 32 (λ vs. epoch_fits (get_or vs 1 0) (get_or vs 5 0)) ∷ [];
  of = λ vs. cookie_value (state_from (get_or vs 1 0)) (get_or vs 2 0) (get_or vs 3 0) (get_or vs 4 0) (get_or vs 5 0);
  fields = λ v. 0 ∷ control_of v.state ∷ v.socket_cookie.0 ∷ v.durable_fence_token.0 ∷ v.deadline_boot_ns.0 ∷ v.control_epoch.0 ∷ [];
  blank = cookie_value InitialClosed 0 0 0 0;
}

-- the numbers of fields
abbrev pub cookie_value_numbers : CookieValueFields → List ℕ
cookie_value_numbers f = f.zeros ∷ f.control ∷ f.socket_cookie.0 ∷ f.durable_fence_token.0 ∷ f.deadline_boot_ns.0 ∷ f.control_epoch.0 ∷ []

-- a value of its type
abbrev pub CookieValueFormed : FenceCookieValue → Type 0
CookieValueFormed v =
    (v.socket_cookie.0 < 2 ^ 64) × (v.durable_fence_token.0 < 2 ^ 64) × (v.deadline_boot_ns.0 < 2 ^ 64) × (v.control_epoch.0 < 2 ^ 64)

-- the key and the entry of a value: each with the token
abbrev pub key_of : FenceCookieValue → FenceCookieKey
key_of v = record { socket_cookie = v.socket_cookie; durable_fence_token = v.durable_fence_token }

abbrev pub entry_of : FenceCookieValue → FenceEntry
entry_of v = entry v.state v.durable_fence_token.0 v.deadline_boot_ns.0 v.control_epoch.0

-- what the constructor asks of a key and an entry: each sound, and one token in both; and the numbers that they give
unfoldable pub agreeing : FenceCookieKey → FenceEntry → Bool
agreeing k e = sound key_codec k && (sound entry_codec e && eqb k.durable_fence_token.0 e.durable_fence_token.0)

abbrev pub pair_fields : FenceCookieKey → FenceEntry → List ℕ
pair_fields k e = 0 ∷ control_of e.state ∷ k.socket_cookie.0 ∷ k.durable_fence_token.0 ∷ e.deadline_boot_ns.0 ∷ e.control_epoch.0 ∷ []
