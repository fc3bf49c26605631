-- Document 01, 'Record layouts': "Key, 16: cookie, token, neither 0. No parity is asked." Assumes nothing.
use Rattle.std.specs.Prelude.{◌^◌, ◌<◌, not, [], ◌∷◌, get_or, eqb}
use Rattle.codec.specs.Words.{little, test, Codec}
use Rattle.records.specs.declared.key.FenceCookieKey.{FenceCookieKey}

abbrev pub key_codec : Codec FenceCookieKey
key_codec = record {
  layout = little 8 ∷ little 8 ∷ [];
  tests = test 0 (λ vs. not (eqb (get_or vs 0 0) 0)) ∷ test 8 (λ vs. not (eqb (get_or vs 1 0) 0)) ∷ [];
  of = λ vs. record { socket_cookie = record { 0 = get_or vs 0 0 }; durable_fence_token = record { 0 = get_or vs 1 0 } };
  fields = λ v. v.socket_cookie.0 ∷ v.durable_fence_token.0 ∷ [];
  blank = record { socket_cookie = record { 0 = 0 }; durable_fence_token = record { 0 = 0 } };
}

-- a value of its type
abbrev pub KeyFormed : FenceCookieKey → Type 0
KeyFormed v = (v.socket_cookie.0 < 2 ^ 64) × (v.durable_fence_token.0 < 2 ^ 64)
