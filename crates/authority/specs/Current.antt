-- Document 01, 'Record layouts': "Current, 24: all zero is the initial record. Else bytes 0-3 zero, control u32, token u64, cookie
-- u64." Assumes nothing.
use Rattle.std.specs.Prelude.{ℕ, ◌%◌, ◌^◌, ◌<◌, Bool, true, false, cond, not, ◌&&◌, ◌||◌, List, [], ◌∷◌, get_or, eqb}
use Rattle.codec.specs.Words.{little, test, Codec}
use Rattle.authority.specs.declared.current.CurrentFenceToken.{CurrentFenceToken}
use Rattle.authority.specs.declared.current.CurrentFields.{CurrentFields}

abbrev pub current : ℕ → ℕ → Bool → CurrentFenceToken
current t c b = record { durable_fence_token = record { 0 = t }; registered_socket_cookie = record { 0 = c }; retirement_closed = b }

-- the control words of a token that is published: open, and retired
abbrev pub open_control : ℕ
open_control = 0x4f45_0201

abbrev pub retired_control : ℕ
retired_control = 0x4f45_0202

-- of control, token, cookie: one of the two words, or all zero, the initial record
unfoldable pub current_listed : ℕ → ℕ → ℕ → Bool
current_listed k t c = cond (eqb k 0) (eqb t 0 && eqb c 0) (eqb k open_control || eqb k retired_control)

-- of control and token: open, "odd token"; retired, "even token not 0"
unfoldable pub token_fits : ℕ → ℕ → Bool
token_fits k t = cond (eqb k open_control) (not (eqb (t % 2) 0)) (cond (eqb k retired_control) (eqb (t % 2) 0 && not (eqb t 0)) true)

-- of control and cookie: open, "cookie may be 0 (open) or not (registered)"; retired, "cookie 0"
unfoldable pub cookie_fits : ℕ → ℕ → Bool
cookie_fits k c = cond (eqb k retired_control) (eqb c 0) true

-- the control of a record: of sound ones, 0 only in the initial one
abbrev pub current_control : CurrentFenceToken → ℕ
current_control v = cond v.retirement_closed retired_control (cond (eqb v.durable_fence_token.0 0) 0 open_control)

abbrev pub current_codec : Codec CurrentFenceToken
current_codec = record {
  layout = little 4 ∷ little 4 ∷ little 8 ∷ little 8 ∷ [];
  tests =
      test 0 (λ vs. eqb (get_or vs 0 0) 0) ∷
      test 4 (λ vs. current_listed (get_or vs 1 0) (get_or vs 2 0) (get_or vs 3 0)) ∷
      test 8 (λ vs. token_fits (get_or vs 1 0) (get_or vs 2 0)) ∷
      test 16 (λ vs. cookie_fits (get_or vs 1 0) (get_or vs 3 0)) ∷ [];
  of = λ vs. current (get_or vs 2 0) (get_or vs 3 0) (eqb (get_or vs 1 0) retired_control);
  fields = λ v. 0 ∷ current_control v ∷ v.durable_fence_token.0 ∷ v.registered_socket_cookie.0 ∷ [];
  blank = current 0 0 false;
}

-- the numbers of fields
abbrev pub current_numbers : CurrentFields → List ℕ
current_numbers f = f.zeros ∷ f.control ∷ f.durable_fence_token.0 ∷ f.registered_socket_cookie.0 ∷ []

-- a value of its type
abbrev pub CurrentFormed : CurrentFenceToken → Type 0
CurrentFormed v = (v.durable_fence_token.0 < 2 ^ 64) × (v.registered_socket_cookie.0 < 2 ^ 64)

-- a published token is open until it is retired (lib.rs, `is_lifecycle_open` and `is_retirement_closed`)
abbrev pub is_lifecycle_open : CurrentFenceToken → Bool
is_lifecycle_open v = not (eqb v.durable_fence_token.0 0) && not v.retirement_closed

abbrev pub is_retirement_closed : CurrentFenceToken → Bool
is_retirement_closed v = not (eqb v.durable_fence_token.0 0) && v.retirement_closed
