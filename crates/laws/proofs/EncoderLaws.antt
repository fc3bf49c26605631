-- What an encoder leaves in its output: of a mutation authority the record's bytes at the start where the number is 0, else the output as it
-- was; of the image of a sound cookie value, where there is too little room, the answer 4 and the output as it was. Assumes nothing.
use Rattle.octets.specs.Words.{ℕ, ◌<◌, ◌≤◌, ◌≡◌, true, List, [], ◌∷◌, length}
use Rattle.octets.proofs.Tools.{refl, sym, ◌∙◌, arith, lt-leb}
use Rattle.octets.specs.Octets.{octets_at, le, put}
use Rattle.codec.specs.Codec.{ok, bytes, encode_number, written, room_answer}
use Rattle.codec.proofs.CodecLaws.{encode-put, encode-refused}
use Rattle.authority.specs.declared.mutation.FenceMutationAuthority.{FenceMutationAuthority}
use Rattle.authority.specs.Mutation.{mutation_codec}
use Rattle.export.specs.View.{view_encode_number, view_encode_out, ViewEncoded}
use Rattle.export.specs.Views.{cookie_value_view}
use Rattle.export.proofs.ViewLaws.{within, sound-told, refused-room}

pub mutation_put : (v : FenceMutationAuthority) (out : List ℕ) → encode_number mutation_codec v out ≡ 0 →
    written (encode_number mutation_codec v out) (bytes mutation_codec v) out ≡ put out 0 (bytes mutation_codec v)
mutation_put v out z = sym (encode-put {C = mutation_codec} {v = v} {out = out} refl refl z refl refl).output

pub mutation_left : (v : FenceMutationAuthority) (out : List ℕ) → (encode_number mutation_codec v out ≡ 0 → ⊥) →
    written (encode_number mutation_codec v out) (bytes mutation_codec v) out ≡ out
mutation_left v out h = sym (encode-refused {C = mutation_codec} {v = v} {out = out} refl refl h).output

module _ (f out : List ℕ) (long : length f ≡ 40) (control : le (octets_at f 0 8) ≤ 4294967295) (cookie : le (octets_at f 8 8) ≤ 18446744073709551615)
    (token : le (octets_at f 16 8) ≤ 18446744073709551615) (deadline : le (octets_at f 24 8) ≤ 18446744073709551615) (epoch : le (octets_at f 32 8) ≤ 18446744073709551615)
    (sound : ok cookie_value_view.codec (0 ∷ le (octets_at f 0 8) ∷ le (octets_at f 8 8) ∷ le (octets_at f 16 8) ∷ le (octets_at f 24 8) ∷ le (octets_at f 32 8) ∷ []) ≡ true)
    (short : length out < 40) where
  four : 4 ≡ room_answer 0 40 (length out)
  unfolding room_answer
  four = rw (lt-leb 40 (length out) short) refl

  no_room : ViewEncoded cookie_value_view f out 4 out
  no_room =
      refused-room cookie_value_view f long
      (sound-told cookie_value_view f (simp (within 4 refl control, within 8 refl cookie, within 8 refl token, within 8 refl deadline, within 8 refl epoch)) refl ∙ sound)
      (λ e. absurd (omega arith)) four

  pub no_room_number : view_encode_number cookie_value_view f out ≡ 4
  no_room_number = sym no_room.number

  pub no_room_output : view_encode_out cookie_value_view f out ≡ out
  no_room_output = sym no_room.output
