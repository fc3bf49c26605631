-- `encode`: an unsound record is refused, then a lack of room; else the record's bytes. Assumes nothing.
use Rattle.octets.specs.Words.{true, false}
use Rattle.octets.proofs.Tools.{refl, sym, ◌∙◌, arith, rules}
use Rattle.codec.specs.Codec.{room_answer}
use Rattle.codec.proofs.CodecLaws.{encode-refused}
use Rattle.codec.proofs.AnswerLaws.{encodes-refused, encodes-put}
use Rattle.codec.proofs.Record.encode.Goals as goal

pub returns-then-not-is_sound : goal.returns-then-not-is_sound
unfolding room_answer
returns-then-not-is_sound g c = encode-refused {b = false} (sym c.if-not-is_sound.true ∙ c.is_sound.ensures) refl (λ z. omega arith)

pub returns-in_err-check_room : goal.returns-in_err-check_room
returns-in_err-check_room g c =
    encodes-refused {b = true} c.in_err-check_room.field-0.0 (search rules) (sym c.if-not-is_sound.false ∙ c.is_sound.ensures) (c.LEN.ensures ∙ g.met.Self.Record.sized) c.in_err-check_room.ensures

pub returns : goal.returns
returns g c =
    encodes-put {b = true} (sym c.if-not-is_sound.false ∙ c.is_sound.ensures) (c.LEN.ensures ∙ g.met.Self.Record.sized) c.in_ok-check_room.ensures (g.met.Self.Record.counted c.args.self) c.write.ensures
