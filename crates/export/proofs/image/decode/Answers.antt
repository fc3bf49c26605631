-- `decode`: a refusal clears the image, then the room is asked, and then the record's image is put. Assumes nothing.
use Rattle.octets.proofs.Tools.{sym, ap, ◌∙◌, rules}
use Rattle.codec.proofs.AnswerLaws.{refusal_not0, by-refusal}
use Rattle.export.specs.View.{view_over}
use Rattle.export.proofs.ViewLaws.{view-refused, view-short, view-done}
use Rattle.export.proofs.image.decode.Goals as goal

pub returns-in-Err : goal.returns-in-Err
returns-in-Err g c =
    view-refused (view_over g.I.Of.Record.codec g.I.Image.slots) (c.LEN.ensures ∙ g.met.I.Image.sized) (refusal_not0 c.in-Err.refusal) c.in-Err.ensures.number c.clear.ensures

pub returns-in_err-check_room : goal.returns-in_err-check_room
returns-in_err-check_room g c =
    view-short (view_over g.I.Of.Record.codec g.I.Image.slots) (c.LEN-2.ensures ∙ g.met.I.Image.sized) (by-refusal c.in_err-check_room.field-0.0 (search rules)) c.in_default.ensures.number (search rules)

pub returns : goal.returns
returns g c =
    view-done (view_over g.I.Of.Record.codec g.I.Image.slots) (c.LEN-2.ensures ∙ g.met.I.Image.sized) c.in_default.ensures.number c.in_ok-check_room.ensures
    (g.met.I.Of.Record.counted _ ∙ sym g.met.I.Image.counted) (c.show.ensures (sym c.in_default.ensures.number))
