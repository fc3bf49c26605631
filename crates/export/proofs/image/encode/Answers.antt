-- `encode`: the length, the numbers and the rule are asked, then the room, and then the numbers are put. Assumes nothing.
use Rattle.octets.specs.Words.{◌≡◌, length}
use Rattle.octets.proofs.Tools.{sym, ap, ◌∙◌, rules}
use Rattle.codec.specs.Layout.{laid}
use Rattle.codec.specs.Codec.{ok, room_answer}
use Rattle.codec.proofs.AnswerLaws.{by-refusal}
use Rattle.export.specs.View.{view_over}
use Rattle.octets.specs.Octets.{put}
use Rattle.export.proofs.ViewLaws.{refused-length, refused-wide, refused-unsound, refused-room, stored-whole, sound-told}
use Rattle.export.proofs.image.encode.Goals as goal

pub returns-then-image-LEN : goal.returns-then-image-LEN
returns-then-image-LEN g c =
    refused-length (view_over g.I.Of.Record.codec g.I.Image.slots) c.args.image.now (λ e. c.if-image-LEN.true (e ∙ sym (c.LEN.ensures ∙ g.met.I.Image.sized)))

pub returns-in_default : goal.returns-in_default
returns-in_default g c =
    refused-wide (view_over g.I.Of.Record.codec g.I.Image.slots) c.args.image.now (c.if-image-LEN.false ∙ c.LEN.ensures ∙ g.met.I.Image.sized) c.in_default.ensures

pub returns-then-not-obey_rule : goal.returns-then-not-obey_rule
returns-then-not-obey_rule g c =
    let W = view_over g.I.Of.Record.codec g.I.Image.slots in
    let f = c.args.image.now in
    let given = c.in-Some.ensures in
    let asked = sound-told W f given.0 (c.obey_rule.ensures ∙ ap (ok g.I.Of.Record.codec) given.1) in
    refused-unsound W f (c.if-image-LEN.false ∙ c.LEN.ensures ∙ g.met.I.Image.sized) (asked ∙ c.if-not-obey_rule.true)

pub returns-in_err-check_room : goal.returns-in_err-check_room
returns-in_err-check_room g c =
    let W = view_over g.I.Of.Record.codec g.I.Image.slots in
    let f = c.args.image.now in
    let given = c.in-Some.ensures in
    let asked = sound-told W f given.0 (c.obey_rule.ensures ∙ ap (ok g.I.Of.Record.codec) given.1) in
    let size = c.LEN-2.ensures ∙ g.met.I.Of.Record.sized in
    refused-room W f (c.if-image-LEN.false ∙ c.LEN.ensures ∙ g.met.I.Image.sized) (asked ∙ c.if-not-obey_rule.false)
    (by-refusal c.in_err-check_room.field-0.0 (search rules)) (rw (← size) (search rules))

pub returns : goal.returns
returns g c =
    let W = view_over g.I.Of.Record.codec g.I.Image.slots in
    let f = c.args.image.now in
    let given = c.in-Some.ensures in
    let asked = sound-told W f given.0 (c.obey_rule.ensures ∙ ap (ok g.I.Of.Record.codec) given.1) in
    let size = c.LEN-2.ensures ∙ g.met.I.Of.Record.sized in
    stored-whole W f (c.if-image-LEN.false ∙ c.LEN.ensures ∙ g.met.I.Image.sized) (asked ∙ c.if-not-obey_rule.false) g.met.I.Image.counted
    (c.in_ok-check_room.ensures ∙ ap (λ n. room_answer 0 n (length c.args.bytes.now)) size)
    (c.write.ensures ∙ ap (λ vs. put c.args.bytes.now 0 (laid g.I.Of.Record.codec.layout vs)) given.1)
