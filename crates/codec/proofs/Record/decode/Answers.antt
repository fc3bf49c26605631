-- `decode`: the length first, then what the record reads. Assumes nothing.
use Rattle.octets.proofs.Tools.{refl, sym, ◌∙◌}
use Rattle.codec.proofs.CodecLaws.{decode-length, decode-read}
use Rattle.codec.proofs.Record.decode.Goals as goal

pub returns-then-s-LEN : goal.returns-then-s-LEN
returns-then-s-LEN g c = decode-length (λ e. c.if-s-LEN.true (e ∙ sym g.met.Self.Record.sized ∙ sym c.LEN.ensures)) (refl, refl)

pub returns : goal.returns
returns g c = decode-read (c.if-s-LEN.false ∙ c.LEN.ensures ∙ g.met.Self.Record.sized) c.read.ensures
