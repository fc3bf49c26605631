-- `is_under`: the cookie first, then the token, as in the definition. Assumes nothing.
use Rattle.octets.specs.Words.{◌≡◌}
use Rattle.octets.specs.Octets.{octets_at, le}
use Rattle.octets.proofs.Tools.{eq-eqb, ne_eqb}
use Rattle.table.specs.Table.{is_under}
use Rattle.table.proofs.is_under.Goals as goal

pub returns-then-get_le-key : goal.returns-then-get_le-key
unfolding is_under
returns-then-get_le-key c =
    let s = c.args.bytes.now in
    let cookie : c.get_le.result ≡ le (octets_at s 8 8) = c.get_le.ensures in
    let token : c.get_le-then-get_le-key.result ≡ le (octets_at s 16 8) = c.get_le-then-get_le-key.ensures in
    rw (← cookie, ← token, eq-eqb _ _ c.if-get_le-key.true)

pub returns-else-get_le-key : goal.returns-else-get_le-key
unfolding is_under
returns-else-get_le-key c =
    let cookie : c.get_le.result ≡ le (octets_at c.args.bytes.now 8 8) = c.get_le.ensures in
    rw (← cookie, ne_eqb _ _ c.if-get_le-key.false)
