-- `find_record`: no record before the i-th pair stands under the key, so the first that does from there on is the first of all. What is left
-- after the last pair is for `find_last`. Assumes nothing.
use Rattle.octets.specs.Words.{◌*◌, ◌≡◌, drop}
use Rattle.table.specs.Table.{records}
use Rattle.table.proofs.TableLaws.{searched}
use Rattle.table.proofs.find_record.Given as goal

abbrev pub invariant-loop-i : goal.invariant-loop-i
invariant-loop-i l =
    searched 0 l.key.socket_cookie.0 l.key.durable_fence_token.0 (records l.table) ≡
    searched (l.i * 80) l.key.socket_cookie.0 l.key.durable_fence_token.0 (records (drop (l.i * 80) l.table))
