-- `judge`: the gate is asked with the bodies in force, by their places, and with the packet. Assumes nothing.
use Rattle.bundle.specs.Cursor.{state_of}
use Rattle.bundle.proofs.FrameLaws.{asked-as}
use Rattle.bundle.proofs.calls.judge.Goals as goal

pub returns : goal.returns
returns c =
    let a = c.args in
    asked-as (state_of a.input.now a.cursor a.table.now) _ c.gate.ensures c.body.ensures c.body-call.ensures
    c.get_le.ensures c.socket_of.ensures c.get_le-2.ensures c.body-2.ensures c.first.ensures c.get_le-3.ensures
