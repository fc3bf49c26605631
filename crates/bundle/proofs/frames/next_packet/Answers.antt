-- `next_packet`: what comes next from the cursor is what came next at first, and each frame leaves less of the input. Assumes nothing.
use Rattle.octets.specs.Words.{◌+◌, ◌-◌, ◌≤◌, length}
use Rattle.octets.proofs.Tools.{sym, ◌∙◌, arith}
use Rattle.bundle.specs.Feed.{onward}
use Rattle.bundle.specs.Frames.{past}
use Rattle.bundle.specs.Cursor.{desk_step}
use Rattle.bundle.proofs.FrameLaws.{octets-part}
use Rattle.bundle.proofs.DeskLaws.{next-at, next-value, next-call}
use Rattle.bundle.proofs.frames.next_packet.Goals as goal

pub loop-cursor-preserved-in-Config : goal.loop-cursor-preserved-in-Config
unfolding onward desk_step
loop-cursor-preserved-in-Config c = sym (next-at _ _ c.frame_at.ensures.found c.in-Config.is c.loop-cursor.table) ∙ c.loop-cursor.invariant

pub loop-cursor-preserved-in-Current : goal.loop-cursor-preserved-in-Current
unfolding onward desk_step
loop-cursor-preserved-in-Current c = sym (next-at _ _ c.frame_at.ensures.found c.in-Current.is c.loop-cursor.table) ∙ c.loop-cursor.invariant

pub loop-cursor-preserved-in-CookieValue : goal.loop-cursor-preserved-in-CookieValue
loop-cursor-preserved-in-CookieValue c =
    let l = c.loop-cursor in
    let s = c.args.input.now in
    let at = l.cursor.at in
    let fit : at + 46 ≤ length s = omega (arith, c.in-CookieValue.ensures.inside) in
    let part = octets-part s (at + 6) 40 (past at 40 - (at + 6)) (omega arith) (omega arith) in
    sym (next-value s l.cursor l.table c.frame_at.ensures.found c.in-CookieValue.is part c.put_text.ensures) ∙ l.invariant

pub loop-cursor-preserved : goal.loop-cursor-preserved
unfolding onward desk_step
loop-cursor-preserved c = sym (next-at _ _ c.frame_at.ensures.found c.in-Call.is c.loop-cursor.table) ∙ c.loop-cursor.invariant

pub returns-in-Packet : goal.returns-in-Packet
returns-in-Packet c = sym (next-call _ _ c.loop-cursor.table c.frame_at.ensures.found c.in-Packet.is) ∙ c.loop-cursor.invariant

pub returns-in-End : goal.returns-in-End
unfolding onward desk_step
returns-in-End c = sym (next-at _ _ c.frame_at.ensures.found c.in-End.is c.loop-cursor.table) ∙ c.loop-cursor.invariant

pub returns-in-Bad : goal.returns-in-Bad
unfolding onward desk_step
returns-in-Bad c = sym (next-at _ _ c.frame_at.ensures.found c.in-Bad.is c.loop-cursor.table) ∙ c.loop-cursor.invariant
