-- `put_zeros`: as many zeros as there is room for. Assumes nothing.
use Rattle.octets.specs.Words.{◌+◌, ◌-◌, ◌≡◌, length, take, drop}
use Rattle.octets.proofs.Tools.{sym, arith}
use Rattle.octets.proofs.OctetsLaws.{put-past}
use Rattle.octets.proofs.PartsLaws.{put-zeros}
use Rattle.std.proofs.lemmas.List.{length-take-le}
use lib.ListN.{length-drop}
use Rattle.octets.proofs.put_zeros.Goals as goal

pub returns-then-at-d : goal.returns-then-at-d
returns-then-at-d c =
    let a = c.args in
    let m = c.min-m.result in
    let few : a.at + m - a.at ≡ m = omega arith in
    let long : length (take m (drop a.at a.d.now)) ≡ m = length-take-le m (drop a.at a.d.now) (rw length-drop (omega (arith, c.min-m.ensures))) in
    rw (c.fill.ensures.after (λ y same. same), few, long)
    (put-zeros a.d.now a.at m a.n (omega (arith, c.min-m.ensures)) (omega (arith, c.min-m.ensures)) (λ left. omega (arith, c.min-m.ensures)))

pub returns-else-at-d : goal.returns-else-at-d
returns-else-at-d c = sym (put-past _ _ _ c.if-at-d.false)
