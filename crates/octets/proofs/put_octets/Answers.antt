-- `put_octets`: as many octets as there is room for stand in the place of as many. Assumes nothing.
use Rattle.octets.specs.Words.{◌-◌, ◌≡◌, length, take}
use Rattle.octets.proofs.Tools.{sym, ◌∙◌, arith, leb-true, leb-false}
use Rattle.octets.proofs.OctetsLaws.{put-past}
use Rattle.octets.proofs.PartsLaws.{put-mid, put-cut}
use Rattle.std.proofs.lemmas.List.{length-take-le}
use Rattle.octets.proofs.put_octets.Goals as goal

pub returns-then-lies_inside : goal.returns-then-lies_inside
returns-then-lies_inside c =
    let a = c.args in
    rw c.copy_from_slice.ensures.after (put-mid a.d.now a.at _ a.bytes.now (omega arith) (leb-true _ _ (sym c.lies_inside.ensures ∙ c.if-lies_inside.true)))

pub returns-then-at-d : goal.returns-then-at-d
returns-then-at-d c =
    let a = c.args in
    let room = length a.d.now - a.at in
    let cut = leb-false _ _ (sym c.lies_inside.ensures ∙ c.if-lies_inside.false) in
    let long : length (take room a.bytes.now) ≡ room = length-take-le room a.bytes.now (omega (arith, cut)) in
    rw c.copy_from_slice-then-at-d.ensures.after
    (put-mid a.d.now a.at room (take room a.bytes.now) (sym long) (omega (arith, long)) ∙ sym (put-cut a.d.now a.at room a.bytes.now (omega (arith, long))))

pub returns-else-at-d : goal.returns-else-at-d
returns-else-at-d c = sym (put-past _ _ _ c.if-at-d.false)
