-- `body`: the bytes lie inside and are that part of the input, or zeros stand for them. Assumes nothing.
use Rattle.octets.specs.Words.{◌+◌, ◌-◌, ◌<◌, ◌≤◌, length, take}
use Rattle.octets.proofs.Tools.{◌∙◌, arith}
use Rattle.bundle.proofs.FrameLaws.{held-part, held-zeros}
use Rattle.bundle.proofs.calls.body.Goals as goal

pub returns-in_default : goal.returns-in_default
returns-in_default c =
    let a = c.args in
    let past : length a.input.now < a.at + a.n = grind (arith, c.in_default.ensures.lookup) in
    (λ i. take a.n (c.requires.0 i)) ∙ held-zeros a.input.now a.at a.n c.requires.1 past

pub returns-in_default-get : goal.returns-in_default-get
returns-in_default-get c =
    let a = c.args in
    let past : length a.input.now < a.at + a.n = grind (arith, c.in-Some.ensures.lookup, c.in_default-get.ensures.lookup) in
    (λ i. take a.n (c.requires.0 i)) ∙ held-zeros a.input.now a.at a.n c.requires.1 past

pub returns : goal.returns
returns c =
    let a = c.args in
    let there : a.at + a.n ≤ length a.input.now = grind (arith, c.in-Some.ensures.lookup, c.in-Some-get.ensures.lookup) in
    c.in-Some-get.ensures.lookup.0.2 ∙ (λ i. take (a.n - 0) (c.in-Some.ensures.lookup.0.2 i)) ∙ held-part _ _ _ there
