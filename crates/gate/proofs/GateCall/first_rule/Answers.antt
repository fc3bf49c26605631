-- `first_rule`: the code's tests are those to which rules 1 to 4 come; the later rules are `authorize`'s. What the code reads of the packet is
-- the view's reading. Assumes nothing.
use Rattle.octets.specs.Words.{◌≡◌, true, false, eqb}
use Rattle.octets.proofs.Tools.{ap, ◌∙◌, rules}
use Rattle.codec.proofs.AnswerLaws.{refusal_not0}
use Rattle.gate.specs.Gate.{call_of}
use Rattle.gate.specs.Inner.Steps.{rule_number}
use Rattle.gate.proofs.TestLaws.{unconfigured, elsewhere, ruled, seen}
use Rattle.gate.proofs.GateCall.first_rule.Goals as goal

pub returns-in_default : goal.returns-in_default
returns-in_default c =
    let u = unconfigured (call_of c.args.self.now) (refusal_not0 c.in_default.field-0) c.in_default.ensures in
    record { number = ap rule_number c.before_packet.ensures.0 ∙ u.0; reading = c.before_packet.ensures.1 ∙ u.1 }

pub returns-then-ne : goal.returns-then-ne
returns-then-ne c =
    let away : eqb c.args.self.now.attachment.0 c.in-Ok.configuration.root_cgroup_id.0 ≡ false = search rules in
    let e = elsewhere (call_of c.args.self.now) _ c.in-Ok.ensures away in
    record { number = ap rule_number c.before_packet-then-ne.ensures.0 ∙ e.0; reading = c.before_packet-then-ne.ensures.1 ∙ e.1 }

pub returns-in-Unrelated : goal.returns-in-Unrelated
returns-in-Unrelated c =
    let here : eqb c.args.self.now.attachment.0 c.in-Ok.configuration.root_cgroup_id.0 ≡ true = search rules in
    record {
      number = rw (ruled (call_of c.args.self.now) _ c.in-Ok.ensures here _ c.read_source-reading.ensures, c.in-Unrelated.is);
      reading = seen (call_of c.args.self.now) _ c.in-Ok.ensures here _ c.read_source-reading.ensures;
    }

pub returns-in-Indeterminate : goal.returns-in-Indeterminate
returns-in-Indeterminate c =
    let here : eqb c.args.self.now.attachment.0 c.in-Ok.configuration.root_cgroup_id.0 ≡ true = search rules in
    record {
      number = rw (ruled (call_of c.args.self.now) _ c.in-Ok.ensures here _ c.read_source-reading.ensures, c.in-Indeterminate.is);
      reading = seen (call_of c.args.self.now) _ c.in-Ok.ensures here _ c.read_source-reading.ensures;
    }

pub returns-in-Protected : goal.returns-in-Protected
returns-in-Protected c =
    let here : eqb c.args.self.now.attachment.0 c.in-Ok.configuration.root_cgroup_id.0 ≡ true = search rules in
    record {
      number = rw (ruled (call_of c.args.self.now) _ c.in-Ok.ensures here _ c.read_source-reading.ensures, c.in-Protected.is) c.authorize-rule.ensures;
      reading = seen (call_of c.args.self.now) _ c.in-Ok.ensures here _ c.read_source-reading.ensures;
    }
