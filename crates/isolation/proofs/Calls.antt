-- Demand 3 holds of the gate: alike calls have one view. Each part of it is made of what the calls share; the packet's reading is the same
-- by the isolation of the classifier. The rule that answers and the answer are functions of the view. Assumes nothing.
use Rattle.octets.specs.Words.{◌≡◌, cond, not, ◌&&◌, eqb}
use Rattle.octets.proofs.Tools.{sym, ap, ◌∙◌}
use Rattle.codec.specs.Codec.{decode_value}
use Rattle.config.specs.Config.{config_codec}
use Rattle.authority.specs.Current.{current_codec}
use Rattle.packet.specs.Reading.{classify_of}
use Rattle.isolation.proofs.Reading.{isolated-reading}
use Rattle.verdict.specs.Verdict.{slot_of}
use Rattle.gate.specs.Gate.{Call, decodes, matches, configuration, endpoint, reading, unread, view_of, rules, first_rule, answering, headers_of, gate_of}
use Rattle.isolation.specs.Isolation.{Alike, SameView, SameRule, Isolated}

module _ (a b : Call) (h : Alike a b) where
  same-config : configuration a ≡ configuration b
  same-config = ap (decode_value config_codec) h.config

  same-reading : reading a ≡ reading b
  same-reading = isolated-reading a.packet b.packet (endpoint a) h.long h.agree ∙ ap (λ v. classify_of b.packet v.endpoint) same-config

pub same_view : SameView
unfolding view_of
same_view a b h = λ i.
    let config = same-config a b h i in
    let decodes-i = decodes config_codec (h.config i) in
    let attached-i = eqb (h.attachment i) config.root_cgroup_id.0 in
    record {
      configured = decodes-i;
      attached = attached-i;
      reading = cond (decodes-i && (attached-i && not (matches (h.socket i) config.endpoint))) (same-reading a b h i) unread;
      cookie = h.cookie i;
      published = decodes current_codec (h.current i);
      registered = (decode_value current_codec (h.current i)).registered_socket_cookie.0;
      admissible = (h.first_table ∙ sym h.second_table) i;
      found = h.found i;
      time = h.time i;
    }

pub isolated-rule : SameRule
unfolding answering
isolated-rule a b h = ap (first_rule rules) (same_view a b h)

pub isolated : Isolated
unfolding gate_of answering headers_of
isolated a b h = ap (λ v. record { slot = slot_of (first_rule rules v).verdict; headers = v.reading.headers }) (same_view a b h)
