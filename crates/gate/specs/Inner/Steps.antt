-- The parts of the gate that its inner functions are held to: the packet's source, the record that is sought, a
-- rule by its number, and what the later rules look at. 01's rules are in `Gate` and do not rest on this. Assumes nothing.
use Rattle.std.specs.Prelude.{ℕ, ◌≡◌, true, cond, List, [], ◌∷◌, eqb}
use Rattle.endpoint.specs.declared.ProtectedEndpoint.{ProtectedEndpoint}
use Rattle.packet.specs.Reading.{Answer as Reading, classify_of}
use Rattle.packet.specs.Answers as packet
use Rattle.verdict.specs.declared.FenceVerdict.TheVariants.{DropMalformed}
use Rattle.gate.specs.declared.Socket.{Socket}
use Rattle.gate.specs.declared.GateRule.{GateRule}
use Rattle.gate.specs.declared.GateRule.TheVariants.{ConfigUndecoded, AttachedElsewhere, PacketUnrelated, PacketIndeterminate, CookieZero, CurrentUndecoded, TableInadmissible, RecordMissing, RecordUndecoded, SocketStale, EntryClosed, DeadlinePast, NothingAmiss}
use Rattle.gate.specs.declared.Ruling.{Ruling}
use Rattle.table.specs.Table.{records, under, first_of}
use Rattle.gate.specs.Gate.{Call, given, matches, unread, View, view_of, Rule, rule, answering}

-- the packet counts as the endpoint's, unread, where the socket matches
unfoldable pub source_of : Socket → List ℕ → ProtectedEndpoint → Reading
source_of s p e = cond (matches s e) unread (classify_of p e)

-- "Current token 0 (no key is sought)": the record that is sought under a key, or no bytes
unfoldable pub sought_record : ℕ → ℕ → List ℕ → List ℕ
sought_record k t table = cond (eqb t 0) [] (first_of (under k t (records table)))

-- the number of a rule
abbrev pub rule_number : GateRule → ℕ
rule_number ConfigUndecoded = 1
rule_number AttachedElsewhere = 2
rule_number PacketUnrelated = 3
rule_number PacketIndeterminate = 4
rule_number CookieZero = 5
rule_number CurrentUndecoded = 6
rule_number TableInadmissible = 7
rule_number RecordMissing = 8
rule_number RecordUndecoded = 9
rule_number SocketStale = 10
rule_number EntryClosed = 11
rule_number DeadlinePast = 12
rule_number NothingAmiss = 13

-- the rules from the one numbered n on
abbrev pub from : ℕ → List Rule → List Rule
from n [] = []
from n (r ∷ rs) = cond (eqb n r.number) (r ∷ rs) (from n rs)

-- the rule numbered n; a number that no rule bears lets nothing pass
abbrev pub numbered : ℕ → List Rule → Rule
numbered n [] = rule n (λ v. true) DropMalformed
numbered n (r ∷ rs) = cond (eqb n r.number) r (numbered n rs)

-- rules 5 to 13 look at the cookie, the current record, the table and the time alone: a call with these, and nothing else
abbrev pub lookup : ℕ → List ℕ → List ℕ → ℕ → Call
lookup k current table time = given [] 0 (record { family = 0; address = []; port = 0 }) [] k current table time

-- rules 9 to 13 look at the record that is found, the registered cookie, k and the time alone: a view with these
abbrev pub registration : List (List ℕ) → ℕ → ℕ → ℕ → View
registration f g k b =
    record { configured = true; attached = true; reading = unread; cookie = k; published = true; registered = g; admissible = true; found = f; time = b }

-- of a call: the number of the rule that answers, and the packet's reading where it is consulted
pub record Ruled (c : Call) (r : Ruling) : Type 0 where
  pub number : rule_number r.rule ≡ (answering c).number
  pub reading : packet.answer_of r.reading ≡ (view_of c).reading
