-- Demand 3: what the gate's answer may depend on. Two calls have the same configuration, attachment number, socket, cookie, current
-- record and boot time. All else may differ: of the packet its payload, its options, its destination, its checksums, every byte that
-- is at no named place; of the table the records of other sockets and of other tokens, their number and their order, and later records
-- under the same key. Then the two calls have one view, so that rule, verdict and header count are the same. It rests on what the
-- classifier's answer may depend on. Assumes nothing.
use Rattle.std.specs.Prelude.{ℕ, ◌≡◌, true, List, length, take}
use Rattle.octets.specs.Lists.{bytes_at}
use Rattle.endpoint.specs.declared.ProtectedEndpoint.{ProtectedEndpoint}
use Rattle.packet.specs.Reading.{classify_of}
use Rattle.isolation.specs.Places.{places}
use Rattle.table.specs.Table.{admissible}
use Rattle.gate.specs.Gate.{Call, endpoint, sought, view_of, answering, gate_of}

-- ---- of the classifier

-- two packets of one length that agree at the first one's places have one answer, the header count with it
abbrev pub IsolatedReading : Type 0
IsolatedReading = (s t : List ℕ) (p : ProtectedEndpoint) → length s ≡ length t → bytes_at s (places s p) ≡ bytes_at t (places s p) → classify_of s p ≡ classify_of t p

-- ---- of the gate

pub record Alike (a b : Call) : Type 0 where
  -- the same configuration, attachment number, socket, cookie, current record and boot time
  pub config : a.config ≡ b.config
  pub attachment : a.attachment ≡ b.attachment
  pub socket : a.socket ≡ b.socket
  pub cookie : a.cookie ≡ b.cookie
  pub current : a.current ≡ b.current
  pub time : a.time ≡ b.time
  -- packets equally long that agree at the places named of the first packet, read against the configuration's endpoint
  pub long : length a.packet ≡ length b.packet
  pub agree : bytes_at a.packet (places a.packet (endpoint a)) ≡ bytes_at b.packet (places a.packet (endpoint a))
  -- both tables of admissible length
  pub first_table : admissible a.table ≡ true
  pub second_table : admissible b.table ≡ true
  -- the same first record under the key that is sought, or none in both; where no key is sought there is none in either
  pub found : take 1 (sought a) ≡ take 1 (sought b)

-- what the rules look at is equal: whatever is told of a call from its view is told alike of both
abbrev pub SameView : Type 0
SameView = (a b : Call) → Alike a b → view_of a ≡ view_of b

-- the same rule answers
abbrev pub SameRule : Type 0
SameRule = (a b : Call) → Alike a b → answering a ≡ answering b

-- verdict and header count are equal
abbrev pub Isolated : Type 0
Isolated = (a b : Call) → Alike a b → gate_of a ≡ gate_of b
