-- What the inner functions of `packet` are held to: a header's class by its number, a test that stops reading, one step of the walk, and a
-- walk that adds the headers it passes to a count. What a packet means is in `Reading` and does not rest on this. Assumes nothing.
use Rattle.std.specs.Prelude.{ℕ, ◌+◌, ◌≡◌, Bool, true, false}
use Rattle.std.specs.declared.ops.ControlFlow.{ControlFlow}
use Rattle.std.specs.declared.ops.ControlFlow.TheVariants.{Continue, Break}
use Rattle.std.specs.ControlFlow.{MatchControlFlow}
use Rattle.packet.specs.Reading.{Answer, Outcome, settled, onward}
use Rattle.packet.specs.Answers.{disposition_of}
use Rattle.packet.specs.declared.Cursor.{Cursor}
use Rattle.packet.specs.declared.HeaderClass.{HeaderClass}
use Rattle.packet.specs.declared.HeaderClass.TheVariants.{Udp, NotUdp, Options, Authentication, Fragment, Other}
use Rattle.packet.specs.declared.PacketEndpointDisposition.{PacketEndpointDisposition}
use Rattle.packet.specs.declared.PacketEndpointDisposition.TheVariants.{Indeterminate}

-- a class of next-header values by the number that `Reading` sorts them under
abbrev pub class_number : HeaderClass → ℕ
class_number Udp = 0
class_number NotUdp = 1
class_number Options = 2
class_number Authentication = 3
class_number Fragment = 4
class_number Other = 5

-- a test: reading breaks off as Indeterminate where b holds, and goes on where it does not
abbrev pub Checked : Bool → ControlFlow PacketEndpointDisposition Unit → Type 0
Checked b r = MatchControlFlow r (λ _. b ≡ false) (λ d. (d ≡ Indeterminate) × (b ≡ true))

-- of a step at the place c
abbrev pub outcome_of : ℕ → ControlFlow PacketEndpointDisposition Cursor → Outcome
outcome_of c (Break d) = settled c (disposition_of d)
outcome_of c (Continue h) = onward h.next h.at

-- of a walk that answers d and adds the headers it passes to h, which are h' then
pub record Walked (r : Answer) (h : ℕ) (d : PacketEndpointDisposition) (h' : ℕ) : Type 0 where
  pub disposition : disposition_of d ≡ r.disposition
  pub headers : h' ≡ h + r.headers
