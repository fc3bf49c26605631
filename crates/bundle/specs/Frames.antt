-- Document 01, 'The bundle and its listing': frames, the state that they set, and the calls that a bundle makes. Assumes nothing.
use Rattle.std.specs.Prelude.{ℕ, ◌+◌, ◌-◌, cond, List, [], ◌++◌, length, replicate, eqb, ltb, leb}
use Rattle.octets.specs.Octets.{octets_at, le}
use Rattle.gate.specs.Gate.{Call}
use Rattle.gate.specs.declared.Socket.{Socket}
use Rattle.bundle.specs.Feed.{Feed, ended, bad, Step, stop, skip, emit, run}
use Rattle.bundle.specs.Kinds.{Frame}
use Rattle.bundle.specs.Kinds as frame

-- "A frame is a u32 body length, a u16 kind, the body, little-endian."
abbrev pub head_length : ℕ
head_length = 6

abbrev pub length_at : List ℕ → ℕ → ℕ
length_at s at = le (octets_at s at 4)

abbrev pub kind_at : List ℕ → ℕ → ℕ
kind_at s at = le (octets_at s (at + 4) 2)

-- the first n bytes of the body of the frame at an offset, and the offset after a frame whose body has n bytes
abbrev pub body_at : List ℕ → ℕ → ℕ → List ℕ
body_at s at n = octets_at s (at + head_length) n

abbrev pub past : ℕ → ℕ → ℕ
past at n = at + (head_length + n)

-- a frame whose kind asks for n body bytes and that has len: with another number it is bad
unfoldable pub exactly : ℕ → ℕ → Frame → Frame
exactly n len f = cond (eqb len n) f frame.Bad

-- "Kinds: 1 config (40), 2 current (24), 3 append a cookie value (40), 4 call (43 ..), 5 packet."
unfoldable pub frame_of : ℕ → ℕ → Frame
frame_of kind len =
    cond (eqb kind 1) (exactly 40 len frame.Config)
    (cond (eqb kind 2) (exactly 24 len frame.Current)
    (cond (eqb kind 3) (exactly 40 len frame.CookieValue)
    (cond (eqb kind 4) (exactly 43 len frame.Call)
    (cond (eqb kind 5) (frame.Packet len)
    frame.Bad))))

-- what stands at an offset: nothing any more, a frame that reaches past the end (a cut one), or a whole frame
unfoldable pub frame_at : List ℕ → ℕ → Frame
frame_at s at =
    cond (leb (length s) at) frame.End
    (cond (ltb (length s) (past at (length_at s at))) frame.Bad
    (frame_of (kind_at s at) (length_at s at)))

-- what is in force: the bodies of the last frames of kinds 1, 2 and 4, and all those of kind 3, one after the other
pub record State : Type 0 where
  pub config : List ℕ
  pub current : List ℕ
  pub call : List ℕ
  pub table : List ℕ

-- "At first all is zero and the table empty"
abbrev pub initial : State
initial = record { config = replicate 40 0; current = replicate 24 0; call = replicate 43 0; table = [] }

-- the socket of a call's body: "attachment u64, family u8, port u16, address 16, cookie u64, boot time u64"
abbrev pub socket_of : List ℕ → Socket
socket_of b = record { family = le (octets_at b 8 1); address = octets_at b 11 16; port = le (octets_at b 9 2) }

-- what the gate is asked of a packet
unfoldable pub call_of : State → List ℕ → Call
call_of st packet = record {
  config = st.config;
  attachment = le (octets_at st.call 0 8);
  socket = socket_of st.call;
  packet = packet;
  cookie = le (octets_at st.call 27 8);
  current = st.current;
  table = st.table;
  time = le (octets_at st.call 35 8);
}

-- a place of a bundle: an offset, and what is in force there
pub record Place : Type 0 where
  pub at : ℕ
  pub state : State

-- "kinds 1, 2 and 4 replace what stood"; kind 3 appends; a packet is judged by what is in force
unfoldable pub step_of : List ℕ → ℕ → State → Frame → Step Place
step_of s at st frame.Config = skip (record {
  at = past at 40;
  state = record { config = body_at s at 40; current = st.current; call = st.call; table = st.table };
})
step_of s at st frame.Current = skip (record {
  at = past at 24;
  state = record { config = st.config; current = body_at s at 24; call = st.call; table = st.table };
})
step_of s at st frame.CookieValue = skip (record {
  at = past at 40;
  state = record { config = st.config; current = st.current; call = st.call; table = st.table ++ body_at s at 40 };
})
step_of s at st frame.Call = skip (record {
  at = past at 43;
  state = record { config = st.config; current = st.current; call = body_at s at 43; table = st.table };
})
step_of s at st (frame.Packet n) = emit (call_of st (body_at s at n)) (record { at = past at n; state = st })
step_of s at st frame.End = stop ended
step_of s at st frame.Bad = stop (bad at)

-- a bundle's reader: the step at a place, and how many bytes are left there
abbrev pub frame_step : List ℕ → Place → Step Place
frame_step s p = step_of s p.at p.state (frame_at s p.at)

abbrev pub left_at : List ℕ → Place → ℕ
left_at s p = length s - p.at

-- the calls from a place on, and those of a bundle: at the end of its feed stands the state that is in force then
unfoldable pub feed_at : List ℕ → Place → Feed Place
feed_at s p = run (frame_step s) (left_at s) p

unfoldable pub bundle_of : List ℕ → Feed Place
bundle_of s = feed_at s (record { at = 0; state = initial })
