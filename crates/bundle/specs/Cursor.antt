-- Reading a bundle from a cursor: where the bodies in force stand in the bundle itself, with the table of cookie values gathered in lent
-- bytes. The state that this stands for, and the reader that goes from cursor to cursor. Assumes nothing.
use Rattle.std.specs.Prelude.{ℕ, ◌+◌, ◌-◌, cond, List, length, take, replicate, leb}
use Rattle.octets.specs.Octets.{octets_at, put}
use Rattle.text.specs.Text.{after}
use Rattle.bundle.specs.Feed.{ended, bad, Feed, Step, stop, skip, emit, run, Next, called, over, next_of}
use Rattle.bundle.specs.Frames.{head_length, body_at, past, frame_at, State, Place, call_of}
use Rattle.bundle.specs.Kinds as frame
use Rattle.bundle.specs.declared.frames.Cursor.{Cursor}
use Rattle.bundle.specs.declared.frames.Next.{Next as Told}
use Rattle.bundle.specs.declared.frames.Next.TheVariants as told

-- ---- where reading stands

-- the n bytes at a place of the input; zeros where they do not lie inside, as long as no such body has come
unfoldable pub held : List ℕ → ℕ → ℕ → List ℕ
held s at n = cond (leb (at + n) (length s)) (octets_at s at n) (replicate n 0)

-- the bodies in force stand in the input, and the table at the start of the lent bytes t
abbrev pub state_of : List ℕ → Cursor → List ℕ → State
state_of s c t = record { config = held s c.config 40; current = held s c.current 24; call = held s c.call 43; table = take c.gathered t }

-- before the first frame of n bytes: nothing is gathered, and no body has come
abbrev pub start_of : ℕ → Cursor
start_of n = record { at = 0; gathered = 0; config = n; current = n; call = n }

-- the cursor, and the lent bytes
pub record Desk : Type 0 where
  pub cursor : Cursor
  pub table : List ℕ

abbrev pub desk : Cursor → List ℕ → Desk
desk c t = record { cursor = c; table = t }

abbrev pub place_of : List ℕ → Desk → Place
place_of s d = record { at = d.cursor.at; state = state_of s d.cursor d.table }

-- ---- the reader

-- a frame's body is kept by its place; a cookie value is copied after those gathered, so far as the lent bytes reach
unfoldable pub desk_step : List ℕ → Cursor → List ℕ → frame.Frame → Step Desk
desk_step s c t frame.Config = skip (record {
  cursor = record { at = past c.at 40; gathered = c.gathered; config = c.at + head_length; current = c.current; call = c.call };
  table = t;
})
desk_step s c t frame.Current = skip (record {
  cursor = record { at = past c.at 24; gathered = c.gathered; config = c.config; current = c.at + head_length; call = c.call };
  table = t;
})
desk_step s c t frame.CookieValue = skip (record {
  cursor = record { at = past c.at 40; gathered = after c.gathered 40; config = c.config; current = c.current; call = c.call };
  table = put t c.gathered (body_at s c.at 40);
})
desk_step s c t frame.Call = skip (record {
  cursor = record { at = past c.at 43; gathered = c.gathered; config = c.config; current = c.current; call = c.at + head_length };
  table = t;
})
desk_step s c t (frame.Packet n) = emit (call_of (state_of s c t) (body_at s c.at n)) (record {
  cursor = record { at = past c.at n; gathered = c.gathered; config = c.config; current = c.current; call = c.call };
  table = t;
})
desk_step s c t frame.End = stop ended
desk_step s c t frame.Bad = stop (bad c.at)

abbrev pub read_step : List ℕ → Desk → Step Desk
read_step s d = desk_step s d.cursor d.table (frame_at s d.cursor.at)

abbrev pub desk_left : List ℕ → Desk → ℕ
desk_left s d = length s - d.cursor.at

-- all calls from there on, and the next one
unfoldable pub desk_feed : List ℕ → Desk → Feed Desk
desk_feed s d = run (read_step s) (desk_left s) d

unfoldable pub next_at : List ℕ → Desk → Next Desk
next_at s d = next_of (read_step s) (desk_left s) d

-- what is told of the next packet stands for this, where the lent bytes hold t: a packet is the n bytes before the cursor
abbrev pub next_is : List ℕ → List ℕ → Told → Next Desk
next_is s t (told.Packet c n) = called (call_of (state_of s c t) (octets_at s (c.at - n) n)) (record { cursor = c; table = t })
next_is s t (told.Ended c) = over ended (record { cursor = c; table = t })
next_is s t (told.Bad c) = over (bad c.at) (record { cursor = c; table = t })
