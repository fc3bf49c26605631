-- Document 01, 'The bundle and its listing': what may stand at an offset of a bundle, a frame of one of five kinds or none. Assumes nothing.
use Rattle.std.specs.Prelude.{ℕ}

pub data Frame : Type 0 where
  Config : Frame
  Current : Frame
  CookieValue : Frame
  Call : Frame
  -- a packet of so many bytes
  Packet : ℕ → Frame
  -- nothing more
  End : Frame
  -- a cut frame, an unknown kind, or a wrong length
  Bad : Frame
