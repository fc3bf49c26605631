-- What the inner functions of `bundle` are held to: the frame that is found, and how many bytes it takes. Assumes nothing.
use Rattle.std.specs.Prelude.{ℕ, ◌+◌}
use Rattle.bundle.specs.Kinds as frame
use Rattle.bundle.specs.declared.frames.Frame.{Frame}
use Rattle.bundle.specs.declared.frames.Frame.TheVariants as found

-- what the frame that is found stands for
abbrev pub frame_is : Frame → frame.Frame
frame_is found.Config = frame.Config
frame_is found.Current = frame.Current
frame_is found.CookieValue = frame.CookieValue
frame_is found.Call = frame.Call
frame_is (found.Packet n) = frame.Packet n
frame_is found.End = frame.End
frame_is found.Bad = frame.Bad

-- how many bytes a frame takes
abbrev pub size : frame.Frame → ℕ
size frame.Config = 46
size frame.Current = 30
size frame.CookieValue = 46
size frame.Call = 49
size (frame.Packet n) = 6 + n
size frame.End = 0
size frame.Bad = 0
