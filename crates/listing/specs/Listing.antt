-- Document 01, 'The bundle and its listing': the listing of a bundle. Assumes nothing.
use Rattle.std.specs.Prelude.{ℕ, ◌+◌, ◌≤◌, ◌≡◌, Bool, true, false, cond, List, [], ◌∷◌, ◌++◌, length, drop, ltb, leb, Option, None, Some, Result, Ok, Err, IfOk}
use Rattle.text.specs.Text.{ascii, decimal, numbered}
use Rattle.verdict.specs.Verdict.{slot_of}
use Rattle.verdict.specs.declared.FenceVerdict.{FenceVerdict}
use Rattle.verdict.specs.declared.FenceVerdict.TheVariants.{PassUnrelated, Allow, DropCookieZero, DropMissing, DropClosed, DropExpired, DropStaleToken, DropMalformed}
use Rattle.gate.specs.Gate.{Call, answering, headers_of}
use Rattle.bundle.specs.Feed.{Ending, ended, bad, Feed}
use Rattle.bundle.specs.Frames.{bundle_of}
use Rattle.listing.specs.declared.Listed.{Listed}
use Rattle.listing.specs.declared.ListError.{ListError}
use Rattle.listing.specs.declared.ListError.TheVariants.{NoRoom}

-- 01's names of the verdicts
unfoldable pub name_of : FenceVerdict → List ℕ
name_of PassUnrelated = ascii "PassUnrelated"
name_of Allow = ascii "Allow"
name_of DropCookieZero = ascii "DropCookieZero"
name_of DropMissing = ascii "DropMissing"
name_of DropClosed = ascii "DropClosed"
name_of DropExpired = ascii "DropExpired"
name_of DropStaleToken = ascii "DropStaleToken"
name_of DropMalformed = ascii "DropMalformed"

-- "slot or `-`"
unfoldable pub slot_text : Option ℕ → List ℕ
slot_text None = ascii "-"
slot_text (Some n) = decimal n

-- "ordinal from 0, verdict, header count, slot or `-`"
unfoldable pub line : ℕ → FenceVerdict → ℕ → List ℕ
line i v h = decimal i ++ (ascii " " ++ name_of v ++ ascii " ") ++ decimal h ++ ascii " " ++ slot_text (slot_of v) ++ ascii "\n"

-- "At the end `end` and the packet count"; "`bad` and the frame's offset"
unfoldable pub last_line : ℕ → Ending → List ℕ
last_line count ended = numbered (ascii "end ") count
last_line count (bad at) = numbered (ascii "bad ") at

-- what a sheet prints of a call with an ordinal
abbrev pub Line : Type 0
Line = ℕ → Call → List ℕ

-- the lines of some calls from an ordinal on, and the last line
unfoldable pub lines_by : Line → ℕ → List Call → Ending → List ℕ
lines_by g i [] e = last_line i e
lines_by g i (c ∷ cs) e = g i c ++ lines_by g (i + 1) cs e

abbrev pub sheet : {A : Type 0} → Line → Feed A → List ℕ
sheet g f = lines_by g 0 f.calls f.ending

-- the verdict listing: a line says what the gate answers
unfoldable pub verdict_line : Line
verdict_line i c = line i (answering c).verdict (headers_of c)

-- "reads at most 65,536 bytes .. more prints `long` alone"
abbrev pub longest : ℕ
longest = 65_536

unfoldable pub listing : List ℕ → List ℕ
listing s = cond (ltb longest (length s)) (ascii "long\n") (sheet verdict_line (bundle_of s))

-- whether the calls came to their end, and not to a fault; and of a bundle, which may be too long besides
unfoldable pub ends_well : Ending → Bool
ends_well ended = true
ends_well (bad at) = false

unfoldable pub whole : List ℕ → Bool
whole s = cond (ltb longest (length s)) false (ends_well (bundle_of s).ending)

-- whether a text has room in so many bytes: "4 where the output is shorter" ('Numbers given back')
unfoldable pub room_for : List ℕ → ℕ → Result (Unit {0}) ListError
room_for text room = cond (leb (length text) room) (Ok tt) (Err NoRoom)

-- a text for an output with so much room, of something whole or not: its length and that, or the refusal
unfoldable pub answer_of : List ℕ → Bool → ℕ → Result Listed ListError
answer_of text whole room = cond (leb (length text) room) (Ok (record { length = length text; whole = whole })) (Err NoRoom)

-- what the output holds then: the text at the start and the rest as it was; untouched on a refusal
unfoldable pub output_of : List ℕ → List ℕ → List ℕ
output_of text out = cond (leb (length text) (length out)) (text ++ drop (length text) out) out

-- what is answered for the bytes s, with an output that held out and holds out' then
pub record Lists (s out : List ℕ) (r : Result Listed ListError) (out' : List ℕ) : Type 0 where
  pub answer : r ≡ answer_of (listing s) (whole s) (length out)
  pub output : out' ≡ output_of (listing s) out
  -- the listing lies inside the output; it follows from the two above, and is stated for a caller that takes that part
  pub inside : IfOk r (λ l. l.length ≤ length out')
