-- What is promised of listings: a line for each packet, earlier lines stay, isolation. Assumes nothing.
use Rattle.std.specs.Prelude.{ℕ, ◌+◌, ◌≤◌, ◌≡◌, List, [], ◌∷◌, ◌++◌, length, take}
use Rattle.text.specs.Promises.{newlines}
use Rattle.gate.specs.Gate.{Call}
use Rattle.isolation.specs.Isolation.{Alike}
use Rattle.bundle.specs.Feed.{Feed}
use Rattle.bundle.specs.Frames.{bundle_of}
use Rattle.listing.specs.Listing.{Line, last_line, sheet, verdict_line, longest, listing}

-- ---- one line for each packet

-- the lines of some calls, without the last line
unfoldable pub call_lines : Line → ℕ → List Call → List ℕ
call_lines g i [] = []
call_lines g i (c ∷ cs) = g i c ++ call_lines g (i + 1) cs

-- a sheet is the lines of its calls, and a last line that is given their number; of feeds from any reader
abbrev pub LinesThenLast : Type 1
LinesThenLast = (A : Type 0) (g : Line) (f : Feed A) → sheet g f ≡ call_lines g 0 f.calls ++ last_line (length f.calls) f.ending

-- a listing has one line for each packet before the end or the fault, and the last
abbrev pub OneLineEach : Type 0
OneLineEach = (s : List ℕ) → length s ≤ longest → newlines (listing s) ≡ length (bundle_of s).calls + 1

-- ---- what comes later changes nothing of what came before

-- the calls of a bundle are the first calls of every bundle that begins with it, be it whole or cut
abbrev pub EarlierCallsStay : Type 0
EarlierCallsStay = (s t : List ℕ) → take (length (bundle_of s).calls) (bundle_of (s ++ t)).calls ≡ (bundle_of s).calls

-- and so of its lines, whatever a sheet prints of a call
abbrev pub EarlierLinesStay : Type 0
EarlierLinesStay = (g : Line) (s t : List ℕ) →
    take (length (call_lines g 0 (bundle_of s).calls)) (sheet g (bundle_of (s ++ t))) ≡ call_lines g 0 (bundle_of s).calls

-- so a listing, but for its last line, begins the listing of every longer bundle that is not too long
abbrev pub EarlierListingStays : Type 0
EarlierListingStays = (s t : List ℕ) → length (s ++ t) ≤ longest →
    (listing s ≡ call_lines verdict_line 0 (bundle_of s).calls ++ last_line (length (bundle_of s).calls) (bundle_of s).ending) ×
    (take (length (call_lines verdict_line 0 (bundle_of s).calls)) (listing (s ++ t)) ≡ call_lines verdict_line 0 (bundle_of s).calls)

-- ---- isolation, carried to the listing (demand 3)

-- as many calls, each alike to its counterpart
abbrev pub AllAlike : List Call → List Call → Type 0
AllAlike [] [] = Unit {0}
AllAlike [] (d ∷ ds) = ⊥
AllAlike (c ∷ cs) [] = ⊥
AllAlike (c ∷ cs) (d ∷ ds) = Alike c d × AllAlike cs ds

-- a line
abbrev pub IsolatedLine : Type 0
IsolatedLine = (i : ℕ) (a b : Call) → Alike a b → verdict_line i a ≡ verdict_line i b

-- all lines, of feeds from any reader
abbrev pub IsolatedSheet : Type 1
IsolatedSheet = (A B : Type 0) (f : Feed A) (h : Feed B) → AllAlike f.calls h.calls → f.ending ≡ h.ending → sheet verdict_line f ≡ sheet verdict_line h

-- the listings of two bundles
abbrev pub IsolatedListing : Type 0
IsolatedListing = (s t : List ℕ) → length s ≤ longest → length t ≤ longest →
    AllAlike (bundle_of s).calls (bundle_of t).calls → (bundle_of s).ending ≡ (bundle_of t).ending → listing s ≡ listing t
