-- Isolation, carried from the gate to the listing: a line prints what the gate answers and nothing else of the call. Assumes nothing.
use Rattle.octets.specs.Words.{ℕ, ◌+◌, ◌≡◌, List, [], ◌∷◌, ◌++◌, length}
use Rattle.octets.proofs.Tools.{refl, ap, ◌∙◌, le-ltb}
use Rattle.gate.specs.Gate.{Call, gate_of}
use Rattle.isolation.proofs.Calls.{isolated-rule, isolated}
use Rattle.bundle.specs.Feed.{Ending}
use Rattle.bundle.specs.Frames.{Place, bundle_of}
use Rattle.listing.specs.Listing.{line, lines_by, verdict_line, longest, listing}
use Rattle.laws.specs.Listings.{AllAlike, IsolatedLine, IsolatedSheet, IsolatedListing}

pub isolated-line : IsolatedLine
unfolding verdict_line gate_of
isolated-line i a b h = λ j. line i (isolated-rule a b h j).verdict (isolated a b h j).headers

all_lines : (i : ℕ) (cs ds : List Call) (e : Ending) → AllAlike cs ds → lines_by verdict_line i cs e ≡ lines_by verdict_line i ds e
unfolding lines_by
all_lines i [] [] e h = refl
all_lines i [] (d ∷ ds) e h = absurd h
all_lines i (c ∷ cs) [] e h = absurd h
all_lines i (c ∷ cs) (d ∷ ds) e h = λ j. isolated-line i c d h.0 j ++ all_lines (i + 1) cs ds e h.1 j

pub isolated-sheet : IsolatedSheet
isolated-sheet A B f h a e = all_lines 0 f.calls h.calls f.ending a ∙ ap (lines_by verdict_line 0 h.calls) e

pub isolated-listing : IsolatedListing
unfolding listing
isolated-listing s t hs ht a e = rw (le-ltb longest (length s) hs, le-ltb longest (length t) ht) (isolated-sheet Place Place (bundle_of s) (bundle_of t) a e)
