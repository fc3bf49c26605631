-- No listing is longer than 273,060 bytes. Each packet frame takes six bytes of the bundle or more, so there are at most 10,922 of them; a
-- line has at most 25 bytes, since an ordinal has at most five digits, a name at most fourteen letters, and the header count, at most
-- four, and the slot one digit each; the last line has at most ten. Assumes nothing.
use Rattle.octets.specs.Words.{ℕ, ◌+◌, ◌*◌, ◌<◌, ◌≤◌, List, [], ◌∷◌, length, ltb}
use Rattle.octets.proofs.Tools.{arith, le-leb, ltb-false}
use Rattle.octets.proofs.Choices.{pick}
use lib.ListN.{length-append}
use Rattle.text.specs.Text.{ascii, decimal}
use Rattle.text.proofs.Digits.{one-digit, few-digits}
use Rattle.verdict.specs.declared.FenceVerdict.{FenceVerdict}
use Rattle.gate.specs.Gate.{Call, answering, headers_of}
use Rattle.gate.proofs.Rules.{count-at-most-4}
use Rattle.bundle.specs.Feed.{Ending, ended, bad}
use Rattle.bundle.specs.Frames.{bundle_of}
use Rattle.listing.specs.Listing.{line, last_line, lines_by, sheet, verdict_line, longest, listing, answer_of}
use Rattle.listing.specs.Promises.{longest_listing, Bounded, RoomSuffices}
use Rattle.bundle.proofs.Counts.{EndsBy, few-calls, ends-inside}
use Rattle.listing.proofs.Names.{printed}

-- ---- how long a line is

five-digits : (n : ℕ) → n < 100_000 → length (decimal n) ≤ 5
five-digits n h = few-digits 4 n h

headers-4 : (c : Call) → headers_of c ≤ 4
headers-4 c = count-at-most-4 c

line-most : (i : ℕ) (v : FenceVerdict) (h : ℕ) → i < 100_000 → h ≤ 4 → length (line i v h) ≤ 25
unfolding line
line-most i v h l m =
    rw (one-digit h 20 (omega arith) (omega arith))
    (simp length-append (omega (arith, five-digits i l, printed v)))

last-most : (count : ℕ) (e : Ending) → count < 100_000 → EndsBy 65_536 e → length (last_line count e) ≤ 10
unfolding last_line
last-most count ended h l = simp length-append (omega (arith, five-digits count h))
last-most count (bad at) h l = simp length-append (omega (arith, five-digits at (omega arith)))

lines-most : (i : ℕ) (cs : List Call) (e : Ending) → i + length cs < 100_000 → EndsBy 65_536 e → length (lines_by verdict_line i cs e) ≤ 25 * length cs + 10
unfolding lines_by verdict_line
lines-most i [] e h l = last-most i e (omega arith) l
lines-most i (c ∷ cs) e h l =
    rw length-append (omega (arith, line-most i (answering c).verdict (headers_of c) (omega arith) (headers-4 c), lines-most (i + 1) cs e (omega arith) l))

-- ---- so no listing is longer

weaken : (m : ℕ) (e : Ending) → m ≤ 65_536 → EndsBy m e → EndsBy 65_536 e
weaken m ended h l = tt
weaken m (bad at) h l = omega arith

pub no_longer : Bounded
unfolding listing
no_longer s =
    pick (λ t. length t ≤ longest_listing) (ltb longest (length s)) {x = ascii "long\n"} {y = sheet verdict_line (bundle_of s)} (λ e. omega arith) (λ e.
    let h : length s ≤ 65_536 = ltb-false longest (length s) e in
    let f : 6 * length (bundle_of s).calls ≤ length s = few-calls s in
    omega (arith, lines-most 0 (bundle_of s).calls (bundle_of s).ending (omega arith) (weaken (length s) (bundle_of s).ending h (ends-inside s))))

pub room-suffices : RoomSuffices
unfolding answer_of
room-suffices s room h =
    let fits : length (listing s) ≤ room = omega (arith, no_longer s) in
    rw (le-leb (length (listing s)) room fits)
