-- A listing has one line for each packet, and a last one with their number: neither a decimal nor a name has a newline, so each line has
-- the one at its end. By induction. Assumes nothing.
use Rattle.octets.specs.Words.{ℕ, suc, ◌+◌, ◌≡◌, List, [], ◌∷◌, ◌++◌, length}
use Rattle.octets.proofs.Tools.{refl, sym, ap, ◌∙◌, arith, le-ltb}
use mathlib.Core.List.{append_assoc}
use native.Mathlib.Nat.{add-zero}
use Rattle.text.specs.Text.{ascii}
use Rattle.text.specs.Promises.{newlines}
use Rattle.text.proofs.Lines.{newlines-append, no-newline}
use Rattle.verdict.specs.declared.FenceVerdict.{FenceVerdict}
use Rattle.gate.specs.Gate.{Call, answering, headers_of}
use Rattle.bundle.specs.Feed.{Ending, ended, bad}
use Rattle.bundle.specs.Frames.{bundle_of}
use Rattle.listing.specs.Listing.{Line, line, last_line, lines_by, verdict_line, longest, listing}
use Rattle.listing.proofs.Names.{printed}
use Rattle.laws.specs.Listings.{call_lines, LinesThenLast, OneLineEach}

-- ---- the lines of the calls, and the last

lines-then-last-from : (g : Line) (i : ℕ) (cs : List Call) (e : Ending) → lines_by g i cs e ≡ call_lines g i cs ++ last_line (i + length cs) e
unfolding lines_by call_lines
lines-then-last-from g i [] e = ap (λ n. last_line n e) (sym (add-zero i))
lines-then-last-from g i (c ∷ cs) e =
    let n : i + 1 + length cs ≡ i + suc (length cs) = omega arith in
    ap (λ l. g i c ++ l) (lines-then-last-from g (i + 1) cs e ∙ ap (λ k. call_lines g (i + 1) cs ++ last_line k e) n) ∙
    sym (append_assoc (g i c) (call_lines g (i + 1) cs) (last_line (i + suc (length cs)) e))

pub lines-then-last : LinesThenLast
lines-then-last A g f =
    let n : 0 + length f.calls ≡ length f.calls = omega arith in
    lines-then-last-from g 0 f.calls f.ending ∙ ap (λ k. call_lines g 0 f.calls ++ last_line k f.ending) n

-- ---- newlines

-- the words between a line's parts, and the newline at its end
in_words : (newlines (ascii " ") ≡ 0) × ((newlines (ascii "end ") ≡ 0) × ((newlines (ascii "bad ") ≡ 0) × (newlines (ascii "\n") ≡ 1)))
unfolding newlines
in_words = (refl, (refl, (refl, refl)))

one_line : (i : ℕ) (v : FenceVerdict) (h : ℕ) → newlines (line i v h) ≡ 1
unfolding line
one_line i v h =
    simp newlines-append (rw (no-newline i, in_words.0, (printed v).name-line, no-newline h, (printed v).slot-line, in_words.1.1.1))

one_last : (n : ℕ) (e : Ending) → newlines (last_line n e) ≡ 1
unfolding last_line
one_last n ended = simp newlines-append (rw (in_words.1.0, no-newline n, in_words.1.1.1))
one_last n (bad at) = simp newlines-append (rw (in_words.1.1.0, no-newline at, in_words.1.1.1))

one_each : (i : ℕ) (cs : List Call) (e : Ending) → newlines (lines_by verdict_line i cs e) ≡ length cs + 1
unfolding lines_by verdict_line
one_each i [] e = one_last i e
one_each i (c ∷ cs) e =
    newlines-append (verdict_line i c) (lines_by verdict_line (i + 1) cs e) ∙
    (let a : newlines (verdict_line i c) ≡ 1 = one_line i (answering c).verdict (headers_of c) in
    let b : newlines (lines_by verdict_line (i + 1) cs e) ≡ length cs + 1 = one_each (i + 1) cs e in
    omega arith)

pub one-line-each : OneLineEach
unfolding listing
one-line-each s h = rw (le-ltb longest (length s) h) (one_each 0 (bundle_of s).calls (bundle_of s).ending)
