-- What comes later in a bundle changes nothing of what came before. A whole frame of a bundle is the same frame of every longer one,
-- and so are its bytes, so the two readings take the same steps as far as the shorter one goes. By induction on what is left.
-- Assumes nothing.
use Rattle.octets.specs.Words.{ℕ, zero, suc, ◌+◌, ◌-◌, ◌<◌, ◌≤◌, ◌≡◌, Bool, true, false, cond, List, [], ◌∷◌, ◌++◌, length, ltb, leb}
use Rattle.octets.proofs.Tools.{refl, sym, ap, ◌∙◌, arith, lt-leb, le-ltb, ltb-false, leb-false}
use mathlib.Core.List.{append_assoc}
use lib.ListN.{length-append, get_or-append}
use lib.Seq.{take-append_seam}
use native.Mathlib.Nat.{add-zero}
use Rattle.octets.specs.Octets.{octets_at, le}
use Rattle.gate.specs.Gate.{Call}
use Rattle.bundle.specs.Feed.{Feed, Step, stop, skip, emit, onward, no_call, call_then, Less}
use Rattle.bundle.specs.Frames.{length_at, kind_at, past, frame_of, frame_at, State, Place, initial, step_of, left_at, feed_at, bundle_of}
use Rattle.listing.specs.Listing.{Line, last_line, sheet, verdict_line, longest, listing}
use Rattle.laws.specs.Listings.{call_lines, EarlierCallsStay, EarlierLinesStay, EarlierListingStays}
use Rattle.bundle.specs.Kinds.{Frame}
use Rattle.bundle.specs.Kinds as frame
use Rattle.bundle.proofs.FrameLaws.{size, left-size, frames-fall, feed-at}
use Rattle.laws.proofs.EachLine.{lines-then-last}

octets-left : (s t : List ℕ) (at n : ℕ) → at + n ≤ length s → octets_at (s ++ t) at n ≡ octets_at s at n
unfolding octets_at
octets-left s t at zero h = refl
octets-left s t at (suc n) h =
    let first : at < length s = omega arith in
    rw (get_or-append s t 0 at first, octets-left s t (at + 1) n (omega arith))

-- ---- a whole frame

abbrev Whole : Frame → Type 0
Whole frame.Config = Unit {0}
Whole frame.Current = Unit {0}
Whole frame.CookieValue = Unit {0}
Whole frame.Call = Unit {0}
Whole (frame.Packet n) = Unit {0}
Whole frame.End = ⊥
Whole frame.Bad = ⊥

module _ (s t : List ℕ) where
  same-frame : (at : ℕ) → Whole (frame_at s at) → frame_at (s ++ t) at ≡ frame_at s at
  unfolding frame_at
  same-frame at = by (leb (length s) at) (ltb (length s) (past at (length_at s at))) refl refl
    where
      by : (a b : Bool) → leb (length s) at ≡ a → ltb (length s) (past at (length_at s at)) ≡ b →
          Whole (cond a frame.End (cond b frame.Bad (frame_of (kind_at s at) (length_at s at)))) →
          frame_at (s ++ t) at ≡ cond a frame.End (cond b frame.Bad (frame_of (kind_at s at) (length_at s at)))
      by true b e f w = absurd w
      by false true e f w = absurd w
      by false false e f w =
          let there : past at (length_at s at) ≤ length s = ltb-false (length s) (past at (length_at s at)) f in
          let more : at < length (s ++ t) = omega (arith, leb-false (length s) at e, length-append s t) in
          let n : length_at (s ++ t) at ≡ length_at s at = ap le (octets-left s t at 4 (omega arith)) in
          let k : kind_at (s ++ t) at ≡ kind_at s at = ap le (octets-left s t (at + 4) 2 (omega arith)) in
          let room : past at (length_at s at) ≤ length (s ++ t) = omega (arith, length-append s t) in
          rw (lt-leb (length (s ++ t)) at more, n, k, le-ltb (length (s ++ t)) (past at (length_at s at)) room)

  same_step : (at : ℕ) (st : State) (x : Frame) → Whole x → size x ≤ length s - at → step_of (s ++ t) at st x ≡ step_of s at st x
  unfolding step_of
  same_step at st frame.Config w h = rw (octets-left s t (at + 6) 40 (omega arith))
  same_step at st frame.Current w h = rw (octets-left s t (at + 6) 24 (omega arith))
  same_step at st frame.CookieValue w h = rw (octets-left s t (at + 6) 40 (omega arith))
  same_step at st frame.Call w h = rw (octets-left s t (at + 6) 43 (omega arith))
  same_step at st (frame.Packet n) w h = rw (octets-left s t (at + 6) n (omega arith))
  same_step at st frame.End w h = absurd w
  same_step at st frame.Bad w h = absurd w

-- ---- the calls

abbrev Begins : List Call → List Call → Type 0
Begins cs ds = (rest : List Call) × (ds ≡ cs ++ rest)

onward-begins : {A : Type 0} (f g : A → Feed A) (left : A → ℕ) (m : ℕ) → ((a : A) → left a < m → Begins (f a).calls (g a).calls) →
    (p : A) (x : Step A) → Less left m x → Begins (onward no_call call_then f p x).calls (onward no_call call_then g p x).calls
unfolding onward
onward-begins f g left m h p (stop e) l = ([], refl)
onward-begins f g left m h p (skip a) l = h a l
onward-begins f g left m h p (emit c a) l = let b = h a l in (b.0, ap (λ ds. c ∷ ds) b.1)

module _ (s t : List ℕ) where
  abbrev Later : Place → Type 0
  Later p = Begins (feed_at s p).calls (feed_at (s ++ t) p).calls

  at-whole : (p : Place) (x : Frame) → Whole x → frame_at s p.at ≡ x → ((a : Place) → left_at s a < left_at s p → Later a) → Later p
  at-whole p x w e h =
      let fit : size x ≤ length s - p.at = rw e at (left-size s p.at) in
      let whole : Whole (frame_at s p.at) = rw e w in
      let frame : frame_at (s ++ t) p.at ≡ x = same-frame s t p.at whole ∙ e in
      let step : step_of (s ++ t) p.at p.state x ≡ step_of s p.at p.state x = same_step s t p.at p.state x w fit in
      rw (feed-at s p x e, feed-at (s ++ t) p x frame, step)
      (onward-begins (feed_at s) (feed_at (s ++ t)) (left_at s) (left_at s p) h p (step_of s p.at p.state x) (rw e at (frames-fall s p)))

  at-frame : (p : Place) (x : Frame) → frame_at s p.at ≡ x → ((a : Place) → left_at s a < left_at s p → Later a) → Later p
  unfolding step_of onward
  at-frame p frame.Config e h = at-whole p frame.Config tt e h
  at-frame p frame.Current e h = at-whole p frame.Current tt e h
  at-frame p frame.CookieValue e h = at-whole p frame.CookieValue tt e h
  at-frame p frame.Call e h = at-whole p frame.Call tt e h
  at-frame p (frame.Packet n) e h = at-whole p (frame.Packet n) tt e h
  at-frame p frame.End e h = rw (feed-at s p frame.End e) ((feed_at (s ++ t) p).calls, refl)
  at-frame p frame.Bad e h = rw (feed-at s p frame.Bad e) ((feed_at (s ++ t) p).calls, refl)

  begins-at : (n : ℕ) (p : Place) → left_at s p < n → Later p
  begins-at zero p h = elim h [ ]
  begins-at (suc n) p h = at-frame p (frame_at s p.at) refl (λ a l. begins-at n a (omega arith))

  begins : Begins (bundle_of s).calls (bundle_of (s ++ t)).calls
  unfolding bundle_of
  begins = begins-at (suc (length s - 0)) (record { at = 0; state = initial }) (omega arith)

pub earlier-calls-stay : EarlierCallsStay
earlier-calls-stay s t = let b = begins s t in rw b.1 (take-append_seam (bundle_of s).calls b.0)

-- ---- their lines

lines-append : (g : Line) (i : ℕ) (cs ds : List Call) → call_lines g i (cs ++ ds) ≡ call_lines g i cs ++ call_lines g (i + length cs) ds
unfolding call_lines
lines-append g i [] ds = ap (λ n. call_lines g n ds) (sym (add-zero i))
lines-append g i (c ∷ cs) ds =
    let n : i + 1 + length cs ≡ i + suc (length cs) = omega arith in
    ap (λ l. g i c ++ l) (lines-append g (i + 1) cs ds ∙ ap (λ k. call_lines g (i + 1) cs ++ call_lines g k ds) n) ∙
    sym (append_assoc (g i c) (call_lines g (i + 1) cs) (call_lines g (i + suc (length cs)) ds))

pub earlier-lines-stay : EarlierLinesStay
earlier-lines-stay g s t =
    let b = begins s t in
    let cs = (bundle_of s).calls in
    let last = last_line (length (bundle_of (s ++ t)).calls) (bundle_of (s ++ t)).ending in
    let later = call_lines g (0 + length cs) b.0 in
    let whole : sheet g (bundle_of (s ++ t)) ≡ call_lines g 0 cs ++ (later ++ last) =
    lines-then-last Place g (bundle_of (s ++ t)) ∙ ap (λ l. l ++ last) (ap (call_lines g 0) b.1 ∙ lines-append g 0 cs b.0) ∙ append_assoc (call_lines g 0 cs) later last in
    rw whole (take-append_seam (call_lines g 0 cs) (later ++ last))

pub earlier-listing-stays : EarlierListingStays
unfolding listing
earlier-listing-stays s t h =
    let long : length s ≤ longest = omega (arith, length-append s t) in (
      rw (le-ltb longest (length s) long) (lines-then-last Place verdict_line (bundle_of s)),
      rw (le-ltb longest (length (s ++ t)) h) (earlier-lines-stay verdict_line s t),
    )
