-- The cursor's reader goes along with the bundle's: each body stands at the place that the cursor keeps, and the cookie values one after
-- the other in the lent table, which has room for all of a bundle that is no longer than it. So the calls, the ending and the state at the
-- end are the bundle's. Assumes nothing.
use Rattle.octets.specs.Words.{ℕ, ◌+◌, ◌-◌, ◌<◌, ◌≤◌, ◌≡◌, List, ◌++◌, length, take, drop, replicate}
use Rattle.octets.proofs.Tools.{refl, sym, ap, ◌∙◌, arith}
use lib.ListN.{length-append}
use lib.Seq.{take_at, length-take-le}
use Rattle.octets.specs.Octets.{octets_at, put}
use Rattle.octets.proofs.OctetsLaws.{length-octets, put_in, length-put}
use Rattle.text.specs.Text.{last_place, after, Wrote}
use Rattle.text.proofs.TextLaws.{after-in}
use Rattle.bundle.specs.Feed.{skip, onward, map_feed, Next, called, over}
use Rattle.bundle.specs.Frames.{body_at, past, frame_at, initial, call_of, step_of, frame_step, left_at, feed_at, bundle_of}
use Rattle.bundle.specs.Cursor.{held, state_of, start_of, Desk, desk, place_of, desk_step, read_step, desk_left, desk_feed, next_at}
use Rattle.bundle.specs.Promises.{Followed}
use Rattle.bundle.specs.Inner.Steps.{frame_is, size}
use Rattle.bundle.specs.Kinds.{Frame}
use Rattle.bundle.specs.Kinds as frame
use Rattle.bundle.specs.declared.frames.Frame.{Frame as Found}
use Rattle.bundle.specs.declared.frames.Frame.TheVariants as find
use Rattle.bundle.specs.declared.frames.Cursor.{Cursor}
use Rattle.bundle.proofs.FeedLaws.{next-step, read_keeps, map_step, Leads, run-maps}
use Rattle.bundle.proofs.FrameLaws.{left-size, desks-fall, held_in, held_out}

-- ---- the next packet

-- y is the frame that is found at an offset: what comes next is what it says, or comes next after it
pub next-at : (s : List ℕ) (c : Cursor) {x y : Found} → frame_is x ≡ frame_at s c.at → x ≡ y → (t : List ℕ) →
    next_at s (desk c t) ≡ onward over (λ k b n. called k b) (next_at s) (desk c t) (desk_step s c t (frame_is y))
unfolding next_at
next-at s c e h t = next-step (read_step s) (desk_left s) (desks-fall s) (desk c t) ∙ rw (sym e ∙ ap frame_is h)

-- a cookie value that is written after those gathered
pub next-value : (s : List ℕ) (c : Cursor) (t : List ℕ) {x : Found} {t' part : List ℕ} {r : ℕ} → frame_is x ≡ frame_at s c.at → x ≡ find.CookieValue →
    part ≡ body_at s c.at 40 → Wrote t c.gathered part t' r →
    next_at s (desk c t) ≡ next_at s (desk (record { at = past c.at 40; gathered = r; config = c.config; current = c.current; call = c.call }) t')
unfolding onward desk_step
next-value s c t {t' = t'} {r = r} e h f p =
    let many : r ≡ after c.gathered 40 = p.past ∙ ap (after c.gathered) (ap length f ∙ length-octets s (c.at + 6) 40) in
    let held : t' ≡ put t c.gathered (body_at s c.at 40) = p.bytes ∙ ap (put t c.gathered) f in
    next-at s c e h t ∙
    (λ j. next_at s (desk (record { at = past c.at 40; gathered = sym many j; config = c.config; current = c.current; call = c.call }) (sym held j)))

-- a packet is the bytes before the cursor after it
pub next-call : (s : List ℕ) (c : Cursor) (t : List ℕ) {x : Found} {n : ℕ} → frame_is x ≡ frame_at s c.at → x ≡ find.Packet n →
    next_at s (desk c t) ≡ called (call_of (state_of s c t) (octets_at s (past c.at n - n) n))
    (desk (record { at = past c.at n; gathered = c.gathered; config = c.config; current = c.current; call = c.call }) t)
unfolding onward desk_step
next-call s c t {n = n} e h =
    let before : c.at + 6 ≡ past c.at n - n = omega arith in
    next-at s c e h t ∙
    ap (λ k. called (call_of (state_of s c t) (octets_at s k n)) (desk (record { at = past c.at n; gathered = c.gathered; config = c.config; current = c.current; call = c.call }) t)) before

-- a packet lies in the bundle, before the cursor
abbrev pub Inside : List ℕ → Next Desk → Type 0
Inside s (called k d) = (length k.packet ≤ d.cursor.at) × (d.cursor.at ≤ length s)
Inside s (over e d) = Unit {0}

inside_on : (s : List ℕ) (go : Desk → Next Desk) → ((d : Desk) → Inside s (go d)) → (d : Desk) (x : Frame) → size x ≤ length s - d.cursor.at →
    Inside s (onward over (λ k b n. called k b) go d (desk_step s d.cursor d.table x))
unfolding onward desk_step call_of
inside_on s go h d frame.Config l = h _
inside_on s go h d frame.Current l = h _
inside_on s go h d frame.CookieValue l = h _
inside_on s go h d frame.Call l = h _
inside_on s go h d (frame.Packet n) l = (omega (arith, length-octets s (d.cursor.at + 6) n), omega arith)
inside_on s go h d frame.End l = tt
inside_on s go h d frame.Bad l = tt

pub inside : (s : List ℕ) (d : Desk) → Inside s (next_at s d)
unfolding next_at
inside s d =
    read_keeps over (λ k b n. called k b) (read_step s) (desk_left s) (λ a n. Inside s n) (λ a. tt)
    (λ go h a. inside_on s go h a (frame_at s a.cursor.at) (left-size s a.cursor.at)) d

-- ---- the feed

pub record Standing (s : List ℕ) (d : Desk) : Type 0 where
  pub few : d.cursor.gathered ≤ d.cursor.at
  pub room : length s ≤ length d.table
  pub fits : length d.table ≤ last_place

-- a cookie value after those gathered
grown : (t b : List ℕ) (g : ℕ) → length b ≡ 40 → g + 40 ≤ length t → length t ≤ last_place → take (after g 40) (put t g b) ≡ take g t ++ b
grown t b g e h l =
    let long : length (take g t ++ b) ≡ g + 40 = rw (length-append, length-take-le g t (omega arith), e) in
    rw (after-in g 40 (omega arith), put_in t g b (omega arith)) (take_at (take g t ++ b) (drop (g + length b) t) (g + 40) long)

along-at : (s : List ℕ) (c : Cursor) (t : List ℕ) (x : Frame) → size x ≤ length s - c.at → Standing s (desk c t) →
    (map_step (place_of s) (desk_step s c t x) ≡ step_of s c.at (state_of s c t) x) × Leads (Standing s) (desk_step s c t x)
unfolding step_of desk_step
along-at s c t frame.Config h k = (
  (λ j. skip (record {
    at = past c.at 40;
    state = record { config = held_in s (c.at + 6) 40 (omega arith) j; current = held s c.current 24; call = held s c.call 43; table = take c.gathered t };
  })),
  record { few = omega (arith, k.few); room = k.room; fits = k.fits },
)
along-at s c t frame.Current h k = (
  (λ j. skip (record {
    at = past c.at 24;
    state = record { config = held s c.config 40; current = held_in s (c.at + 6) 24 (omega arith) j; call = held s c.call 43; table = take c.gathered t };
  })),
  record { few = omega (arith, k.few); room = k.room; fits = k.fits },
)
along-at s c t frame.CookieValue h k =
    let b = body_at s c.at 40 in
    let more : c.gathered + 40 ≤ length t = omega (arith, k.few, k.room) in (
      (λ j. skip (record {
        at = past c.at 40;
        state = record { config = held s c.config 40; current = held s c.current 24; call = held s c.call 43; table = grown t b c.gathered (length-octets s (c.at + 6) 40) more k.fits j };
      })),
      record {
        few = rw (after-in c.gathered 40 (omega (arith, k.fits))) (omega (arith, k.few));
        room = omega (arith, k.room, length-put t c.gathered b);
        fits = omega (arith, k.fits, length-put t c.gathered b);
      },
    )
along-at s c t frame.Call h k = (
  (λ j. skip (record {
    at = past c.at 43;
    state = record { config = held s c.config 40; current = held s c.current 24; call = held_in s (c.at + 6) 43 (omega arith) j; table = take c.gathered t };
  })),
  record { few = omega (arith, k.few); room = k.room; fits = k.fits },
)
along-at s c t (frame.Packet n) h k = (refl, record { few = omega (arith, k.few); room = k.room; fits = k.fits })
along-at s c t frame.End h k = (refl, tt)
along-at s c t frame.Bad h k = (refl, tt)

pub desk-feed : (s : List ℕ) (d : Desk) → Standing s d → map_feed (place_of s) (desk_feed s d) ≡ feed_at s (place_of s d)
unfolding desk_feed feed_at
desk-feed s d k =
    run-maps (read_step s) (desk_left s) (frame_step s) (left_at s) (place_of s) (Standing s)
    (λ a h. along-at s a.cursor a.table (frame_at s a.cursor.at) (left-size s a.cursor.at) h) (λ a. refl) d k

-- "At first all is zero and the table empty"
pub whole-feed : Followed
unfolding bundle_of
whole-feed s t h l =
    let none : (n : ℕ) → 0 < n → held s (length s) n ≡ replicate n 0 = λ n m. held_out s (length s) n (omega arith) in
    desk-feed s (desk (start_of (length s)) t) (record { few = omega arith; room = h; fits = l }) ∙
    (λ i. feed_at s (record { at = 0; state = record { config = none 40 (omega arith) i; current = none 24 (omega arith) i; call = none 43 (omega arith) i; table = initial.table } }))
