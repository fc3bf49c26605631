-- A listing that is under way. Of the lines of a bundle, those of the feed at the cursor are owed: whoever writes them where the others end
-- has written all. A packet's line pays one, and the last line the rest. Whatever a sheet prints of a call. Assumes nothing.
use Rattle.octets.specs.Words.{ℕ, ◌+◌, ◌-◌, ◌<◌, ◌≤◌, ◌≡◌, Bool, true, false, List, length, leb}
use Rattle.octets.proofs.Tools.{refl, sym, ap, ◌∙◌, arith, leb-true, leb-false, le-leb, lt-leb}
use mathlib.Core.Path.{subst}
use native.Mathlib.Nat.{zero-add}
use Rattle.std.specs.Prelude.{Result, Ok, Err, IsErr}
use Rattle.octets.specs.Octets.{octets_at}
use Rattle.octets.proofs.OctetsLaws.{put_in, length-octets}
use Rattle.text.specs.Text.{last_place, Wrote}
use Rattle.text.proofs.TextLaws.{then, same_length, measures}
use Rattle.verdict.proofs.Unique.{slot-injective}
use Rattle.gate.specs.Gate.{Call, answering, gate_of}
use Rattle.gate.specs.Gate as gate
use Rattle.gate.specs.declared.GateAnswer.{GateAnswer}
use Rattle.bundle.specs.Feed.{Feed, beginning}
use Rattle.bundle.specs.Frames.{State, call_of, bundle_of}
use Rattle.listing.specs.Listing.{Line, line, lines_by, sheet, verdict_line, whole, listing, room_for, answer_of, output_of, Lists}
use Rattle.listing.specs.declared.Listed.{Listed}
use Rattle.listing.specs.declared.ListError.{ListError}
use Rattle.listing.specs.declared.ListError.TheVariants.{NoRoom}
use Rattle.bundle.specs.Cursor.{state_of, start_of, desk, read_step, desk_left, desk_feed, next_at, next_is}
use Rattle.bundle.specs.declared.frames.Cursor.{Cursor}
use Rattle.bundle.specs.declared.frames.Next.{Next as Told}
use Rattle.bundle.specs.declared.frames.Next.TheVariants as told
use Rattle.bundle.proofs.FeedLaws.{feed-by-next}
use Rattle.bundle.proofs.FrameLaws.{desks-fall}
use Rattle.bundle.proofs.DeskLaws.{Inside, inside, whole-feed}
use Rattle.bundle.proofs.Counts.{few-calls}

-- the lines of a feed from an ordinal on
abbrev pub lines_of : {A : Type 0} → Line → ℕ → Feed A → List ℕ
lines_of g i f = lines_by g i f.calls f.ending

-- ---- a listing after some packets

pub record Going (g : Line) (s t₀ t d₀ d : List ℕ) (c : Cursor) (i w : ℕ) : Type 0 where
  pub same_table : length t ≡ length t₀
  pub same_out : length d ≡ length d₀
  pub fits : length d₀ ≤ last_place
  pub count : i + length (desk_feed s (desk c t)).calls ≤ last_place
  pub ending : (desk_feed s (desk c t)).ending ≡ (bundle_of s).ending
  pub owed : (d' : List ℕ) (r : ℕ) → Wrote d w (lines_of g i (desk_feed s (desk c t))) d' r → Wrote d₀ 0 (sheet g (bundle_of s)) d' r

pub go-start : (g : Line) (s t d : List ℕ) → length s ≤ length t → length t ≤ last_place → length d ≤ last_place → Going g s t t d d (start_of (length s)) 0 0
go-start g s t d h l m =
    let same = whole-feed s t h l in
    record {
      same_table = refl;
      same_out = refl;
      fits = m;
      count = omega (arith, few-calls s, ap (λ f. length f.calls) same);
      ending = ap (λ f. f.ending) same;
      owed = λ d' r w. rw (ap (lines_of g 0) same) at w;
    }

-- what is told of the next packet is x, and the lent table then holds t'
pub record Comes (s : List ℕ) (c : Cursor) (t t' : List ℕ) (x : Told) : Type 0 where
  pub next : next_is s t' x ≡ next_at s (desk c t)

-- it begins the feed, and a packet lies in the bundle
module _ {s : List ℕ} {c : Cursor} {t t' : List ℕ} {x : Told} (e : Comes s c t t' x) where
  told-feed : {y : Told} → x ≡ y → desk_feed s (desk c t) ≡ beginning (desk_feed s) (next_is s t' y)
  unfolding desk_feed next_at
  told-feed h = feed-by-next _ (read_step s) (desk_left s) (desks-fall s) (desk c t) ∙ ap (beginning (desk_feed s)) (sym e.next ∙ ap (next_is s t') h)

  pub told-inside : {c' : Cursor} {n : ℕ} → x ≡ told.Packet c' n → (n ≤ c'.at) × (c'.at ≤ length s)
  unfolding call_of
  told-inside {c'} {n} h =
      let there : Inside s (next_is s t' (told.Packet c' n)) = subst (Inside s) (sym e.next ∙ ap (next_is s t') h) (inside s (desk c t)) in
      (omega (arith, there.0, length-octets s (c'.at - n) n), there.1)

  -- after it there are fewer
  pub told-fewer : {c' : Cursor} {n : ℕ} → x ≡ told.Packet c' n → length (desk_feed s (desk c' t')).calls < length (desk_feed s (desk c t)).calls
  unfolding beginning
  told-fewer h = rw (told-feed h) (omega arith)

  module _ {g : Line} {t₀ d₀ d : List ℕ} {i w : ℕ} (k : Going g s t₀ t d₀ d c i w) where
    pub go-line : {c' : Cursor} {n : ℕ} {d' : List ℕ} {r : ℕ} → x ≡ told.Packet c' n → length t' ≡ length t →
        Wrote d w (g i (call_of (state_of s c' t') (octets_at s (c'.at - n) n))) d' r → Going g s t₀ t' d₀ d' c' (i + 1) r
    unfolding beginning lines_by
    go-line h l p =
        record {
          same_table = l ∙ k.same_table;
          same_out = same_length p ∙ k.same_out;
          fits = k.fits;
          count = omega (arith, k.count, told-fewer h);
          ending = sym (ap (λ f. f.ending) (told-feed h)) ∙ k.ending;
          owed = λ d'' q v. rw (told-feed h) at k.owed d'' q (then (omega (arith, k.same_out, k.fits)) p v);
        }

    -- the last line
    pub go-last : {y : Told} {d' : List ℕ} {r : ℕ} → x ≡ y → Wrote d w (lines_of g i (beginning (desk_feed s) (next_is s t' y))) d' r → Wrote d₀ 0 (sheet g (bundle_of s)) d' r
    go-last {y} {d'} {r} h p = k.owed d' r (rw (told-feed h) p)

    pub last-ending : {y : Told} → x ≡ y → (beginning (desk_feed s) (next_is s t' y)).ending ≡ (bundle_of s).ending
    last-ending h = sym (ap (λ f. f.ending) (told-feed h)) ∙ k.ending

-- ---- the line of an answer

-- the gate's contract gives the slot, which no two verdicts have
pub line-is : (i : ℕ) (a : GateAnswer) (c : Call) → gate.answer_of a ≡ gate_of c → line i a.verdict a.headers ≡ verdict_line i c
unfolding gate_of verdict_line
line-is i a c e =
    let v : a.verdict ≡ (answering c).verdict = slot-injective a.verdict (answering c).verdict (ap (λ r. r.slot) e) in
    λ j. line i (v j) (e j).headers

-- so a line that is written of it is that of the call, whose packet was handed over as a part of the input
pub judged : {d d' : List ℕ} {at r : ℕ} (i : ℕ) (a : GateAnswer) (st : State) (part packet : List ℕ) → gate.answer_of a ≡ gate_of (call_of st part) → part ≡ packet →
    Wrote d at (line i a.verdict a.headers) d' r → Wrote d at (verdict_line i (call_of st packet)) d' r
judged i a st part packet e f p = rw (line-is i a (call_of st packet) (e ∙ ap (λ b. gate_of (call_of st b)) f)) at p

-- ---- the whole listing, or none of it

room-told : (s d : List ℕ) → room_for (listing s) (length d) ≡ Ok tt → length (listing s) ≤ length d
unfolding room_for
room-told s d e = by (leb (length (listing s)) (length d)) refl
  where
    by : (b : Bool) → leb (length (listing s)) (length d) ≡ b → length (listing s) ≤ length d
    by true t = leb-true (length (listing s)) (length d) t
    by false t = let no : Err NoRoom ≡ Ok tt = rw t at e in cc

no-room-told : (s d : List ℕ) {e : ListError} → room_for (listing s) (length d) ≡ Err e → length d < length (listing s)
unfolding room_for
no-room-told s d {e} h = by (leb (length (listing s)) (length d)) refl
  where
    by : (b : Bool) → leb (length (listing s)) (length d) ≡ b → length d < length (listing s)
    by true t = let no : Ok tt ≡ Err e = rw t at h in cc
    by false t = leb-false (length (listing s)) (length d) t

-- there is one refusal
pub refused : (s d : List ℕ) (r : Result Listed ListError) {e : ListError} → IsErr r → room_for (listing s) (length d) ≡ Err e → Lists s d r d
unfolding answer_of output_of
refused s d (Ok l) h f = cc
refused s d (Err NoRoom) h f =
    let none = lt-leb (length (listing s)) (length d) (no-room-told s d f) in
    record { answer = rw none; output = rw none; inside = tt }

pub done : {s d d' : List ℕ} {l : Listed} → length d ≤ last_place → room_for (listing s) (length d) ≡ Ok tt → Wrote d 0 (listing s) d' l.length → l.whole ≡ whole s →
    Lists s d (Ok l) d'
unfolding answer_of output_of
done {s} {d} {d'} {l} h e w v =
    let room : length (listing s) ≤ length d = room-told s d e in
    let long : l.length ≡ length (listing s) = w.past ∙ measures (length (listing s)) (omega arith) in
    let held = le-leb (length (listing s)) (length d) room in
    record {
      answer = rw (held, ← long, ← v);
      output = rw held (w.bytes ∙ put_in d 0 (listing s) (omega arith) ∙ rw zero-add);
      inside = omega (arith, same_length w);
    }
