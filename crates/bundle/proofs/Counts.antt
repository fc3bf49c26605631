-- How many calls a bundle makes, and where its fault can be: each packet frame takes six bytes of the bundle or more, and a frame that
-- cannot be read begins inside it. Of any reader first. Assumes nothing.
use Rattle.octets.specs.Words.{ℕ, ◌*◌, ◌≤◌, ◌≡◌, Bool, true, false, List, length, leb}
use Rattle.octets.proofs.Tools.{refl, arith, leb-true, leb-false}
use Rattle.bundle.specs.Feed.{Ending, ended, bad, Feed, Step, stop, skip, emit, onward, no_call, call_then}
use Rattle.bundle.specs.Frames.{frame_at, State, initial, step_of, frame_step, left_at, feed_at, bundle_of}
use Rattle.bundle.specs.Promises.{FewCalls}
use Rattle.bundle.specs.Kinds.{Frame}
use Rattle.bundle.specs.Kinds as frame
use Rattle.bundle.proofs.FeedLaws.{read_keeps}
use Rattle.bundle.proofs.FrameLaws.{nothing_left, Takes, frame-takes}

-- ---- how many calls a feed has, and where its fault can be, for any reader

-- an end, or a fault at an offset of at most m
abbrev pub EndsBy : ℕ → Ending → Type 0
EndsBy m ended = Unit {0}
EndsBy m (bad at) = at ≤ m

abbrev StopsBy : {A : Type 0} → ℕ → Step A → Type 0
StopsBy m (stop e) = EndsBy m e
StopsBy m (skip a) = Unit {0}
StopsBy m (emit c a) = Unit {0}

few_on : {A : Type 0} (go : A → Feed A) (left : A → ℕ) → ((a : A) → 6 * length (go a).calls ≤ left a) → (m : ℕ) (a : A) (x : Step A) → Takes left m x →
    6 * length (onward no_call call_then go a x).calls ≤ m
unfolding onward
few_on go left f m a (stop e) h = omega arith
few_on go left f m a (skip b) h = omega (arith, f b)
few_on go left f m a (emit c b) h = omega (arith, f b)

ends_on : {A : Type 0} (m : ℕ) (go : A → Feed A) → ((a : A) → EndsBy m (go a).ending) → (a : A) (x : Step A) → StopsBy m x → EndsBy m (onward no_call call_then go a x).ending
unfolding onward
ends_on m go f a (stop e) h = h
ends_on m go f a (skip b) h = f b
ends_on m go f a (emit c b) h = f b

-- ---- the same of a bundle

-- past the end there is no bad frame
stops : (s : List ℕ) (at : ℕ) (st : State) (x : Frame) → (length s ≤ at → x ≡ frame.End) → StopsBy (length s) (step_of s at st x)
unfolding step_of
stops s at st frame.Config h = tt
stops s at st frame.Current h = tt
stops s at st frame.CookieValue h = tt
stops s at st frame.Call h = tt
stops s at st (frame.Packet n) h = tt
stops s at st frame.End h = tt
stops s at st frame.Bad h = by_place (leb (length s) at) refl
  where
    by_place : (b : Bool) → leb (length s) at ≡ b → at ≤ length s
    by_place true e =
        let f : frame.Bad ≡ frame.End = h (leb-true (length s) at e) in
        let z : ◌≡◌ {A = ℕ} 0 1 = cc in
        absurd (omega arith)
    by_place false e = omega (arith, leb-false (length s) at e)

pub few-calls : FewCalls
unfolding bundle_of feed_at
few-calls s =
    omega (
      arith,
      read_keeps no_call call_then (frame_step s) (left_at s) (λ p f. 6 * length f.calls ≤ left_at s p) (λ p. omega arith)
          (λ go h p. few_on go (left_at s) h (left_at s p) p (frame_step s p) (frame-takes s p)) (record { at = 0; state = initial }),
    )

pub ends-inside : (s : List ℕ) → EndsBy (length s) (bundle_of s).ending
unfolding bundle_of feed_at
ends-inside s =
    read_keeps no_call call_then (frame_step s) (left_at s) (λ p f. EndsBy (length s) f.ending) (λ p. tt)
    (λ go h p. ends_on (length s) go h p (frame_step s p) (stops s p.at p.state (frame_at s p.at) (nothing_left s p.at))) (record { at = 0; state = initial })
