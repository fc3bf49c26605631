-- The laws of frames: a whole frame lies in the bundle, so that less is left after it, and the feed at a place is what the frame there
-- says and then the feed after it. And what the bodies are as parts of the input. Assumes nothing.
use Rattle.octets.specs.Words.{ℕ, ◌+◌, ◌-◌, ◌<◌, ◌≤◌, ◌≡◌, List, [], ◌++◌, length, take, drop, replicate, eqb, ltb, leb}
use Rattle.octets.proofs.Tools.{refl, sym, ap, ◌∙◌, arith, le-leb, lt-leb, eqb-true, ltb-false}
use Rattle.octets.proofs.Choices.{pick}
use lib.ListN.{length-drop, length-replicate, replicate-append-replicate}
use lib.Seq.{take_at, take_all}
use Rattle.octets.specs.Octets.{octets_at, le}
use Rattle.octets.proofs.OctetsLaws.{length-octets, octets-drop}
use Rattle.gate.specs.Gate.{Answer, gate_of}
use Rattle.gate.specs.declared.Socket.{Socket}
use Rattle.bundle.specs.Feed.{Step, stop, skip, emit, onward, no_call, call_then, Less, Falls}
use Rattle.bundle.specs.Frames.{length_at, kind_at, past, exactly, frame_of, frame_at, State, initial, Place, socket_of, call_of, step_of, frame_step, left_at, feed_at}
use Rattle.bundle.specs.Cursor.{held, desk_step, read_step, desk_left}
use Rattle.bundle.specs.declared.frames.Cursor.{Cursor}
pub use Rattle.bundle.specs.Inner.Steps.{size}
use Rattle.bundle.specs.Kinds.{Frame}
use Rattle.bundle.specs.Kinds as frame
use Rattle.bundle.proofs.FeedLaws.{run_step}

-- ---- a whole frame lies in the bundle

exact-size : (n len : ℕ) (f : Frame) → size f ≡ 6 + n → size (exactly n len f) ≤ 6 + len
unfolding exactly
exact-size n len f h = pick (λ x. size x ≤ 6 + len) (eqb len n) (λ e. let q : len ≡ n = eqb-true len n e in omega arith) (λ e. omega arith)

pub of_size : (kind len : ℕ) → size (frame_of kind len) ≤ 6 + len
unfolding frame_of
of_size kind len =
    let P : Frame → Type 0 = λ x. size x ≤ 6 + len in
    pick P (eqb kind 1) (λ e. exact-size 40 len frame.Config refl) (λ e.
    pick P (eqb kind 2) (λ e. exact-size 24 len frame.Current refl) (λ e.
    pick P (eqb kind 3) (λ e. exact-size 40 len frame.CookieValue refl) (λ e.
    pick P (eqb kind 4) (λ e. exact-size 43 len frame.Call refl) (λ e.
    pick P (eqb kind 5) (λ e. omega arith) (λ e. omega arith)))))

-- ---- the feed at a place

pub nothing_left : (s : List ℕ) (at : ℕ) → length s ≤ at → frame_at s at ≡ frame.End
unfolding frame_at
nothing_left s at h = rw (le-leb (length s) at h)

-- a frame takes no more than is left, wherever it stands
pub left-size : (s : List ℕ) (at : ℕ) → size (frame_at s at) ≤ length s - at
unfolding frame_at
left-size s at =
    let P : Frame → Type 0 = λ x. size x ≤ length s - at in
    pick P (leb (length s) at) (λ e. omega arith) (λ e.
    pick P (ltb (length s) (past at (length_at s at))) (λ f. omega arith) (λ f.
    omega (arith, of_size (kind_at s at) (length_at s at), ltb-false (length s) (past at (length_at s at)) f)))

-- so the place after it lies in the bundle
pub inside-at : (s : List ℕ) (at : ℕ) {x : Frame} → frame_at s at ≡ x → 0 < size x → at + size x ≤ length s
inside-at s at {x} e h = let l : size x ≤ length s - at = rw e at (left-size s at) in omega arith

-- a step that leaves less than m, and six less where it makes a call
abbrev pub Takes : {A : Type 0} → (A → ℕ) → ℕ → Step A → Type 0
Takes left m (stop e) = Unit {0}
Takes left m (skip a) = left a < m
Takes left m (emit c a) = 6 + left a ≤ m

takes-less : {A : Type 0} (left : A → ℕ) (m : ℕ) (x : Step A) → Takes left m x → Less left m x
takes-less left m (stop e) h = tt
takes-less left m (skip a) h = h
takes-less left m (emit c a) h = omega arith

-- by what a frame takes, for the bundle's reader and for the cursor's
takes : (s : List ℕ) (c : Cursor) (t : List ℕ) (st : State) (x : Frame) → size x ≤ length s - c.at →
    Takes (left_at s) (length s - c.at) (step_of s c.at st x) × Takes (desk_left s) (length s - c.at) (desk_step s c t x)
unfolding step_of desk_step
takes s c t st frame.Config h = (omega arith, omega arith)
takes s c t st frame.Current h = (omega arith, omega arith)
takes s c t st frame.CookieValue h = (omega arith, omega arith)
takes s c t st frame.Call h = (omega arith, omega arith)
takes s c t st (frame.Packet n) h = (omega arith, omega arith)
takes s c t st frame.End h = (tt, tt)
takes s c t st frame.Bad h = (tt, tt)

-- so both may be run
pub frame-takes : (s : List ℕ) (p : Place) → Takes (left_at s) (left_at s p) (frame_step s p)
frame-takes s p = (takes s (record { at = p.at; gathered = 0; config = 0; current = 0; call = 0 }) [] p.state (frame_at s p.at) (left-size s p.at)).0

pub frames-fall : (s : List ℕ) → Falls (frame_step s) (left_at s)
frames-fall s p = takes-less (left_at s) (left_at s p) (frame_step s p) (frame-takes s p)

pub desks-fall : (s : List ℕ) → Falls (read_step s) (desk_left s)
desks-fall s d = takes-less (desk_left s) (desk_left s d) (read_step s d) (takes s d.cursor d.table initial (frame_at s d.cursor.at) (left-size s d.cursor.at)).1

pub feed-at : (s : List ℕ) (p : Place) (x : Frame) → frame_at s p.at ≡ x → feed_at s p ≡ onward no_call call_then (feed_at s) p (step_of s p.at p.state x)
unfolding feed_at
feed-at s p x e = run_step (frame_step s) (left_at s) (frames-fall s) p ∙ rw e

-- ---- bodies as parts of the input

pub octets-part : (s : List ℕ) (at n m : ℕ) → at + n ≤ length s → m ≡ n → take m (drop at s) ≡ octets_at s at n
octets-part s at n m h e = rw (← octets-drop s at n h, take_at (octets_at s at n) (drop (at + n) s) m (length-octets s at n ∙ sym e))

pub held_in : (s : List ℕ) (at n : ℕ) → at + n ≤ length s → held s at n ≡ octets_at s at n
unfolding held
held_in s at n h = rw (le-leb (at + n) (length s) h)

-- the part after the place, as far as the end, and of that the first n bytes
pub held-part : (s : List ℕ) (at n : ℕ) → at + n ≤ length s → take (n - 0) (take (length s - at) (drop at s)) ≡ held s at n
held-part s at n h =
    let rest : length (drop at s) ≤ length s - at = rw length-drop (omega arith) in
    let all : n - 0 ≡ n = omega arith in
    rw (take_all (length s - at) (drop at s) rest) (octets-part s at n (n - 0) h all ∙ sym (held_in s at n h))

pub held_out : (s : List ℕ) (at n : ℕ) → length s < at + n → held s at n ≡ replicate n 0
unfolding held
held_out s at n h = rw (lt-leb (at + n) (length s) h)

-- n zeros
abbrev some : ℕ → List ℕ
some n = replicate n 0

zeros : (n : ℕ) → n ≤ 43 → take n (some 43) ≡ some n
zeros n h =
    let whole : n + (43 - n) ≡ 43 = omega arith in
    let parts : some n ++ some (43 - n) ≡ some 43 = replicate-append-replicate n (43 - n) 0 ∙ ap some whole in
    ap (take n) (sym parts) ∙ take_at (some n) (some (43 - n)) n (length-replicate n 0)

-- the start of the zeros, where the bytes do not lie inside
pub held-zeros : (s : List ℕ) (at n : ℕ) → n ≤ 43 → length s < at + n → take n (some 43) ≡ held s at n
held-zeros s at n h l = zeros n h ∙ sym (held_out s at n l)

-- the gate is asked of a packet with the parts of the state
pub asked-as : (st : State) (packet : List ℕ) {r : Answer} {config call current table : List ℕ} {socket : Socket} {attachment cookie time : ℕ} →
    r ≡ gate_of (record { config = config; attachment = attachment; socket = socket; packet = packet; cookie = cookie; current = current; table = table; time = time }) →
    config ≡ st.config → call ≡ st.call → attachment ≡ le (octets_at call 0 8) → socket ≡ socket_of call →
    cookie ≡ le (octets_at call 27 8) → current ≡ st.current → table ≡ st.table → time ≡ le (octets_at call 35 8) → r ≡ gate_of (call_of st packet)
unfolding call_of
asked-as st packet e g b n s k u t m =
    e ∙ ap gate_of (λ i. record {
      config = g i;
      attachment = (n ∙ ap (λ c. le (octets_at c 0 8)) b) i;
      socket = (s ∙ ap socket_of b) i;
      packet = packet;
      cookie = (k ∙ ap (λ c. le (octets_at c 27 8)) b) i;
      current = u i;
      table = t i;
      time = (m ∙ ap (λ c. le (octets_at c 35 8)) b) i;
    })
