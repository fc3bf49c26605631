-- The laws of feeds, whatever is made of a reading. It is what the step at the place says, and then the reading from the next place on: it
-- does not matter how many steps are allowed, as long as there are more than what is left. So a feed is its next call and the feed after
-- it. What each step keeps, the whole reading keeps; and readers that go side by side give the same calls. Assumes nothing.
use Rattle.octets.specs.Words.{ℕ, zero, suc, ◌<◌, ◌≡◌}
use Rattle.octets.proofs.Tools.{refl, sym, ap, ◌∙◌, arith}
use Rattle.gate.specs.Gate.{Call}
use Rattle.bundle.specs.Feed.{Ending, ended, Feed, Step, stop, skip, emit, onward, read_in, read, no_call, call_then, run, map_feed, called, over, next_of, beginning, Less, Falls, FeedByNext}

-- ---- one step, and then the rest

module _ {A R : Type 0} (close : Ending → A → R) (join : Call → A → R → R) where
  onward-same : (f g : A → R) (left : A → ℕ) (n : ℕ) → ((a : A) → left a < n → f a ≡ g a) → (a : A) (x : Step A) → Less left n x →
      onward close join f a x ≡ onward close join g a x
  unfolding onward
  onward-same f g left n h a (stop e) l = refl
  onward-same f g left n h a (skip b) l = h b l
  onward-same f g left n h a (emit c b) l = ap (join c b) (h b l)

  module _ (step : A → Step A) (left : A → ℕ) (falls : Falls step left) where
    enough : (n k : ℕ) (a : A) → left a < n → left a < k → read_in close join step n a ≡ read_in close join step k a
    unfolding read_in
    enough zero k a h l = elim h [ ]
    enough (suc n) zero a h l = elim l [ ]
    enough (suc n) (suc k) a h l =
        onward-same (read_in close join step n) (read_in close join step k) left (left a) (λ b m. enough n k b (omega arith) (omega arith)) a (step a) (falls a)

    pub read_step : (a : A) → read close join step left a ≡ onward close join (read close join step left) a (step a)
    unfolding read read_in
    read_step a =
        onward-same (read_in close join step (left a)) (read close join step left) left (left a) (λ b m. enough (left a) (suc (left b)) b m (omega arith)) a (step a) (falls a)

-- ---- the next call, and then the feed after it

module _ {A : Type 0} (step : A → Step A) (left : A → ℕ) (falls : Falls step left) where
  pub run_step : (a : A) → run step left a ≡ onward no_call call_then (run step left) a (step a)
  run_step a = read_step no_call call_then step left falls a

  pub next-step : (a : A) → next_of step left a ≡ onward over (λ c b n. called c b) (next_of step left) a (step a)
  next-step a = read_step over (λ c b n. called c b) step left falls a

  by-step : (n : ℕ) → ((b : A) → left b < n → run step left b ≡ beginning (run step left) (next_of step left b)) → (a : A) (x : Step A) → Less left n x →
      onward no_call call_then (run step left) a x ≡ beginning (run step left) (onward over (λ c b n. called c b) (next_of step left) a x)
  unfolding onward beginning
  by-step n h a (stop e) l = refl
  by-step n h a (skip b) l = h b l
  by-step n h a (emit c b) l = refl

  by_next : (n : ℕ) (a : A) → left a < n → run step left a ≡ beginning (run step left) (next_of step left a)
  by_next zero a h = elim h [ ]
  by_next (suc n) a h =
      run_step a ∙ by-step (left a) (λ b l. by_next n b (omega arith)) a (step a) (falls a) ∙ ap (beginning (run step left)) (sym (next-step a))

pub feed-by-next : FeedByNext
feed-by-next A step left falls a = by_next step left falls (suc (left a)) a (omega arith)

-- ---- what each step keeps

pub read_keeps : {A R : Type 0} (close : Ending → A → R) (join : Call → A → R → R) (step : A → Step A) (left : A → ℕ) (P : A → R → Type 0) →
    ((a : A) → P a (close ended a)) → ((go : A → R) → ((b : A) → P b (go b)) → (a : A) → P a (onward close join go a (step a))) →
    (a : A) → P a (read close join step left a)
unfolding read read_in
read_keeps {A} close join step left P none one a = by (suc (left a)) a
  where
    by : (n : ℕ) (b : A) → P b (read_in close join step n b)
    by zero b = none b
    by (suc n) b = one (read_in close join step n) (by n) b

-- ---- readers side by side

-- a step with its place seen as another's
abbrev pub map_step : {A B : Type 0} → (A → B) → Step A → Step B
map_step p (stop e) = stop e
map_step p (skip a) = skip (p a)
map_step p (emit c a) = emit c (p a)

-- the place that a step leads to has P
abbrev pub Leads : {A : Type 0} → (A → Type 0) → Step A → Type 0
Leads P (stop e) = Unit {0}
Leads P (skip a) = P a
Leads P (emit c a) = P a

onward-maps : {A B : Type 0} (p : A → B) (P : A → Type 0) (f : A → Feed A) (g : B → Feed B) → ((a : A) → P a → map_feed p (f a) ≡ g (p a)) →
    (a : A) (x : Step A) → Leads P x → map_feed p (onward no_call call_then f a x) ≡ onward no_call call_then g (p a) (map_step p x)
unfolding onward
onward-maps p P f g h a (stop e) l = refl
onward-maps p P f g h a (skip b) l = h b l
onward-maps p P f g h a (emit c b) l = ap (call_then c (p b)) (h b l)

-- as long as P holds, each step of the one is the other's, and as much is left
pub run-maps : {A B : Type 0} (step : A → Step A) (left : A → ℕ) (other : B → Step B) (rest : B → ℕ) (p : A → B) (P : A → Type 0) →
    ((a : A) → P a → (map_step p (step a) ≡ other (p a)) × Leads P (step a)) → ((a : A) → rest (p a) ≡ left a) →
    (a : A) → P a → map_feed p (run step left a) ≡ run other rest (p a)
unfolding read read_in
run-maps {A} step left other rest p P same much a h = by (suc (left a)) a h ∙ ap (λ n. read_in no_call call_then other (suc n) (p a)) (sym (much a))
  where
    by : (n : ℕ) (b : A) → P b → map_feed p (read_in no_call call_then step n b) ≡ read_in no_call call_then other n (p b)
    by zero b k = refl
    by (suc n) b k =
        onward-maps p P (read_in no_call call_then step n) (read_in no_call call_then other n) (by n) b (step b) (same b k).1 ∙
        ap (onward no_call call_then (read_in no_call call_then other n) (p b)) (same b k).0
