-- A feed: calls of the gate, how they end, and the place where reading stopped. Any reader makes one: at each place it says that the calls
-- end there, that nothing is to be judged, or which call is, and where to read on. Something that is left falls with each step, so that
-- every reading ends. Assumes nothing.
use Rattle.std.specs.Prelude.{ℕ, zero, suc, ◌<◌, ◌≡◌, List, [], ◌∷◌}
use Rattle.gate.specs.Gate.{Call}

-- the end, or a fault at an offset
pub data Ending : Type 0 where
  ended : Ending
  bad : ℕ → Ending

-- A is what a place is
pub record Feed (A : Type 0) : Type 0 where
  pub calls : List Call
  pub ending : Ending
  pub last : A

-- what a reader says at a place
pub data Step (A : Type 0) : Type 0 where
  stop : Ending → Step A
  skip : A → Step A
  emit : Call → A → Step A

-- ---- reading, whatever is made of it

-- what is made of the reading from a place on, by the step there: `close` of an ending and its place; `join` of a call, the place after it
-- and what is made of the rest. `go` is what is made of the reading from a later place on
unfoldable pub onward : {A R : Type 0} → (Ending → A → R) → (Call → A → R → R) → (A → R) → A → Step A → R
onward close join go a (stop e) = close e a
onward close join go a (skip b) = go b
onward close join go a (emit c b) = join c b (go b)

-- by at most so many steps
unfoldable pub read_in : {A R : Type 0} → (Ending → A → R) → (Call → A → R → R) → (A → Step A) → ℕ → A → R
read_in close join step zero a = close ended a
read_in close join step (suc n) a = onward close join (read_in close join step n) a (step a)

-- `left` is how much is left at a place, and a reader makes no more steps than that and one
unfoldable pub read : {A R : Type 0} → (Ending → A → R) → (Call → A → R → R) → (A → Step A) → (A → ℕ) → A → R
read close join step left a = read_in close join step (suc (left a)) a

-- ---- all calls from a place on

abbrev pub no_call : {A : Type 0} → Ending → A → Feed A
no_call e a = record { calls = []; ending = e; last = a }

abbrev pub call_then : {A : Type 0} → Call → A → Feed A → Feed A
call_then c b f = record { calls = c ∷ f.calls; ending = f.ending; last = f.last }

abbrev pub run : {A : Type 0} → (A → Step A) → (A → ℕ) → A → Feed A
run step left a = read no_call call_then step left a

-- with its place seen as another's
abbrev pub map_feed : {A B : Type 0} → (A → B) → Feed A → Feed B
map_feed p f = record { calls = f.calls; ending = f.ending; last = p f.last }

-- ---- the next call from a place on

pub data Next (A : Type 0) : Type 0 where
  -- a call, and the place after it
  called : Call → A → Next A
  -- none: the ending, and the place where reading stopped
  over : Ending → A → Next A

abbrev pub next_of : {A : Type 0} → (A → Step A) → (A → ℕ) → A → Next A
next_of step left a = read over (λ c b n. called c b) step left a

-- the feed that begins with it, where `go` is the feed from a place on
unfoldable pub beginning : {A : Type 0} → (A → Feed A) → Next A → Feed A
beginning go (called c b) = call_then c b (go b)
beginning go (over e a) = no_call e a

-- ---- readers that may be run

-- a step leaves less than n
abbrev pub Less : {A : Type 0} → (A → ℕ) → ℕ → Step A → Type 0
Less left n (stop e) = Unit {0}
Less left n (skip a) = left a < n
Less left n (emit c a) = left a < n

-- each step leaves less
abbrev pub Falls : {A : Type 0} → (A → Step A) → (A → ℕ) → Type 0
Falls {A} step left = (a : A) → Less left (left a) (step a)

-- ---- what is proved of every such reader

-- a feed is its next call and the feed after it
abbrev pub FeedByNext : Type 1
FeedByNext = (A : Type 0) (step : A → Step A) (left : A → ℕ) → Falls step left → (a : A) → run step left a ≡ beginning (run step left) (next_of step left a)
