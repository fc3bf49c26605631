-- Document 01, 'Deadlines': whether a refresh may put a requested deadline in the place of the prior one. Assumes nothing.
use Rattle.std.specs.Prelude.{ℕ, ◌-◌, cond, ◌||◌, ltb, leb}
use Rattle.deadline.specs.declared.RefreshDeadlineDecision.{RefreshDeadlineDecision}
use Rattle.deadline.specs.declared.RefreshDeadlineDecision.TheVariants.{PriorExpired, RequestedDeadlineInvalid, DeadlineRegressed, Apply}

-- the longest lifetime of a deadline: 300 seconds, in nanoseconds
abbrev pub ceiling : ℕ
ceiling = 300_000_000_000

-- the decisions by number: 01 gives none, so they are counted from 0 in the order in which it lists them
abbrev pub decision_number : RefreshDeadlineDecision → ℕ
decision_number PriorExpired = 0
decision_number RequestedDeadlineInvalid = 1
decision_number DeadlineRegressed = 2
decision_number Apply = 3

-- on observed o, prior p, requested r, in this order: o >= p; r <= o or r - o above the ceiling; r < p; else Apply
unfoldable pub refresh_decision : ℕ → ℕ → ℕ → ℕ
refresh_decision o p r =
    cond (leb p o) (decision_number PriorExpired)
    (cond (leb r o || ltb ceiling (r - o)) (decision_number RequestedDeadlineInvalid)
    (cond (ltb r p) (decision_number DeadlineRegressed)
    (decision_number Apply)))
