-- What is promised of the rules: the first that applies answers, one always does, and they bear 01's numbers in 01's order; and of the
-- header count. Assumes nothing.
use Rattle.std.specs.Prelude.{ℕ, zero, suc, ◌<◌, ◌≤◌, ◌≡◌, true, false, List, [], ◌∷◌, map, length}
use Rattle.verdict.specs.Verdict.{slot_of}
use Rattle.gate.specs.Gate.{Call, View, view_of, Rule, allow, rules, first_rule, answering, headers_of, gate_of}

-- the rule at a place of a list, counted from 0
abbrev pub at : List Rule → ℕ → Rule
at [] n = allow
at (r ∷ rs) zero = r
at (r ∷ rs) (suc n) = at rs n

-- no rule before the place n applies
abbrev pub None : List Rule → ℕ → View → Type 0
None rs n v = (m : ℕ) → m < n → (at rs m).applies v ≡ false

-- a rule that applies, with none before it, answers
abbrev pub FirstThatApplies : Type 0
FirstThatApplies = (rs : List Rule) (n : ℕ) (v : View) → None rs n v → (at rs n).applies v ≡ true → first_rule rs v ≡ at rs n

-- there is such a rule in a list: it applies, none before it does, and it answers
pub record Found (rs : List Rule) (v : View) : Type 0 where
  pub place : ℕ
  pub inside : place < length rs
  pub none : None rs place v
  pub applies : (at rs place).applies v ≡ true
  pub answers : first_rule rs v ≡ at rs place

abbrev pub SomeRuleApplies : Type 0
SomeRuleApplies = (v : View) → Found rules v

-- of the gate: the rule at a place answers where it applies and none before it does, and the verdict is that rule's
abbrev pub RuleAnswers : Type 0
RuleAnswers =
    (n : ℕ) (c : Call) → None rules n (view_of c) → (at rules n).applies (view_of c) ≡ true →
    (answering c ≡ at rules n) × ((gate_of c).slot ≡ slot_of (at rules n).verdict)

-- the numbers are 1 to 13, in order
abbrev pub NumberedInOrder : Type 0
NumberedInOrder = map (λ (r : Rule). r.number) rules ≡ 1 ∷ 2 ∷ 3 ∷ 4 ∷ 5 ∷ 6 ∷ 7 ∷ 8 ∷ 9 ∷ 10 ∷ 11 ∷ 12 ∷ 13 ∷ []

-- the header count, the packet's or 0, is at most 4
abbrev pub CountAtMost4 : Type 0
CountAtMost4 = (c : Call) → headers_of c ≤ 4
