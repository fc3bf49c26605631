-- Uniqueness of an answer, from a contract alone (document 01, 'How tight the contracts are'). Assumes nothing.
use Rattle.std.specs.Prelude.{ℕ, ◌≡◌, List}
use contract.Lifetimes.{Lfts}
use borrow.Fn.Kind.{ParamKind, ResultKind}
use borrow.Fn.Kinds.{res_t, Out, ended_of, Dens}
use denote.Triple.Clauses.{Lasts, at_exit}

-- `Q` is what a caller learns of a call of a function with parameters ps and result r. Of any two ways in which a call on the same
-- arguments may end that both meet Q, what `view` shows of the results x, y is equal, and so are u, v: what each lent buffer holds at the
-- end.
abbrev pub DeterminedAs : {n : ℕ} (ps : List (ParamKind n)) (r : ResultKind n) → Out n ps r → {S : Lfts n → Type 0} → ((κs : Lfts n) → (res_t r κs).Denot → S κs) → Type 0
DeterminedAs {n} ps r Q view =
    (κs : Lfts n) (a : Dens κs ps) (x y : (res_t r κs).Denot) (u v : Lasts (ended_of n ps r) κs a) →
    Q κs a x (at_exit (ended_of n ps r) κs a u) → Q κs a y (at_exit (ended_of n ps r) κs a v) → (view κs x ≡ view κs y) × (u ≡ v)

-- the whole result
abbrev pub Determined : {n : ℕ} (ps : List (ParamKind n)) (r : ResultKind n) → Out n ps r → Type 0
Determined ps r Q = DeterminedAs ps r Q {S = λ κs. (res_t r κs).Denot} (λ κs x. x)
