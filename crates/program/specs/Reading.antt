-- What is promised of reading to a limit into a space of so many bytes: those that are handed on keep to the limit, and nothing is handed on
-- where the space has no room for the one byte more that shows that there is more. What is read no contract can say. Assumes nothing.
use Rattle.std.specs.Prelude.{ℕ, ◌+◌, ◌<◌, ◌≤◌, ◌≡◌, List, length, Result, Ok, Err}
use Rattle.std.specs.Borrow.{Bor, MutBor}
use Rattle.program.specs.declared.Input.{Input}
use Rattle.program.specs.declared.Input.TheVariants.{Whole, Longer}
use Rattle.program.specs.declared.InputError.{InputError}
use Rattle.program.specs.declared.InputError.TheVariants.{Failed, Small}

-- bytes that lie in a space: they begin where it begins, and are no more than it has
pub record AtStart (space : MutBor (List ℕ)) (some : Bor (List ℕ)) : Type 0 where
  pub place : some.ref_ptr ≡ space.ref_ptr
  pub inside : length some.now ≤ length space.now

abbrev pub Told : ℕ → ℕ → Result Input InputError → Type 0
Told limit room (Ok (Whole bytes)) = (length bytes.now ≤ limit) × (limit < room)
Told limit room (Ok (Longer bytes)) = (length bytes.now ≡ limit + 1) × (limit < room)
Told limit room (Err (Failed failed)) = (length failed.before.now ≤ limit + 1) × (limit < room)
Told limit room (Err Small) = room ≤ limit

-- where what was read lies
abbrev pub Lies : MutBor (List ℕ) → Result Input InputError → Type 0
Lies space (Ok (Whole bytes)) = AtStart space bytes
Lies space (Ok (Longer bytes)) = AtStart space bytes
Lies space (Err (Failed failed)) = AtStart space failed.before
Lies space (Err Small) = Unit {0}
