-- How a program ended, and the status that says so (README, 'What the status says'). Assumes nothing.
use Rattle.std.specs.Prelude.{ℕ, ◌≡◌, Bool, true, false, cond}
use Rattle.program.specs.declared.Outcome.{Outcome}
use Rattle.program.specs.declared.Outcome.TheVariants.{Answered, TurnedDown, Failed}
use Rattle.program.specs.declared.Stopped.{Stopped}

-- "0 answered in full", "1 the input was turned down", "2 something failed", each as a digit of ASCII
abbrev pub digit_of : Outcome → ℕ
digit_of Answered = 0x30
digit_of TurnedDown = 0x31
digit_of Failed = 0x32

-- whoever complains has failed
abbrev pub failed : Stopped
failed = Stopped.Failed

-- a program that stops has answered in full where only its reader has gone
abbrev pub outcome_of : Stopped → Outcome
outcome_of Stopped.Gone = Answered
outcome_of Stopped.Failed = Failed

-- an answer to the whole input, or one that says where the input is at fault
abbrev pub of_whole : Bool → Outcome
of_whole whole = cond whole Answered TurnedDown

-- an outcome fits an input that is whole or not: such an input is answered or turned down, if nothing failed
abbrev pub Fits : Bool → Outcome → Type 0
Fits whole Answered = whole ≡ true
Fits whole TurnedDown = whole ≡ false
Fits whole Failed = Unit {0}
