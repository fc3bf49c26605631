-- The gate's answer for programs in other languages. Assumes nothing.
use Rattle.std.specs.Prelude.{ℕ, List}
use Rattle.verdict.specs.Verdict.{slot_number}
use Rattle.gate.specs.Gate.{Answer as GateAnswer}
use Rattle.export.specs.Export.{Lent}

-- the slot's number, 255 where there is none, with the count beside it
abbrev pub Judged : GateAnswer → List ℕ → ℕ → List ℕ → Type 0
Judged a out n out' = Lent (slot_number a.slot) a.headers out n out'
