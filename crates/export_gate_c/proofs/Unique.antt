-- The answer that programs in C get is the contract's alone, from the clause of the exported function and not of the library's that it calls:
-- the number and what the room holds at the end are equations whose right sides are made of the arguments. Assumes nothing.
use Rattle.octets.proofs.Tools.{refl}
use Rattle.octets.specs.Determined.{Determined}
use Rattle.export.proofs.LentLaws.{as_lent}
use Rattle.export_gate_c.proofs as the

pub threadwicket-gate-raw-determined : Determined the.threadwicket_gate_raw.Kinds.ps the.threadwicket_gate_raw.Kinds.r the.threadwicket_gate_raw.Reads.Learnt
threadwicket-gate-raw-determined κs a x y u v =
    as_lent (λ l. (u.0, (u.1.0, (u.1.1.0, (u.1.1.1.0, (u.1.1.1.1.0, (u.1.1.1.1.1.0, (u.1.1.1.1.1.1.0, (u.1.1.1.1.1.1.1.0, (u.1.1.1.1.1.1.1.1.0, (u.1.1.1.1.1.1.1.1.1.0, (l, u.1.1.1.1.1.1.1.1.1.1.1)))))))))))) refl refl
