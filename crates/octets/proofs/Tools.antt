-- The words in which proofs are written: the library's names that proofs cite most, passed on from one place, and `free`.
-- Assumes nothing.
pub use mathlib.Core.Path.{refl, sym, ap, ◌∙◌}
pub use mathlib.Core.Bool.{true≢false}
pub use native.Mathlib.Omega.{arith}
pub use borrow.Author.Rules.{rules}
pub use borrow.Author.Tests.{eq-eqb, ne_eqb, lt-ltb, le-ltb, le-leb, lt-leb, eqb-true, eqb-false, ltb-true, ltb-false, leb-true, leb-false, not-true, not-false}

-- a callee that has no `requires` asks nothing of its caller: the answer to such a need, whatever is known at the call
abbrev pub free : {A B : Type 0} → A → B → Unit {0}
free c κs = tt
