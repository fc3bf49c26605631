-- `is_zero_run`: eight octets are zero where the number that they spell is. Assumes nothing.
use Rattle.octets.specs.Words.{◌*◌, ◌/◌, ◌≡◌, length}
use Rattle.octets.specs.Octets.{octets_at, le}
use Rattle.octets.proofs.Tools.{rules, ◌∙◌, arith}
use Rattle.octets.proofs.PartsLaws.{octets-padded}
use Rattle.octets.proofs.PaddedLaws.{words_cases, zero_padded}
use mathlib.Core.Logic.{◌≢◌}
use Rattle.std.proofs.Common.{tests}
use Rattle.std.proofs.lemmas.Iterator.{cases_from_all, YieldsList-from_slice}
use Rattle.octets.proofs.is_zero_run.Goals as goal

pub returns : goal.returns
returns c =
    let a = c.args in
    let inside = c.part.result.now in
    let m = length inside / 8 in
    let turned : m * 8 ≡ 8 * m = omega arith in
    let words = YieldsList-from_slice _ (c.iter.ensures.rest ∙ c.as_chunks.ensures.front) in
    let cases = cases_from_all _ _ _ (λ w. le (octets_at w 0 8) ≡ 0) (λ w. le (octets_at w 0 8) ≢ 0) c.all.ensures.ran words (λ x q k. search (rules, tests)) (λ x q k. search (rules, tests)) in
    rw (c.are_zero.ensures, c.as_chunks.ensures.back, octets-padded a.s.now a.at a.n, zero_padded, ← c.part.ensures, turned) (words_cases inside m c.all.result (omega arith) cases)
