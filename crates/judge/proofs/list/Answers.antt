-- `list`: there is room for the listing, so that the answer says whether the bundle is whole, and the outcome is made of that. Where the
-- listing could not be written it is a failure, which fits any bundle. Assumes nothing.
use Rattle.octets.specs.Words.{◌≡◌, Bool, true, false}
use Rattle.octets.proofs.Tools.{refl, sym, ap, ◌∙◌, rules}
use mathlib.Core.Path.{subst}
use Rattle.std.specs.Prelude.{Result, Ok}
use Rattle.listing.specs.Listing.{whole}
use Rattle.listing.specs.declared.Listed.{Listed}
use Rattle.listing.specs.declared.ListError.{ListError}
use Rattle.listing.proofs.Bound.{room-suffices}
use Rattle.program.specs.Status.{of_whole, Fits}
use Rattle.judge.proofs.list.Goals as goal

fits : (b : Bool) → Fits b (of_whole b)
fits true = refl
fits false = refl

-- what is unwrapped is what is known to be there
held : {r : Result Listed ListError} {l m : Listed} → r ≡ Ok l → r ≡ Ok m → l.whole ≡ m.whole
held {l = l} {m = m} e f = let same : l ≡ m = cc in ap (λ x. x.whole) same

pub unwrap-listed-requires : goal.unwrap-listed-requires
unwrap-listed-requires c = rw (c.list.ensures.answer ∙ room-suffices c.args.input.now _ (search rules))

pub returns-in-Ok : goal.returns-in-Ok
returns-in-Ok c =
    let s = c.args.input.now in
    let told = held (c.list.ensures.answer ∙ room-suffices s _ (search rules)) c.unwrap-listed.ensures in
    subst (Fits (whole s)) (ap of_whole told ∙ sym c.of_whole.ensures) (fits (whole s))
