-- `of_image`: each number that fits its place is that number there; the address's octets spell its number. Assumes nothing.
use Rattle.octets.specs.Words.{ℕ, ◌≡◌, ◌<◌, true, List}
use Rattle.octets.proofs.Tools.{refl, lt-ltb, rules}
use Rattle.octets.proofs.OctetsLaws.{octets-whole, length-octets}
use Rattle.octets.specs.Octets.{Bytes, octets_at, le}
use Rattle.export.specs.View.{numbers, fitting}
use Rattle.export.specs.Views.{config_view}
use Rattle.export.proofs.ViewLaws.{whole}
use Rattle.export.proofs.config_view.FenceConfigImage.of_image.Goals as goal

fits : (f : List ℕ) → Bytes f → {a p k : ℕ} → a ≡ le (octets_at f 0 8) → p ≡ le (octets_at f 8 8) → k ≡ le (octets_at f 16 8) → a < 256 → p < 65536 → k < 4294967296 →
    fitting config_view.codec.layout (numbers config_view f) ≡ true
fits f h ea ep ek a p k = simp (← ea, ← ep, ← ek, lt-ltb _ _ a, lt-ltb _ _ p, lt-ltb _ _ k, whole f h 8, whole f h 16)

pub returns : goal.returns
returns c =
    let f = c.args.image.now in
    let family : c.in_ok-ok.field-0 ≡ le (octets_at f 0 8) = search rules in
    let port : c.in_ok-ok-2.field-0 ≡ le (octets_at f 8 8) = search rules in
    let capacity : c.in_ok-ok-3.field-0 ≡ le (octets_at f 16 8) = search rules in (
      fits f (λ i. (c.type_inv.image i).fits) family port capacity (search rules) (search rules) (search rules),
      rw (family, port, capacity, c.get_le-3.ensures, c.address_at.ensures, octets-whole (octets_at f 32 16) 16 (length-octets f 32 16)) refl,
    )
