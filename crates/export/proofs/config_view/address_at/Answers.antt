-- `address_at`: two numbers read and stored are the sixteen octets. Assumes nothing.
use Rattle.config.proofs.AddressLaws.{stored-halves}
use Rattle.export.proofs.config_view.address_at.Goals as goal

pub returns : goal.returns
returns c =
    stored-halves c.args.image.now 32 (λ k. (c.type_inv.image k).fits) c.get_le-first.ensures c.get_le-second.ensures
    c.put_le.ensures c.put_le-2.ensures
