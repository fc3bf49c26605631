-- `same_address`: four octets are compared as one number, sixteen as two. Assumes nothing.
use Rattle.octets.proofs.Tools.{rules}
use Rattle.gate.proofs.AddressLaws.{same_second, first_differ}
use Rattle.gate.proofs.same_address.Goals as goal

pub returns-then-get_le : goal.returns-then-get_le
returns-then-get_le c = same_second _ _ _ _ _ (search rules) (λ k. (c.type_inv.a k).fits) (λ k. (c.type_inv.b k).fits) c.get_le-2.ensures c.get_le-3.ensures _ _ c.if-get_le.true c.get_le-then-get_le.ensures c.get_le-then-get_le-2.ensures

pub returns : goal.returns
returns c = first_differ _ _ _ _ _ (search rules) (λ k. (c.type_inv.a k).fits) (λ k. (c.type_inv.b k).fits) c.get_le-2.ensures c.get_le-3.ensures c.if-get_le.false
