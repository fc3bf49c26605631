-- `write`: the head, then one store for each field, in the order of the layout; the address is the octets of its number. Assumes nothing.
use Rattle.octets.specs.Words.{drop}
use Rattle.octets.proofs.Tools.{refl, ◌∙◌}
use Rattle.codec.specs.Head.{head_layout, head_fields}
use Rattle.codec.proofs.LayoutLaws.{puts-laid, put_two}
use Rattle.config.specs.Config.{config_mark, config_codec}
use Rattle.config.proofs.AddressLaws.{put-address}
use Rattle.config.proofs.Held.{held}
use Rattle.config.proofs.FenceConfigRecord.write.Goals as goal

pub returns : goal.returns
returns c =
    let v = c.args.self in let d = c.args.out.now in
    let rest = drop 4 (config_codec.fields v) in
    let formed = held v _ c.well_formed.0 in
    rw (
      c.put_octets.ensures,
      c.put_le-3.ensures,
      c.put_le-2.ensures,
      c.put_le.ensures,
      c.put_be.ensures,
      c.put_head.ensures,
    ) (put-address v.endpoint.address _ 24 formed.sixteen formed.octets
    ∙ puts-laid (drop 4 config_codec.layout) rest _ 8
    ∙ put_two head_layout (drop 4 config_codec.layout) (head_fields config_mark 5 v.endpoint.family) rest d 0 refl)
