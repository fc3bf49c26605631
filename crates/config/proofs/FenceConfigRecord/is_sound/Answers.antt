-- `is_sound`: the record's own parts are asked, which is the rule on its numbers (`config-sound`). Assumes nothing.
use Rattle.config.specs.Config.{capacity_fits}
use Rattle.config.proofs.ConfigLaws.{config-sound}
use Rattle.config.proofs.Held.{held}
use Rattle.config.proofs.FenceConfigRecord.is_sound.Goals as goal

pub returns-then-self : goal.returns-then-self
unfolding capacity_fits
returns-then-self c = rw (config-sound c.args.self (held c.args.self _ c.well_formed.0)) (simp c.if-self.true c.is_sound.ensures)

pub returns-else-self : goal.returns-else-self
unfolding capacity_fits
returns-else-self c = rw (config-sound c.args.self (held c.args.self _ c.well_formed.0)) (simp c.if-self.false)
