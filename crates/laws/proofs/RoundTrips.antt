-- There and back, of each of the seven records by its name. Assumes nothing.
use Rattle.laws.specs.Images.{SevenRounds}
use Rattle.laws.proofs.RoundLaws.{round-trips}
use Rattle.export.proofs.Viewables.{current-viewable, mutation-viewable, key-viewable, entry-viewable, cookie-value-viewable, config-viewable, inspection-viewable}

pub seven-rounds : SevenRounds
seven-rounds = record {
  current_round = round-trips current-viewable;
  mutation_round = round-trips mutation-viewable;
  key_round = round-trips key-viewable;
  entry_round = round-trips entry-viewable;
  cookie_value_round = round-trips cookie-value-viewable;
  config_round = round-trips config-viewable;
  inspection_round = round-trips inspection-viewable;
}
