-- Each of the seven views obeys the laws of views: a slot for each field, and every record's fixed fields as the slots have them.
-- Assumes nothing.
use Rattle.std.specs.Prelude.{Option, Some, None}
use Rattle.octets.specs.Words.{◌≡◌}
use Rattle.octets.proofs.Tools.{refl}
use Rattle.authority.specs.declared.current.CurrentFenceToken.{CurrentFenceToken}
use Rattle.authority.specs.declared.mutation.FenceMutationAuthority.{FenceMutationAuthority}
use Rattle.authority.specs.Current.{CurrentFormed}
use Rattle.authority.specs.Mutation.{MutationFormed}
use Rattle.records.specs.Key.{KeyFormed}
use Rattle.records.specs.Entry.{EntryFormed}
use Rattle.records.specs.CookieValue.{CookieValueFormed}
use Rattle.config.specs.Config.{ConfigFormed}
use Rattle.records.specs.declared.cookie_value.FenceCookieValue.{FenceCookieValue}
use Rattle.inspection.specs.Inspection.{inspection, inspection_codec, InspectionFormed}
use Rattle.authority.proofs.AuthorityLaws.{current-lawful, mutation-lawful}
use Rattle.records.proofs.RecordLaws.{key-lawful, entry-lawful, cookie-value-lawful}
use Rattle.config.proofs.ConfigLaws.{config-lawful}
use Rattle.inspection.proofs.InspectionLaws.{inspection-lawful}
use Rattle.export.specs.View.{pick, spread}
use Rattle.export.specs.Views.{current_view, mutation_view, key_view, entry_view, cookie_value_view, config_view, inspection_view}
use Rattle.export.proofs.ViewLaws.{Viewable}

pub current-viewable : Viewable current_view CurrentFormed
current-viewable = record { lawful = current-lawful; counted = refl; narrow = refl; same = λ v. refl }

pub mutation-viewable : Viewable mutation_view MutationFormed
mutation-viewable = record { lawful = mutation-lawful; counted = refl; narrow = refl; same = λ v. refl }

pub key-viewable : Viewable key_view KeyFormed
key-viewable = record { lawful = key-lawful; counted = refl; narrow = refl; same = λ v. refl }

pub entry-viewable : Viewable entry_view EntryFormed
entry-viewable = record { lawful = entry-lawful; counted = refl; narrow = refl; same = λ v. refl }

pub cookie-value-viewable : Viewable cookie_value_view CookieValueFormed
cookie-value-viewable = record { lawful = cookie-value-lawful; counted = refl; narrow = refl; same = λ v. refl }

pub config-viewable : Viewable config_view ConfigFormed
config-viewable = record { lawful = config-lawful; counted = refl; narrow = refl; same = λ v. refl }

same_cases : (c : CurrentFenceToken) (m : FenceMutationAuthority) (e : Option FenceCookieValue) →
    spread inspection_view.slots (pick inspection_view.slots (inspection_codec.fields (inspection c m e))) ≡ inspection_codec.fields (inspection c m e)
same_cases c m None = refl
same_cases c m (Some v) = refl

pub inspection-viewable : Viewable inspection_view InspectionFormed
inspection-viewable = record { lawful = inspection-lawful; counted = refl; narrow = refl; same = λ v. same_cases v.current v.mutation v.entry }
