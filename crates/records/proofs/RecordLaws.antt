-- The three records obey the laws of every codec. What each has to show is that its numbers come back: of the key they are the fields; of
-- the others the zeros are zero, and an accepted control word is the one that the record is written with. Assumes nothing.
use Rattle.octets.specs.Words.{◌≡◌, get_or, eqb}
use Rattle.octets.specs.Octets.{octets_at}
use Rattle.octets.proofs.Tools.{sym, ap, ◌∙◌, eqb-true}
use lib.Dec.{lit<}
use Rattle.octets.proofs.Choices.{and_left, and_right}
use Rattle.codec.proofs.CodecLaws.{refl, Lawful, listed, lead, laws}
use Rattle.records.specs.declared.entry.FenceEntryState.{FenceEntryState}
use Rattle.records.specs.Key.{key_codec, KeyFormed}
use Rattle.records.specs.Entry.{entry, entry_codec, EntryFormed}
use Rattle.records.specs.CookieValue.{cookie_value, cookie_value_codec, CookieValueFormed}
use Rattle.records.specs.Promises.{KeyLaws, EntryLaws, CookieValueLaws, TestsInOrder}
use Rattle.records.proofs.States.{state-back, control-fits, control-back}

-- ---- the key, whose numbers are its fields

pub key-lawful : Lawful key_codec KeyFormed
unfolding octets_at
key-lawful = record { back = λ vs f h. listed key_codec vs f; forth = λ v f h. refl; fits = λ v f. (f.0, (f.1, tt)); counted = λ v. refl }

pub key_laws : KeyLaws
key_laws = laws key-lawful

-- ---- the entry and the cookie value

pub entry-lawful : Lawful entry_codec EntryFormed
unfolding octets_at
entry-lawful = record {
  back = λ vs f h.
      let zeros : get_or vs 0 0 ≡ 0 = eqb-true _ _ (and_left _ _ h) in
      let control = control-back (get_or vs 1 0) (and_left _ _ (and_right (eqb (get_or vs 0 0) 0) _ h)) in
      lead (sym zeros) control ∙ listed entry_codec vs f;
  forth = λ v f h. ap (λ (st : FenceEntryState). entry st v.durable_fence_token.0 v.deadline_boot_ns.0 v.control_epoch.0) (state-back v.state);
  fits = λ v f. (lit< tt, (control-fits v.state, (f.0, (f.1, (f.2, tt)))));
  counted = λ v. refl;
}

pub entry-laws : EntryLaws
entry-laws = laws entry-lawful

pub cookie-value-lawful : Lawful cookie_value_codec CookieValueFormed
unfolding octets_at
cookie-value-lawful = record {
  back = λ vs f h.
      let zeros : get_or vs 0 0 ≡ 0 = eqb-true _ _ (and_left _ _ h) in
      let control = control-back (get_or vs 1 0) (and_left _ _ (and_right (eqb (get_or vs 0 0) 0) _ h)) in
      lead (sym zeros) control ∙ listed cookie_value_codec vs f;
  forth = λ v f h.
      ap (λ (st : FenceEntryState). cookie_value st v.socket_cookie.0 v.durable_fence_token.0 v.deadline_boot_ns.0 v.control_epoch.0) (state-back v.state);
  fits = λ v f. (lit< tt, (control-fits v.state, (f.0, (f.1, (f.2, (f.3, tt))))));
  counted = λ v. refl;
}

pub cookie-value-laws : CookieValueLaws
cookie-value-laws = laws cookie-value-lawful

-- ---- the order of the tests

pub tests-in-order : TestsInOrder
tests-in-order = (refl, (refl, refl))
