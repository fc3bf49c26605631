-- An inspection obeys the laws of every codec because its parts do: its rule is theirs one after the other (`ruled`), and each part's
-- numbers are back from the part. Assumes nothing.
use Rattle.octets.specs.Words.{ℕ, ◌≡◌, Bool, true, false, not, ◌&&◌, ◌||◌, List, [], ◌∷◌, ◌++◌, length, get_or, take, drop, eqb}
use Rattle.std.specs.Prelude.{Option, None, Some}
use Rattle.octets.specs.Octets.{octets_at, put, le_bytes, all_zero}
use Rattle.octets.proofs.Tools.{refl, sym, ap, ◌∙◌, eqb-true}
use mathlib.Core.Bool.{and-true}
use mathlib.Core.Path.{subst}
use lib.Dec.{lit<}
use lib.ListN.{length-append}
use Rattle.codec.specs.Layout.{laid, Fit}
use Rattle.codec.specs.Codec.{Test, test, passes, shifted, given, ok, sound, bytes}
use Rattle.codec.specs.Head.{head_layout, head_fields}
use Rattle.codec.proofs.TestLaws.{and_left, and_right, passes_append, passes-shifted, passes-given}
use Rattle.codec.proofs.LayoutLaws.{fit_append, put_two}
use Rattle.codec.proofs.CodecLaws.{Lawful, listed, laws}
use Rattle.authority.specs.declared.current.CurrentFenceToken.{CurrentFenceToken}
use Rattle.authority.specs.declared.mutation.FenceMutationAuthority.{FenceMutationAuthority}
use Rattle.authority.specs.Current.{current_codec}
use Rattle.authority.specs.Mutation.{mutation_codec}
use Rattle.records.specs.declared.cookie_value.FenceCookieValue.{FenceCookieValue}
use Rattle.records.specs.CookieValue.{cookie_value_codec}
use Rattle.authority.proofs.AuthorityLaws.{current-lawful, mutation-lawful}
use Rattle.inspection.specs.declared.FenceInspection.{FenceInspection}
use Rattle.inspection.specs.Inspected.{flag_listed, present_flag, part_fields, sound_part}
use Rattle.inspection.specs.Inspection.{inspection_mark, inspection, front_tests, part_tests, tail_layout, inspection_codec, InspectionFormed}
use Rattle.inspection.specs.Promises.{InspectionLaws, InspectionInOrder, InspectionSound}
use Rattle.inspection.proofs.PartLaws.{part_fits, length_part, part-fits, part-back, part-forth}

-- ---- the rule, part by part: what is asked from each part on

abbrev pub from_tail : List ℕ → Bool
from_tail vs = eqb (get_or vs 16 0) 0

abbrev pub from_part : List ℕ → Bool
from_part vs = part_fits (get_or vs 2 0) (drop 10 vs) && from_tail vs

abbrev pub from_mutation : List ℕ → Bool
from_mutation vs = passes mutation_codec.tests (drop 8 vs) && from_part vs

abbrev pub from_current : List ℕ → Bool
from_current vs = passes current_codec.tests (drop 4 vs) && from_mutation vs

part-tests : (vs : List ℕ) → passes part_tests vs ≡ part_fits (get_or vs 2 0) (drop 10 vs)
part-tests vs =
    let entry : List Test = shifted 48 10 cookie_value_codec.tests in
    let none : List Test = test 48 (λ ws. all_zero (take 6 (drop 10 ws))) ∷ [] in
    passes_append (given (λ ws. eqb (get_or ws 2 0) 0) none) (given (λ ws. eqb (get_or ws 2 0) 1) entry) vs
    ∙ (λ i. (passes-given (λ ws. eqb (get_or ws 2 0) 0) none vs ∙ ap (λ b. not (eqb (get_or vs 2 0) 0) || b) (and-true (all_zero (take 6 (drop 10 vs))))) i
    && (passes-given (λ ws. eqb (get_or ws 2 0) 1) entry vs ∙ ap (λ b. not (eqb (get_or vs 2 0) 1) || b) (passes-shifted 48 10 cookie_value_codec.tests vs)) i)

pub ruled : (vs : List ℕ) → ok inspection_codec vs ≡ (passes front_tests vs && from_current vs)
ruled vs =
    let tail : List Test = test 88 (λ ws. eqb (get_or ws 16 0) 0) ∷ [] in
    let mutation : List Test = shifted 32 8 mutation_codec.tests in
    let current : List Test = shifted 8 4 current_codec.tests in
    let parts : passes (part_tests ++ tail) vs ≡ from_part vs = passes_append part_tests tail vs ∙ (λ i. part-tests vs i && and-true (eqb (get_or vs 16 0) 0) i) in
    let mutations : passes (mutation ++ (part_tests ++ tail)) vs ≡ from_mutation vs =
    passes_append mutation (part_tests ++ tail) vs ∙ (λ i. passes-shifted 32 8 mutation_codec.tests vs i && parts i) in
    let currents : passes (current ++ (mutation ++ (part_tests ++ tail))) vs ≡ from_current vs =
    passes_append current (mutation ++ (part_tests ++ tail)) vs ∙ (λ i. passes-shifted 8 4 current_codec.tests vs i && mutations i) in
    passes_append front_tests (current ++ (mutation ++ (part_tests ++ tail))) vs ∙ ap (λ b. passes front_tests vs && b) currents

-- the test that is asked first holds, and the rest is asked; or it fails
pub holds : {x : Bool} (a b : Bool) → x ≡ (a && b) → a ≡ true → x ≡ b
holds a b e h = e ∙ ap (λ t. t && b) h

pub fails : {x : Bool} (a b : Bool) → x ≡ (a && b) → a ≡ false → x ≡ false
fails a b e h = e ∙ ap (λ t. t && b) h

-- ---- a record by its parts

sound-parts : (c : CurrentFenceToken) (m : FenceMutationAuthority) (e : Option FenceCookieValue) →
    (passes front_tests (inspection_codec.fields (inspection c m e)) && from_current (inspection_codec.fields (inspection c m e)))
    ≡ (sound current_codec c && (sound mutation_codec m && sound_part e))
unfolding all_zero
sound-parts c m None = refl
sound-parts c m (Some v) = ap (λ b. sound current_codec c && (sound mutation_codec m && b)) (and-true (sound cookie_value_codec v))

pub inspection-sound : InspectionSound
inspection-sound v = ruled (inspection_codec.fields v) ∙ sound-parts v.current v.mutation v.entry

-- the parts put at their places are the record's bytes put at the start
pub parts-put : (v : FenceInspection) (d : List ℕ) →
    put (put (put (put (put d 0 (laid head_layout (head_fields inspection_mark 5 (present_flag v.entry)))) 8 (bytes current_codec v.current)) 32 (bytes mutation_codec v.mutation)) 48 (laid cookie_value_codec.layout (part_fields v.entry))) 88 (le_bytes 40 0)
    ≡ put d 0 (bytes inspection_codec v)
unfolding le_bytes
parts-put v d =
    let numbers₃ = part_fields v.entry ++ (0 ∷ []) in
    let numbers₂ = mutation_codec.fields v.mutation ++ numbers₃ in
    let layout₃ = cookie_value_codec.layout ++ tail_layout in
    let layout₂ = mutation_codec.layout ++ layout₃ in
    put_two cookie_value_codec.layout tail_layout (part_fields v.entry) (0 ∷ []) _ 48 (length_part v.entry)
    ∙ put_two mutation_codec.layout layout₃ (mutation_codec.fields v.mutation) numbers₃ _ 32 refl
    ∙ put_two current_codec.layout layout₂ (current_codec.fields v.current) numbers₂ _ 8 refl
    ∙ put_two head_layout (current_codec.layout ++ layout₂) (head_fields inspection_mark 5 (present_flag v.entry)) (current_codec.fields v.current ++ numbers₂) d 0 refl

-- ---- the laws

counted : (v : FenceInspection) → length (inspection_codec.fields v) ≡ length inspection_codec.layout
counted v = simp (length-append, length_part)

flag-fits : (e : Option FenceCookieValue) → Fit head_layout (head_fields inspection_mark 5 (present_flag e))
flag-fits None = (lit< tt, (lit< tt, (lit< tt, (lit< tt, tt))))
flag-fits (Some v) = (lit< tt, (lit< tt, (lit< tt, (lit< tt, tt))))

fits : (v : FenceInspection) → InspectionFormed v → Fit inspection_codec.layout (inspection_codec.fields v)
fits v f =
    let numbers₃ = part_fields v.entry ++ (0 ∷ []) in
    let numbers₂ = mutation_codec.fields v.mutation ++ numbers₃ in
    let layout₃ = cookie_value_codec.layout ++ tail_layout in
    let layout₂ = mutation_codec.layout ++ layout₃ in
    fit_append head_layout (current_codec.layout ++ layout₂) (head_fields inspection_mark 5 (present_flag v.entry)) (current_codec.fields v.current ++ numbers₂) (flag-fits v.entry)
    (fit_append current_codec.layout layout₂ (current_codec.fields v.current) numbers₂ (current-lawful.fits v.current f.0)
    (fit_append mutation_codec.layout layout₃ (mutation_codec.fields v.mutation) numbers₃ (mutation-lawful.fits v.mutation f.1)
    (fit_append cookie_value_codec.layout tail_layout (part_fields v.entry) (0 ∷ []) (part-fits v.entry f.2) (lit< tt, tt))))

forth : (c : CurrentFenceToken) (m : FenceMutationAuthority) (e : Option FenceCookieValue) → InspectionFormed (inspection c m e) → sound current_codec c ≡ true →
    inspection_codec.of (inspection_codec.fields (inspection c m e)) ≡ inspection c m e
forth c m None f h = λ i. inspection (current-lawful.forth c f.0 h i) m None
forth c m (Some v) f h = λ i. inspection (current-lawful.forth c f.0 h i) m (part-forth (Some v) i)

back : (m v f p z k t c g n z' k' c' t' d e a : ℕ) →
    let vs : List ℕ = m ∷ v ∷ f ∷ p ∷ z ∷ k ∷ t ∷ c ∷ g ∷ n ∷ z' ∷ k' ∷ c' ∷ t' ∷ d ∷ e ∷ a ∷ [] in
    Fit inspection_codec.layout vs → ok inspection_codec vs ≡ true → inspection_codec.fields (inspection_codec.of vs) ≡ vs
back m v f p z k t c g n z' k' c' t' d e a fit h =
    let vs : List ℕ = m ∷ v ∷ f ∷ p ∷ z ∷ k ∷ t ∷ c ∷ g ∷ n ∷ z' ∷ k' ∷ c' ∷ t' ∷ d ∷ e ∷ a ∷ [] in
    let all : (passes front_tests vs && from_current vs) ≡ true = sym (ruled vs) ∙ h in
    let front = and_left (passes front_tests vs) (from_current vs) all in
    let rest₁ = and_right (passes front_tests vs) (from_current vs) all in
    let rest₂ = and_right (passes current_codec.tests (drop 4 vs)) (from_mutation vs) rest₁ in
    let rest₃ = and_right (passes mutation_codec.tests (drop 8 vs)) (from_part vs) rest₂ in
    let front₁ = and_right (eqb m inspection_mark) _ front in
    let front₂ = and_right (eqb v 5) _ front₁ in
    let front₃ = and_right (flag_listed f) _ front₂ in
    let fits₁ = fit.1.1.1.1 in
    let fits₃ = fits₁.1.1.1.1.1.1 in
    let mark : m ≡ inspection_mark = eqb-true _ _ (and_left _ _ front) in
    let version : v ≡ 5 = eqb-true _ _ (and_left _ _ front₁) in
    let pad : p ≡ 0 = eqb-true _ _ (and_left _ _ front₃) in
    let now = current-lawful.back (z ∷ k ∷ t ∷ c ∷ []) (fits₁.0, (fits₁.1.0, (fits₁.1.1.0, (fits₁.1.1.1.0, tt)))) (and_left (passes current_codec.tests (drop 4 vs)) (from_mutation vs) rest₁) in
    let part = part-back f z' k' c' t' d e (fits₃.0, (fits₃.1.0, (fits₃.1.1.0, (fits₃.1.1.1.0, (fits₃.1.1.1.1.0, (fits₃.1.1.1.1.1.0, tt))))))
    (and_left (flag_listed f) _ front₂) (and_left (part_fits f (drop 10 vs)) (from_tail vs) rest₃) in
    let ended : a ≡ 0 = eqb-true _ _ (and_right (part_fits f (drop 10 vs)) (from_tail vs) rest₃) in
    λ i. sym mark i ∷ sym version i ∷ get_or (part i) 0 0 ∷ sym pad i ∷ (now i ++ ((g ∷ n ∷ []) ++ (drop 1 (part i) ++ (sym ended i ∷ []))))

pub inspection-lawful : Lawful inspection_codec InspectionFormed
unfolding octets_at
inspection-lawful = record {
  back = λ vs f h.
      subst (λ ws. Fit inspection_codec.layout ws → ok inspection_codec ws ≡ true → inspection_codec.fields (inspection_codec.of ws) ≡ ws) (listed inspection_codec vs f)
      (back (get_or vs 0 0) (get_or vs 1 0) (get_or vs 2 0) (get_or vs 3 0) (get_or vs 4 0) (get_or vs 5 0) (get_or vs 6 0) (get_or vs 7 0) (get_or vs 8 0) (get_or vs 9 0) (get_or vs 10 0) (get_or vs 11 0) (get_or vs 12 0) (get_or vs 13 0) (get_or vs 14 0) (get_or vs 15 0) (get_or vs 16 0)) f h;
  forth = λ v f h. forth v.current v.mutation v.entry f (and_left (sound current_codec v.current) _ (sym (inspection-sound v) ∙ h));
  fits = fits;
  counted = counted;
}

pub inspection-laws : InspectionLaws
inspection-laws = laws inspection-lawful

pub inspection-in-order : InspectionInOrder
inspection-in-order = refl
