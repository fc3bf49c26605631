-- The inner entry: its numbers tell it, accepted numbers are back from it, and its reader's answer is the rule's, by the two flags. And of
-- any part of a record: what is put into a slice from a place on stands in the whole. Assumes nothing.
use Rattle.octets.specs.Words.{get_or, ℕ, zero, suc, ◌+◌, ◌-◌, ◌≤◌, ◌≡◌, Bool, true, false, cond, not, ◌&&◌, ◌||◌, List, [], ◌∷◌, ◌++◌, map, length, take, drop, replicate, set, eqb, leb}
use Rattle.std.specs.Prelude.{min, Option, None, Some}
use Rattle.octets.specs.Octets.{octets_at, put, all_zero}
use Rattle.octets.proofs.Tools.{refl, sym, ap, ◌∙◌, true≢false, arith, eqb-true, leb-true, leb-false}
use Rattle.octets.proofs.OctetsLaws.{zero-parts, zero_number}
use mathlib.Core.Bool.{and-true}
use mathlib.Core.List.{append-nil}
use native.Mathlib.Nat.{add-zero}
use lib.Dec.{lit<}
use lib.ListN.{length-drop, drop_of_length-le}
use lib.Seq.{take_all}
use Rattle.std.proofs.lemmas.List.{take-set-le, drop-set-add, get_or-drop, take-append-drop}
use Rattle.codec.specs.Layout.{Field, little, width, size, fields_at, Fit}
use Rattle.codec.specs.Codec.{ok}
use Rattle.codec.proofs.TestLaws.{and_left, and_right}
use Rattle.records.specs.declared.entry.FenceEntryState.{FenceEntryState}
use Rattle.records.specs.declared.cookie_value.FenceCookieValue.{FenceCookieValue}
use Rattle.records.specs.CookieValue.{cookie_value, cookie_value_codec}
use Rattle.records.proofs.States.{state-back}
use Rattle.records.proofs.RecordLaws.{cookie-value-lawful}
use Rattle.inspection.specs.Inspected.{flag_listed, present_flag, part_fields, part_numbers, part_of, PartFormed}
use Rattle.inspection.specs.Inner.Steps.{part_obeys}

-- ---- a part of a record, from a place on

-- its octets are the whole's from there on
octets-from : (s : List ℕ) (k i n : ℕ) → octets_at (drop k s) i n ≡ octets_at s (k + i) n
unfolding octets_at
octets-from s k i zero = refl
octets-from s k i (suc n) =
    let next : k + (i + 1) ≡ k + i + 1 = omega arith in
    rw (get_or-drop, octets-from s k (i + 1) n, next)

pub fields-from : (fs : List Field) (s : List ℕ) (k i : ℕ) → fields_at fs (drop k s) i ≡ fields_at fs s (k + i)
fields-from [] s k i = refl
fields-from (f ∷ fs) s k i =
    let next : k + (i + width f) ≡ k + i + width f = omega arith in
    rw (octets-from s k i (width f), fields-from fs s k (i + width f), next)

-- so it is with the part that starts where the list ends at the latest
pub part-from : (s : List ℕ) (k m : ℕ) → m ≡ min k (length s) → take (length s - m) (drop m s) ≡ drop k s
part-from s k m e = take_all (length s - m) (drop m s) (rw length-drop (omega arith)) ∙ go (leb k (length s)) refl
  where
    go : (b : Bool) → leb k (length s) ≡ b → drop m s ≡ drop k s
    go true q = let h = leb-true k (length s) q in ap (λ (n : ℕ). drop n s) (omega arith)
    go false q = let h = leb-false k (length s) q in drop_of_length-le s {i = m} (omega arith) ∙ sym (drop_of_length-le s {i = k} (omega arith))

-- and octets put into it stand in the whole
put-from : (d : List ℕ) (k i : ℕ) (bs : List ℕ) → take k d ++ put (drop k d) i bs ≡ put d (k + i) bs
unfolding put
put-from d k i [] = take-append-drop k d
put-from d k i (b ∷ bs) =
    let next : k + (i + 1) ≡ k + i + 1 = omega arith in
    rw (← drop-set-add k d i b, ← take-set-le k d (k + i) b (omega arith), ← next) (put-from (set d (k + i) b) k (i + 1) bs)

pub put-part : {x : List ℕ} (d : List ℕ) (k : ℕ) (bs : List ℕ) → x ≡ put (take (length d - k) (drop k d)) 0 bs →
    take k d ++ (x ++ drop (length d - k) (drop k d)) ≡ put d k bs
put-part d k bs e =
    let all : length (drop k d) ≤ length d - k = rw length-drop (omega arith) in
    rw (e, take_all (length d - k) (drop k d) all, drop_of_length-le (drop k d) all, append-nil) (rw add-zero at (put-from d k 0 bs))

-- ---- numbers

-- the rule under a flag: of flag 0 zeros, of flag 1 a cookie value
abbrev pub part_fits : ℕ → List ℕ → Bool
part_fits flag vs = (not (eqb flag 0) || all_zero (take 6 vs)) && (not (eqb flag 1) || ok cookie_value_codec vs)

pub length_part : (e : Option FenceCookieValue) → length (part_fields e) ≡ 6
length_part None = refl
length_part (Some v) = refl

pub part-fits : (e : Option FenceCookieValue) → PartFormed e → Fit cookie_value_codec.layout (part_fields e)
part-fits None f = (lit< tt, (lit< tt, (lit< tt, (lit< tt, (lit< tt, (lit< tt, tt))))))
part-fits (Some v) f = cookie-value-lawful.fits v f

-- a cookie value is told by its numbers, and so is an inner entry
value-back : (v : FenceCookieValue) → cookie_value_codec.of (cookie_value_codec.fields v) ≡ v
value-back v =
    ap (λ (st : FenceEntryState). cookie_value st v.socket_cookie.0 v.durable_fence_token.0 v.deadline_boot_ns.0 v.control_epoch.0) (state-back v.state)

pub part-forth : (e : Option FenceCookieValue) → part_of (present_flag e) (part_fields e) ≡ e
part-forth None = refl
part-forth (Some v) = ap Some (value-back v)

-- so no two inner entries have the same numbers
pub part-injective : (a b : Option FenceCookieValue) → part_numbers a ≡ part_numbers b → a ≡ b
part-injective a b h = sym (part-forth a) ∙ ap (λ (ns : List ℕ). part_of (get_or ns 0 0) (drop 1 ns)) h ∙ part-forth b

zeros : (vs : List ℕ) → all_zero vs ≡ true → replicate (length vs) 0 ≡ vs
unfolding all_zero
zeros [] h = refl
zeros (v ∷ vs) h = λ i. sym (eqb-true v 0 (and_left (eqb v 0) _ h)) i ∷ zeros vs (and_right (eqb v 0) _ h) i

abbrev sixes : ℕ → ℕ → ℕ → ℕ → ℕ → ℕ → List ℕ
sixes z k c t d e = z ∷ k ∷ c ∷ t ∷ d ∷ e ∷ []

-- accepted numbers of an inner entry are those of the entry that they stand for
pub part-back : (f z k c t d e : ℕ) → let vs : List ℕ = sixes z k c t d e in
    Fit cookie_value_codec.layout vs → flag_listed f ≡ true → part_fits f vs ≡ true → part_numbers (part_of f vs) ≡ f ∷ vs
part-back f z k c t d e fits listed h = go (eqb f 0) (eqb f 1) refl refl listed h
  where
    go : (b₀ b₁ : Bool) → eqb f 0 ≡ b₀ → eqb f 1 ≡ b₁ → (b₀ || b₁) ≡ true → ((not b₀ || all_zero (sixes z k c t d e)) && (not b₁ || ok cookie_value_codec (sixes z k c t d e))) ≡ true →
        part_numbers (cond b₀ None (Some (cookie_value_codec.of (sixes z k c t d e)))) ≡ f ∷ sixes z k c t d e
    go true b₁ e₀ e₁ l h = λ i. sym (eqb-true f 0 e₀) i ∷ zeros (sixes z k c t d e) (and_left (all_zero (sixes z k c t d e)) _ h) i
    go false true e₀ e₁ l h = λ i. sym (eqb-true f 1 e₁) i ∷ cookie-value-lawful.back (sixes z k c t d e) fits h i
    go false false e₀ e₁ l h = absurd (true≢false (sym l))

-- ---- reading

-- numbers of fields with the least octet first are zero where their octets are
zero-fields : (ns s : List ℕ) (at : ℕ) → all_zero (octets_at s at (size (map little ns))) ≡ all_zero (fields_at (map little ns) s at)
unfolding all_zero octets_at
zero-fields [] s at = refl
zero-fields (n ∷ ns) s at =
    rw (zero-parts s at n (size (map little ns)), zero-fields ns s (at + n), zero_number (octets_at s at n))

pub zero-entry : (s : List ℕ) → all_zero (octets_at s 48 40) ≡ all_zero (fields_at cookie_value_codec.layout s 48)
zero-entry s = zero-fields (4 ∷ 4 ∷ 8 ∷ 8 ∷ 8 ∷ 8 ∷ []) s 48

-- under a flag that is listed the reader takes what the rule accepts
pub taken : (flag : ℕ) (vs : List ℕ) → flag_listed flag ≡ true → part_obeys flag vs ≡ part_fits flag vs
taken flag vs listed = go (eqb flag 0) (eqb flag 1) refl refl listed
  where
    go : (b₀ b₁ : Bool) → eqb flag 0 ≡ b₀ → eqb flag 1 ≡ b₁ → (b₀ || b₁) ≡ true → cond b₀ (all_zero (take 6 vs)) (ok cookie_value_codec vs) ≡ ((not b₀ || all_zero (take 6 vs)) && (not b₁ || ok cookie_value_codec vs))
    go true true e₀ e₁ l = absurd (omega (arith, eqb-true flag 0 e₀, eqb-true flag 1 e₁))
    go true false e₀ e₁ l = sym (and-true (all_zero (take 6 vs)))
    go false true e₀ e₁ l = refl
    go false false e₀ e₁ l = absurd (true≢false (sym l))
