-- The laws of `specs/Table.antt`: a table of forty bytes or more is a record and the rest, so a search at a place finds its record
-- there, further on, or nowhere; and a record that is found has forty bytes, so that no bytes mean none. Assumes nothing.
use Rattle.octets.specs.Words.{ℕ, zero, suc, ◌+◌, ◌-◌, ◌*◌, ◌/◌, ◌<◌, ◌≤◌, ◌≡◌, Bool, true, false, cond, List, [], ◌∷◌, length, take, drop, eqb}
use Rattle.octets.proofs.Tools.{refl, sym, ap, ◌∙◌, arith, ne_eqb}
use native.Mathlib.Nat.{add_comm}
use lib.ListN.{length-take, length-drop}
use lib.Seq.{drop-drop}
use denote.Ref.{Bor}
use Rattle.table.specs.Table.{records_in, records, is_under, under, first_of, place_from, after, FirstUnder}
use Rattle.table.specs.Inner.Search.{FirstFrom}

records-none : (s : List ℕ) → length s < 40 → records s ≡ []
unfolding records records_in
records-none s h = let e : length s / 40 ≡ 0 = omega arith in rw e

records-more : (s : List ℕ) → 40 ≤ length s → records s ≡ take 40 s ∷ records (drop 40 s)
unfolding records records_in
records-more s h =
    let e : length s / 40 ≡ suc (length (drop 40 s) / 40) = rw length-drop (omega arith) in
    rw e

-- ---- the search

-- what is found among records of which the first lies at the place at: the bytes, and where they lie
abbrev pub searched : ℕ → ℕ → ℕ → List (List ℕ) → List ℕ × ℕ
searched at k t rs = (first_of (under k t rs), place_from at k t rs)

-- at a place of the table with a record after it, of which b tells whether it stands under the key: here, or further on
module _ (k t : ℕ) (s : List ℕ) (at to : ℕ) (b : Bool) (room : to ≡ at + 40) (inside : to ≤ length s) (told : b ≡ is_under k t (take (to - at) (drop at s))) where
  abbrev wide : to - at ≡ 40
  wide = omega arith

  pub found_here : b ≡ true → searched at k t (records (drop at s)) ≡ (take (to - at) (drop at s), at)
  unfolding under first_of place_from
  found_here e = rw (wide, records-more (drop at s) (rw length-drop (omega arith)), rw wide at (sym told ∙ e))

  pub found-on : b ≡ false → searched at k t (records (drop at s)) ≡ searched to k t (records (drop to s))
  unfolding under place_from
  found-on e = rw (records-more (drop at s) (rw length-drop (omega arith)), rw wide at (sym told ∙ e), drop-drop, room)

-- where less than a record is left: nowhere
pub found_none : (k t : ℕ) (s : List ℕ) (at : ℕ) → length s < at + 40 → searched at k t (records (drop at s)) ≡ ([], 0)
unfolding under first_of place_from
found_none k t s at h = rw (records-none (drop at s) (rw length-drop (omega arith)))

-- a part of a table that has the bytes that are found from a place on, and lies where they do, is the one promised
module _ {at k t : ℕ} {table part : Bor (List ℕ)} where
  pub found-is : {b : List ℕ} {n : ℕ} → searched at k t (records (drop at table.now)) ≡ (b, n) →
      part.now ≡ b → part.ref_ptr ≡ (table.ref_ptr.0, n + table.ref_ptr.1) → FirstFrom at k t table part
  found-is {n = n} e p q = record {
    bytes = p ∙ sym (ap (λ x. x.0) e);
    place = q ∙ (λ i. (table.ref_ptr.0, add_comm n table.ref_ptr.1 i)) ∙ ap (λ x. after table x.1) (sym e);
  }

  -- and the first of all, where none before that place is under the key
  pub found_first : searched 0 k t (records table.now) ≡ searched at k t (records (drop at table.now)) → FirstFrom at k t table part → FirstUnder k t table part
  found_first e f = record {
    bytes = f.bytes ∙ sym (ap (λ x. x.0) e);
    place = f.place ∙ ap (λ x. after table x.1) (sym e);
  }

-- ---- what is found

-- the first of some records that are under a key and have forty bytes, if there is one
pub data First (k t : ℕ) : List (List ℕ) → Type 0 where
  none : First k t []
  first : (r : List ℕ) (rs : List (List ℕ)) → length r ≡ 40 → is_under k t r ≡ true → First k t (r ∷ rs)

module _ (k t : ℕ) where
  first-in : (n : ℕ) (s : List ℕ) → n * 40 ≤ length s → First k t (under k t (records_in n s))
  unfolding records_in under
  first-in zero s h = none
  first-in (suc n) s h = go (is_under k t (take 40 s)) refl (first-in n (drop 40 s) (rw length-drop (omega arith)))
    where
      go : (b : Bool) → is_under k t (take 40 s) ≡ b → First k t (under k t (records_in n (drop 40 s))) →
          First k t (cond b (take 40 s ∷ under k t (records_in n (drop 40 s))) (under k t (records_in n (drop 40 s))))
      go true q f = first (take 40 s) _ (rw length-take (omega arith)) q
      go false q f = f

  pub first_found : (s : List ℕ) → First k t (under k t (records s))
  unfolding records
  first_found s = first-in (length s / 40) s (omega arith)

-- bytes as a list of at most one record: no bytes are none
abbrev pub held : List ℕ → List (List ℕ)
held s = cond (eqb (length s) 0) [] (s ∷ [])

pub first-held : {k t : ℕ} {rs : List (List ℕ)} → First k t rs → take 1 rs ≡ held (first_of rs)
unfolding first_of
first-held none = refl
first-held (first r rs l u) = rw (ne_eqb (length r) 0 (λ e. omega arith))
