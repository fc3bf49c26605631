-- The laws of places. The place after two texts is the one after the second, from the one after the first on: as long as there is such a
-- place both are sums, and after the last place nothing lies in a buffer. So texts written one after the other are the text joined.
-- Assumes nothing.
use Rattle.octets.specs.Words.{ℕ, ◌+◌, ◌-◌, ◌<◌, ◌≤◌, ◌≡◌, Bool, true, false, List, [], ◌∷◌, ◌++◌, length, take, drop, set, ltb, leb}
use Prim.Native.Nat.{min}
use Rattle.octets.proofs.Tools.{refl, sym, ap, ◌∙◌, arith, ltb-true, ltb-false, leb-true, leb-false, le-ltb}
use Rattle.octets.proofs.Choices.{pick}
use mathlib.Core.List.{append_assoc}
use lib.ListN.{length-append}
use lib.Seq.{drop-drop}
use Rattle.octets.specs.Octets.{put}
use Rattle.octets.proofs.OctetsLaws.{put-append, put-past, put_in, length-put}
use Rattle.text.specs.Text.{last_place, after, Wrote}
use Rattle.text.specs.Promises.{Joins, Measures}

-- ---- places

pub after-in : (at n : ℕ) → at + n ≤ last_place → after at n ≡ at + n
unfolding after
after-in at n h = rw (le-ltb last_place (at + n) h)

pub after-out : (at n : ℕ) → last_place ≤ at + n → after at n ≡ last_place
unfolding after
after-out at n h = pick (λ m. m ≡ last_place) (ltb last_place (at + n)) (λ e. refl) (λ e. omega (arith, ltb-false last_place (at + n) e))

-- the sum that stops at the last place
pub saturated : (at n : ℕ) → min (at + n) last_place ≡ after at n
unfolding after
saturated at n = pick (λ m. min (at + n) last_place ≡ m) (ltb last_place (at + n)) (λ e. omega (arith, ltb-true last_place (at + n) e)) (λ e. omega (arith, ltb-false last_place (at + n) e))

after_same : (at n to m : ℕ) → at + n ≡ to + m → after at n ≡ after to m
unfolding after
after_same at n to m h = rw h

pub measures : Measures
measures n h = after-in 0 n (omega arith) ∙ omega arith

-- a buffer keeps its length
pub same_length : {d d' a : List ℕ} {at r : ℕ} → Wrote d at a d' r → length d' ≡ length d
same_length {d} {d'} {a} {at} w = ap length w.bytes ∙ length-put d at a

-- ---- a text, and then another at the place after it

pub joins : Joins
joins d d' d'' a b at m r fits w v = by (ltb last_place (at + length a)) refl
  where
    both : put d at (a ++ b) ≡ put d' (at + length a) b
    both = put-append d at a b ∙ ap (λ x. put x (at + length a) b) (sym w.bytes)

    by : (t : Bool) → ltb last_place (at + length a) ≡ t → Wrote d at (a ++ b) d'' r
    by true e =
        let out : last_place < at + length a = ltb-true last_place (at + length a) e in
        let last : m ≡ last_place = w.past ∙ after-out at (length a) (omega arith) in
        let kept : length d' ≡ length d = same_length w in
        record {
          bytes = v.bytes ∙ put-past d' m b (omega arith) ∙ sym (both ∙ put-past d' (at + length a) b (omega arith));
          past = v.past ∙ after-out m (length b) (omega arith) ∙ sym (after-out at (length (a ++ b)) (omega (arith, length-append a b)));
        }
    by false e =
        let next : m ≡ at + length a = w.past ∙ after-in at (length a) (ltb-false last_place (at + length a) e) in
        let long : at + length a + length b ≡ at + length (a ++ b) = omega (arith, length-append a b) in
        record { bytes = v.bytes ∙ rw next (sym both); past = v.past ∙ rw next (after_same (at + length a) (length b) at (length (a ++ b)) long) }

pub then : {d d' d'' a b : List ℕ} {at m r : ℕ} → length d ≤ last_place → Wrote d at a d' m → Wrote d' m b d'' r → Wrote d at (a ++ b) d'' r
then {d} {d'} {d''} {a} {b} {at} {m} {r} fits w v = joins d d' d'' a b at m r fits w v

-- ---- a byte, and a text that has room

pub byte : (d : List ℕ) (at v : ℕ) → at < last_place → Wrote d at (v ∷ []) (set d at v) (at + 1)
unfolding put
byte d at v h = record { bytes = refl; past = sym (after-in at 1 (omega arith)) }

pub byte_past : (d : List ℕ) (at v : ℕ) {r : ℕ} → length d ≤ at → r ≡ min (at + 1) last_place → Wrote d at (v ∷ []) d r
byte_past d at v h e = record { bytes = sym (put-past d at (v ∷ []) h); past = e ∙ saturated at 1 }

-- a part of the buffer that is filled with the text
filling : (d text : List ℕ) {x : List ℕ} (at n : ℕ) → n ≡ length text → at + n ≤ length d → x ≡ text →
    take at d ++ (x ++ drop (at + n - at) (drop at d)) ≡ put d at text
filling d text at n e h f =
    let wide : at + n - at ≡ length text = omega arith in
    rw (f, wide, drop-drop (length text) at d, ← append_assoc (take at d) text (drop (at + length text) d)) (sym (put_in d at text (omega arith)))

pub filled : {d text : List ℕ} (at : ℕ) {r : ℕ} {x : List ℕ} → r ≤ length d → r < last_place → r ≡ min (at + length text) last_place → x ≡ text →
    Wrote d at text (take at d ++ (x ++ drop (r - at) (drop at d))) r
filled {d} {text} at {r} {x} h l e f =
    let sum : r ≡ at + length text = omega arith in
    record { bytes = rw sum (filling d text at (length text) refl (omega arith) f); past = e ∙ saturated at (length text) }
