-- Octets as parts of a list: those that lie inside are a part of it, those that the end cuts are a part and zeros, and as many are put as
-- there is room for. Assumes nothing.
use Rattle.octets.specs.Words.{ℕ, zero, suc, Bool, true, false, leb, ◌+◌, ◌-◌, ◌*◌, ◌/◌, ◌%◌, ◌^◌, ◌<◌, ◌≤◌, ◌≡◌, List, [], ◌∷◌, ◌++◌, length, take, drop, replicate, reverse}
use Rattle.octets.proofs.Tools.{refl, sym, ap, ◌∙◌, arith, leb-true, leb-false}
use Rattle.octets.specs.Octets.{Bytes, octets_at, put, le_bytes, be_bytes, le, be}
use Rattle.octets.proofs.OctetsLaws.{le-past, le-append, le_bytes-mod, le_bytes-le, Bytes-octets, Bytes-reverse, length-octets, octets-part, octets-whole, put-append, put-past, put_in, length-put, length-le_bytes, le_bytes-append}
use Rattle.std.proofs.lemmas.List.{length-replicate, take-append-drop, length-take-le}
use native.Mathlib.Nat.{sub-zero, add-zero}
use lib.Dec.{lit<}
use native.Mathlib.Numerals.{add-one}
use mathlib.Core.List.{append_assoc, reverse-append}
use lib.ListN.{drop_of_length-le, length-drop, length-reverse, get_or-eq_default}
use lib.Seq.{drop-cons, drop-drop, take-append_seam, take-length}

-- octets that lie inside are a part of the list
pub octets-inside : (s : List ℕ) (at n : ℕ) → at + n ≤ length s → octets_at s at n ≡ take n (drop at s)
octets-inside s at n h =
    let long : length (take n (drop at s)) ≡ n = length-take-le n (drop at s) (rw length-drop (omega arith)) in
    ap (λ (k : ℕ). octets_at s k n) (sym (add-zero at)) ∙ sym (octets-part s at n 0 n (omega arith)) ∙ octets-whole (take n (drop at s)) n long

-- past the end they are zeros
octets-past : (s : List ℕ) (at n : ℕ) → length s ≤ at → octets_at s at n ≡ replicate n 0
unfolding octets_at
octets-past s at zero h = refl
octets-past s at (suc n) h = rw (get_or-eq_default s 0 h, octets-past s (at + 1) n (omega arith))

-- and so are both halves of a number there
pub past_halves : (s : List ℕ) (at n : ℕ) → length s ≤ at → le (octets_at s at (n + n)) ≡ le (octets_at s at n) + 256 ^ n * le (octets_at s at n)
past_halves s at n h = rw (le-past s at (n + n) h, le-past s at n h) (omega arith)

-- and the octets of any place are those that lie inside, and zeros
pub octets-padded : (s : List ℕ) (at n : ℕ) → octets_at s at n ≡ take n (drop at s) ++ replicate (n - length (take n (drop at s))) 0
unfolding octets_at
octets-padded s at zero = refl
octets-padded s at (suc n) = go (leb (suc at) (length s)) refl (octets-padded s (at + 1) n)
  where
    go : (b : Bool) → leb (suc at) (length s) ≡ b → octets_at s (at + 1) n ≡ take n (drop (at + 1) s) ++ replicate (n - length (take n (drop (at + 1) s))) 0 →
        octets_at s at (suc n) ≡ take (suc n) (drop at s) ++ replicate (suc n - length (take (suc n) (drop at s))) 0
    go true inside rest =
        let fewer : suc n - suc (length (take n (drop (suc at) s))) ≡ n - length (take n (drop (suc at) s)) = omega arith in
        rw (drop-cons s at 0 (leb-true _ _ inside), rest, add-one, fewer)
    go false past rest = rw (drop_of_length-le s {i = at} (omega (arith, leb-false _ _ past))) (rw sub-zero (octets-past s at (suc n) (omega (arith, leb-false _ _ past))))

-- of octets that the end cuts those are put for which there is room
pub put-cut : (d : List ℕ) (at k : ℕ) (bs : List ℕ) → length d ≤ at + length (take k bs) → put d at bs ≡ put d at (take k bs)
put-cut d at k bs h =
    ap (λ b. put d at b) (sym (take-append-drop k bs)) ∙ put-append d at (take k bs) (drop k bs)
    ∙ put-past (put d at (take k bs)) (at + length (take k bs)) (drop k bs) (rw length-put h)

-- what stands in a list where octets were put
pub put-mid : (d : List ℕ) (at k : ℕ) (bs : List ℕ) → k ≡ length bs → at + length bs ≤ length d → take at d ++ (bs ++ drop k (drop at d)) ≡ put d at bs
put-mid d at k bs e h =
    let j : at + k ≡ at + length bs = omega arith in
    rw (put_in d at bs h, drop-drop, j) (sym (append_assoc (take at d) bs (drop (at + length bs) d)))

-- octets put at the beginning are read there
pub take-put : (d bs : List ℕ) (n : ℕ) → length bs ≡ n → n ≤ length d → take n (put d 0 bs) ≡ bs
take-put d bs n e h =
    let room : 0 + length bs ≤ length d = omega arith in
    rw (put_in d 0 bs room, ← e) (take-append_seam bs (drop (0 + length bs) d))

-- as many zeros are the octets of 0
zeros : (n : ℕ) → replicate n 0 ≡ le_bytes n 0
unfolding le_bytes
zeros zero = refl
zeros (suc n) = ap (λ (l : List ℕ). 0 ∷ l) (zeros n)

-- past the end nothing is put
put-none : (d : List ℕ) (at : ℕ) (bs : List ℕ) → (0 < length bs → length d ≤ at) → put d at bs ≡ d
unfolding put
put-none d at [] h = refl
put-none d at (b ∷ bs) h = put-past d at (b ∷ bs) (h (omega arith))

-- so of zeros those are put for which there is room
pub put-zeros : (d : List ℕ) (at m n : ℕ) → m ≤ n → at + m ≤ length d → (0 < n - m → length d ≤ at + m) → take at d ++ (replicate m 0 ++ drop m (drop at d)) ≡ put d at (le_bytes n 0)
put-zeros d at m n le inside past =
    let e : m + (n - m) ≡ n = omega arith in
    let long : m ≡ length (replicate m 0) = sym (length-replicate m 0) in
    let rest = le_bytes (n - m) (0 / 256 ^ m) in
    let none : put (put d at (le_bytes m 0)) (at + length (le_bytes m 0)) rest ≡ put d at (le_bytes m 0) =
    put-none (put d at (le_bytes m 0)) (at + length (le_bytes m 0)) rest (rw (length-put, length-le_bytes, length-le_bytes) past) in
    put-mid d at m (replicate m 0) long (omega (arith, long)) ∙ ap (λ b. put d at b) (zeros m) ∙ sym none ∙ sym (put-append d at (le_bytes m 0) rest)
    ∙ ap (λ b. put d at b) (sym (le_bytes-append m (n - m) 0) ∙ ap (λ (k : ℕ). le_bytes k 0) e)

-- ---- the octets of a number in the other order

be-append : (a b : List ℕ) → be (a ++ b) ≡ be b + 256 ^ length b * be a
unfolding be
be-append a b = rw (reverse-append, le-append, length-reverse)

-- turned, the halves change places, each turned
pub turned_halves : (n v : ℕ) → be (le_bytes (n + n) v) ≡ be (le_bytes n (v / 256 ^ n)) + 256 ^ n * be (le_bytes n (v % 256 ^ n))
turned_halves n v = rw (le_bytes-append, be-append, length-le_bytes, le_bytes-mod)

-- a number read and turned is that of the octets in the other order
pub turned_read : (s : List ℕ) (at n : ℕ) → Bytes s → be (le_bytes n (le (octets_at s at n))) ≡ be (octets_at s at n)
turned_read s at n h = ap be (rw length-octets at (le_bytes-le (octets_at s at n) (Bytes-octets s at n h)))

Bytes-le_bytes : (n v : ℕ) → Bytes (le_bytes n v)
unfolding le_bytes
Bytes-le_bytes zero v i = lit< tt
Bytes-le_bytes (suc n) v zero = omega arith
Bytes-le_bytes (suc n) v (suc i) = Bytes-le_bytes n (v / 256) i

-- and one turned and put leaves its octets in the other order
pub turned_put : (n v : ℕ) → le_bytes n (be (le_bytes n v)) ≡ be_bytes n v
unfolding be be_bytes
turned_put n v =
    let whole : length (reverse (le_bytes n v)) ≡ n = length-reverse (le_bytes n v) ∙ length-le_bytes n v in
    rw whole at (le_bytes-le (reverse (le_bytes n v)) (Bytes-reverse (le_bytes n v) (Bytes-le_bytes n v)))

-- the last octets of a list from a place on
pub take-rest : (s : List ℕ) (k : ℕ) → take (length s - k) (drop k s) ≡ drop k s
take-rest s k = ap (λ (n : ℕ). take n (drop k s)) (sym (length-drop k s)) ∙ take-length (drop k s)
