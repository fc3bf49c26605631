-- The laws of `specs/Octets.antt`, each proved once over the width: a number of n + m octets is one of n and one of m beside each
-- other, a number is back from its octets and octets from their number, and what a store leaves where there is room and where there
-- is none. Each goes by induction on the octets; the order with the most significant octet first is the other one reversed.
-- Assumes nothing.
use Rattle.octets.specs.Words.{ℕ, zero, suc, ◌+◌, ◌-◌, ◌*◌, ◌/◌, ◌%◌, ◌^◌, ◌<◌, ◌≤◌, ◌≡◌, Bool, true, false, ◌&&◌, List, [], ◌∷◌, ◌++◌, reverse, length, get_or, take, drop, set, eqb}
use Rattle.octets.proofs.Tools.{refl, sym, ap, ◌∙◌, arith, eq-eqb, ne_eqb, eqb-true, eqb-false}
use Rattle.octets.proofs.Choices.{and_assoc}
use mathlib.Core.Path.{subst}
use native.Mathlib.Nat.{add-zero, zero-add, suc-add, add_comm, mul_assoc, div-div-eq-div-mul, pow-zero, pow-suc, pow-succ', div-one}
use native.Mathlib.Numerals.{add-one}
use mathlib.Core.List.{append_assoc, append-nil, reverse-append, reverse-cons, reverse-reverse}
use lib.ListN.{drop_of_length-le, length-append, length-reverse, length-set, length-drop, get_or-eq_default}
use lib.Arith.{mod-mul, digits_div, digits_mod}
use lib.Dec.{lit<}
use lib.Seq.{set_out, drop-cons, drop-drop, get_or-take, get_or-drop, sets, sets-eq, append_snoc, get_or-append_seam}
use Rattle.octets.specs.Octets.{Bytes, octets_at, put, le, le_bytes, be, be_bytes, all_zero, same_octets}

-- ---- the octets at a place

pub length-octets : (s : List ℕ) (at n : ℕ) → length (octets_at s at n) ≡ n
unfolding octets_at
length-octets s at zero = refl
length-octets s at (suc n) = ap suc (length-octets s (at + 1) n)

pub octets-append : (s : List ℕ) (at n m : ℕ) → octets_at s at (n + m) ≡ octets_at s at n ++ octets_at s (at + n) m
unfolding octets_at
octets-append s at zero m = rw (zero-add, add-zero)
octets-append s at (suc n) m =
    rw (suc-add) (ap (λ (l : List ℕ). get_or s at 0 ∷ l)
    (octets-append s (at + 1) n m ∙ ap (λ (k : ℕ). octets_at s (at + 1) n ++ octets_at s k m) (omega arith)))

-- ---- the number that bytes spell

pub le-append : (a b : List ℕ) → le (a ++ b) ≡ le a + 256 ^ length a * le b
unfolding le
le-append [] b = omega arith
le-append (x ∷ a) b = rw (le-append a b, pow-succ', mul_assoc) (omega arith)

-- one law for both readers: a number of n + m bytes is put together from one of n and one of m
pub le_parts : (s : List ℕ) (at n m : ℕ) → le (octets_at s at (n + m)) ≡ le (octets_at s at n) + 256 ^ n * le (octets_at s (at + n) m)
le_parts s at n m = rw (octets-append, le-append, length-octets)

pub be-parts : (s : List ℕ) (at n m : ℕ) → be (octets_at s at (n + m)) ≡ be (octets_at s (at + n) m) + 256 ^ m * be (octets_at s at n)
unfolding be
be-parts s at n m = rw (octets-append, reverse-append, le-append, length-reverse, length-octets)

pub le-past : (s : List ℕ) (at n : ℕ) → length s ≤ at → le (octets_at s at n) ≡ 0
unfolding le octets_at
le-past s at zero h = refl
le-past s at (suc n) h = rw (get_or-eq_default s 0 h, le-past s (at + 1) n (omega arith))

pub pow_pos : (n : ℕ) → 0 < 256 ^ n
pow_pos zero = omega arith
pow_pos (suc n) = rw pow-suc (let h : 0 < 256 ^ n = pow_pos n in omega arith)

-- n octets spell a number below 256 ^ n
pub le_below : (s : List ℕ) → Bytes s → le s < 256 ^ length s
unfolding le
le_below [] h = lit< tt
le_below (b ∷ s) h =
    let rest : le s < 256 ^ length s = le_below s (λ i. h (suc i)) in
    let first : b < 256 = h 0 in
    rw pow-suc (omega arith)

-- ---- the bytes of a number

pub length-le_bytes : (n v : ℕ) → length (le_bytes n v) ≡ n
unfolding le_bytes
length-le_bytes zero v = refl
length-le_bytes (suc n) v = ap suc (length-le_bytes n (v / 256))

pub le_bytes-append : (n m v : ℕ) → le_bytes (n + m) v ≡ le_bytes n v ++ le_bytes m (v / 256 ^ n)
unfolding le_bytes
le_bytes-append zero m v = rw (zero-add, pow-zero, div-one)
le_bytes-append (suc n) m v = rw (suc-add, pow-succ', ← div-div-eq-div-mul) (ap (λ (l : List ℕ). v % 256 ∷ l) (le_bytes-append n m (v / 256)))

-- only the number's last n bytes matter
pub le_bytes-mod : (n v : ℕ) → le_bytes n (v % 256 ^ n) ≡ le_bytes n v
unfolding le_bytes
le_bytes-mod zero v = refl
le_bytes-mod (suc n) v =
    let pos : 0 < 256 ^ n = pow_pos n in
    let r : v % 256 < 256 = omega arith in
    rw (pow-suc, mod-mul v pos (lit< tt), digits_div (v / 256 % 256 ^ n) r, digits_mod (v / 256 % 256 ^ n) r, le_bytes-mod n (v / 256))

-- ---- there and back, over the width

pub le-le_bytes : (n v : ℕ) → v < 256 ^ n → le (le_bytes n v) ≡ v
unfolding le le_bytes
le-le_bytes zero v h = omega arith
le-le_bytes (suc n) v h =
    let h' : v < 256 ^ n * 256 = rw pow-suc at h in
    rw (le-le_bytes n (v / 256) (omega arith)) (omega arith)

pub le_bytes-le : (s : List ℕ) → Bytes s → le_bytes (length s) (le s) ≡ s
unfolding le le_bytes
le_bytes-le [] h = refl
le_bytes-le (b ∷ s) h =
    let hb : b < 256 = h 0 in
    let low : (b + 256 * le s) % 256 ≡ b = omega arith in
    let high : (b + 256 * le s) / 256 ≡ le s = omega arith in
    rw (low, high, le_bytes-le s (λ i. h (suc i)))

-- ---- bytes put at a place

pub put-append : (d : List ℕ) (at : ℕ) (a b : List ℕ) → put d at (a ++ b) ≡ put (put d at a) (at + length a) b
unfolding put
put-append d at [] b = rw add-zero
put-append d at (x ∷ a) b = put-append (set d at x) (at + 1) a b ∙ ap (λ (k : ℕ). put (put (set d at x) (at + 1) a) k b) (omega arith)

pub put-past : (d : List ℕ) (at : ℕ) (bs : List ℕ) → length d ≤ at → put d at bs ≡ d
unfolding put
put-past d at [] h = refl
put-past d at (b ∷ bs) h = rw (set_out d at b h) (put-past d (at + 1) bs (omega arith))

pub length-put : (d : List ℕ) (at : ℕ) (bs : List ℕ) → length (put d at bs) ≡ length d
unfolding put
length-put d at [] = refl
length-put d at (b ∷ bs) = length-put (set d at b) (at + 1) bs ∙ length-set d at b

-- one law for the writers: a number of n + m bytes is put as one of n and one of m
pub put-parts : (d : List ℕ) (at n m v : ℕ) → put d at (le_bytes (n + m) v) ≡ put (put d at (le_bytes n (v % 256 ^ n))) (at + n) (le_bytes m (v / 256 ^ n))
put-parts d at n m v = rw (le_bytes-append, put-append, length-le_bytes, le_bytes-mod)

pub put-parts-be : (d : List ℕ) (at n m v : ℕ) → put d at (be_bytes (n + m) v) ≡ put (put d at (be_bytes n (v / 256 ^ m))) (at + n) (be_bytes m (v % 256 ^ m))
unfolding be_bytes
put-parts-be d at n m v = rw (add_comm n m, le_bytes-append, reverse-append, put-append, length-reverse, length-le_bytes, le_bytes-mod)

put-sets : (d : List ℕ) (at : ℕ) (bs : List ℕ) → put d at bs ≡ sets d at bs
unfolding put
put-sets d at [] = refl
put-sets d at (b ∷ bs) = put-sets (set d at b) (at + 1) bs ∙ ap (λ (k : ℕ). sets (set d at b) k bs) (add-one at)

-- where there is room, the bytes stand in the place of as many
pub put_in : (d : List ℕ) (at : ℕ) (bs : List ℕ) → at + length bs ≤ length d → put d at bs ≡ take at d ++ bs ++ drop (at + length bs) d
put_in d at bs h = put-sets d at bs ∙ sets-eq bs d at h

-- ---- the bytes of a place, as bytes and as a part of the list

pub Bytes-octets : (s : List ℕ) (at n : ℕ) → Bytes s → Bytes (octets_at s at n)
unfolding octets_at
Bytes-octets s at zero h i = lit< tt
Bytes-octets s at (suc n) h zero = h at
Bytes-octets s at (suc n) h (suc i) = Bytes-octets s (at + 1) n h i

pub Bytes-append : (p q : List ℕ) → Bytes p → Bytes q → Bytes (p ++ q)
Bytes-append [] q hp hq i = hq i
Bytes-append (x ∷ p) q hp hq zero = hp 0
Bytes-append (x ∷ p) q hp hq (suc i) = Bytes-append p q (λ j. hp (suc j)) hq i

pub Bytes-one : (x : ℕ) → x < 256 → Bytes (x ∷ [])
Bytes-one x h zero = h
Bytes-one x h (suc i) = lit< tt

pub Bytes-reverse : (s : List ℕ) → Bytes s → Bytes (reverse s)
Bytes-reverse [] h = h
Bytes-reverse (x ∷ s) h = subst Bytes (sym (reverse-cons x s)) (Bytes-append (reverse s) (x ∷ []) (Bytes-reverse s (λ i. h (suc i))) (Bytes-one x (h 0)))

pub octets-drop : (s : List ℕ) (at n : ℕ) → at + n ≤ length s → octets_at s at n ++ drop (at + n) s ≡ drop at s
unfolding octets_at
octets-drop s at zero h = rw add-zero
octets-drop s at (suc n) h =
    let e : at + suc n ≡ at + 1 + n = omega arith in
    let g : at < length s = omega arith in
    rw (e, octets-drop s (at + 1) n (omega arith), add-one, drop-cons s at 0 g)

-- what stands after p in p ++ (b ++ q)
octets-seam : (p b q : List ℕ) → octets_at (p ++ (b ++ q)) (length p) (length b) ≡ b
unfolding octets_at
octets-seam p [] q = refl
octets-seam p (x ∷ b) q =
    let here : get_or (p ++ x ∷ (b ++ q)) (length p) 0 ≡ x = get_or-append_seam p x (b ++ q) 0 in
    let rest : octets_at (p ++ x ∷ (b ++ q)) (length p + 1) (length b) ≡ b =
    rw (append_snoc p x (b ++ q), length-append) at (octets-seam (p ++ (x ∷ [])) b q) in
    rw (here, rest)

pub octets-at : (p b q : List ℕ) (n : ℕ) → length b ≡ n → octets_at (p ++ (b ++ q)) (length p) n ≡ b
octets-at p b q n e = rw (← e) (octets-seam p b q)

-- ---- the same there and back, greatest byte first

pub be-be_bytes : (n v : ℕ) → v < 256 ^ n → be (be_bytes n v) ≡ v
unfolding be be_bytes
be-be_bytes n v h = rw reverse-reverse (le-le_bytes n v h)

pub length-be_bytes : (n v : ℕ) → length (be_bytes n v) ≡ n
unfolding be_bytes
length-be_bytes n v = length-reverse (le_bytes n v) ∙ length-le_bytes n v

pub be_bytes-be : (s : List ℕ) → Bytes s → be_bytes (length s) (be s) ≡ s
unfolding be be_bytes
be_bytes-be s h =
    ap reverse (ap (λ (n : ℕ). le_bytes n (le (reverse s))) (sym (length-reverse s)) ∙ le_bytes-le (reverse s) (Bytes-reverse s h)) ∙ reverse-reverse s

-- ---- parts that are zero, and parts that are equal

digit-zero : (b n : ℕ) → eqb (b + 256 * n) 0 ≡ (eqb b 0 && eqb n 0)
digit-zero b n = go (eqb b 0) (eqb n 0) refl refl
  where
    go : (x y : Bool) → eqb b 0 ≡ x → eqb n 0 ≡ y → eqb (b + 256 * n) 0 ≡ (x && y)
    go true true e f = eq-eqb (b + 256 * n) 0 (omega (arith, eqb-true b 0 e, eqb-true n 0 f))
    go true false e f = ne_eqb (b + 256 * n) 0 (λ d. eqb-false n 0 f (omega arith))
    go false y e f = ne_eqb (b + 256 * n) 0 (λ d. eqb-false b 0 e (omega arith))

-- the first octet of some
pub octets-first : (s : List ℕ) (at n : ℕ) → (n ≡ 0 → ⊥) → octets_at s at n ≡ get_or s at 0 ∷ octets_at s (at + 1) (n - 1)
unfolding octets_at
octets-first s at zero h = absurd (h refl)
octets-first s at (suc n) h =
    let e : n ≡ suc n - 1 = omega arith in
    ap (λ (k : ℕ). get_or s at 0 ∷ octets_at s (at + 1) k) e

pub same_first : (a b : List ℕ) (i j n : ℕ) → (n ≡ 0 → ⊥) →
    same_octets (octets_at a i n) (octets_at b j n) ≡ (eqb (get_or a i 0) (get_or b j 0) && same_octets (octets_at a (i + 1) (n - 1)) (octets_at b (j + 1) (n - 1)))
unfolding same_octets
same_first a b i j n h = rw (octets-first a i n h, octets-first b j n h)

-- n + m octets are zero where the first n are and the other m
pub zero-parts : (s : List ℕ) (at n m : ℕ) → all_zero (octets_at s at (n + m)) ≡ (all_zero (octets_at s at n) && all_zero (octets_at s (at + n) m))
unfolding octets_at all_zero
zero-parts s at zero m = rw (zero-add, add-zero at)
zero-parts s at (suc n) m =
    let e : at + 1 + n ≡ at + suc n = omega arith in
    rw (suc-add, zero-parts s (at + 1) n m, e, and_assoc)

-- and octets are zero where the number that they spell is
pub zero_number : (s : List ℕ) → eqb (le s) 0 ≡ all_zero s
unfolding le all_zero
zero_number [] = refl
zero_number (b ∷ s) = digit-zero b (le s) ∙ ap (λ r. eqb b 0 && r) (zero_number s)

pub eqb-sym : (a b : ℕ) (p q : Bool) → eqb a b ≡ p → eqb b a ≡ q → p ≡ q
eqb-sym a b true true e f = refl
eqb-sym a b true false e f = sym (eq-eqb b a (sym (eqb-true a b e))) ∙ f
eqb-sym a b false true e f = sym e ∙ eq-eqb a b (sym (eqb-true b a f))
eqb-sym a b false false e f = refl

-- ---- a part of a list

-- the octets of a part of m octets from the place k on, so far as they lie inside it, are those of the whole
pub octets-part : (s : List ℕ) (k m i n : ℕ) → i + n ≤ m → octets_at (take m (drop k s)) i n ≡ octets_at s (k + i) n
unfolding octets_at
octets-part s k m i zero h = refl
octets-part s k m i (suc n) h =
    let inside : i < m = omega arith in
    let here : get_or (take m (drop k s)) i 0 ≡ get_or s (k + i) 0 = rw (get_or-take, get_or-drop) in
    let next : k + (i + 1) ≡ k + i + 1 = omega arith in
    rw (here, octets-part s k m (i + 1) n (omega arith), next)

-- all octets of a list are the list
pub octets-whole : (s : List ℕ) (n : ℕ) → length s ≡ n → octets_at s 0 n ≡ s
octets-whole s n e = rw (drop_of_length-le s {i = 0 + n} (omega arith), append-nil) at (octets-drop s 0 n (omega arith))

-- octets put into the part from the place k on stand in the whole from there on
pub put-part : (d : List ℕ) (k : ℕ) (bs : List ℕ) → k + length bs ≤ length d → take k d ++ put (drop k d) 0 bs ≡ put d k bs
put-part d k bs h =
    let room : 0 + length bs ≤ length (drop k d) = rw length-drop (omega arith) in
    rw (put_in (drop k d) 0 bs room, put_in d k bs h, zero-add, drop-drop) (simp append_assoc)

-- n octets spell a number below 256 ^ n, greatest octet first too
pub be-below : (s : List ℕ) → Bytes s → be s < 256 ^ length s
unfolding be
be-below s h = rw length-reverse at (le_below (reverse s) (Bytes-reverse s h))
