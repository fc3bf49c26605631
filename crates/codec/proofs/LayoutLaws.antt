-- The laws of layouts, proved once for every record. Assumes nothing.
use Rattle.octets.specs.Words.{ℕ, suc, ◌+◌, ◌^◌, ◌<◌, ◌≤◌, ◌≡◌, List, [], ◌∷◌, ◌++◌, length, take, drop}
use Rattle.octets.proofs.Tools.{refl, sym, ap, ◌∙◌, arith}
use mathlib.Core.List.{append_assoc}
use native.Mathlib.Nat.{add-zero, zero-add, add_assoc}
use lib.ListN.{length-append, drop_of_length-le}
use Rattle.octets.specs.Octets.{Bytes, octets_at, put}
use Rattle.octets.proofs.OctetsLaws.{length-octets, length-le_bytes, length-be_bytes, le-le_bytes, le_bytes-le, be-be_bytes, be_bytes-be, put-append, put_in, Bytes-octets, octets-drop, octets-at, octets-part, le_below, be-below}
use Rattle.codec.specs.Layout.{Field, little, big, width, number_of, bytes_of, size, fields_at, laid, Fit}
use Rattle.codec.specs.Inner.Stores.{puts}

-- ---- a field

length-bytes_of : (f : Field) (v : ℕ) → length (bytes_of f v) ≡ width f
length-bytes_of (little n) v = length-le_bytes n v
length-bytes_of (big n) v = length-be_bytes n v

number-bytes : (f : Field) (v : ℕ) → v < 256 ^ width f → number_of f (bytes_of f v) ≡ v
number-bytes (little n) v h = le-le_bytes n v h
number-bytes (big n) v h = be-be_bytes n v h

bytes-number : (f : Field) (s : List ℕ) → Bytes s → length s ≡ width f → bytes_of f (number_of f s) ≡ s
bytes-number (little n) s h e = rw (← e) (le_bytes-le s h)
bytes-number (big n) s h e = rw (← e) (be_bytes-be s h)

-- ---- a layout: the bytes of the numbers of bytes, and the numbers of the bytes of numbers

fields-from : (fs : List Field) (s : List ℕ) (at : ℕ) → Bytes s → length s ≡ at + size fs → laid fs (fields_at fs s at) ≡ drop at s
fields-from [] s at h e = sym (drop_of_length-le s {i = at} (omega arith))
fields-from (f ∷ fs) s at h e =
    let here : bytes_of f (number_of f (octets_at s at (width f))) ≡ octets_at s at (width f) =
    bytes-number f (octets_at s at (width f)) (Bytes-octets s at (width f) h) (length-octets s at (width f)) in
    rw (here, fields-from fs s (at + width f) h (omega arith)) (octets-drop s at (width f) (omega arith))

pub laid-fields : (fs : List Field) (s : List ℕ) → Bytes s → length s ≡ size fs → laid fs (fields_at fs s 0) ≡ s
laid-fields fs s h e = fields-from fs s 0 h (omega arith)

fields-after : (fs : List Field) (vs p : List ℕ) → Fit fs vs → fields_at fs (p ++ laid fs vs) (length p) ≡ vs
fields-after [] [] p h = refl
fields-after [] (v ∷ vs) p h = absurd h
fields-after (f ∷ fs) [] p h = absurd h
fields-after (f ∷ fs) (v ∷ vs) p h =
    let here : octets_at (p ++ (bytes_of f v ++ laid fs vs)) (length p) (width f) ≡ bytes_of f v =
    octets-at p (bytes_of f v) (laid fs vs) (width f) (length-bytes_of f v) in
    let rest : fields_at fs (p ++ (bytes_of f v ++ laid fs vs)) (length p + width f) ≡ vs =
    rw (append_assoc, length-append, length-bytes_of) at (fields-after fs vs (p ++ bytes_of f v) h.1) in
    rw (here, rest, number-bytes f v h.0)

pub fields_laid : (fs : List Field) (vs : List ℕ) → Fit fs vs → fields_at fs (laid fs vs) 0 ≡ vs
fields_laid fs vs h = fields-after fs vs [] h

-- as many octets as the layout says, where there is a number for each field
pub length-laid : (fs : List Field) (vs : List ℕ) → length vs ≡ length fs → length (laid fs vs) ≡ size fs
length-laid [] vs h = refl
length-laid (f ∷ fs) [] h = absurd (omega arith)
length-laid (f ∷ fs) (v ∷ vs) h = rw (length-append, length-bytes_of, length-laid fs vs (omega arith))

pub fit_length : (fs : List Field) (vs : List ℕ) → Fit fs vs → length vs ≡ length fs
fit_length [] [] h = refl
fit_length [] (v ∷ vs) h = absurd h
fit_length (f ∷ fs) [] h = absurd h
fit_length (f ∷ fs) (v ∷ vs) h = ap suc (fit_length fs vs h.1)

-- ---- what a run of stores leaves

pub puts-laid : (fs : List Field) (vs d : List ℕ) (at : ℕ) → puts fs vs d at ≡ put d at (laid fs vs)
unfolding put
puts-laid [] vs d at = refl
puts-laid (f ∷ fs) [] d at = refl
puts-laid (f ∷ fs) (v ∷ vs) d at =
    puts-laid fs vs (put d at (bytes_of f v)) (at + width f)
    ∙ ap (λ (n : ℕ). put (put d at (bytes_of f v)) (at + n) (laid fs vs)) (sym (length-bytes_of f v))
    ∙ sym (put-append d at (bytes_of f v) (laid fs vs))

-- written at the start of a list with room, the rest unchanged
pub put-laid : (fs : List Field) (vs d : List ℕ) → length vs ≡ length fs → size fs ≤ length d → put d 0 (laid fs vs) ≡ laid fs vs ++ drop (size fs) d
put-laid fs vs d h room =
    let e : length (laid fs vs) ≡ size fs = length-laid fs vs h in
    rw (zero-add, e) at (put_in d 0 (laid fs vs) (omega arith))

-- ---- the numbers of bytes fit

numbers_fit : (f : Field) (s : List ℕ) (at : ℕ) → Bytes s → number_of f (octets_at s at (width f)) < 256 ^ width f
numbers_fit (little n) s at h = rw length-octets at (le_below (octets_at s at n) (Bytes-octets s at n h))
numbers_fit (big n) s at h = rw length-octets at (be-below (octets_at s at n) (Bytes-octets s at n h))

pub fit-fields : (fs : List Field) (s : List ℕ) (at : ℕ) → Bytes s → Fit fs (fields_at fs s at)
fit-fields [] s at h = tt
fit-fields (f ∷ fs) s at h = (numbers_fit f s at h, fit-fields fs s (at + width f) h)

pub length_fields : (fs : List Field) (s : List ℕ) (at : ℕ) → length (fields_at fs s at) ≡ length fs
length_fields [] s at = refl
length_fields (f ∷ fs) s at = ap suc (length_fields fs s (at + width f))

-- ---- a layout made of two, and a part of a record

pub fit_append : (fs gs : List Field) (vs ws : List ℕ) → Fit fs vs → Fit gs ws → Fit (fs ++ gs) (vs ++ ws)
fit_append [] gs [] ws h k = k
fit_append [] gs (v ∷ vs) ws h k = absurd h
fit_append (f ∷ fs) gs [] ws h k = absurd h
fit_append (f ∷ fs) gs (v ∷ vs) ws h k = (h.0, fit_append fs gs vs ws h.1 k)

pub laid-append : (fs gs : List Field) (vs ws : List ℕ) → length vs ≡ length fs → laid (fs ++ gs) (vs ++ ws) ≡ laid fs vs ++ laid gs ws
laid-append [] gs [] ws h = refl
laid-append [] gs (v ∷ vs) ws h = absurd (omega arith)
laid-append (f ∷ fs) gs [] ws h = absurd (omega arith)
laid-append (f ∷ fs) gs (v ∷ vs) ws h = rw (laid-append fs gs vs ws (omega arith), append_assoc)

-- what two layouts put one after the other leave is what the one made of both leaves
pub put_two : (fs gs : List Field) (vs ws d : List ℕ) (at : ℕ) → length vs ≡ length fs →
    put (put d at (laid fs vs)) (at + size fs) (laid gs ws) ≡ put d at (laid (fs ++ gs) (vs ++ ws))
put_two fs gs vs ws d at h = rw (laid-append fs gs vs ws h, put-append, length-laid fs vs h)

-- the fields of a part of m octets from the place k on are those of the whole from there on
part-from : (fs : List Field) (s : List ℕ) (k m i : ℕ) → i + size fs ≤ m → fields_at fs (take m (drop k s)) i ≡ fields_at fs s (k + i)
part-from [] s k m i h = refl
part-from (f ∷ fs) s k m i h =
    rw (octets-part s k m i (width f) (omega arith), part-from fs s k m (i + width f) (omega arith), add_assoc)

pub fields-part : (fs : List Field) (s : List ℕ) (k m : ℕ) → size fs ≤ m → fields_at fs (take m (drop k s)) 0 ≡ fields_at fs s k
fields-part fs s k m h = rw add-zero at (part-from fs s k m 0 (omega arith))
