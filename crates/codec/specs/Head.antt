-- The head that a configuration, an inspection and a control message share (document 01, 'Record layouts'; lib.rs): a mark of four octets,
-- a version of two, an octet of the record's own, and a zero. Assumes nothing.
use Rattle.std.specs.Prelude.{ℕ, Bool, List, [], ◌∷◌, get_or, eqb}
use Rattle.codec.specs.Layout.{Field, little, big}
use Rattle.codec.specs.Codec.{Test, test}
use Rattle.codec.specs.declared.Head.{Head}

abbrev pub head_layout : List Field
head_layout = big 4 ∷ little 2 ∷ little 1 ∷ little 1 ∷ []

-- the numbers of a head
abbrev pub head_fields : ℕ → ℕ → ℕ → List ℕ
head_fields mark version byte = mark ∷ version ∷ byte ∷ 0 ∷ []

-- the mark, a version and an octet that are taken, and the zero
abbrev pub head_tests : ℕ → (ℕ → Bool) → (ℕ → Bool) → List Test
head_tests mark version byte =
    test 0 (λ vs. eqb (get_or vs 0 0) mark) ∷ test 4 (λ vs. version (get_or vs 1 0)) ∷ test 6 (λ vs. byte (get_or vs 2 0)) ∷ test 7 (λ vs. eqb (get_or vs 3 0) 0) ∷ []

-- the numbers of a head that was read
abbrev pub head_numbers : Head → List ℕ
head_numbers h = h.mark ∷ h.version ∷ h.byte ∷ h.zero ∷ []
