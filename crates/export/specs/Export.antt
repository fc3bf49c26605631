-- Answers for programs in other languages, of which document 01 does not speak: a number, and beside it, in room that the caller lends, how
-- many extension headers were passed, as 01 counts them. Assumes nothing.
use Rattle.std.specs.Prelude.{ℕ, ◌≡◌, cond, List, length, leb}
use Rattle.octets.specs.Octets.{put, le_bytes}
use Rattle.packet.specs.Reading.{Answer}
use Rattle.packet.specs.Answers.{disposition_number}

-- a reading has eight octets
abbrev pub reading_size : ℕ
reading_size = 8

-- the number of no answer: there is no room for the reading
abbrev pub no_answer : ℕ
no_answer = 256

-- Of the room out, which holds out' then: with room the answer, and the count at the start; without room no answer, and out as it was.
pub record Lent (answer headers : ℕ) (out : List ℕ) (n : ℕ) (out' : List ℕ) : Type 0 where
  pub number : n ≡ cond (leb reading_size (length out)) answer no_answer
  pub output : out' ≡ cond (leb reading_size (length out)) (put out 0 (le_bytes reading_size headers)) out

-- of the classifier: the disposition's number
abbrev pub Classified : Answer → List ℕ → ℕ → List ℕ → Type 0
Classified r out n out' = Lent (disposition_number r.disposition) r.headers out n out'
