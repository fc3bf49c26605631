-- Document 01, 'Examples to prove': one list under one statement. The endpoint is 192.0.2.10:4500. Assumes nothing.
use Rattle.std.specs.Prelude.{ℕ, ◌≡◌, Bool, true, false, not, ◌&&◌, List, [], ◌∷◌, replicate, set, eqb}
use Rattle.codec.specs.Codec.{fields_number, decode_number, decode_value}
use Rattle.deadline.specs.Deadline.{decision_number, refresh_decision}
use Rattle.deadline.specs.declared.RefreshDeadlineDecision.{RefreshDeadlineDecision}
use Rattle.deadline.specs.declared.RefreshDeadlineDecision.TheVariants.{Apply, RequestedDeadlineInvalid, PriorExpired}
use Rattle.authority.specs.Mutation.{mutation_codec}
use Rattle.authority.specs.Current.{current_codec}
use Rattle.packet.specs.Answers.{disposition_number}
use Rattle.packet.specs.Reading.{Disposition, protected, unrelated, indeterminate, classify_of}
use Rattle.packet.specs.Example.{endpoint4500, A}

pub data Example : Type 0 where
  -- a packet reads as d
  reads : (packet : List ℕ) (d : Disposition) → Example
  -- observed o, prior p, requested r give d
  decides : (o p r : ℕ) (d : RefreshDeadlineDecision) → Example
  -- generation g and claim c are accepted, or not
  mutates : (g c : ℕ) (accepted : Bool) → Example
  -- the bytes are the initial current record
  initial : (s : List ℕ) → Example

unfoldable pub examples : List Example
examples =
    -- Empty: Indeterminate. `60`: Unrelated. `40`: Indeterminate. A: Protected.
    reads [] indeterminate ∷
    reads (0x60 ∷ []) unrelated ∷
    reads (0x40 ∷ []) indeterminate ∷
    reads A protected ∷
    -- A with bytes 6-7 `40 00`: Protected; `20 00`: Indeterminate; `20 00` and protocol 6: Unrelated.
    reads (set A 6 0x40) protected ∷
    reads (set A 6 0x20) indeterminate ∷
    reads (set (set A 6 0x20) 9 6) unrelated ∷
    -- A with total length 27: Indeterminate.
    reads (set A 3 27) indeterminate ∷
    -- Deadlines (100, 200, 300000000100) Apply; (100, 200, 300000000101) RequestedDeadlineInvalid; (200, 200, 400) PriorExpired.
    decides 100 200 300000000100 Apply ∷
    decides 100 200 300000000101 RequestedDeadlineInvalid ∷
    decides 200 200 400 PriorExpired ∷
    -- Mutation (2^64 - 1, 0) accepted, (2^64 - 1, 1) refused.
    mutates 0xffff_ffff_ffff_ffff 0 true ∷
    mutates 0xffff_ffff_ffff_ffff 1 false ∷
    -- 24 zero bytes: initial.
    initial (replicate 24 0) ∷ []

-- the same truth value
abbrev pub same : Bool → Bool → Bool
same true b = b
same false b = not b

-- the initial record has token 0 and cookie 0, and is not retired
unfoldable pub holds : Example → Bool
holds (reads p d) = eqb (disposition_number (classify_of p endpoint4500).disposition) (disposition_number d) && eqb (classify_of p endpoint4500).headers 0
holds (decides o p r d) = eqb (refresh_decision o p r) (decision_number d)
holds (mutates g c b) = same b (eqb (fields_number mutation_codec (g ∷ c ∷ [])) 0)
holds (initial s) =
    eqb (decode_number current_codec s) 0 &&
    (eqb (decode_value current_codec s).durable_fence_token.0 0 &&
    (eqb (decode_value current_codec s).registered_socket_cookie.0 0 &&
    not (decode_value current_codec s).retirement_closed))

unfoldable pub all : List Example → Bool
all [] = true
all (x ∷ l) = holds x && all l

abbrev pub ExamplesHold : Type 0
ExamplesHold = all examples ≡ true
