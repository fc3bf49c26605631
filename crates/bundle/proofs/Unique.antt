-- The answer of each public function is its contract's alone, and so are the lent bytes. What comes next stands for one thing of the
-- definitions, and two that stand for the same are the same: they are of one kind, with one cursor, and a packet of one length. Assumes
-- nothing.
use Rattle.octets.specs.Words.{ℕ, ◌-◌, ◌≡◌, List, length}
use Rattle.octets.proofs.Tools.{refl, sym, ap, ◌∙◌, arith}
use Rattle.octets.proofs.OctetsLaws.{length-octets}
use Rattle.octets.proofs.UniqueLaws.{as-told, as-numbered}
use Rattle.octets.specs.Determined.{Determined}
use Rattle.gate.specs.Gate.{answer_of}
use Rattle.gate.proofs.Unique.{answer-injective}
use Rattle.bundle.specs.Feed.{ended, bad, Next, called, over}
use Rattle.bundle.specs.Frames.{call_of}
use Rattle.bundle.specs.Cursor.{Desk, next_is}
use Rattle.bundle.specs.declared.frames.Next.{Next as Told}
use Rattle.bundle.specs.declared.frames.Next.TheVariants as told
use Rattle.bundle.proofs as the

pub start-determined : Determined the.frames.start.Kinds.ps the.frames.start.Kinds.r the.frames.start.Reads.Learnt
start-determined κs a x y u v = as-told

pub judge-determined : Determined the.calls.judge.Kinds.ps the.calls.judge.Kinds.r the.calls.judge.Reads.Learnt
judge-determined κs a x y u v = as-numbered answer_of answer-injective x y

-- ---- what comes next

-- what it is, in parts: the desk, the kind, the length of a packet
abbrev desk_of : Next Desk → Desk
desk_of (called k d) = d
desk_of (over e d) = d

abbrev kind_of : Next Desk → ℕ
kind_of (called k d) = 0
kind_of (over ended d) = 1
kind_of (over (bad at) d) = 2

abbrev size_of : Next Desk → ℕ
size_of (called k d) = length k.packet
size_of (over e d) = 0

next-injective : (s t t' : List ℕ) (x y : Told) → next_is s t x ≡ next_is s t' y → x ≡ y
unfolding call_of
next-injective s t t' (told.Packet c n) (told.Packet c' n') h =
    let same : n ≡ n' = sym (length-octets s (c.at - n) n) ∙ ap size_of h ∙ length-octets s (c'.at - n') n' in
    λ i. told.Packet (desk_of (h i)).cursor (same i)
next-injective s t t' (told.Ended c) (told.Ended c') h = λ i. told.Ended (desk_of (h i)).cursor
next-injective s t t' (told.Bad c) (told.Bad c') h = λ i. told.Bad (desk_of (h i)).cursor
next-injective s t t' (told.Packet c n) (told.Ended c') h = absurd (omega (arith, ap kind_of h))
next-injective s t t' (told.Packet c n) (told.Bad c') h = absurd (omega (arith, ap kind_of h))
next-injective s t t' (told.Ended c) (told.Packet c' n') h = absurd (omega (arith, ap kind_of h))
next-injective s t t' (told.Ended c) (told.Bad c') h = absurd (omega (arith, ap kind_of h))
next-injective s t t' (told.Bad c) (told.Packet c' n') h = absurd (omega (arith, ap kind_of h))
next-injective s t t' (told.Bad c) (told.Ended c') h = absurd (omega (arith, ap kind_of h))

table_same : (s t t' : List ℕ) (x y : Told) → next_is s t x ≡ next_is s t' y → t ≡ t'
table_same s t t' x y h = held_by s t x ∙ ap (λ k. (desk_of k).table) h ∙ sym (held_by s t' y)
  where
    held_by : (s t : List ℕ) (x : Told) → t ≡ (desk_of (next_is s t x)).table
    held_by s t (told.Packet c n) = refl
    held_by s t (told.Ended c) = refl
    held_by s t (told.Bad c) = refl

pub next-packet-determined : Determined the.frames.next_packet.Kinds.ps the.frames.next_packet.Kinds.r the.frames.next_packet.Reads.Learnt
next-packet-determined κs a x y u v p q =
    let same = p ∙ sym q in
    (next-injective _ _ _ x y same, λ i. (u.0, (table_same _ _ _ x y same i, u.1.1)))
