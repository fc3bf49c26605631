-- The answer of each public function is its contract's alone; a head is told by its four numbers. Assumes nothing.
use Rattle.octets.specs.Words.{◌≡◌}
use Rattle.octets.proofs.Tools.{refl}
use Rattle.octets.specs.Determined.{Determined}
use Rattle.octets.proofs.UniqueLaws.{as-told, as-left, as-numbered}
use Rattle.codec.specs.declared.Head.{Head}
use Rattle.codec.specs.Head.{head_numbers}
use Rattle.codec.specs.Answers.{number_told}
use Rattle.codec.proofs.AnswerLaws.{done-injective}
use Rattle.codec.proofs as the

pub refusal-number-determined : Determined the.Refusal.number.Kinds.ps the.Refusal.number.Kinds.r the.Refusal.number.Reads.Learnt
refusal-number-determined κs a x y u v = as-told

pub check-room-determined : Determined the.check_room.Kinds.ps the.check_room.Kinds.r the.check_room.Reads.Learnt
check-room-determined κs a x y u v = as-numbered number_told done-injective x y

head-injective : (x y : Head) → head_numbers x ≡ head_numbers y → x ≡ y
head-injective x y e =
    let mark : x.mark ≡ y.mark = cc in
    let version : x.version ≡ y.version = cc in
    let byte : x.byte ≡ y.byte = cc in
    let zero : x.zero ≡ y.zero = cc in
    λ i. record { mark = mark i; version = version i; byte = byte i; zero = zero i }

pub get-head-determined : Determined the.get_head.Kinds.ps the.get_head.Kinds.r the.get_head.Reads.Learnt
get-head-determined κs a x y u v = as-numbered head_numbers head-injective x y

pub put-head-determined : Determined the.put_head.Kinds.ps the.put_head.Kinds.r the.put_head.Reads.Learnt
put-head-determined κs a x y u v = as-left u v refl
