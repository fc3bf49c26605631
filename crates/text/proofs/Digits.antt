-- The digits of a number are those that a division by ten after the other gives, the last digit first; they are as many as the powers of
-- ten that the number reaches, and spell it. Each by induction on the digits. Assumes nothing.
use Rattle.octets.specs.Words.{ℕ, zero, suc, ◌+◌, ◌-◌, ◌*◌, ◌/◌, ◌%◌, ◌^◌, ◌<◌, ◌≤◌, ◌≡◌, Bool, true, false, cond, List, [], ◌∷◌, ◌++◌, length, take, drop, set, ltb}
use Rattle.octets.proofs.Tools.{sym, ◌∙◌, refl, arith, lt-ltb, le-ltb}
use Rattle.octets.proofs.Choices.{pick}
use mathlib.Core.List.{append-nil}
use lib.ListN.{length-append, length-set, length-drop, drop_of_length-le}
use lib.Seq.{take_all, drop-set-lt, drop-cons, get_or-set_same, append_snoc}
use native.Mathlib.Nat.{pow-suc}
use Rattle.text.specs.Text.{decimal_in, decimal}
use Rattle.text.specs.Promises.{spelled, ReadsBack, FewDigits}

-- ---- the digits, the last first

pub one-digit : (n p : ℕ) → 0 < p → n < 10 → decimal_in p n ≡ (48 + n) ∷ []
unfolding decimal_in
one-digit n zero h l = elim h [ ]
one-digit n (suc p) h l = rw (lt-ltb n 10 l)

more-digits : (n p : ℕ) → 10 ≤ n → decimal_in (p + 1) n ≡ decimal_in p (n / 10) ++ ((48 + n % 10) ∷ [])
unfolding decimal_in
more-digits n p l = let e : p + 1 ≡ suc p = omega arith in rw (e, le-ltb n 10 l)

-- the digits from i on stand in d, and those of m are still to come before them
pub record Digits (n i m : ℕ) (d : List ℕ) : Type 0 where
  pub room : length d ≡ 20
  pub inside : i ≤ 20
  pub whole : decimal n ≡ decimal_in i m ++ drop i d

drop-set : (d : List ℕ) (i v : ℕ) → i < length d → drop i (set d i v) ≡ v ∷ drop (i + 1) d
drop-set d i v h =
    let e : i + 1 ≡ suc i = omega arith in
    rw (e, drop-cons (set d i v) i 0 (rw length-set h), get_or-set_same d i v 0 h, drop-set-lt (suc i) d i v (omega arith))

pub digits-start : (n : ℕ) (d : List ℕ) → length d ≡ 20 → Digits n 20 n d
digits-start n d e = record { room = e; inside = omega arith; whole = rw (drop_of_length-le d {i = 20} (omega arith), append-nil) }

module _ {n i m : ℕ} {d : List ℕ} (g : Digits n i m d) (h : 0 < i) where
  abbrev before : ℕ
  before = i - 1

  one_less : before + 1 ≡ i
  one_less = omega arith

  -- a digit is stored before the others, and what is left is a tenth
  pub digit-more : 10 ≤ m → Digits n (i - 1) (m / 10) (set d (i - 1) (48 + m % 10))
  digit-more l =
      let e = one_less in
      let b : i - 1 < length d = omega (arith, g.room, g.inside) in
      record {
        room = length-set d (i - 1) _ ∙ g.room;
        inside = omega (arith, g.inside);
        whole = g.whole ∙ rw (drop-set d (i - 1) (48 + m % 10) b, ← append_snoc (decimal_in (i - 1) (m / 10)) (48 + m % 10) (drop (i - 1 + 1) d), ← more-digits m (i - 1) l, e);
      }

  -- the first digit
  pub digit-last : m < 10 → take (20 - (i - 1)) (drop (i - 1) (set d (i - 1) (48 + m))) ≡ decimal n
  digit-last l =
      let e = one_less in
      let b : i - 1 < length d = omega (arith, g.room, g.inside) in
      take_all (20 - (i - 1)) (drop (i - 1) (set d (i - 1) (48 + m))) (simp (length-drop, length-set) (omega (arith, g.room))) ∙
      sym (g.whole ∙ rw (drop-set d (i - 1) (48 + m) b, one-digit m i h l, e))

-- no room is left, and no digit
pub digits-full : {n i m : ℕ} {d : List ℕ} → Digits n i m d → i ≡ 0 → d ≡ decimal n
unfolding decimal_in
digits-full {i = zero} g h = sym g.whole
digits-full {i = suc _} g h = absurd (omega arith)

-- ---- how many they are

short : (p k n : ℕ) → n < 10 ^ suc k → length (decimal_in p n) ≤ suc k
unfolding decimal_in
short zero k n h = omega arith
short (suc p) zero n h = rw (lt-ltb n 10 h) (omega arith)
short (suc p) (suc k) n h =
    let m : n < 10 ^ suc k * 10 = rw pow-suc at h in
    let rest : length (decimal_in p (n / 10)) ≤ suc k = short p k (n / 10) (omega arith) in
    pick (λ t. length t ≤ suc (suc k)) (ltb n 10) {x = (48 + n) ∷ []} {y = decimal_in p (n / 10) ++ ((48 + n % 10) ∷ [])} (λ e. omega arith) (λ e. rw length-append (omega arith))

pub few-digits : FewDigits
few-digits k n h = short 20 k n h

-- ---- the number is read back

spelled-last : (m : ℕ) (s : List ℕ) (d : ℕ) → spelled m (s ++ (d ∷ [])) ≡ spelled m s * 10 + (d - 48)
unfolding spelled
spelled-last m [] d = refl
spelled-last m (x ∷ s) d = spelled-last (m * 10 + (x - 48)) s d

spelled-one : (n : ℕ) → spelled 0 ((48 + n) ∷ []) ≡ n
unfolding spelled
spelled-one n = omega arith

spelled_none : (n : ℕ) → n ≡ 0 → spelled 0 [] ≡ n
unfolding spelled
spelled_none n e = sym e

spelled-digits : (t : Bool) (n : ℕ) (a : List ℕ) → spelled 0 a ≡ n / 10 → spelled 0 (cond t ((48 + n) ∷ []) (a ++ ((48 + n % 10) ∷ []))) ≡ n
spelled-digits true n a e = spelled-one n
spelled-digits false n a e = spelled-last 0 a (48 + n % 10) ∙ omega arith

read_back : (p n : ℕ) → n < 10 ^ p → spelled 0 (decimal_in p n) ≡ n
unfolding decimal_in
read_back zero n h = spelled_none n (omega arith)
read_back (suc p) n h =
    let m : n < 10 ^ p * 10 = rw pow-suc at h in
    spelled-digits (ltb n 10) n (decimal_in p (n / 10)) (read_back p (n / 10) (omega arith))

pub decimals-read-back : ReadsBack
decimals-read-back n h = read_back 20 n h
