-- The first rule that applies answers, by induction on the list; of a list that ends in 'Allow' one always does; and so of the gate's.
-- The header count is one of a packet's reading, or 0. Assumes nothing.
use Rattle.octets.specs.Words.{zero, suc, ◌-◌, ◌<◌, ◌≤◌, ◌≡◌, Bool, true, false, List, [], ◌∷◌, ◌++◌, length, take}
use Rattle.octets.proofs.Tools.{refl, ap, arith}
use Rattle.octets.proofs.Choices.{cond-all}
use Rattle.packet.specs.Reading.{Answer as Reading}
use Rattle.packet.proofs.Count as packet
use Rattle.verdict.specs.Verdict.{slot_of}
use Rattle.gate.specs.Gate.{endpoint, consulted, View, view_of, Rule, allow, rules, answering, headers_of, gate_of}
use Rattle.gate.specs.Promises.{None, FirstThatApplies, Found, SomeRuleApplies, RuleAnswers, NumberedInOrder, CountAtMost4}

pub first-that-applies : FirstThatApplies
first-that-applies [] n v h e = refl
first-that-applies (r ∷ rs) zero v h e = simp e
first-that-applies (r ∷ rs) (suc n) v h e = rw (h 0 (omega arith)) (first-that-applies rs n v (λ m l. h (suc m) (omega arith)) e)

found-before-allow : (rs : List Rule) (v : View) → Found (rs ++ (allow ∷ [])) v
found-before-allow [] v = record { place = 0; inside = omega arith; none = λ m l. absurd (omega arith); applies = refl; answers = refl }
found-before-allow (r ∷ rs) v = go (r.applies v) refl (found-before-allow rs v)
  where
    none-now : (f : Found (rs ++ (allow ∷ [])) v) → r.applies v ≡ false → None (r ∷ rs ++ (allow ∷ [])) (suc f.place) v
    none-now f q zero l = q
    none-now f q (suc m) l = f.none m (omega arith)

    go : (b : Bool) → r.applies v ≡ b → Found (rs ++ (allow ∷ [])) v → Found (r ∷ rs ++ (allow ∷ [])) v
    go true q f = record { place = 0; inside = omega arith; none = λ m l. absurd (omega arith); applies = q; answers = simp q }
    go false q f = record {
      place = suc f.place;
      inside = let h : f.place < length (rs ++ (allow ∷ [])) = f.inside in omega arith;
      none = none-now f q;
      applies = f.applies;
      answers = rw q f.answers;
    }

pub some-rule-applies : SomeRuleApplies
unfolding rules
some-rule-applies v = found-before-allow (take (length rules - 1) rules) v

pub rule-answers : RuleAnswers
unfolding answering gate_of
rule-answers n c h e = let r = first-that-applies rules n (view_of c) h e in (r, ap (λ x. slot_of x.verdict) r)

pub numbered-in-order : NumberedInOrder
unfolding rules
numbered-in-order = refl

pub count-at-most-4 : CountAtMost4
unfolding headers_of view_of
count-at-most-4 c = cond-all (λ (r : Reading). r.headers ≤ 4) (consulted c) (packet.count-at-most-4 c.packet (endpoint c)) (omega arith)
