-- The pinned packets' places, and that none of them can be left out: one test for each place, whether the two readings have one number
-- and one count, over the whole list, which the checker computes. Assumes nothing.
use Rattle.octets.specs.Words.{ℕ, ◌≡◌, Bool, true, not, ◌&&◌, List, [], ◌∷◌, set, eqb}
use Rattle.octets.proofs.Tools.{refl, sym, ap, ◌∙◌, true≢false, eq-eqb}
use Rattle.octets.proofs.Choices.{both}
use Rattle.octets.specs.Octets.{octets_at, le, be, same_octets}
use Rattle.octets.specs.Lists.{inside}
use Rattle.packet.specs.Reading.{Answer, sort_of, udp_of, pass_of, counted_of, fragment_of, step_of, walk_of, ipv4_head, ipv6_head, known, classify_of}
use Rattle.isolation.specs.Places.{udp_places, step_places, walk_places, named}
use Rattle.packet.specs.Answers.{disposition_number}
use Rattle.packet.specs.Example.{endpoint4500, A}
use Rattle.isolation.specs.Pinned.{Pin, pinned, Each, Matters, PlacesPinned, NoneLeftOut}

differ : Answer → Answer → Bool
differ r q = not (eqb (disposition_number r.disposition) (disposition_number q.disposition) && eqb r.headers q.headers)

apart : (r q : Answer) → differ r q ≡ true → r ≡ q → ⊥
unfolding differ
apart r q d e =
    true≢false (sym d ∙ ap (λ x. differ x q) e ∙ simp (eq-eqb (disposition_number q.disposition) _ refl, eq-eqb q.headers _ refl))

-- a test that holds of each thing in a list
every : {A : Type 0} → (A → Bool) → List A → Bool
every f [] = true
every f (x ∷ l) = f x && every f l

each : {A : Type 0} (P : A → Type 0) (f : A → Bool) → ((x : A) → f x ≡ true → P x) → (l : List A) → every f l ≡ true → Each P l
unfolding every
each P f g [] q = tt
each P f g (x ∷ l) q = let r = both (f x) (every f l) q in (g x r.0, each P f g l r.1)

matters : Pin → ℕ → Bool
matters x k = differ (classify_of (set x.packet k x.other) x.endpoint) (classify_of x.packet x.endpoint)

all-matter : every (λ x. every (matters x) x.named) pinned ≡ true
unfolding every matters differ pinned endpoint4500 A octets_at le be same_octets sort_of udp_of pass_of counted_of fragment_of step_of walk_of ipv4_head ipv6_head known classify_of
all-matter = refl

pub none-left-out : NoneLeftOut
unfolding matters
none-left-out = each _ _ (λ x. each (Matters x) (matters x) (λ k. apart _ _) x.named) pinned all-matter

pub places-pinned : PlacesPinned
unfolding pinned endpoint4500 A octets_at le be same_octets sort_of udp_of pass_of counted_of fragment_of step_of ipv4_head ipv6_head inside udp_places step_places walk_places named
places-pinned = refl
