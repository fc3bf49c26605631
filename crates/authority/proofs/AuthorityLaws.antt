-- The two records obey the laws of every codec. What each has to show is that its numbers come back: of the mutation authority they are
-- the fields; of the current record the zeros are zero, and an accepted control word is the one that the record is written with.
-- Assumes nothing.
use Rattle.octets.specs.Words.{ℕ, ◌%◌, ◌^◌, ◌<◌, ◌≡◌, Bool, true, false, cond, not, ◌&&◌, ◌||◌, [], ◌∷◌, get_or, eqb}
use Rattle.octets.specs.Octets.{octets_at}
use Rattle.octets.proofs.Tools.{sym, ap, ◌∙◌, true≢false, arith, ne_eqb, eqb-true, eqb-false, not-true}
use lib.Dec.{lit<}
use Rattle.codec.specs.Codec.{ok}
use Rattle.octets.proofs.Choices.{and_left, and_right}
use Rattle.codec.proofs.CodecLaws.{refl, Lawful, listed, lead, laws}
use Rattle.authority.specs.Mutation.{mutation_codec, MutationFormed}
use Rattle.authority.specs.Current.{current, open_control, retired_control, current_listed, token_fits, current_control, current_codec, CurrentFormed}
use Rattle.authority.specs.Promises.{MutationLaws, CurrentLaws, TestsInOrder}

-- ---- the mutation authority, whose numbers are its fields

pub mutation-lawful : Lawful mutation_codec MutationFormed
unfolding octets_at
mutation-lawful = record { back = λ vs f h. listed mutation_codec vs f; forth = λ v f h. refl; fits = λ v f. (f.0, (f.1, tt)); counted = λ v. refl }

pub mutation-laws : MutationLaws
mutation-laws = laws mutation-lawful

-- ---- the current record

control-below : (b z : Bool) → cond b retired_control (cond z 0 open_control) < 256 ^ 4
control-below true z = lit< tt
control-below false true = lit< tt
control-below false false = lit< tt

-- a record's own control tells whether it is retired
retired-back : (b z : Bool) → eqb (cond b retired_control (cond z 0 open_control)) retired_control ≡ b
retired-back true z = refl
retired-back false true = refl
retired-back false false = refl

-- accepted numbers have the control that their record is written with
control-of : (k t c : ℕ) (b₀ b₁ b₂ : Bool) → eqb k 0 ≡ b₀ → eqb k open_control ≡ b₁ → eqb k retired_control ≡ b₂ →
    cond b₀ (eqb t 0 && eqb c 0) (b₁ || b₂) ≡ true → cond b₁ (not (eqb (t % 2) 0)) (cond b₂ (eqb (t % 2) 0 && not (eqb t 0)) true) ≡ true →
    current_control (current t c b₂) ≡ k
control-of k t c b₀ b₁ true e₀ e₁ e₂ h g = sym (eqb-true _ _ e₂)
control-of k t c true b₁ false e₀ e₁ e₂ h g = simp (and_left (eqb t 0) (eqb c 0) h) (sym (eqb-true _ _ e₀))
control-of k t c false true false e₀ e₁ e₂ h g =
    let odd : t % 2 ≡ 0 → ⊥ = eqb-false _ _ (not-true (eqb (t % 2) 0) g) in
    simp (ne_eqb t 0 (λ e. odd (omega arith))) (sym (eqb-true _ _ e₁))
control-of k t c false false false e₀ e₁ e₂ h g = absurd (true≢false (sym h))

current-back : (z k t c : ℕ) → ok current_codec (z ∷ k ∷ t ∷ c ∷ []) ≡ true → (current_control (current t c (eqb k retired_control)) ≡ k) × (z ≡ 0)
unfolding current_listed token_fits
current-back z k t c h =
    let one = and_right (eqb z 0) _ h in
    let two = and_right (current_listed k t c) _ one in
    (control-of k t c (eqb k 0) (eqb k open_control) (eqb k retired_control) refl refl refl (and_left _ _ one) (and_left _ _ two), eqb-true _ _ (and_left _ _ h))

pub current-lawful : Lawful current_codec CurrentFormed
unfolding octets_at
current-lawful = record {
  back = λ vs f h. let e = current-back (get_or vs 0 0) (get_or vs 1 0) (get_or vs 2 0) (get_or vs 3 0) h in lead (sym e.1) e.0 ∙ listed current_codec vs f;
  forth = λ v f h.
      ap (current v.durable_fence_token.0 v.registered_socket_cookie.0) (retired-back v.retirement_closed (eqb v.durable_fence_token.0 0));
  fits = λ v f. (lit< tt, (control-below v.retirement_closed (eqb v.durable_fence_token.0 0), (f.0, (f.1, tt))));
  counted = λ v. refl;
}

pub current-laws : CurrentLaws
current-laws = laws current-lawful

-- ---- the order of the tests

pub tests-in-order : TestsInOrder
tests-in-order = (refl, refl)
