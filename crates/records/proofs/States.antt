-- The states of an entry have one control word each: a state is back from its word, and a word that is listed from its state. By cases on
-- the four. Assumes nothing.
use Rattle.octets.specs.Words.{ℕ, ◌^◌, ◌<◌, ◌≡◌, Bool, true, false, cond, ◌||◌, eqb}
use Rattle.octets.proofs.Tools.{refl, sym, ap, ◌∙◌, true≢false, eqb-true}
use lib.Dec.{lit<}
use Rattle.records.specs.declared.entry.FenceEntryState.{FenceEntryState}
use Rattle.records.specs.declared.entry.FenceEntryState.TheVariants.{InitialClosed, Active, TerminalClosed, Reclaiming}
use Rattle.records.specs.Entry.{control_of, state_from, state_listed}

pub state-back : (st : FenceEntryState) → state_from (control_of st) ≡ st
state-back InitialClosed = refl
state-back Active = refl
state-back TerminalClosed = refl
state-back Reclaiming = refl

pub control-injective : (a b : FenceEntryState) → control_of a ≡ control_of b → a ≡ b
control-injective a b h = sym (state-back a) ∙ ap state_from h ∙ state-back b

pub control-fits : (st : FenceEntryState) → control_of st < 256 ^ 4
control-fits InitialClosed = lit< tt
control-fits Active = lit< tt
control-fits TerminalClosed = lit< tt
control-fits Reclaiming = lit< tt

control-of : (k : ℕ) (b₁ b₂ b₃ b₄ : Bool) → eqb k (control_of InitialClosed) ≡ b₁ → eqb k (control_of Active) ≡ b₂ → eqb k (control_of TerminalClosed) ≡ b₃ → eqb k (control_of Reclaiming) ≡ b₄ →
    (b₁ || (b₂ || (b₃ || (b₄ || false)))) ≡ true → control_of (cond b₂ Active (cond b₃ TerminalClosed (cond b₄ Reclaiming InitialClosed))) ≡ k
control-of k b₁ true b₃ b₄ e₁ e₂ e₃ e₄ h = sym (eqb-true _ _ e₂)
control-of k b₁ false true b₄ e₁ e₂ e₃ e₄ h = sym (eqb-true _ _ e₃)
control-of k b₁ false false true e₁ e₂ e₃ e₄ h = sym (eqb-true _ _ e₄)
control-of k true false false false e₁ e₂ e₃ e₄ h = sym (eqb-true _ _ e₁)
control-of k false false false false e₁ e₂ e₃ e₄ h = absurd (true≢false (sym h))

pub control-listed : (st : FenceEntryState) → state_listed (control_of st) ≡ true
unfolding state_listed
control-listed InitialClosed = refl
control-listed Active = refl
control-listed TerminalClosed = refl
control-listed Reclaiming = refl

pub control-back : (k : ℕ) → state_listed k ≡ true → control_of (state_from k) ≡ k
unfolding state_listed
control-back k h = control-of k (eqb k (control_of InitialClosed)) (eqb k (control_of Active)) (eqb k (control_of TerminalClosed)) (eqb k (control_of Reclaiming)) refl refl refl refl h
