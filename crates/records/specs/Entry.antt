-- Document 01, 'Record layouts': "Entry, 32: four zeros, control, token, deadline, epoch." Assumes nothing.
use Rattle.std.specs.Prelude.{ℕ, ◌%◌, ◌^◌, ◌<◌, ◌≡◌, Bool, true, false, cond, not, List, [], ◌∷◌, get_or, eqb, Result, MatchResult}
use Rattle.codec.specs.Words.{among, little, test, Codec}
use Rattle.records.specs.declared.entry.FenceEntryState.{FenceEntryState}
use Rattle.records.specs.declared.entry.FenceEntryState.TheVariants.{InitialClosed, Active, TerminalClosed, Reclaiming}
use Rattle.records.specs.declared.entry.UnknownControl.{UnknownControl}
use Rattle.records.specs.declared.entry.FenceEntry.{FenceEntry}
use Rattle.records.specs.declared.entry.EntryFields.{EntryFields}

-- the control word of each state
abbrev pub control_of : FenceEntryState → ℕ
control_of InitialClosed = 0x4f45_0101
control_of Active = 0x4f45_0102
control_of TerminalClosed = 0x4f45_0103
control_of Reclaiming = 0x4f45_01ff

-- the state of a control word that the rule accepts
abbrev pub state_from : ℕ → FenceEntryState
state_from k =
    cond (eqb k (control_of Active)) Active
    (cond (eqb k (control_of TerminalClosed)) TerminalClosed
    (cond (eqb k (control_of Reclaiming)) Reclaiming
    InitialClosed))

-- a control word is one of the four
unfoldable pub state_listed : ℕ → Bool
state_listed k = among k (control_of InitialClosed ∷ control_of Active ∷ control_of TerminalClosed ∷ control_of Reclaiming ∷ [])

-- what a word is read as: the state whose word it is, or a refusal with a word that is none of the four
abbrev pub Names : ℕ → Result FenceEntryState UnknownControl → Type 0
Names k r = MatchResult r (λ st. control_of st ≡ k) (λ e. (e.0 ≡ k) × (state_listed k ≡ false))

-- "Token odd"
abbrev pub odd_token : ℕ → Bool
odd_token t = not (eqb (t % 2) 0)

-- of control and deadline: "Active: deadline not 0"; of the other three, "deadline 0"
unfoldable pub deadline_fits : ℕ → ℕ → Bool
deadline_fits k d = cond (eqb k (control_of Active)) (not (eqb d 0)) (eqb d 0)

-- of control and epoch: InitialClosed, "epoch 1"; of the other three, "epoch not 0"
unfoldable pub epoch_fits : ℕ → ℕ → Bool
epoch_fits k e = cond (eqb k (control_of InitialClosed)) (eqb e 1) (not (eqb e 0))

abbrev pub entry : FenceEntryState → ℕ → ℕ → ℕ → FenceEntry
entry st t d e = record { state = st; durable_fence_token = record { 0 = t }; deadline_boot_ns = record { 0 = d }; control_epoch = record { 0 = e } }

abbrev pub entry_codec : Codec FenceEntry
entry_codec = record {
  layout = little 4 ∷ little 4 ∷ little 8 ∷ little 8 ∷ little 8 ∷ [];
  tests =
      test 0 (λ vs. eqb (get_or vs 0 0) 0) ∷
      test 4 (λ vs. state_listed (get_or vs 1 0)) ∷
      test 8 (λ vs. odd_token (get_or vs 2 0)) ∷
      test 16 (λ vs. deadline_fits (get_or vs 1 0) (get_or vs 3 0)) ∷
      test 24 (λ vs. epoch_fits (get_or vs 1 0) (get_or vs 4 0)) ∷ [];
  of = λ vs. entry (state_from (get_or vs 1 0)) (get_or vs 2 0) (get_or vs 3 0) (get_or vs 4 0);
  fields = λ v. 0 ∷ control_of v.state ∷ v.durable_fence_token.0 ∷ v.deadline_boot_ns.0 ∷ v.control_epoch.0 ∷ [];
  blank = entry InitialClosed 0 0 0;
}

-- the numbers of fields
abbrev pub entry_numbers : EntryFields → List ℕ
entry_numbers f = f.zeros ∷ f.control ∷ f.durable_fence_token.0 ∷ f.deadline_boot_ns.0 ∷ f.control_epoch.0 ∷ []

-- a value of its type
abbrev pub EntryFormed : FenceEntry → Type 0
EntryFormed v = (v.durable_fence_token.0 < 2 ^ 64) × (v.deadline_boot_ns.0 < 2 ^ 64) × (v.control_epoch.0 < 2 ^ 64)

-- every state but Active is closed; one is terminal, one is being reclaimed (lib.rs, `is_closed`, `is_terminal`, `is_reclaiming`)
abbrev pub closed : FenceEntryState → Bool
closed InitialClosed = true
closed Active = false
closed TerminalClosed = true
closed Reclaiming = true

abbrev pub terminal : FenceEntryState → Bool
terminal InitialClosed = false
terminal Active = false
terminal TerminalClosed = true
terminal Reclaiming = false

abbrev pub reclaiming : FenceEntryState → Bool
reclaiming InitialClosed = false
reclaiming Active = false
reclaiming TerminalClosed = false
reclaiming Reclaiming = true
