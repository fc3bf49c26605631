-- The gate is `decide_egress` on what the records decode to. Where the rule that answers is none of 1, 6, 7 and 9, the gate's slot is
-- the one that lib.rs's decision has for the packet's context and the authority's snapshot: the rules are gone through in their
-- order, and each answers as the decision's test of the same place does. Assumes nothing.
use Rattle.std.specs.Prelude.{Option, None, Some}
use Rattle.octets.specs.Words.{ℕ, ◌≡◌, Bool, true, false, cond, not, ◌&&◌, ◌||◌, List, [], ◌∷◌, length, take, eqb}
use Rattle.octets.proofs.Tools.{refl, sym, ap, ◌∙◌, true≢false, eq-eqb, eqb-true, not-false}
use Rattle.octets.specs.Octets.{octets_at, le}
use Rattle.codec.proofs.CodecLaws.{accepted-ok}
use Rattle.codec.specs.Codec.{decode_value}
use Rattle.octets.proofs.Choices.{and_right}
use Rattle.authority.specs.Current.{current_codec}
use Rattle.records.specs.declared.entry.FenceEntry.{FenceEntry}
use Rattle.records.specs.Entry.{closed}
use Rattle.records.specs.CookieValue.{cookie_value_codec, entry_of}
use Rattle.packet.specs.Reading.{Disposition, protected}
use Rattle.packet.specs.Answers.{is_unrelated, is_indeterminate}
use Rattle.packet.proofs.Unique.{disposition-forth}
use Rattle.verdict.specs.Verdict.{slot_of, stale_authority, entry_verdict, registered_verdict, protected_verdict, egress_verdict}
use Rattle.verdict.specs.declared.FenceVerdict.TheVariants.{DropStaleToken}
use Rattle.verdict.specs.declared.FenceAuthoritySnapshot.{FenceAuthoritySnapshot}
use Rattle.table.specs.Table.{is_under, first_of}
use Rattle.gate.specs.Gate.{Call, decodes, stale, expired, differs, reading, token, registered, unread, View, view_of, value, Rule, rules, first_rule, answering, gate_of}
use Rattle.gate.specs.Inner.Steps.{from, numbered}
use Rattle.laws.specs.Decided.{undecoded, context_of, entry_in, snapshot_of, Decided}
use Rattle.table.proofs.TableLaws.{First, none, first, first_found}
use Rattle.gate.proofs.RuleLaws.{over, here, consulted-read}

-- the slot of a rule, and that it is none of those that answer for bytes
abbrev slot : Rule → Option ℕ
slot r = slot_of r.verdict

abbrev Judged : Rule → Type 0
Judged r = undecoded r.number ≡ false

-- from a rule on: by what it answers, and by what those after it do
cases : (n : ℕ) (v : View) (x : Option ℕ) {rest : List Rule} → from n rules ≡ numbered n rules ∷ rest →
    ((numbered n rules).applies v ≡ true → Judged (numbered n rules) → slot (numbered n rules) ≡ x) →
    ((numbered n rules).applies v ≡ false → Judged (first_rule rest v) → slot (first_rule rest v) ≡ x) →
    Judged (first_rule (from n rules) v) → slot (first_rule (from n rules) v) ≡ x
cases n v x listed f g j = go ((numbered n rules).applies v) refl
  where
    go : (b : Bool) → (numbered n rules).applies v ≡ b → slot (first_rule (from n rules) v) ≡ x
    go true q = let e = here v n listed q in ap slot e ∙ f q (sym (ap (λ r. undecoded r.number) e) ∙ j)
    go false q = let e = over v n listed q in ap slot e ∙ g q (sym (ap (λ r. undecoded r.number) e) ∙ j)

-- a third test that never holds adds nothing
or-none : (x y : Bool) → (x || (y || false)) ≡ (x || y)
or-none true y = refl
or-none false true = refl
or-none false false = refl

-- the slot of the first of three rules that applies, or of a fourth
by_three : (x y z : Bool) (p q r s : Rule) → slot (cond x p (cond y q (cond z r s))) ≡ cond x (slot p) (cond y (slot q) (cond z (slot r) (slot s)))
by_three true y z p q r s = refl
by_three false true z p q r s = refl
by_three false false true p q r s = refl
by_three false false false p q r s = refl

-- past rule 5 the decision is by what is registered
past : (k : ℕ) (s : FenceAuthoritySnapshot) → eqb k 0 ≡ false → registered_verdict k s.entry s ≡ protected_verdict k s
unfolding protected_verdict
past k s e = rw e

-- a record that decodes has the token of its bytes 16 to 23, and one that is found has the token that was sought
token-of : (r : List ℕ) → decodes cookie_value_codec r ≡ true → (decode_value cookie_value_codec r).durable_fence_token.0 ≡ le (octets_at r 16 8)
token-of r h = ap (λ v. v.durable_fence_token.0) (accepted-ok cookie_value_codec (record { number = sym (eqb-true _ _ h); value = refl })).1.1

sought-token : (k t : ℕ) (r : List ℕ) → is_under k t r ≡ true → le (octets_at r 16 8) ≡ t
unfolding is_under
sought-token k t r e = eqb-true _ _ (and_right (eqb (le (octets_at r 8 8)) k) _ e)

-- where a record is found, the token is not 0 and the record stands under it
pub record Standing (k t : ℕ) (found : List (List ℕ)) : Type 0 where
  pub token : eqb t 0 ≡ false
  pub keyed : is_under k t (first_of found) ≡ true

standing : (k t : ℕ) {rs : List (List ℕ)} → First k t rs → (x y : Bool) → let found = take 1 (cond (x && (y && not (eqb t 0))) rs []) in
    eqb (length found) 0 ≡ false → Standing k t found
unfolding first_of
standing k t f x y = go f x y (eqb t 0) refl
  where
    go : {rs : List (List ℕ)} → First k t rs → (x y z : Bool) → eqb t 0 ≡ z → let found = take 1 (cond (x && (y && not z)) rs []) in
        eqb (length found) 0 ≡ false → Standing k t found
    go none true true false q e = absurd (true≢false e)
    go (first r rs l u) true true false q e = record { token = q; keyed = u }
    go f true true true q e = absurd (true≢false e)
    go f true false z q e = absurd (true≢false e)
    go f false y z q e = absurd (true≢false e)

module _ (c : Call) where
  abbrev Missing : Bool
  Missing = eqb (length (view_of c).found) 0

  abbrev Readable : Bool
  Readable = decodes cookie_value_codec (first_of (view_of c).found)

  stands : Missing ≡ false → Standing c.cookie (token c) (view_of c).found
  unfolding view_of
  stands = standing c.cookie (token c) (first_found c.cookie (token c) c.table) (not (eqb c.cookie 0)) (decodes current_codec c.current)

  -- rules 10 to 13: the entry is the current one, so lib.rs's test for another asks no more than rule 10
  stale-is : Missing ≡ false → Readable ≡ true → stale_authority c.cookie (entry_of (value (view_of c))) (snapshot_of c) ≡ stale (registered c) c.cookie
  unfolding stale_authority
  stale-is m e =
      let s = stands m in
      let found = first_of (view_of c).found in
      let same : (value (view_of c)).durable_fence_token.0 ≡ token c = token-of found e ∙ sought-token c.cookie (token c) found s.keyed in
      rw (s.token, eq-eqb (value (view_of c)).durable_fence_token.0 (token c) same) (or-none (eqb (registered c) 0) (not (eqb c.cookie (registered c))))

  judged : Missing ≡ false → Readable ≡ true → slot (first_rule (from 10 rules) (view_of c)) ≡ registered_verdict c.cookie (entry_in c) (snapshot_of c)
  unfolding rules view_of entry_verdict
  judged m e =
      let v = view_of c in
      let present : entry_in c ≡ Some (entry_of (value v)) = rw m in
      by_three (stale (registered c) c.cookie) (closed (value v).state) (expired (value v).deadline_boot_ns.0 c.time) (numbered 10 rules) (numbered 11 rules) (numbered 12 rules) (numbered 13 rules) ∙
      ap (λ b. cond b (slot_of DropStaleToken) (entry_verdict (entry_of (value v)) c.time)) (sym (stale-is m e)) ∙
      ap (λ x. registered_verdict c.cookie x (snapshot_of c)) (sym present)

  abbrev Registered : Option FenceEntry → Option ℕ
  Registered x = registered_verdict c.cookie x (snapshot_of c)

  registered-is : eqb c.cookie 0 ≡ false → Registered (entry_in c) ≡ protected_verdict c.cookie (snapshot_of c)
  registered-is = past c.cookie (snapshot_of c)

  absent : Missing ≡ true → entry_in c ≡ None
  absent m = rw m

  -- rules 5 to 9
  looked-up : Judged (first_rule (from 5 rules) (view_of c)) → slot (first_rule (from 5 rules) (view_of c)) ≡ protected_verdict c.cookie (snapshot_of c)
  unfolding rules view_of protected_verdict
  looked-up =
      let v = view_of c in
      cases 5 v _ refl (λ k _. rw k) (λ k.
      cases 6 v _ refl (λ _ j. absurd (true≢false j)) (λ _.
      cases 7 v _ refl (λ _ j. absurd (true≢false j)) (λ _.
      cases 8 v _ refl (λ m _. ap Registered (sym (absent m)) ∙ registered-is k) (λ m.
      cases 9 v _ refl (λ _ j. absurd (true≢false j)) (λ e _. judged m (not-false Readable e) ∙ registered-is k)))))

  -- rules 3 and 4, past rules 1 and 2: the packet is consulted where the socket differs
  consulted-is : (P : Disposition → Bool) → P protected ≡ false → not (view_of c).configured ≡ false → not (view_of c).attached ≡ false →
      P (view_of c).reading.disposition ≡ (differs c && P (reading c).disposition)
  consulted-is P z d a = ap (λ r. P r.disposition) (consulted-read c d a) ∙ go (differs c)
    where
      go : (b : Bool) → P (cond b (reading c) unread).disposition ≡ (b && P (reading c).disposition)
      go true = refl
      go false = z

  decided : Judged (first_rule rules (view_of c)) → slot (first_rule rules (view_of c)) ≡ egress_verdict (context_of c) (snapshot_of c)
  unfolding rules view_of egress_verdict
  decided =
      let v = view_of c in
      cases 1 v _ refl (λ _ j. absurd (true≢false j)) (λ d.
      cases 2 v _ refl (λ a _. rw a) (λ a.
      let u-is = consulted-is is_unrelated refl d a in
      let i-is = consulted-is is_indeterminate refl d a in
      cases 3 v _ refl (λ u _. rw (a, disposition-forth, sym u-is ∙ u)) (λ u.
      cases 4 v _ refl (λ i _. rw (a, disposition-forth, sym u-is ∙ u, sym i-is ∙ i)) (λ i j. rw (a, disposition-forth, sym u-is ∙ u, sym i-is ∙ i) (looked-up j)))))

pub is-decide-egress : Decided
unfolding gate_of answering
is-decide-egress c j = decided c j
