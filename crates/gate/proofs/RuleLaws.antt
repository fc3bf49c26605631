-- The laws of the list of rules, each rule found by its number: one that does not apply is passed over, and one that applies answers.
-- Then what each test of the gate's code says of the rule that it stands for. Assumes nothing.
use Rattle.octets.specs.Words.{ℕ, ◌≡◌, Bool, true, false, cond, not, List, [], ◌∷◌, map, length, take, eqb}
use Rattle.octets.proofs.Tools.{refl, ap, ◌∙◌, ne_eqb, not-true, not-false}
use Rattle.endpoint.specs.declared.ProtectedEndpoint.{ProtectedEndpoint}
use Rattle.config.specs.Config.{config_codec}
use Rattle.authority.specs.Current.{current_codec}
use Rattle.packet.specs.Reading.{classify_of}
use Rattle.octets.proofs.Choices.{cond-all}
use Rattle.verdict.specs.Verdict.{slot_of}
use Rattle.verdict.specs.declared.FenceVerdict.{FenceVerdict}
use Rattle.gate.specs.declared.Socket.{Socket}
use Rattle.gate.specs.declared.Ruling.{Ruling}
use Rattle.table.specs.Table.{records, under, first_of}
use Rattle.gate.specs.Gate.{Call, decodes, matches, root, differs, reading, token, unread, View, view_of, Rule, allow, rules, first_rule, answering, headers_of, gate_of, answer_of}
use Rattle.gate.specs.Inner.Steps.{source_of, sought_record, rule_number, from, numbered, registration, Ruled}
use Rattle.table.proofs.TableLaws.{first_found, held, first-held}

-- ---- the list

-- of the rules from the one numbered n on: those from the one numbered m on answer
abbrev pub Past : ℕ → ℕ → View → Type 0
Past n m v = first_rule (from n rules) v ≡ first_rule (from m rules) v

module _ (v : View) (n : ℕ) {rest : List Rule} (listed : from n rules ≡ numbered n rules ∷ rest) where
  pub over : (numbered n rules).applies v ≡ false → first_rule (from n rules) v ≡ first_rule rest v
  over e = rw (listed, e)

  pub here : (numbered n rules).applies v ≡ true → first_rule (from n rules) v ≡ numbered n rules
  here e = rw (listed, e)

-- what is the same of each rule in two ways is so of the rule that answers
pub same_first : {X : Type 0} (f g : Rule → X) (rs : List Rule) (v : View) → map f rs ≡ map g rs → f allow ≡ g allow → f (first_rule rs v) ≡ g (first_rule rs v)
same_first f g [] v e a = a
same_first f g (r ∷ rs) v e a =
    let here : f r ≡ g r = cc in
    let later : map f rs ≡ map g rs = cc in
    cond-all (λ x. f x ≡ g x) (r.applies v) here (same_first f g rs v later a)

-- the rule that answers is the one of its number
pub of_number : (v : View) → (numbered (first_rule rules v).number rules).verdict ≡ (first_rule rules v).verdict
unfolding rules
of_number v = same_first (λ r. (numbered r.number rules).verdict) (λ r. r.verdict) rules v refl refl

-- so the answer is made of its number and of the reading
pub answered : (c : Call) (r : Ruling) (x : FenceVerdict) → x ≡ (numbered (rule_number r.rule) rules).verdict → Ruled c r →
    answer_of (record { verdict = x; headers = r.reading.headers }) ≡ gate_of c
unfolding answering headers_of gate_of
answered c r x p q =
    let verdict : x ≡ (first_rule rules (view_of c)).verdict = p ∙ ap (λ n. (numbered n rules).verdict) q.number ∙ of_number (view_of c) in
    λ i. record { slot = slot_of (verdict i); headers = (q.reading i).headers }

-- ---- the tests

-- of the packet's reading: under rules 1 and 2 it is not consulted, and past them where the socket differs
module _ (c : Call) where
  pub unread-1 : not (view_of c).configured ≡ true → (view_of c).reading ≡ unread
  unfolding view_of
  unread-1 d = rw (not-true (decodes config_codec c.config) d)

  pub unread-2 : not (view_of c).configured ≡ false → not (view_of c).attached ≡ true → (view_of c).reading ≡ unread
  unfolding view_of
  unread-2 d a = rw (not-false (decodes config_codec c.config) d, not-true (eqb c.attachment (root c)) a)

  pub consulted-read : not (view_of c).configured ≡ false → not (view_of c).attached ≡ false → (view_of c).reading ≡ cond (differs c) (reading c) unread
  unfolding view_of
  consulted-read d a = rw (not-false (decodes config_codec c.config) d, not-false (eqb c.attachment (root c)) a)

pub source-read : (s : Socket) (p : List ℕ) (e : ProtectedEndpoint) → cond (not (matches s e)) (classify_of p e) unread ≡ source_of s p e
unfolding source_of
source-read s p e = go (matches s e)
  where
    go : (b : Bool) → cond (not b) (classify_of p e) unread ≡ cond b unread (classify_of p e)
    go true = refl
    go false = refl

-- past rules 5 and 6 the record that the view has is the one that is sought under the token
sought-held : (k t : ℕ) (table : List ℕ) → take 1 (cond (not (eqb t 0)) (under k t (records table)) []) ≡ held (sought_record k t table)
unfolding sought_record
sought-held k t table = go (eqb t 0)
  where
    go : (b : Bool) → take 1 (cond (not b) (under k t (records table)) []) ≡ held (cond b [] (first_of (under k t (records table))))
    go true = refl
    go false = first-held (first_found k t table)

pub found-held : (c : Call) → eqb c.cookie 0 ≡ false → not (decodes current_codec c.current) ≡ false →
    (view_of c).found ≡ held (sought_record c.cookie (token c) c.table)
unfolding view_of
found-held c k d = rw (k, not-false (decodes current_codec c.current) d) (sought-held c.cookie (token c) c.table)

pub held_none : (s : List ℕ) → eqb (length (held s)) 0 ≡ eqb (length s) 0
held_none s = go (eqb (length s) 0)
  where
    go : (b : Bool) → eqb (length (cond b [] (s ∷ []))) 0 ≡ b
    go true = refl
    go false = refl

pub held_one : (s : List ℕ) → (length s ≡ 0 → ⊥) → held s ≡ s ∷ []
held_one s h = rw (ne_eqb _ _ h)

-- rules 9 to 13 look at the record that is found, the registered cookie, k and the time
pub at-record : (v : View) (f : List (List ℕ)) (g : ℕ) → v.found ≡ f → v.registered ≡ g →
    first_rule (from 9 rules) v ≡ first_rule (from 9 rules) (registration f g v.cookie v.time)
unfolding rules
at-record v f g p q = λ i. first_rule (from 9 rules) (registration (p i) (q i) v.cookie v.time)
