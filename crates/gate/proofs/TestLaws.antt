-- The rules as the code asks them, one test after the other: the number of the rule that answers, of a record that was found, of a packet that
-- is the endpoint's, and of any call. Each follows from the list of rules by what the bytes decode to. Assumes nothing.
use Rattle.octets.specs.Words.{ℕ, ◌≡◌, Bool, true, false, cond, not, List, [], ◌∷◌, length, eqb}
use Rattle.octets.proofs.Tools.{refl, sym, ap, ◌∙◌, eq-eqb, ne_eqb, eqb-false, true≢false}
use Rattle.codec.specs.Codec.{Codec, Decoded}
use Rattle.config.specs.Config.{config_codec}
use Rattle.config.specs.declared.FenceConfig.{FenceConfig}
use Rattle.authority.specs.Current.{current_codec}
use Rattle.authority.specs.declared.current.CurrentFenceToken.{CurrentFenceToken}
use Rattle.packet.specs.Reading.{Answer as Reading}
use Rattle.packet.specs.Answers.{is_unrelated, is_indeterminate}
use Rattle.records.specs.Entry.{closed}
use Rattle.records.specs.CookieValue.{cookie_value_codec}
use Rattle.records.specs.declared.cookie_value.FenceCookieValue.{FenceCookieValue}
use Rattle.table.specs.Table.{admissible, first_of}
use Rattle.table.proofs.TableLaws.{held}
use Rattle.gate.specs.Gate.{Call, decodes, stale, expired, unread, endpoint, View, view_of, Rule, rules, first_rule, answering}
use Rattle.gate.specs.Inner.Steps.{from, numbered, lookup, sought_record, registration, source_of}
use Rattle.gate.proofs.RuleLaws.{over, unread-1, unread-2, consulted-read, source-read, found-held, held_none, held_one, at-record}

-- ---- a test, and what is asked where it fails

choose : (b : Bool) (r s : Rule) {n : ℕ} → (b ≡ false → s.number ≡ n) → (cond b r s).number ≡ cond b r.number n
choose true r s h = refl
choose false r s h = h refl

skip : (b : Bool) (r s : Rule) {n : ℕ} → b ≡ false → s.number ≡ n → (cond b r s).number ≡ n
skip true r s e h = absurd (true≢false e)
skip false r s e h = h

-- ---- what bytes decode to

decoded : {R : Type 0} {C : Codec R} {s : List ℕ} {x : R} → Decoded C s 0 x → decodes C s ≡ true
decoded d = eq-eqb _ _ (sym d.number)

undecoded : {R : Type 0} {C : Codec R} {s : List ℕ} {n : ℕ} {x : R} → (n ≡ 0 → ⊥) → Decoded C s n x → decodes C s ≡ false
undecoded h d = ne_eqb _ _ (λ e. h (d.number ∙ e))

-- ---- rules 9 to 13, of the record s that was found

module _ (s : List ℕ) (g k b : ℕ) where
  pub judged : (x : FenceCookieValue) → Decoded cookie_value_codec s 0 x →
      (first_rule (from 9 rules) (registration (s ∷ []) g k b)).number ≡ cond (stale g k) 10 (cond (closed x.state) 11 (cond (expired x.deadline_boot_ns.0 b) 12 13))
  unfolding rules first_of
  judged x d = rw (decoded d, ← d.value) (choose (stale g k) _ _ (λ p. choose (closed x.state) _ _ (λ q. choose (expired x.deadline_boot_ns.0 b) _ _ (λ r. refl))))

  pub not_judged : {n : ℕ} {x : FenceCookieValue} → (n ≡ 0 → ⊥) → Decoded cookie_value_codec s n x → (first_rule (from 9 rules) (registration (s ∷ []) g k b)).number ≡ 9
  unfolding rules first_of
  not_judged h d = rw (undecoded h d)

-- ---- rules 5 to 13

module _ (k : ℕ) (u t : List ℕ) (b : ℕ) where
  -- the record that is found, where the current one decodes to x
  found : (x : CurrentFenceToken) → Decoded current_codec u 0 x → eqb k 0 ≡ false → (view_of (lookup k u t b)).found ≡ held (sought_record k x.durable_fence_token.0 t)
  found x d e = found-held (lookup k u t b) e (ap not (decoded d)) ∙ ap (λ w. held (sought_record k w.durable_fence_token.0 t)) (sym d.value)

  -- so rule 8 is asked of f, and the later rules of it and the registered cookie
  sought : (x : CurrentFenceToken) (d : Decoded current_codec u 0 x) (f : List ℕ) → f ≡ sought_record k x.durable_fence_token.0 t → eqb k 0 ≡ false →
      (first_rule (from 8 rules) (view_of (lookup k u t b))).number
      ≡ cond (eqb (length f) 0) 8 (first_rule (from 9 rules) (registration (f ∷ []) x.registered_socket_cookie.0 k b)).number
  unfolding rules view_of
  sought x d f e k0 = go (eqb (length f) 0) refl
    where
      v : View
      v = view_of (lookup k u t b)

      here : v.found ≡ held f
      here = found x d k0 ∙ ap held (sym e)

      names : v.registered ≡ x.registered_socket_cookie.0
      names = ap (λ w. w.registered_socket_cookie.0) (sym d.value)

      go : (z : Bool) → eqb (length f) 0 ≡ z →
          (first_rule (from 8 rules) (view_of (lookup k u t b))).number ≡ cond z 8 (first_rule (from 9 rules) (registration (f ∷ []) x.registered_socket_cookie.0 k b)).number
      go true z = rw (here, held_none f, z) refl
      go false z = ap (λ r. r.number) (over v 8 refl (ap (λ l. eqb (length l) 0) here ∙ held_none f ∙ z) ∙ at-record v _ _ (here ∙ held_one f (eqb-false _ _ z)) names)

  pub looked_up : (x : CurrentFenceToken) → Decoded current_codec u 0 x → (f : List ℕ) → f ≡ sought_record k x.durable_fence_token.0 t →
      (first_rule (from 5 rules) (view_of (lookup k u t b))).number
      ≡ cond (eqb k 0) 5 (cond (not (admissible t)) 7 (cond (eqb (length f) 0) 8 (first_rule (from 9 rules) (registration (f ∷ []) x.registered_socket_cookie.0 k b)).number))
  unfolding rules view_of
  looked_up x d f e =
      let v = view_of (lookup k u t b) in
      choose (eqb k 0) _ (first_rule (from 6 rules) v)
      (λ k0. skip (not v.published) _ (first_rule (from 7 rules) v) (ap not (decoded d)) (choose (not (admissible t)) _ (first_rule (from 8 rules) v) (λ a. sought x d f e k0)))

  pub not_looked_up : {n : ℕ} {x : CurrentFenceToken} → (n ≡ 0 → ⊥) → Decoded current_codec u n x → (first_rule (from 5 rules) (view_of (lookup k u t b))).number ≡ cond (eqb k 0) 5 6
  unfolding rules view_of
  not_looked_up h d = rw (undecoded h d) (choose (eqb k 0) _ _ (λ p. refl))

-- ---- rules 1 to 4, and what the packet reads as

module _ (c : Call) where
  pub unconfigured : {n : ℕ} {x : FenceConfig} → (n ≡ 0 → ⊥) → Decoded config_codec c.config n x → (1 ≡ (answering c).number) × (unread ≡ (view_of c).reading)
  unfolding rules answering view_of
  unconfigured h d = let e = ap not (undecoded h d) in (sym (rw e refl), sym (unread-1 c e))

  module _ (x : FenceConfig) (d : Decoded config_codec c.config 0 x) where
    configured : not (view_of c).configured ≡ false
    unfolding view_of
    configured = ap not (decoded d)

    attached : not (view_of c).attached ≡ not (eqb c.attachment x.root_cgroup_id.0)
    unfolding view_of
    attached = ap (λ w. not (eqb c.attachment w.root_cgroup_id.0)) (sym d.value)

    pub elsewhere : eqb c.attachment x.root_cgroup_id.0 ≡ false → (2 ≡ (answering c).number) × (unread ≡ (view_of c).reading)
    unfolding rules answering
    elsewhere e =
        let away = attached ∙ ap not e in
        (sym (skip (not (view_of c).configured) _ (first_rule (from 2 rules) (view_of c)) configured (rw away refl)), sym (unread-2 c configured away))

    module _ (e : eqb c.attachment x.root_cgroup_id.0 ≡ true) (r : Reading) (read : r ≡ source_of c.socket c.packet x.endpoint) where
      pub seen : r ≡ (view_of c).reading
      seen =
          read ∙ ap (λ w. source_of c.socket c.packet w.endpoint) d.value
          ∙ sym (consulted-read c configured (attached ∙ ap not e) ∙ source-read c.socket c.packet (endpoint c))

      pub ruled : (answering c).number
          ≡ cond (is_unrelated r.disposition) 3 (cond (is_indeterminate r.disposition) 4 (first_rule (from 5 rules) (view_of (lookup c.cookie c.current c.table c.time))).number)
      unfolding rules answering view_of
      ruled =
          let v = view_of c in
          skip (not v.configured) _ (first_rule (from 2 rules) v) configured
          (skip (not v.attached) _ (first_rule (from 3 rules) v) (attached ∙ ap not e)
          (ap (λ w. (cond (is_unrelated w.disposition) (numbered 3 rules) (cond (is_indeterminate w.disposition) (numbered 4 rules) (first_rule (from 5 rules) v))).number) (sym seen)
          ∙ choose (is_unrelated r.disposition) _ (cond (is_indeterminate r.disposition) (numbered 4 rules) (first_rule (from 5 rules) v)) (λ p. choose (is_indeterminate r.disposition) _ _ (λ q. refl))))
