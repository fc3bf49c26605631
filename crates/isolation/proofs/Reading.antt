-- Demand 3 for the classifier: a packet's answer depends on its named places alone. The places of a step are chosen by the very tests
-- that the step makes before it reads, so packets that agree there take the same step; a walk is its steps, by induction on the
-- allowance. Past the end every byte reads as 0, so the places inside the packet suffice. Assumes nothing.
use Rattle.octets.specs.Words.{ℕ, zero, suc, ◌+◌, ◌*◌, ◌≤◌, ◌≡◌, Bool, true, false, cond, not, ◌||◌, List, [], ◌∷◌, ◌++◌, length, get_or, eqb, ltb}
use Rattle.octets.proofs.Tools.{refl, ap, arith, ltb-false}
use lib.ListN.{get_or-eq_default}
use Rattle.octets.specs.Octets.{octets_at, le}
use Rattle.octets.specs.Lists.{span, inside, bytes_at}
use Rattle.endpoint.specs.declared.ProtectedEndpoint.{ProtectedEndpoint}
use Rattle.packet.specs.Rfc791.{version}
use Rattle.packet.specs.Reading.{Disposition, unrelated, indeterminate, Outcome, settled, onward, follow, entered, sort_of, udp_of, pass_of, counted_of, fragment_of, step_of, stop, passed, walk_of, ipv4_head, ipv4_of, ipv6_head, ipv6_of, known, classify_of}
use Rattle.isolation.specs.Places.{udp_places, step_places, walk_places, ipv4_rest, ipv6_rest, named}
use Rattle.isolation.specs.Isolation.{IsolatedReading}

module _ (s t : List ℕ) where
  -- s and t have the same bytes at the places l
  abbrev Same : List ℕ → Type 0
  Same l = bytes_at s l ≡ bytes_at t l

  same-inside : length s ≡ length t → (l : List ℕ) → Same (inside (length s) l) → Same l
  unfolding inside bytes_at
  same-inside e [] h = refl
  same-inside e (i ∷ l) h = go (ltb i (length s)) refl h (same-inside e l)
    where
      go : (b : Bool) → ltb i (length s) ≡ b → Same (cond b (i ∷ inside (length s) l) (inside (length s) l)) → (Same (inside (length s) l) → Same l) → Same (i ∷ l)
      go true q h' f = let r : Same l = f (cc) in cc
      go false q h' f =
          let past : length s ≤ i = ltb-false i (length s) q in
          let r : Same l = f h' in
          let x : get_or s i 0 ≡ 0 = get_or-eq_default s 0 past in
          let y : get_or t i 0 ≡ 0 = get_or-eq_default t 0 (omega arith) in
          cc

  split : (a b : List ℕ) → Same (a ++ b) → Same a × Same b
  unfolding bytes_at
  split [] b h = (refl, h)
  split (i ∷ a) b h = let r : Same a × Same b = split a b (cc) in (cc, r.1)

  -- a field's bytes are its places
  field : (i n : ℕ) → Same (span i n) → octets_at s i n ≡ octets_at t i n
  unfolding octets_at bytes_at
  field i zero h = refl
  field i (suc n) h = let r : octets_at s (i + 1) n ≡ octets_at t (i + 1) n = field (i + 1) n (cc) in cc

  -- by cases, where the places go by the same cases
  choice : {A : Type 0} (b : Bool) (p q : List ℕ) {x y x' y' : A} → Same (cond b p q) → (Same p → x ≡ x') → (Same q → y ≡ y') → cond b x y ≡ cond b x' y'
  choice true p q h f g = f h
  choice false p q h f g = g h

  -- what follows an outcome
  follow-same : {A : Type 0} (f : ℕ → Disposition → A) (o : Outcome) (k : ℕ → ℕ → List ℕ) (x y : ℕ → ℕ → A) → Same (follow (λ _ _. []) o k) → ((n c : ℕ) → Same (k n c) → x n c ≡ y n c) → follow f o x ≡ follow f o y
  follow-same f (settled c d) k x y h g = refl
  follow-same f (onward n c) k x y h g = g n c h

  pass_same : (e c l : ℕ) → Same (span c 1) → pass_of s e c l ≡ pass_of t e c l
  unfolding pass_of
  pass_same e c l h = rw (field c 1 h)

  udp-same : (port e c : ℕ) → Same (udp_places e c) → udp_of s port e c ≡ udp_of t port e c
  unfolding udp_of udp_places
  udp-same port e c h = choice (ltb e (c + 8)) _ _ h (λ _. refl) (λ h'. rw (field c 2 h'))

  -- a header whose length is one function of its second byte, for each such function
  counted_same : (e a c : ℕ) (f : List ℕ → ℕ) → Same (entered [] e a c 2 (span c 2)) → counted_of s e a c (f (octets_at s (c + 1) 1)) ≡ counted_of t e a c (f (octets_at t (c + 1) 1))
  unfolding counted_of
  counted_same e a c f h =
      choice (eqb a 0 || ltb e (c + 2)) _ _ h (λ _. refl)
      (λ h'. let r = split (span c 1) (span (c + 1) 1) h' in rw (field (c + 1) 1 r.1) (pass_same e c _ r.0))

  fragment-same : (e a c : ℕ) → Same (entered [] e a c 8 (c ∷ span (c + 2) 2)) → fragment_of s e a c ≡ fragment_of t e a c
  unfolding fragment_of
  fragment-same e a c h =
      choice (eqb a 0 || ltb e (c + 8)) _ _ h (λ _. refl)
      (λ h'. let r = split (span c 1) (span (c + 2) 2) h' in rw (field (c + 2) 2 r.1, pass_same e c 8 r.0))

  step_same : (port e a n c : ℕ) → Same (step_places e a n c) → step_of s port e a n c ≡ step_of t port e a n c
  unfolding step_of step_places
  step_same port e a n c h =
      choice (eqb (sort_of n) 0) _ _ h (λ h. ap (settled c) (udp-same port e c h)) (λ h.
      choice (eqb (sort_of n) 1) _ _ h (λ _. refl) (λ h.
      choice (eqb (sort_of n) 2) _ _ h (counted_same e a c (λ b. 8 * (le b + 1))) (λ h.
      choice (eqb (sort_of n) 3) _ _ h (counted_same e a c (λ b. 4 * (le b + 2))) (λ h.
      choice (eqb (sort_of n) 4) _ _ h (fragment-same e a c) (λ _. refl)))))

  walk_same : (port e a n c : ℕ) → Same (walk_places s port e a n c) → walk_of s port e a n c ≡ walk_of t port e a n c
  unfolding walk_of walk_places
  walk_same port e zero n c h = rw (step_same port e 0 n c h)
  walk_same port e (suc a) n c h =
      let r = split (step_places e (suc a) n c) _ h in
      rw (← step_same port e (suc a) n c r.0)
      (follow-same stop (step_of s port e (suc a) n c) (walk_places s port e a) _ _ r.1 (λ n' c' h'. ap passed (walk_same port e a n' c' h')))

  -- the fixed headers, byte 0 being the same
  module _ (e : length s ≡ length t) (v : octets_at s 0 1 ≡ octets_at t 0 1) (p : ProtectedEndpoint) where
    ipv4-same : Same (span 2 2 ++ (span 6 2 ++ (span 9 1 ++ (span 12 4 ++ ipv4_rest s p)))) →
        cond (eqb p.family 4) (ipv4_of s p) (stop 0 unrelated) ≡ cond (eqb p.family 4) (ipv4_of t p) (stop 0 unrelated)
    unfolding ipv4_head
    ipv4-same h =
        let total = split (span 2 2) _ h in
        let fragment = split (span 6 2) _ total.1 in
        let protocol = split (span 9 1) _ fragment.1 in
        let source = split (span 12 4) _ protocol.1 in
        let head : ipv4_head s p.address ≡ ipv4_head t p.address =
        rw (e, v, field 2 2 total.0, field 6 2 fragment.0, field 9 1 protocol.0, field 12 4 source.0) in
        choice (eqb p.family 4) _ _ source.1
        (λ h'. rw (← head, ← field 2 2 total.0)
        (follow-same stop (ipv4_head s p.address) _ _ _ h' (λ _ c h''. ap (stop c) (udp-same p.port _ c h''))))
        (λ _. refl)

    ipv6-same : Same (span 4 3 ++ (span 8 16 ++ ipv6_rest s p)) →
        cond (eqb p.family 6) (ipv6_of s p) (stop 0 unrelated) ≡ cond (eqb p.family 6) (ipv6_of t p) (stop 0 unrelated)
    unfolding ipv6_head
    ipv6-same h =
        let fields = split (span 4 3) _ h in
        let source = split (span 8 16) _ fields.1 in
        let two = split (span 4 2) (span 6 1) fields.0 in
        let head : ipv6_head s p.address ≡ ipv6_head t p.address =
        rw (e, field 4 2 two.0, field 6 1 two.1, field 8 16 source.0) in
        choice (eqb p.family 6) _ _ source.1
        (λ h'. rw (← head, ← field 4 2 two.0)
        (follow-same stop (ipv6_head s p.address) _ _ _ h' (walk_same p.port _ 4)))
        (λ _. refl)

  classify-same : length s ≡ length t → (p : ProtectedEndpoint) → Same (named s p) → classify_of s p ≡ classify_of t p
  unfolding classify_of named
  classify-same e p h =
      let first = split (span 0 1) _ h in
      let v = field 0 1 first.0 in
      rw (← e, ← v) (ap (λ r. cond (not (known p.family) || eqb (length s) 0) (stop 0 indeterminate) r)
      (choice (eqb (version s) 4) _ _ first.1 (ipv4-same e v p) (λ h'.
      choice (eqb (version s) 6) _ _ h' (ipv6-same e v p) (λ _. refl))))

pub isolated-reading : IsolatedReading
isolated-reading s t p e h = classify-same s t e p (same-inside s t e (named s p) h)
