-- `new`: a sound entry's numbers, with a sound key's cookie and the token of both, obey the rule. Assumes nothing.
use Rattle.octets.specs.Words.{◌≡◌, true, not, ◌&&◌, eqb}
use Rattle.octets.proofs.Tools.{refl, sym, ap, ◌∙◌, eqb-true}
use Rattle.octets.proofs.Choices.{and_left, and_right}
use Rattle.codec.specs.Codec.{ok, sound}
use Rattle.codec.proofs.CodecLaws.{built-done, built-asked}
use Rattle.records.specs.declared.key.FenceCookieKey.{FenceCookieKey}
use Rattle.records.specs.declared.entry.FenceEntryState.{FenceEntryState}
use Rattle.records.specs.declared.entry.FenceEntry.{FenceEntry}
use Rattle.records.specs.Key.{key_codec}
use Rattle.records.specs.Entry.{entry_codec}
use Rattle.records.specs.CookieValue.{cookie_value, cookie_value_codec, agreeing, pair_fields}
use Rattle.records.proofs.States.{state-back}
use Rattle.records.proofs.cookie_value.FenceCookieValue.new.Goals as goal

agreed : (k : FenceCookieKey) (e : FenceEntry) → agreeing k e ≡ true → ok cookie_value_codec (pair_fields k e) ≡ true
unfolding agreeing
agreed k e h =
    let key : sound key_codec k ≡ true = and_left _ _ h in
    let rest : (sound entry_codec e && eqb k.durable_fence_token.0 e.durable_fence_token.0) ≡ true = and_right _ _ h in
    let cookie : not (eqb k.socket_cookie.0 0) ≡ true = and_left _ _ key in
    let token : k.durable_fence_token.0 ≡ e.durable_fence_token.0 = eqb-true _ _ (and_right _ _ rest) in
    simp (cookie, token) (and_left _ _ rest)

pub returns : goal.returns
returns c =
    let a = c.args in
    let agree = sym c.agree.ensures ∙ c.if-not-agree.false in
    built-asked agree (built-done refl (agreed a.key a.entry agree)
    (refl, ap (λ (st : FenceEntryState). cookie_value st a.key.socket_cookie.0 a.key.durable_fence_token.0 a.entry.deadline_boot_ns.0 a.entry.control_epoch.0) (sym (state-back a.entry.state))))
