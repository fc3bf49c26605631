-- A configuration's rule, of all numbers: it is the frame's, on the fields that are no part of the endpoint, and the endpoint's. Assumes nothing.
use Rattle.octets.specs.Words.{ℕ, ◌≡◌, Bool, true, false, not, ◌&&◌, List, get_or, eqb}
use Rattle.octets.proofs.Tools.{refl}
use mathlib.Core.Bool.{and-true, and_assoc}
use Rattle.octets.specs.Octets.{le_bytes}
use Rattle.codec.specs.Codec.{ok}
use Rattle.endpoint.specs.Endpoint.{port_usable, family_listed, address_usable, spare_zero, sound_endpoint}
use Rattle.config.specs.Config.{config_mark, version_listed, capacity_fits, endpoint_of, config_codec}

-- of mark, version, the zero after the family, the two after the port, capacity, root cgroup
unfoldable pub frame_fits : ℕ → ℕ → ℕ → ℕ → ℕ → ℕ → Bool
frame_fits mark version pad pads capacity root =
    eqb mark config_mark && (eqb pad 0 && (eqb pads 0 && ((version_listed version && capacity_fits version capacity) && not (eqb root 0))))

and-swap : (a b c : Bool) → (a && (b && c)) ≡ (b && (a && c))
and-swap true b c = refl
and-swap false true c = refl
and-swap false false c = refl

sorted : (m v f z p zs k r a s : Bool) →
    (m && (v && (f && (z && (p && (zs && (k && (r && (a && (s && true)))))))))) ≡ ((m && (z && (zs && ((v && k) && r)))) && (p && (f && (a && s))))
sorted m v f z p zs k r a s = simp (and-true, and_assoc, and-swap)

pub ruled : (vs : List ℕ) →
    ok config_codec vs ≡
    (frame_fits (get_or vs 0 0) (get_or vs 1 0) (get_or vs 3 0) (get_or vs 5 0) (get_or vs 6 0) (get_or vs 7 0) && sound_endpoint (endpoint_of (get_or vs 2 0) (get_or vs 8 0) (get_or vs 4 0)))
unfolding frame_fits sound_endpoint
ruled vs =
    let family = get_or vs 2 0 in let address = le_bytes 16 (get_or vs 8 0) in
    sorted (eqb (get_or vs 0 0) config_mark) (version_listed (get_or vs 1 0)) (family_listed family) (eqb (get_or vs 3 0) 0) (port_usable (get_or vs 4 0))
    (eqb (get_or vs 5 0) 0) (capacity_fits (get_or vs 1 0) (get_or vs 6 0)) (not (eqb (get_or vs 7 0) 0)) (address_usable family address) (spare_zero family address)
