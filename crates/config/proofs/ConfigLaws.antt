-- The configuration obeys the laws of every codec: the rule fixes mark, version and zeros, and the address comes back from its number. Its
-- rule is that of the frame and that of its endpoint, whose tests are the same ones in another order. Assumes nothing.
use Rattle.octets.specs.Words.{ℕ, ◌^◌, ◌<◌, ◌≡◌, Bool, true, false, cond, not, ◌&&◌, List, [], ◌∷◌, get_or, eqb}
use Rattle.octets.proofs.Tools.{refl, sym, ap, ◌∙◌, true≢false, eqb-true}
use mathlib.Core.Bool.{and-true, and_assoc}
use mathlib.Core.Path.{subst}
use lib.Dec.{lit<}
use Rattle.octets.specs.Octets.{octets_at, le, le_bytes}
use Rattle.octets.proofs.OctetsLaws.{length-le_bytes, length-octets, octets-whole, le-le_bytes, le_below, Bytes-octets}
use Rattle.codec.specs.Layout.{Fit}
use Rattle.codec.specs.Codec.{ok, Made, Built}
use Rattle.codec.proofs.TestLaws.{and_left, and_right}
use Rattle.codec.proofs.CodecLaws.{Lawful, listed, laws}
use Rattle.endpoint.specs.declared.ProtectedEndpoint.{ProtectedEndpoint}
use Rattle.endpoint.specs.Endpoint.{port_usable, family_listed, address_usable, spare_zero, sound_endpoint}
use Rattle.config.specs.declared.FenceConfig.{FenceConfig}
use Rattle.config.specs.Config.{config_mark, version_listed, capacity_fits, config, endpoint_of, config_codec, ConfigFormed}
use Rattle.config.specs.Promises.{ConfigLaws, ConfigInOrder, ConfigSound}
use Rattle.config.proofs.AddressLaws.{address-back}

-- ---- the rule

and-swap : (a b c : Bool) → (a && (b && c)) ≡ (b && (a && c))
and-swap true b c = refl
and-swap false true c = refl
and-swap false false c = refl

sorted : (f p k r a s : Bool) → (f && (p && (k && (r && (a && (s && true)))))) ≡ ((k && r) && (p && (f && (a && s))))
sorted f p k r a s = simp (and-true, and_assoc, and-swap)

-- a record's endpoint, from the number of its address
endpoint-back : (v : FenceConfig) → ConfigFormed v → endpoint_of v.endpoint.family (le (octets_at v.endpoint.address 0 16)) v.endpoint.port ≡ v.endpoint
endpoint-back v f = λ i. record { family = v.endpoint.family; address = address-back v.endpoint.address f.sixteen f.octets i; port = v.endpoint.port }

pub config-sound : ConfigSound
unfolding sound_endpoint
config-sound v f =
    let family = v.endpoint.family in let address = le_bytes 16 (le (octets_at v.endpoint.address 0 16)) in
    sorted (family_listed family) (port_usable v.endpoint.port) (capacity_fits 5 v.capacity) (not (eqb v.root_cgroup_id.0 0)) (address_usable family address) (spare_zero family address)
    ∙ ap (λ (e : ProtectedEndpoint). (capacity_fits 5 v.capacity && not (eqb v.root_cgroup_id.0 0)) && sound_endpoint e) (endpoint-back v f)

-- ---- the laws

number-back : (a : ℕ) → a < 256 ^ 16 → le (octets_at (le_bytes 16 a) 0 16) ≡ a
number-back a h = rw (octets-whole (le_bytes 16 a) 16 (length-le_bytes 16 a)) (le-le_bytes 16 a h)

-- mark, version and the zeros are those of every configuration
abbrev pub framed : List ℕ → Bool
framed vs = eqb (get_or vs 0 0) config_mark && version_listed (get_or vs 1 0) && eqb (get_or vs 3 0) 0 && eqb (get_or vs 5 0) 0

some-fails : (m v f z p zs l : Bool) → (m && v && z && zs) ≡ false → (m && (v && (f && (z && (p && (zs && l)))))) ≡ false
some-fails false v f z p zs l h = refl
some-fails true false f z p zs l h = refl
some-fails true true false z p zs l h = refl
some-fails true true true false p zs l h = refl
some-fails true true true true false zs l h = refl
some-fails true true true true true false l h = refl
some-fails true true true true true true l h = absurd (true≢false h)

pub unframed : (vs : List ℕ) → framed vs ≡ false → ok config_codec vs ≡ false
unframed vs h = some-fails (eqb (get_or vs 0 0) config_mark) (version_listed (get_or vs 1 0)) (family_listed (get_or vs 2 0)) (eqb (get_or vs 3 0) 0)
    (port_usable (get_or vs 4 0)) (eqb (get_or vs 5 0) 0) _ h

all-hold : (m v f z p zs l : Bool) → (m && (v && (f && (z && (p && (zs && l)))))) ≡ true → (m && v && z && zs) ≡ true
all-hold true true true true true true l h = refl
all-hold false v f z p zs l h = absurd (true≢false (sym h))
all-hold true false f z p zs l h = absurd (true≢false (sym h))
all-hold true true false z p zs l h = absurd (true≢false (sym h))
all-hold true true true false p zs l h = absurd (true≢false (sym h))
all-hold true true true true false zs l h = absurd (true≢false (sym h))
all-hold true true true true true false l h = absurd (true≢false (sym h))

-- numbers in the frame are those of the record that they stand for
pub framed-back : (vs : List ℕ) → Fit config_codec.layout vs → framed vs ≡ true → config_codec.fields (config_codec.of vs) ≡ vs
unfolding octets_at
framed-back vs f h =
    let fits : Fit config_codec.layout (octets_at vs 0 9) = subst (Fit config_codec.layout) (sym (listed config_codec vs f)) f in
    let three = and_left _ _ h in
    let two = and_left _ _ three in
    let mark : get_or vs 0 0 ≡ config_mark = eqb-true _ _ (and_left _ _ two) in
    let version : get_or vs 1 0 ≡ 5 = eqb-true _ _ (and_right _ _ two) in
    let zero : get_or vs 3 0 ≡ 0 = eqb-true _ _ (and_right _ _ three) in
    let zeros : get_or vs 5 0 ≡ 0 = eqb-true _ _ (and_right _ _ h) in
    let address = number-back (get_or vs 8 0) fits.1.1.1.1.1.1.1.1.0 in
    (λ i. sym mark i ∷ sym version i ∷ get_or vs 2 0 ∷ sym zero i ∷ get_or vs 4 0 ∷ sym zeros i ∷ get_or vs 6 0 ∷ get_or vs 7 0 ∷ address i ∷ [])
    ∙ listed config_codec vs f

config-back : (vs : List ℕ) → Fit config_codec.layout vs → ok config_codec vs ≡ true → config_codec.fields (config_codec.of vs) ≡ vs
config-back vs f h = framed-back vs f (all-hold (eqb (get_or vs 0 0) config_mark) (version_listed (get_or vs 1 0)) (family_listed (get_or vs 2 0))
    (eqb (get_or vs 3 0) 0) (port_usable (get_or vs 4 0)) (eqb (get_or vs 5 0) 0) _ h)

-- so what is answered of that record is answered of them
pub built-framed : (vs : List ℕ) (w : FenceConfig) (n : ℕ) (v : FenceConfig) → Fit config_codec.layout vs → framed vs ≡ true → w ≡ config_codec.of vs →
    Made config_codec w n v → Built config_codec vs n v
built-framed vs w n v f h e m =
    let same : config_codec.fields w ≡ vs = ap config_codec.fields e ∙ framed-back vs f h in
    record {
      number = m.number ∙ ap (λ (l : List ℕ). cond (ok config_codec l) 0 2) same;
      value = m.value ∙ (λ i. cond (ok config_codec (same i)) (e i) config_codec.blank);
    }

pub config-lawful : Lawful config_codec ConfigFormed
config-lawful = record {
  back = config-back;
  forth = λ v f h. ap (λ (e : ProtectedEndpoint). config e v.root_cgroup_id.0 v.capacity) (endpoint-back v f);
  fits = λ v f.
      let a = v.endpoint.address in
      let address : le (octets_at a 0 16) < 256 ^ 16 = rw length-octets at (le_below (octets_at a 0 16) (Bytes-octets a 0 16 f.octets)) in
      (lit< tt, (lit< tt, (f.family, (lit< tt, (f.port, (lit< tt, (f.capacity, (f.root, (address, tt)))))))));
  counted = λ v. refl;
}

pub config-laws : ConfigLaws
config-laws = laws config-lawful

pub config-in-order : ConfigInOrder
config-in-order = refl
