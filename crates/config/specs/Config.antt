-- Document 01, 'Record layouts': "Config, 40: "OEF1"; version 5 (u16); family 4 or 6; 0; port big-endian; two zeros; capacity u32,
-- exactly 4,096; root cgroup u64, not 0; address at 24. For IPv4, 28 to 39 are zero. The endpoint obeys its rules." Assumes nothing.
use Rattle.std.specs.Prelude.{ℕ, ◌^◌, ◌<◌, ◌≡◌, Bool, true, cond, not, [], ◌∷◌, ◌++◌, length, get_or, eqb}
use Rattle.octets.specs.Octets.{Bytes, octets_at, le, le_bytes}
use Rattle.codec.specs.Layout.{little, big}
use Rattle.codec.specs.Codec.{test, Codec}
use Rattle.codec.specs.Head.{head_layout, head_fields, head_tests}
use Rattle.endpoint.specs.declared.ProtectedEndpoint.{ProtectedEndpoint}
use Rattle.endpoint.specs.Endpoint.{port_usable, family_listed, address_usable, spare_zero, blank}
use Rattle.config.specs.declared.FenceConfig.{FenceConfig}

-- "OEF1": 4f 45 46 31
abbrev pub config_mark : ℕ
config_mark = 0x4f45_4631

-- there is no version but 5
abbrev pub version_listed : ℕ → Bool
version_listed version = eqb version 5

-- of version and capacity: version 5 takes "exactly 4,096"; of a version that is not listed nothing more is asked
unfoldable pub capacity_fits : ℕ → ℕ → Bool
capacity_fits version capacity = cond (eqb version 5) (eqb capacity 4096) true

abbrev pub config : ProtectedEndpoint → ℕ → ℕ → FenceConfig
config e root capacity = record { endpoint = e; root_cgroup_id = record { 0 = root }; capacity = capacity }

-- the endpoint of a family, the number of an address's sixteen octets, and a port
abbrev pub endpoint_of : ℕ → ℕ → ℕ → ProtectedEndpoint
endpoint_of family address port = record { family = family; address = le_bytes 16 address; port = port }

abbrev pub config_codec : Codec FenceConfig
config_codec = record {
  layout = head_layout ++ (big 2 ∷ little 2 ∷ little 4 ∷ little 8 ∷ little 16 ∷ []);
  tests =
      head_tests config_mark version_listed family_listed ++
      (test 8 (λ vs. port_usable (get_or vs 4 0)) ∷
      test 10 (λ vs. eqb (get_or vs 5 0) 0) ∷
      test 12 (λ vs. capacity_fits (get_or vs 1 0) (get_or vs 6 0)) ∷
      test 16 (λ vs. not (eqb (get_or vs 7 0) 0)) ∷
      test 24 (λ vs. address_usable (get_or vs 2 0) (le_bytes 16 (get_or vs 8 0))) ∷
      test 28 (λ vs. spare_zero (get_or vs 2 0) (le_bytes 16 (get_or vs 8 0))) ∷ []);
  of = λ vs. config (endpoint_of (get_or vs 2 0) (get_or vs 8 0) (get_or vs 4 0)) (get_or vs 7 0) (get_or vs 6 0);
  fields = λ v.
      head_fields config_mark 5 v.endpoint.family ++
      (v.endpoint.port ∷ 0 ∷ v.capacity ∷ v.root_cgroup_id.0 ∷ le (octets_at v.endpoint.address 0 16) ∷ []);
  blank = config blank 0 0;
}

-- a value of its type: sixteen octets of address, and each number within its width
pub record ConfigFormed (v : FenceConfig) : Type 0 where
  pub sixteen : length v.endpoint.address ≡ 16
  pub octets : Bytes v.endpoint.address
  pub family : v.endpoint.family < 2 ^ 8
  pub port : v.endpoint.port < 2 ^ 16
  pub root : v.root_cgroup_id.0 < 2 ^ 64
  pub capacity : v.capacity < 2 ^ 32
