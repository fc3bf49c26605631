-- What is promised of a configuration: the laws of `codec`, and that its rule is that of the frame and that of its own endpoint.
-- Assumes nothing.
use Rattle.std.specs.Prelude.{◌≡◌, ◌&&◌, not, eqb}
use Rattle.codec.specs.Codec.{sound}
use Rattle.codec.specs.Promises.{Laws, InOrder}
use Rattle.endpoint.specs.Endpoint.{sound_endpoint}
use Rattle.config.specs.declared.FenceConfig.{FenceConfig}
use Rattle.config.specs.Config.{capacity_fits, config_codec, ConfigFormed}

abbrev pub ConfigLaws : Type 0
ConfigLaws = Laws config_codec ConfigFormed

-- the tests are in the order of the offsets
abbrev pub ConfigInOrder : Type 0
ConfigInOrder = InOrder config_codec

-- a configuration is sound where its capacity is its version's, its root cgroup is not 0, and its endpoint is sound: an unsound endpoint
-- gives 2 to the constructor
abbrev pub ConfigSound : Type 0
ConfigSound =
    (v : FenceConfig) → ConfigFormed v → sound config_codec v ≡ ((capacity_fits 5 v.capacity && not (eqb v.root_cgroup_id.0 0)) && sound_endpoint v.endpoint)
