-- What is promised of an inspection: the laws of `codec`, and that it is sound where its parts are. Assumes nothing.
use Rattle.std.specs.Prelude.{◌≡◌, ◌&&◌}
use Rattle.codec.specs.Codec.{sound}
use Rattle.codec.specs.Promises.{Laws, InOrder}
use Rattle.authority.specs.Current.{current_codec}
use Rattle.authority.specs.Mutation.{mutation_codec}
use Rattle.inspection.specs.declared.FenceInspection.{FenceInspection}
use Rattle.inspection.specs.Inspected.{sound_part}
use Rattle.inspection.specs.Inspection.{inspection_codec, InspectionFormed}

abbrev pub InspectionLaws : Type 0
InspectionLaws = Laws inspection_codec InspectionFormed

-- the tests are in the order of the offsets
abbrev pub InspectionInOrder : Type 0
InspectionInOrder = InOrder inspection_codec

abbrev pub InspectionSound : Type 0
InspectionSound = (v : FenceInspection) → sound inspection_codec v ≡ (sound current_codec v.current && (sound mutation_codec v.mutation && sound_part v.entry))
