-- What is promised of the two records of this crate: the laws of `codec`, of each by its own name. Assumes nothing.
use Rattle.codec.specs.Promises.{Laws, InOrder}
use Rattle.authority.specs.Mutation.{mutation_codec, MutationFormed}
use Rattle.authority.specs.Current.{current_codec, CurrentFormed}

abbrev pub MutationLaws : Type 0
MutationLaws = Laws mutation_codec MutationFormed

abbrev pub CurrentLaws : Type 0
CurrentLaws = Laws current_codec CurrentFormed

-- the tests of each are in the order of the offsets
abbrev pub TestsInOrder : Type 0
TestsInOrder = InOrder mutation_codec × InOrder current_codec
