-- What is promised of the three records of this crate: the laws of `codec`, of each by its own name. Assumes nothing.
use Rattle.codec.specs.Promises.{Laws, InOrder}
use Rattle.records.specs.Key.{key_codec, KeyFormed}
use Rattle.records.specs.Entry.{entry_codec, EntryFormed}
use Rattle.records.specs.CookieValue.{cookie_value_codec, CookieValueFormed}

abbrev pub KeyLaws : Type 0
KeyLaws = Laws key_codec KeyFormed

abbrev pub EntryLaws : Type 0
EntryLaws = Laws entry_codec EntryFormed

abbrev pub CookieValueLaws : Type 0
CookieValueLaws = Laws cookie_value_codec CookieValueFormed

-- the tests of each are in the order of the offsets
abbrev pub TestsInOrder : Type 0
TestsInOrder = InOrder key_codec × (InOrder entry_codec × InOrder cookie_value_codec)
