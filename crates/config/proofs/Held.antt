-- What the language guarantees of every configuration that code can hold: that it is a value of its type. It is read off what a function
-- knows of an argument. Assumes nothing.
use Rattle.octets.specs.Words.{ℕ, zero, suc, List, [], ◌∷◌}
use Rattle.octets.specs.Octets.{Bytes}
use lib.Dec.{lit<}
use mir.Val.{Val}
use mir.Syntax.{w8}
use denote.Shadow.{shadow}
use denote.Laws.{Is}
use denote.Plain.{UInt}
use denote.Array.{each}
use denote.Struct.Declared.{row}
use Rattle.config.specs.declared.FenceConfig.{FenceConfig}
use Rattle.config.specs.Config.{ConfigFormed}
use Rattle.config.specs.contracts.FenceConfig.{the_type}

each-octet : (xs : List ℕ) (us : List Val) → shadow (each ℕ (UInt w8).own_val xs us) → Bytes xs
each-octet [] us h i = lit< tt
each-octet (x ∷ xs) [] h i = absurd h
each-octet (x ∷ xs) (u ∷ us) h zero = h.0.1
each-octet (x ∷ xs) (u ∷ us) h (suc i) = each-octet xs us h.1 i

pub held : (v : FenceConfig) (vs : List Val) → Is (row the_type) v vs → ConfigFormed v
held v vs h =
    let parts = h.1.1 in
    let e = parts.0.1.1 in
    let address = e.1.0 in
    record {
      sixteen = address.1.0.1;
      octets = each-octet v.endpoint.address _ address.1.1;
      family = e.0.1;
      port = e.1.1.0.1;
      root = parts.1.0.1.1.0.1;
      capacity = parts.1.1.0.1;
    }
