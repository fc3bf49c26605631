-- Document 01, 'Places named for demand 3', pinned on packets: their places are these, and none of them can be left out. Proved in
-- proofs/Pinned.antt. Assumes nothing.
use Rattle.std.specs.Prelude.{ℕ, ◌≡◌, List, [], ◌∷◌, ◌++◌, map, replicate, length, set}
use Rattle.octets.specs.Lists.{span}
use Rattle.endpoint.specs.declared.ProtectedEndpoint.{ProtectedEndpoint}
use Rattle.packet.specs.Reading.{classify_of}
use Rattle.packet.specs.Example.{endpoint4500, A}
use Rattle.isolation.specs.Places.{places}

-- a packet read against an endpoint, its named places, and a byte that matters at each of them
pub record Pin : Type 0 where
  pub packet : List ℕ
  pub endpoint : ProtectedEndpoint
  pub named : List ℕ
  pub other : ℕ

-- 2001:db8::10, port 4500, and a packet from there whose first header has the value n
abbrev pub address6 : List ℕ
address6 = 0x20 ∷ 0x01 ∷ 0x0d ∷ 0xb8 ∷ (replicate 11 0 ++ 0x10 ∷ [])

abbrev pub endpoint6 : ProtectedEndpoint
endpoint6 = record { family = 6; address = address6; port = 4500 }

abbrev pub packet6 : ℕ → List ℕ → List ℕ
packet6 n payload = 0x60 ∷ 0 ∷ 0 ∷ 0 ∷ 0 ∷ length payload ∷ n ∷ 64 ∷ (address6 ++ (address6 ++ payload))

-- extension headers before one of value n: options of 8 bytes, AH of 12, Fragment of 8; and the UDP header
abbrev pub options : ℕ → List ℕ → List ℕ
options n rest = n ∷ 0 ∷ (replicate 6 0 ++ rest)

abbrev pub authentication : ℕ → List ℕ → List ℕ
authentication n rest = n ∷ 1 ∷ (replicate 10 0 ++ rest)

abbrev pub fragment : ℕ → List ℕ → List ℕ
fragment n rest = n ∷ (replicate 7 0 ++ rest)

abbrev pub udp4500 : List ℕ
udp4500 = 0x11 ∷ 0x94 ∷ 0x00 ∷ 0x35 ∷ 0x00 ∷ 0x08 ∷ 0x00 ∷ 0x00 ∷ []

-- the places of an IPv6 packet's fixed header
abbrev pub fixed6 : List ℕ → List ℕ
fixed6 rest = 0 ∷ (span 4 3 ++ (span 8 16 ++ rest))

abbrev pub pin : List ℕ → ProtectedEndpoint → List ℕ → ℕ → Pin
pin s p l x = record { packet = s; endpoint = p; named = l; other = x }

-- an IPv4 packet; options, AH, Fragment, then UDP; a chain that ends in TCP, of which no byte is named; one that ends in the unknown value
-- 253; and one of five headers, of which the fifth finds no allowance
unfoldable pub pinned : List Pin
pinned =
    pin A endpoint4500 (0 ∷ 2 ∷ 3 ∷ 6 ∷ 7 ∷ 9 ∷ (span 12 4 ++ span 20 2)) 0xff ∷
    pin (packet6 0 (options 51 (authentication 44 (fragment 17 udp4500)))) endpoint6
    (fixed6 (40 ∷ 41 ∷ 48 ∷ 49 ∷ 60 ∷ 62 ∷ 63 ∷ 68 ∷ 69 ∷ [])) 0xff ∷
    pin (packet6 60 (options 6 (replicate 20 0))) endpoint6 (fixed6 (40 ∷ 41 ∷ [])) 0xff ∷
    pin (packet6 43 (options 253 (replicate 8 0))) endpoint6 (fixed6 (40 ∷ 41 ∷ [])) 6 ∷
    pin (packet6 0 (options 0 (options 0 (options 0 (options 60 (options 17 udp4500)))))) endpoint6
    (fixed6 (40 ∷ 41 ∷ 48 ∷ 49 ∷ 56 ∷ 57 ∷ 64 ∷ 65 ∷ [])) 6 ∷ []

-- the places of these packets are those
abbrev pub PlacesPinned : Type 0
PlacesPinned = map (λ x. places x.packet x.endpoint) pinned ≡ map (λ x. x.named) pinned

-- none can be left out: at each of them, the packet with the other byte there, and no other change, reads differently
abbrev pub Each : {A : Type 0} → (A → Type 0) → List A → Type 0
Each P [] = Unit {0}
Each P (x ∷ l) = P x × Each P l

abbrev pub Matters : Pin → ℕ → Type 0
Matters x k = classify_of (set x.packet k x.other) x.endpoint ≡ classify_of x.packet x.endpoint → ⊥

abbrev pub NoneLeftOut : Type 0
NoneLeftOut = Each (λ x. Each (Matters x) x.named) pinned
