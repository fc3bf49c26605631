-- Document 01's case, and bundles at the edges of the frames, each list under one statement. Assumes nothing.
use Rattle.std.specs.Prelude.{ℕ, ◌≡◌, List, [], ◌∷◌, ◌++◌, map, length, replicate}
use Rattle.octets.specs.Octets.{le_bytes, be_bytes}
use Rattle.packet.specs.Example.{A}
use Rattle.text.specs.Text.{ascii}
use Rattle.listing.specs.Listing.{listing}

-- ---- the case

-- a frame
abbrev pub framed : ℕ → List ℕ → List ℕ
framed kind body = le_bytes 4 (length body) ++ le_bytes 2 kind ++ body

-- "config 192.0.2.10 port 4500, root 7"
unfoldable pub configured : List ℕ
configured =
    ascii "OEF1" ++ le_bytes 2 5 ++ (4 ∷ 0 ∷ []) ++ be_bytes 2 4500 ++ (0 ∷ 0 ∷ []) ++ le_bytes 4 4096 ++ le_bytes 8 7 ++ (192 ∷ 0 ∷ 2 ∷ 10 ∷ replicate 12 0)

-- "current open, token 3, cookie 9"
unfoldable pub published : List ℕ
published = replicate 4 0 ++ le_bytes 4 0x4f450201 ++ le_bytes 8 3 ++ le_bytes 8 9

-- "record Active, cookie 9, token 3, deadline 1000, epoch 2"
unfoldable pub recorded : List ℕ
recorded = replicate 4 0 ++ le_bytes 4 0x4f450102 ++ le_bytes 8 9 ++ le_bytes 8 3 ++ le_bytes 8 1000 ++ le_bytes 8 2

-- "call 7, family 0, port and address 0, cookie 9", and a time
abbrev pub calling : ℕ → List ℕ
calling time = le_bytes 8 7 ++ (0 ∷ []) ++ le_bytes 2 0 ++ replicate 16 0 ++ le_bytes 8 9 ++ le_bytes 8 time

-- the frames in 01's order; packet A is that of the examples
unfoldable pub case : List ℕ
case =
    framed 1 configured ++ (framed 2 published ++ (framed 3 recorded ++ (framed 4 (calling 999) ++ (framed 5 A ++
    (framed 4 (calling 1000) ++ (framed 5 A ++ (framed 5 [] ++ framed 5 (0x60 ∷ []))))))))

abbrev pub CaseListed : Type 0
CaseListed = listing case ≡ ascii "0 Allow 0 0\n1 DropExpired 0 5\n2 DropMalformed 0 6\n3 PassUnrelated 0 -\nend 4\n"

-- ---- the edges

unfoldable pub edges : List (List ℕ)
edges =
    -- nothing; an empty packet, judged by nothing but zeros
    [] ∷
    framed 5 [] ∷
    -- a head that is cut, and a body that is cut, though the length would wrap at 32 bits
    (framed 5 [] ++ (0 ∷ 0 ∷ 0 ∷ 0 ∷ 5 ∷ [])) ∷
    (le_bytes 4 4_294_967_295 ++ le_bytes 2 5 ++ (1 ∷ 2 ∷ [])) ∷
    -- kind 257 is not kind 1, and there is no kind 0 or 6
    framed 257 configured ∷
    framed 0 [] ∷
    framed 6 [] ∷
    -- a wrong body length, at the frame's first byte, after the lines that stand already
    (framed 5 [] ++ (framed 5 (0x60 ∷ []) ++ framed 4 (replicate 42 0))) ∷
    framed 1 (replicate 41 0) ∷
    framed 2 (replicate 23 0) ∷
    framed 3 [] ∷ []

abbrev pub EdgesListed : Type 0
EdgesListed = map listing edges ≡
    ascii "end 0\n" ∷
    ascii "0 DropMalformed 0 6\nend 1\n" ∷
    ascii "0 DropMalformed 0 6\nbad 6\n" ∷
    ascii "bad 0\n" ∷
    ascii "bad 0\n" ∷
    ascii "bad 0\n" ∷
    ascii "bad 0\n" ∷
    ascii "0 DropMalformed 0 6\n1 DropMalformed 0 6\nbad 13\n" ∷
    ascii "bad 0\n" ∷
    ascii "bad 0\n" ∷
    ascii "bad 0\n" ∷ []
