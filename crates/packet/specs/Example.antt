-- Document 01, 'Examples to prove': the endpoint and packet A of its examples. Assumes nothing.
use Rattle.std.specs.Prelude.{ℕ, List, [], ◌∷◌, replicate}
use Rattle.endpoint.specs.declared.ProtectedEndpoint.{ProtectedEndpoint}

-- 192.0.2.10:4500, and 01's packet A from there
unfoldable pub endpoint4500 : ProtectedEndpoint
endpoint4500 = record { family = 4; address = 192 ∷ 0 ∷ 2 ∷ 10 ∷ replicate 12 0; port = 4500 }

unfoldable pub A : List ℕ
A =
    0x45 ∷ 0x00 ∷ 0x00 ∷ 0x1c ∷ 0x00 ∷ 0x00 ∷ 0x00 ∷ 0x00 ∷ 0x40 ∷ 0x11 ∷ 0x00 ∷ 0x00 ∷ 0xc0 ∷ 0x00 ∷ 0x02 ∷ 0x0a ∷
    0xc6 ∷ 0x33 ∷ 0x64 ∷ 0x01 ∷ 0x11 ∷ 0x94 ∷ 0x00 ∷ 0x35 ∷ 0x00 ∷ 0x08 ∷ 0x00 ∷ 0x00 ∷ []
