-- Calls, and what answers them: one for each of the thirteen rules, some at the rules' edges, two that demand 3 is about; and a gate that
-- drops all, which meets demand 3 and is not this gate. Assumes nothing.
use Rattle.std.specs.Prelude.{ℕ, ◌≡◌, true, false, List, [], ◌∷◌, ◌++◌, map, replicate, set, Some}
use Rattle.codec.specs.Codec.{bytes}
use Rattle.endpoint.specs.declared.ProtectedEndpoint.{ProtectedEndpoint}
use Rattle.config.specs.Config.{config, config_codec}
use Rattle.authority.specs.Current.{current, current_codec}
use Rattle.records.specs.CookieValue.{cookie_value, cookie_value_codec}
use Rattle.records.specs.declared.entry.FenceEntryState.TheVariants.{Active, TerminalClosed}
use Rattle.packet.specs.Example.{endpoint4500, A}
use Rattle.gate.specs.declared.Socket.{Socket}
use Rattle.gate.specs.Gate.{Call, given, answering, headers_of, Answer, gate_of}
use Rattle.isolation.specs.Isolation.{Alike}

-- 01's configuration with root 7, current record with token 3 and cookie 9, and record of cookie 9 and token 3 until 1000
unfoldable pub configured : List ℕ
configured = bytes config_codec (config endpoint4500 7 4096)

unfoldable pub open9 : List ℕ
open9 = bytes current_codec (current 3 9 false)

unfoldable pub active9 : List ℕ
active9 = bytes cookie_value_codec (cookie_value Active 9 3 1000 2)

unfoldable pub unbound : Socket
unbound = record { family = 0; address = replicate 16 0; port = 0 }

abbrev pub call : List ℕ → ℕ → List ℕ → ℕ → List ℕ → List ℕ → ℕ → Call
call config attachment packet = given config attachment unbound packet

-- a call for each rule. The last is the first line of 01's case, and each other call differs from it in what its rule looks at
unfoldable pub witnesses : List Call
witnesses =
    call [] 7 A 9 open9 active9 999 ∷
    call configured 8 A 9 open9 active9 999 ∷
    call configured 7 (0x60 ∷ []) 9 open9 active9 999 ∷
    call configured 7 [] 9 open9 active9 999 ∷
    call configured 7 A 0 open9 active9 999 ∷
    call configured 7 A 9 [] active9 999 ∷
    call configured 7 A 9 open9 (active9 ++ 0 ∷ []) 999 ∷
    call configured 7 A 9 open9 [] 999 ∷
    call configured 7 A 9 open9 (set active9 0 1) 999 ∷
    call configured 7 A 9 (bytes current_codec (current 3 0 false)) active9 999 ∷
    call configured 7 A 9 open9 (bytes cookie_value_codec (cookie_value TerminalClosed 9 3 0 2)) 999 ∷
    call configured 7 A 9 open9 active9 1000 ∷
    call configured 7 A 9 open9 active9 999 ∷ []

abbrev pub EveryRuleAnswers : Type 0
EveryRuleAnswers = map (λ c. (answering c).number) witnesses ≡ 1 ∷ 2 ∷ 3 ∷ 4 ∷ 5 ∷ 6 ∷ 7 ∷ 8 ∷ 9 ∷ 10 ∷ 11 ∷ 12 ∷ 13 ∷ []

-- ---- the edges

-- a socket at 192.0.2.10:4500 whose spare bytes are not zero
unfoldable pub bound : Socket
bound = record { family = 4; address = 192 ∷ 0 ∷ 2 ∷ 10 ∷ replicate 12 255; port = 4500 }

-- [::1]:4500, and a packet from there with a hop-by-hop header before UDP
unfoldable pub loopback : ProtectedEndpoint
loopback = record { family = 6; address = replicate 15 0 ++ 1 ∷ []; port = 4500 }

unfoldable pub configured6 : List ℕ
configured6 = bytes config_codec (config loopback 7 4096)

unfoldable pub B : List ℕ
B =
    0x60 ∷ 0 ∷ 0 ∷ 0 ∷ 0 ∷ 16 ∷ 0 ∷ 64 ∷ replicate 15 0 ++ (1 ∷ replicate 16 0 ++
    (17 ∷ 0 ∷ 0 ∷ 0 ∷ 0 ∷ 0 ∷ 0 ∷ 0 ∷ 0x11 ∷ 0x94 ∷ 0x00 ∷ 0x35 ∷ 0x00 ∷ 0x08 ∷ 0x00 ∷ 0x00 ∷ []))

-- the same socket's record with another deadline, and another socket's record
unfoldable pub later9 : List ℕ
later9 = bytes cookie_value_codec (cookie_value Active 9 3 2000 2)

unfoldable pub active8 : List ℕ
active8 = bytes cookie_value_codec (cookie_value Active 8 3 1000 2)

abbrev pub from : Socket → Call → Call
from s c = given c.config c.attachment s c.packet c.cookie c.current c.table c.time

unfoldable pub edges : List Call
edges =
    -- the socket matches: a packet of the other family is not read
    from bound (call configured 7 (0x60 ∷ []) 9 open9 active9 999) ∷
    -- and no header is counted, which one is where the socket differs, whichever rule answers
    from (record { family = 6; address = loopback.address; port = 4500 }) (call configured6 7 B 9 open9 active9 999) ∷
    call configured6 7 B 9 open9 active9 999 ∷
    call configured6 7 B 0 open9 active9 999 ∷
    -- a token that is even is sought, and its record never decodes; token 0 is not sought, though a record holds it
    call configured 7 A 9 (bytes current_codec (current 4 0 true)) (set active9 16 4) 999 ∷
    call configured 7 A 9 (replicate 24 0) (set active9 16 0) 999 ∷
    -- no record, and no socket registered: the record is missing before the token is stale
    call configured 7 A 9 (bytes current_codec (current 3 0 false)) active8 999 ∷
    -- the last record of a table is searched, and of two under the key the first answers
    call configured 7 A 9 open9 (active8 ++ active9) 999 ∷
    call configured 7 A 9 open9 (active9 ++ later9) 1500 ∷
    -- a part record makes the table inadmissible
    call configured 7 A 9 open9 (active9 ++ later9 ++ 0 ∷ []) 999 ∷ []

-- the number of the rule, and the header count
pub record Line : Type 0 where
  pub rule : ℕ
  pub headers : ℕ

abbrev pub line : ℕ → ℕ → Line
line r h = record { rule = r; headers = h }

abbrev pub EdgesHold : Type 0
EdgesHold =
    map (λ c. line (answering c).number (headers_of c)) edges ≡
    line 13 0 ∷ line 13 0 ∷ line 13 1 ∷ line 5 1 ∷ line 9 0 ∷ line 8 0 ∷ line 8 0 ∷ line 13 0 ∷ line 12 0 ∷ line 7 0 ∷ []

-- ---- demand 3 is about some calls

unfoldable pub here : Call
here = call configured 7 A 9 open9 active9 999

-- another destination, another payload, and another socket's record before this one's
unfoldable pub there : Call
there = call configured 7 (set (set A 16 10) 27 1) 9 open9 (active8 ++ active9) 999

abbrev pub SomeAreAlike : Type 0
SomeAreAlike = Alike here there

-- ---- the gate that drops all

unfoldable pub drops_all : Call → Answer
drops_all c = record { slot = Some 6; headers = 0 }

abbrev pub DropsAllIsIsolated : Type 0
DropsAllIsIsolated = (a b : Call) → Alike a b → drops_all a ≡ drops_all b

abbrev pub DropsAllIsRefused : Type 0
DropsAllIsRefused = ((c : Call) → drops_all c ≡ gate_of c) → ⊥
