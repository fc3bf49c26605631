-- What `decide_egress` is given when the records decode: the packet's context and the authority's snapshot of a call (lib.rs,
-- `PacketFenceContext` and `FenceAuthoritySnapshot`). Assumes nothing.
use Rattle.std.specs.Prelude.{ℕ, ◌≡◌, Bool, false, cond, [], ◌∷◌, length, eqb, Option, None, Some}
use Rattle.records.specs.CookieValue.{entry_of}
use Rattle.records.specs.declared.entry.FenceEntry.{FenceEntry}
use Rattle.octets.specs.Lists.{among}
use Rattle.packet.specs.Answers.{disposition_from}
use Rattle.verdict.specs.Verdict.{egress_verdict}
use Rattle.verdict.specs.declared.PacketFenceContext.{PacketFenceContext}
use Rattle.verdict.specs.declared.FenceAuthoritySnapshot.{FenceAuthoritySnapshot}
use Rattle.gate.specs.Gate.{Call, matches, endpoint, root, reading, token, registered, view_of, value, answering, gate_of}

-- the rules that answer because bytes do not decode, or a table is not one
abbrev pub undecoded : ℕ → Bool
undecoded n = among n (1 ∷ 6 ∷ 7 ∷ 9 ∷ [])

abbrev pub context_of : Call → PacketFenceContext
context_of c = record {
  attachment_identity_valid = eqb c.attachment (root c);
  socket_endpoint_matches = matches c.socket (endpoint c);
  endpoint_disposition = disposition_from (reading c).disposition;
  socket_cookie = record { 0 = c.cookie };
}

-- the entry that is sought, if a key is and a record stands under it
abbrev pub entry_in : Call → Option FenceEntry
entry_in c = cond (eqb (length (view_of c).found) 0) None (Some (entry_of (value (view_of c))))

abbrev pub snapshot_of : Call → FenceAuthoritySnapshot
snapshot_of c = record {
  entry = entry_in c;
  current_durable_fence_token = record { 0 = token c };
  current_registered_socket_cookie = record { 0 = registered c };
  now_boot_ns = record { 0 = c.time };
}

-- wherever the bytes decode, the gate's slot is that of `decide_egress`
abbrev pub Decided : Type 0
Decided = (c : Call) → undecoded (answering c).number ≡ false → (gate_of c).slot ≡ egress_verdict (context_of c) (snapshot_of c)
