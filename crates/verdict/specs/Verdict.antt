-- The egress verdict: 01's slots, and the order and tests of lib.rs's `decide_egress`. Assumes nothing.
use Rattle.std.specs.Prelude.{ℕ, Bool, false, cond, not, ◌&&◌, ◌||◌, List, [], ◌∷◌, eqb, leb, Option, Some, None}
use Rattle.packet.specs.Answers.{is_unrelated, is_indeterminate, disposition_of}
use Rattle.records.specs.Entry.{closed}
use Rattle.records.specs.declared.entry.FenceEntry.{FenceEntry}
use Rattle.verdict.specs.declared.FenceVerdict.{FenceVerdict}
use Rattle.verdict.specs.declared.FenceVerdict.TheVariants.{PassUnrelated, Allow, DropCookieZero, DropMissing, DropClosed, DropExpired, DropStaleToken, DropMalformed}
use Rattle.verdict.specs.declared.PacketFenceContext.{PacketFenceContext}
use Rattle.verdict.specs.declared.FenceAuthoritySnapshot.{FenceAuthoritySnapshot}

-- 01, 'The gate's thirteen rules': "Allow 0, CookieZero 2, Missing 3, Closed 4, Expired 5, Malformed 6, StaleToken 7; PassUnrelated none"
abbrev pub slot_of : FenceVerdict → Option ℕ
slot_of PassUnrelated = None
slot_of Allow = Some 0
slot_of DropCookieZero = Some 2
slot_of DropMissing = Some 3
slot_of DropClosed = Some 4
slot_of DropExpired = Some 5
slot_of DropMalformed = Some 6
slot_of DropStaleToken = Some 7

-- a slot by its number, "PassUnrelated none"
abbrev pub slot_numbers : Option ℕ → List ℕ
slot_numbers None = []
slot_numbers (Some n) = n ∷ []

-- the same as one number: 255, which no verdict's slot has, for none
abbrev pub slot_number : Option ℕ → ℕ
slot_number None = 255
slot_number (Some n) = n

-- a packet leaves where it is not counted, and where it is counted as allowed
abbrev pub dropped : Option ℕ → Bool
dropped None = false
dropped (Some n) = not (eqb n 0)

-- the authority names no token or no socket, or another socket, or the entry has another token
unfoldable pub stale_authority : ℕ → FenceEntry → FenceAuthoritySnapshot → Bool
stale_authority k e a =
    eqb a.current_durable_fence_token.0 0 ||
    (eqb a.current_registered_socket_cookie.0 0 ||
    (not (eqb k a.current_registered_socket_cookie.0) ||
    not (eqb e.durable_fence_token.0 a.current_durable_fence_token.0)))

-- "State not Active: DropClosed."; "Boot time at or past the deadline: DropExpired."; "Allow."
unfoldable pub entry_verdict : FenceEntry → ℕ → Option ℕ
entry_verdict e now = cond (closed e.state) (slot_of DropClosed) (cond (leb e.deadline_boot_ns.0 now) (slot_of DropExpired) (slot_of Allow))

-- lib.rs: no entry, DropMissing; an entry that is not the current one, DropStaleToken; else by the entry
abbrev pub registered_verdict : ℕ → Option FenceEntry → FenceAuthoritySnapshot → Option ℕ
registered_verdict k None a = slot_of DropMissing
registered_verdict k (Some e) a = cond (stale_authority k e a) (slot_of DropStaleToken) (entry_verdict e a.now_boot_ns.0)

-- of a protected packet: a socket without a cookie, DropCookieZero; else by what is registered
unfoldable pub protected_verdict : ℕ → FenceAuthoritySnapshot → Option ℕ
protected_verdict k a = cond (eqb k 0) (slot_of DropCookieZero) (registered_verdict k a.entry a)

-- `decide_egress`, in lib.rs's order, on entries sound or not: a hook at another place, DropMalformed; of another socket's packet,
-- an Unrelated one passes and an Indeterminate one does not; the rest is protected
unfoldable pub egress_verdict : PacketFenceContext → FenceAuthoritySnapshot → Option ℕ
egress_verdict p a =
    cond (not p.attachment_identity_valid) (slot_of DropMalformed)
    (cond (not p.socket_endpoint_matches && is_unrelated (disposition_of p.endpoint_disposition)) (slot_of PassUnrelated)
    (cond (not p.socket_endpoint_matches && is_indeterminate (disposition_of p.endpoint_disposition)) (slot_of DropMalformed)
    (protected_verdict p.socket_cookie.0 a)))
