-- What a sink over memory does at each put, of which the listed ones take only so many bytes (this profile).
use Rattle.std.specs.Prelude.{◌≡◌, ◌==◌, ◌-◌, ◌≤◌, ℕ, Bool, List, [], ◌∷◌, ◌++◌, length, take, min, nat_eq, if◌then◌else◌}
use Rattle.std.specs.Vec.{vec_capacity}
use Rattle.ns_base.specs.Count.{one_more}
use Rattle.ns_base.specs.declared.mem_sink.MemSink.{MemSink}

-- the most bytes that a call of that number takes: each entry for it has a say
abbrev pub allowed : List (ℕ × ℕ) → (call most : ℕ) → ℕ
allowed [] call most = most
allowed (entry ∷ entries) call most = allowed entries call (if entry.0 == call then min most entry.1 else most)

-- how many bytes of a piece the next call takes: no more than there is room for, and than the call is allowed
abbrev pub taken : MemSink → List ℕ → ℕ
taken sink piece = allowed sink.fail_at.items sink.calls (min (length piece) (sink.room - length sink.bytes.items))

-- whether the next call takes the piece whole
abbrev pub takes_whole : MemSink → List ℕ → Bool
takes_whole sink piece = nat_eq (taken sink piece) (length piece)

-- The sink's room is reserved, so that a put needs no memory.
abbrev pub IsReserved : MemSink → Type 0
IsReserved sink = sink.room ≤ vec_capacity sink.bytes

-- What a put leaves: the bytes that it takes stand behind the others, the call is counted, and a fault exactly where some
-- bytes weren't taken; room and list are as they were.
pub record Puts (piece : List ℕ) (old new : MemSink) : Type 0 where
  pub bytes : new.bytes.items ≡ old.bytes.items ++ take (taken old piece) piece
  pub calls : new.calls ≡ one_more old.calls
  pub faults : new.faults ≡ (if takes_whole old piece then old.faults else one_more old.faults)
  pub room : new.room ≡ old.room
  pub listed : new.fail_at.items ≡ old.fail_at.items
  pub reserved : IsReserved new
