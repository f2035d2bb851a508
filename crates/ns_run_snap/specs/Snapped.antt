-- What `snap` makes of a program without static faults.
use Rattle.std.specs.Prelude.{ℕ, List, [], length, Option, Some, None, nat_lt, if◌then◌else◌}
use Rattle.ns_base.specs.declared.limits.Limits.{Limits}
use Rattle.ns_code.specs.declared.program.CodeProgram.{CodeProgram}
use Rattle.ns_frozen.specs.Freezing.{frozen_of}
use Rattle.ns_gen_code.specs.Code.{code_of}
use Rattle.ns_gen_code.specs.Sizes.{size_fault}
use Rattle.ns_gen_code.specs.declared.size.SizeKind.{SizeKind}
use Rattle.ns_moves.specs.State.{State}
use Rattle.ns_resolved.specs.Program.{Meant}
use Rattle.ns_run_code.specs.Machine.{begins_with}
use Rattle.ns_run_code.specs.Run.{granted}
use Rattle.ns_session.specs.Turned.{turned}
use Rattle.ns_snapshot.specs.Bytes.{snapshot_of}

-- where the run of some code within these limits, without arguments, stands after a turn of so many steps
abbrev pub paused : CodeProgram → Limits → ℕ → State
paused code limits steps = turned code steps (begins_with code limits [])

-- the snapshot of that
abbrev pub snapshot_at : CodeProgram → Limits → ℕ → List ℕ
snapshot_at code limits steps = snapshot_of code (frozen_of code granted (paused code limits steps))

-- a snapshot, or what is too large for one
pub data Snapped : Type 0 where
  snapshot : (bytes : List ℕ) → Snapped
  too_large : (kind : SizeKind) → Snapped
  snapshot_too_large : Snapped

-- the most bytes of a snapshot
abbrev pub most_bytes : ℕ
most_bytes = 134217728

-- the snapshot of these bytes, where they aren't too many
abbrev pub of_bytes : List ℕ → Snapped
of_bytes bytes = if nat_lt most_bytes (length bytes) then snapshot_too_large else snapshot bytes

-- the snapshot of a run of code, of which this size is too large
abbrev pub of_size : CodeProgram → Limits → ℕ → Option SizeKind → Snapped
of_size code limits steps (Some kind) = too_large kind
of_size code limits steps None = of_bytes (snapshot_at code limits steps)

-- the snapshot of the run of a program: the sizes of its code come first, then that of the snapshot
abbrev pub snapped_of : Meant → Limits → ℕ → Snapped
snapped_of meant limits steps = of_size (code_of meant) limits steps (size_fault (code_of meant))
