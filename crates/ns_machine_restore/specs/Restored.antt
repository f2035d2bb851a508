-- What the calls that restore a machine answer.
use Rattle.std.specs.Prelude.{◌≡◌, Result, Ok, Err, Option, Some, None}
use Rattle.ns_base.specs.declared.no_memory.NoMemory.{NoMemory}
use Rattle.ns_code.specs.declared.program.CodeProgram.{CodeProgram}
use Rattle.ns_frozen.specs.declared.fault.RestoreFault.{RestoreFault}
use Rattle.ns_frozen.specs.declared.frozen.Frozen.{Frozen}
use Rattle.ns_frozen.specs.Fault.{restore_fault}
use Rattle.ns_frozen.specs.Thawing.{thawed}
use Rattle.ns_machine.specs.Machine.{MachineView}
use Rattle.ns_moves.specs.State.{world_of}
use Rattle.ns_snapshot.specs.declared.fault.SnapFault.{SnapFault}
use Rattle.ns_snapshot.specs.declared.snapshot.Snapshot.{Snapshot}
use Rattle.ns_snapshot_read.specs.Reads.{SnapshotAnswers}

-- the machine of some code that stands where plain data does
abbrev pub machine_at : CodeProgram → Frozen → MachineView
machine_at code frozen = record { code = code; grants = frozen.grants; state = thawed code frozen }

-- The machine stands where the data does; or that is the first part of it that can't be, or no memory was found to test it, and the
-- machine is as it was.
abbrev pub Restores : MachineView → Frozen → Result (Option RestoreFault) NoMemory → MachineView → Type 0
Restores old frozen (Ok None) new = (restore_fault old.code (world_of old.state).limits frozen ≡ None) × (new ≡ machine_at old.code frozen)
Restores old frozen (Ok (Some fault)) new = (restore_fault old.code (world_of old.state).limits frozen ≡ Some fault) × (new ≡ old)
Restores old frozen (Err none) new = new ≡ old

-- The answer is the machine of the snapshot that is read, or why there is none. Want of memory says nothing of that.
abbrev pub MachineAnswers : Result Snapshot SnapFault → Result MachineView SnapFault → Type 0
MachineAnswers read (Ok machine) = (snapshot : Snapshot) × (read ≡ Ok snapshot) × (machine ≡ machine_at snapshot.code snapshot.frozen)
MachineAnswers read (Err fault) = SnapshotAnswers read (Err fault)
