-- What reading a snapshot answers.
use Rattle.std.specs.Prelude.{◌≡◌, ℕ, ◌-◌, Result, Ok, Err}
use Rattle.ns_image.specs.declared.fault.Fault.{Fault}
use Rattle.ns_image.specs.declared.fault.Fault.TheVariants as field
use Rattle.ns_snapshot.specs.declared.fault.SnapFault.{SnapFault}
use Rattle.ns_snapshot.specs.declared.fault.SnapFault.TheVariants as f
use Rattle.ns_snapshot.specs.declared.snapshot.Snapshot.{Snapshot}

-- the fault of a field in a snapshot of so many bytes
abbrev pub fault_in : ℕ → Fault → SnapFault
fault_in size field.Truncated = f.Truncated
fault_in size (field.Bad left) = f.BadField (size - left)
fault_in size field.Memory = f.Memory

-- The answer is what is read: the snapshot, or that fault. Want of memory says nothing of it.
abbrev pub SnapshotAnswers : Result Snapshot SnapFault → Result Snapshot SnapFault → Type 0
SnapshotAnswers read (Ok snapshot) = read ≡ Ok snapshot
SnapshotAnswers read (Err f.Memory) = Unit {0}
SnapshotAnswers read (Err f.NotASnapshot) = read ≡ Err f.NotASnapshot
SnapshotAnswers read (Err f.BadVersion) = read ≡ Err f.BadVersion
SnapshotAnswers read (Err f.Truncated) = read ≡ Err f.Truncated
SnapshotAnswers read (Err (f.BadField at)) = read ≡ Err (f.BadField at)
SnapshotAnswers read (Err f.Trailing) = read ≡ Err f.Trailing
SnapshotAnswers read (Err f.BadImage) = read ≡ Err f.BadImage
SnapshotAnswers read (Err (f.BadCell k)) = read ≡ Err (f.BadCell k)
SnapshotAnswers read (Err (f.BadFrame k)) = read ≡ Err (f.BadFrame k)
SnapshotAnswers read (Err f.BadRest) = read ≡ Err f.BadRest
