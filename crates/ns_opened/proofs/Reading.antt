-- What is read of bytes, with want of memory apart.
use Rattle.std.proofs.Common.{◌≡◌, ◌∙◌, Bool, true, false, Some, None, Result, Ok, Err, ap, sym, option_map}
use Rattle.std.proofs.lemmas.Bool.{false≢true}
use Rattle.ns_machine.specs.Machine.{MachineView}
use Rattle.ns_machine_restore.specs.Restored.{MachineAnswers}
use Rattle.ns_opened.specs.Opened.{if_read, is_memory, machine_of}
use Rattle.ns_snapshot.specs.declared.fault.SnapFault.{SnapFault}
use Rattle.ns_snapshot.specs.declared.fault.SnapFault.TheVariants as f
use Rattle.ns_snapshot.specs.declared.snapshot.Snapshot.{Snapshot}
use Rattle.ns_snapshot_read.specs.Reads.{SnapshotAnswers}

-- A fault that isn't want of memory is that of the bytes: no snapshot is read.
pub unread : (read : Result Snapshot SnapFault) (fault : SnapFault) → SnapshotAnswers read (Err fault) → is_memory fault ≡ false → None ≡ if_read read
unread read f.Memory h not = absurd (false≢true (sym not))
unread read f.NotASnapshot h not = sym (ap if_read h)
unread read f.BadVersion h not = sym (ap if_read h)
unread read f.Truncated h not = sym (ap if_read h)
unread read (f.BadField at) h not = sym (ap if_read h)
unread read f.Trailing h not = sym (ap if_read h)
unread read f.BadImage h not = sym (ap if_read h)
unread read (f.BadCell k) h not = sym (ap if_read h)
unread read (f.BadFrame k) h not = sym (ap if_read h)
unread read f.BadRest h not = sym (ap if_read h)

-- The machine that is answered is that of the snapshot.
pub found : (read : Result Snapshot SnapFault) (machine : MachineView) → MachineAnswers read (Ok machine) → Some machine ≡ option_map machine_of (if_read read)
found read machine (snapshot, is, stands) = ap Some stands ∙ sym (ap (λ (r : Result Snapshot SnapFault). option_map machine_of (if_read r)) is)

-- And where there is none, no machine is answered.
pub not_found : (read : Result Snapshot SnapFault) (fault : SnapFault) → MachineAnswers read (Err fault) → is_memory fault ≡ false →
    None ≡ option_map machine_of (if_read read)
not_found read fault h not = ap (option_map machine_of) (unread read fault h not)
