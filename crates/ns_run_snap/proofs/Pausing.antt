-- The snapshot that is written is that of the paused run.
use Rattle.std.proofs.Common.{◌≡◌, ◌∙◌, ℕ, None, ap, sym}
use Rattle.ns_base.specs.declared.limits.Limits.{Limits}
use Rattle.ns_code.specs.declared.program.CodeProgram.{CodeProgram}
use Rattle.ns_frozen.specs.declared.frozen.Frozen.{Frozen}
use Rattle.ns_frozen.specs.Freezing.{frozen_of}
use Rattle.ns_gen_code.specs.Code.{code_of}
use Rattle.ns_gen_code.specs.Sizes.{size_fault}
use Rattle.ns_machine.specs.Machine.{MachineView}
use Rattle.ns_resolved.specs.Program.{Meant}
use Rattle.ns_run_code.specs.Run.{granted}
use Rattle.ns_run_snap.specs.Snapped.{of_bytes, of_size, paused, snapped_of, snapshot_at}
use Rattle.ns_snapshot.specs.Bytes.{snapshot_of}

-- what a machine freezes to that stands where the run is paused
pub same_snapshot :
    (code shown : CodeProgram) (limits : Limits) (steps : ℕ) (machine : MachineView) (frozen : Frozen) →
    machine ≡ record { code = code; grants = granted; state = paused code limits steps } → shown ≡ machine.code →
    frozen ≡ frozen_of machine.code machine.grants machine.state → snapshot_of shown frozen ≡ snapshot_at code limits steps
same_snapshot code shown limits steps machine frozen stands is froze =
    ap (λ (each : CodeProgram). snapshot_of each frozen) is
    ∙ (ap (snapshot_of machine.code) froze ∙ ap (λ (m : MachineView). snapshot_of m.code (frozen_of m.code m.grants m.state)) stands)

-- that of the code of a program, of which no size is too large
pub same_program : (meant : Meant) (code : CodeProgram) (limits : Limits) (steps : ℕ) → code ≡ code_of meant → size_fault (code_of meant) ≡ None →
    of_bytes (snapshot_at code limits steps) ≡ snapped_of meant limits steps
same_program meant code limits steps is small =
    ap (λ (each : CodeProgram). of_bytes (snapshot_at each limits steps)) is ∙ sym (ap (of_size (code_of meant) limits steps) small)
