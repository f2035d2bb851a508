-- The bytes of a program, and whether they are too many, by what is told of a snapshot that is written.
use Rattle.std.proofs.Common.{◌≡◌, ◌<◌, ◌≤◌, ℕ, List, Result, Ok, Err, IfOk, length, true, false, ap, arith, ◌∙◌}
use Rattle.std.proofs.lemmas.Bool.Decides.{nat_tests}
use Rattle.std.specs.Global.{Vec}
use Rattle.std.specs.Prelude.{nat_lt}
use Rattle.ns_code.specs.declared.program.CodeProgram.{CodeProgram}
use Rattle.ns_frozen.specs.declared.frozen.Frozen.{Frozen}
use Rattle.ns_frozen.specs.Freezing.{frozen_of}
use Rattle.ns_machine.specs.Machine.{MachineView}
use Rattle.ns_reply.specs.Reply.{is_too_large, most_bytes, program_bytes}
use Rattle.ns_snapshot.specs.Bytes.{snapshot_of}
use Rattle.ns_snapshot_write.specs.declared.write.WriteFault.{WriteFault}

not_more : (most size : ℕ) → size ≤ most → nat_lt most size ≡ false
not_more most size within = grind (arith, nat_tests, within)

more : (most size : ℕ) → most < size → nat_lt most size ≡ true
more most size larger = grind (arith, nat_tests, larger)

-- The snapshot of the code and of the state of a program is the program's bytes.
bytes_are : (code : CodeProgram) (frozen : Frozen) (machine : MachineView) → code ≡ machine.code
    → frozen ≡ frozen_of machine.code machine.grants machine.state → snapshot_of code frozen ≡ program_bytes machine
bytes_are code frozen machine is_code is_frozen =
    ap (λ (c : CodeProgram). snapshot_of c frozen) is_code ∙ ap (λ (f : Frozen). snapshot_of machine.code f) is_frozen

-- What is written is the program's bytes, and they aren't too many.
pub written : (result : Result (Vec ℕ) WriteFault) (code : CodeProgram) (frozen : Frozen) (machine : MachineView) → code ≡ machine.code
    → frozen ≡ frozen_of machine.code machine.grants machine.state
    → IfOk result (λ (bytes : Vec ℕ). bytes.items ≡ snapshot_of code frozen)
    → IfOk result (λ (bytes : Vec ℕ). length bytes.items ≤ most_bytes)
    → IfOk result (λ (bytes : Vec ℕ). (bytes.items ≡ program_bytes machine) × (is_too_large machine ≡ false))
written (Ok bytes) code frozen machine is_code is_frozen told within =
    let is : bytes.items ≡ program_bytes machine = told ∙ bytes_are code frozen machine is_code is_frozen in
    let same : length bytes.items ≡ length (program_bytes machine) = ap (λ (b : List ℕ). length b) is in
    (is, not_more most_bytes (length (program_bytes machine)) (omega (arith, same, within)))
written (Err fault) code frozen machine is_code is_frozen told within = tt

-- A snapshot that would be larger is that of a program that is too large.
pub too_large : (code : CodeProgram) (frozen : Frozen) (machine : MachineView) → code ≡ machine.code
    → frozen ≡ frozen_of machine.code machine.grants machine.state → most_bytes < length (snapshot_of code frozen)
    → is_too_large machine ≡ true
too_large code frozen machine is_code is_frozen larger =
    let same : length (snapshot_of code frozen) ≡ length (program_bytes machine) =
    ap (λ (b : List ℕ). length b) (bytes_are code frozen machine is_code is_frozen) in
    more most_bytes (length (program_bytes machine)) (omega (arith, same, larger))
