-- More values in use.
use Rattle.std.proofs.Common.{◌≡◌, ℕ, ◌≤◌, List, ◌++◌, length, take, ap, ◌∙◌}
use Rattle.std.proofs.lemmas.List.{take-append-le}
use Rattle.ns_world.specs.declared.value.Value.{Value}
use Rattle.ns_machine_frames.specs.declared.registers.Registers.{Registers}
use Rattle.ns_machine_frames.specs.declared.stack.Stack.{Stack}
use Rattle.ns_machine_frames.specs.Row.{FrameRow}
use Rattle.ns_machine_frames.specs.Standing.{standing, at_next, pushed_all}
use Rattle.ns_machine_frames.specs.Stack.{in_use, stood, IsLaid}
use Rattle.ns_machine_frames.specs.lemmas.Standing.{all_pushed}
use Rattle.ns_machine_frames.specs.lemmas.Pushing.{laid_in_use}

-- what is filled above the values in use leaves them
pub filled_use : (values more : List Value) (top : ℕ) → top ≤ length values → take top (values ++ more) ≡ take top values
filled_use values more top within = take-append-le top values more within

-- more values in use, of the same frames
pub more_stood : (old new : Stack) (at to : Registers) (more : List Value) → IsLaid old at → new.frames ≡ old.frames → to.next ≡ at.next
    → in_use new to ≡ in_use old at ++ more → stood new to ≡ pushed_all more (stood old at)
more_stood old new at to more laid frames next used =
    ap (λ (kept : FrameRow). standing (at_next to.next kept.items) (in_use new to)) frames
    ∙ (ap (λ number. standing (at_next number old.frames.items) (in_use new to)) next
    ∙ (ap (λ values. standing (at_next at.next old.frames.items) values) used
    ∙ all_pushed (at_next at.next old.frames.items) (in_use old at) more (laid_in_use old at laid)))
