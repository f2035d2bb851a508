-- Whether a step of a plan charges, by its number and the operands before it.
use Rattle.std.specs.Prelude.{ℕ, List, [], ◌∷◌, nat_le, Bool, true, false, ◌&&◌}
use Rattle.ns_world.specs.declared.value.Value.{Value}
use Rattle.ns_moves.specs.Jumps.{takes_jump}
use Rattle.ns_machine_plan.specs.declared.step.Step.{Step}
use Rattle.ns_machine_plan.specs.declared.step.Step.TheVariants.{Send, SendPrivate, SendSuper, Jump, JumpFalse, JumpTrue}

-- whether the topmost operand takes a jump that asks for that boolean
abbrev pub takes_on_top : Bool → List Value → Bool
takes_on_top wanted [] = false
takes_on_top wanted (value ∷ stack) = takes_jump wanted value

-- each send does, and each jump that is taken and goes to itself or back
abbrev pub step_charges : ℕ → List Value → Step → Bool
step_charges next stack (Send sel argc kind place row) = true
step_charges next stack (SendPrivate level sel argc place member) = true
step_charges next stack (SendSuper sel argc place) = true
step_charges next stack (Jump to) = nat_le to next
step_charges next stack (JumpFalse to) = nat_le to next && takes_on_top false stack
step_charges next stack (JumpTrue to) = nat_le to next && takes_on_top true stack
step_charges next stack other = false
