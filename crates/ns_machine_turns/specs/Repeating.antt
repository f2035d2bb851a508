-- Turns of `to:do:` that follow one another.
use Rattle.std.specs.Prelude.{◌≡◌, List, [], ◌∷◌, Option, Bool, true, false, ◌&&◌}
use Rattle.ns_base.specs.declared.place.Place.{Place as SourcePlace}
use Rattle.ns_code.specs.declared.instruction.Instr.TheVariants as instr
use Rattle.ns_code.specs.declared.program.CodeProgram.{CodeProgram}
use Rattle.ns_world.specs.declared.kernel_parts.KMethod.{KMethod}
use Rattle.ns_world.specs.declared.kernel_parts.KMethod.TheVariants.{ToDo}
use Rattle.ns_machine_frames.specs.declared.frame.Frame.{Frame}
use Rattle.ns_machine_frames.specs.declared.frame.Frame.TheVariants.{Running, Looping}
use Rattle.ns_machine_frames.specs.declared.frame.Leaving.{Leaving}
use Rattle.ns_machine_frames.specs.declared.frame.Leaving.TheVariants.{Method, Body, Clause, Part}
use Rattle.ns_machine_frames.specs.declared.registers.Registers.{Registers}
use Rattle.ns_machine_plan.specs.declared.packed.Packed.{Packed}
use Rattle.ns_machine_plan.specs.declared.packed.Packed.TheVariants as packed
use Rattle.ns_machine_core.specs.declared.state.Core.{Core}
use Rattle.ns_machine_core.specs.Moving.{IsNextStep}

-- whether a packed step is the return from a body
abbrev pub is_return : Packed → Bool
is_return packed.Return = true
is_return other = false

-- whether the end of a frame gives the value of a block to what stands below
abbrev pub ends_body : Leaving → Bool
ends_body Method = false
ends_body Body = true
ends_body (Clause class) = false
ends_body Part = false

-- whether a method of the kernel is `to:do:`, and whether a frame is one of it
abbrev pub repeats : KMethod → Bool
repeats ToDo = true
repeats method = false

abbrev pub is_to_do : Frame → Bool
is_to_do (Running frame) = false
is_to_do (Looping frame) = repeats frame.method

-- whether the topmost frame is one of a block that `to:do:` evaluates
abbrev pub is_turn : List Frame → Bool
is_turn [] = false
is_turn (Looping frame ∷ frames) = false
is_turn (Running frame ∷ []) = false
is_turn (Running frame ∷ other ∷ frames) = ends_body frame.leaving && is_to_do other

-- The next step of the run ends a turn of `to:do:`: it returns from such a block.
pub record EndsTurn (code : CodeProgram) (core : Core) (at : Registers) : Type 0 where
  pub place : Option SourcePlace
  pub returns : IsNextStep code core at (instr.Return, place)
  pub turn : is_turn core.stack.frames.items ≡ true
