-- Locals that instructions name.
use Rattle.std.specs.Prelude.{◌≡◌, ℕ, ◌<◌, length, true}
use Rattle.ns_code.specs.declared.program.CodeProgram.{CodeProgram}
use Rattle.ns_world.specs.Heap.{Heap}
use Rattle.ns_moves.specs.Bodies.{is_beside}
use Rattle.ns_moves.specs.declared.running.Running.{Running}
use Rattle.ns_moves.specs.Running.{code_of}
use Rattle.ns_moves.specs.Locals.{LocalIsReadable}
use Rattle.ns_machine_frames.specs.declared.registers.Registers.{Registers}
use Rattle.ns_machine_frames.specs.declared.stack.Stack.{Stack}
use Rattle.ns_machine_frames.specs.Standing.{locals_in}
use Rattle.ns_machine_frames.specs.Stack.{stood, IsLaid}

-- A local stands beside the topmost frame, or in an environment that is there.
pub record LocalIsThere (code : CodeProgram) (stack : Stack) (at : Registers) (heap : Heap) (here : Running) (hops index : ℕ) : Type 0 where
  pub laid : IsLaid stack at
  pub beside : is_beside code (code_of here) hops ≡ true → index < length (locals_in (stood stack at))
  pub outside : LocalIsReadable heap code (code_of here) hops index
