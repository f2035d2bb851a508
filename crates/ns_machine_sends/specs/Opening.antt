-- Bodies that are opened where the limits have room for them.
use Rattle.std.specs.Prelude.{◌≡◌, ℕ, ◌+◌, ◌-◌, ◌<◌, ◌≤◌, List, [], ◌++◌, replicate, Some, true, if◌then◌else◌}
use Rattle.ns_code.specs.declared.program.CodeProgram.{CodeProgram}
use Rattle.ns_world.specs.declared.value.Value.{Value}
use Rattle.ns_world.specs.declared.value.Value.TheVariants.{Nil}
use Rattle.ns_world.specs.Heap.{heap_size}
use Rattle.ns_world.specs.World.{World, entered}
use Rattle.ns_moves.specs.Bodies.{opened}
use Rattle.ns_moves.specs.Control.{Activation, Control, Progress, halts, in_world}
use Rattle.ns_machine_frames.specs.declared.calls.BodyShape.{BodyShape}
use Rattle.ns_machine_core.specs.Arriving.{shape_of}

-- the locals of a body of that shape that has these arguments: nil behind them
abbrev pub locals_in : BodyShape → List Value → List Value
locals_in shape arguments = arguments ++ replicate (shape.locals - shape.params) Nil

-- The limit on cells leaves room for the environment of a body of that shape with so many arguments.
abbrev pub CellsFit : World → BodyShape → ℕ → Type 0
CellsFit world shape count = heap_size world.cells + (1 + (count + (shape.locals - shape.params))) ≤ world.limits.cells

-- The limits of a world leave room for the frame of a body of that shape with so many arguments, and for its environment, if it has one.
pub record HasRoomFor (world : World) (shape : BodyShape) (count : ℕ) : Type 0 where
  pub depth : world.depth < world.limits.depth
  pub cells : shape.environment ≡ true → CellsFit world shape count

-- A body of that shape with that environment around it, and with these arguments, is opened on from one world to another: in that
-- environment, which is its own if it has one.
abbrev pub OpensBody : BodyShape → Value → List Value → World → Value → World → Type 0
OpensBody shape around arguments old env new =
    (code : CodeProgram) (go : Activation → List Value → Progress → Control) (activation : Activation) (rest : Progress)
    → shape ≡ shape_of code activation.body → activation.env ≡ around
    → opened code halts go activation arguments (in_world rest old)
    ≡ go (record activation { env = env }) (if shape.environment then [] else locals_in shape arguments) (in_world rest new)

-- Its frame is charged before.
pub record ChargesAndOpens (shape : BodyShape) (around : Value) (arguments : List Value) (old : World) (env : Value) (new : World) : Type 0 where
  pub paid : World
  pub charges : entered old ≡ Some paid
  pub opens : OpensBody shape around arguments paid env new
