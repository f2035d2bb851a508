-- One frame of those that the machine keeps, by how many stand above it.
use Rattle.std.specs.Prelude.{◌≡◌, ℕ, zero, suc, ◌+◌, ◌-◌, ◌≤◌, List, [], ◌∷◌, length, take, drop, reverse, slice_get, Bool}
use Rattle.std.specs.Option.{option_map_or}
use Rattle.ns_code.specs.declared.program.CodeProgram.{CodeProgram}
use Rattle.ns_code.specs.declared.body.BodyCode.{BodyCode}
use Rattle.ns_world.specs.declared.value.Value.{Value}
use Rattle.ns_machine_frames.specs.declared.frame.Frame.{Frame}
use Rattle.ns_machine_frames.specs.declared.frame.Frame.TheVariants.{Running, Looping}
use Rattle.ns_machine_frames.specs.declared.registers.Registers.{Registers}
use Rattle.ns_machine_frames.specs.Leaving.{floor_of}
use Rattle.ns_machine_frames.specs.Standing.{Stood, Runs, Loops}
use Rattle.ns_machine_frames.specs.Stack.{stood}
use Rattle.ns_machine_frames.specs.View.{frames_shown}
use Rattle.ns_machine_core.specs.declared.state.Core.{Core}
use Rattle.ns_frozen.specs.declared.frame.FrozenFrame.{FrozenFrame}
use Rattle.ns_frozen.specs.Freezing.{frames_down}

-- how many steps a body has
abbrev pub count_of : CodeProgram → ℕ → ℕ
count_of code body = option_map_or (λ (b : BodyCode). length b.instrs) (slice_get code.bodies body) 1

-- a frame with its own of the values that end with it
abbrev pub stood_one : Frame → List Value → Stood
stood_one (Running frame) values = Runs frame (take (frame.operands - frame.base) (drop frame.base values)) (reverse (drop frame.operands values))
stood_one (Looping frame) values = Loops frame

-- The values of a frame begin and end in this order, within those that are filled.
abbrev pub IsLaidTo : Frame → ℕ → ℕ → Type 0
IsLaidTo (Running frame) end filled = (frame.base ≤ frame.operands) × (frame.operands ≤ end) × (end ≤ filled)
IsLaidTo (Looping frame) end filled = Unit {0}

-- where the values of the frame end above which so many stand: at the top, or where those of the next one begin
abbrev pub end_of : ℕ → List Frame → ℕ → ℕ
end_of top frames zero = top
end_of top [] (suc number) = top
end_of top (frame ∷ frames) (suc number) = end_of (floor_of frame) frames number

-- all frames as plain data, the topmost first
abbrev pub down : CodeProgram → Core → Registers → Bool → List FrozenFrame
down code core at waits = frames_down code waits (frames_shown code core.places (stood core.stack at))

-- A frame as plain data is the one above which so many stand.
abbrev pub IsDown : CodeProgram → Core → Registers → Bool → ℕ → FrozenFrame → Type 0
IsDown code core at waits number frame = drop number (down code core at waits) ≡ frame ∷ drop (number + 1) (down code core at waits)
