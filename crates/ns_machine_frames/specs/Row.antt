-- What contracts see of the machine's row of values and of its frames.
use Rattle.std.specs.Prelude.{ℕ, ◌≤◌, List, length}
use Rattle.ns_world.specs.declared.value.Value.{Value}
use Rattle.ns_machine_frames.specs.declared.frame.Frame.{Frame}

-- values, and for how many there is room
pub record ValueRow : Type 0 where
  pub items : List Value
  pub room : ℕ

-- the frames, the topmost first, and for how many there is room
pub record FrameRow : Type 0 where
  pub items : List Frame
  pub room : ℕ

-- They are within the room, which was taken and which 32 bits can number.
pub record HasRoom {A : Type 0} (items : List A) (capacity room : ℕ) : Type 0 where
  pub within : length items ≤ room
  pub taken : room ≤ capacity
  pub small : room ≤ 4294967295
