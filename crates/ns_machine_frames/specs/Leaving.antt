-- How frames end: what they leave below them, where a value goes, and how far down a home stands.
use Rattle.std.specs.Prelude.{ℕ, ℤ, ◌+◌, ◌<◌, List, [], ◌∷◌, Option, Some, None, Bool, true, false, ◌==◌, if◌then◌else◌}
use Rattle.ns_world.specs.declared.value.Value.{Value}
use Rattle.ns_kcode.specs.declared.state.KState.{KState}
use Rattle.ns_moves.specs.Blocks.{waiting}
use Rattle.ns_machine_frames.specs.declared.frame.Frame.{Frame}
use Rattle.ns_machine_frames.specs.declared.frame.Frame.TheVariants.{Running, Looping}
use Rattle.ns_machine_frames.specs.declared.frame.Leaving.{Leaving}
use Rattle.ns_machine_frames.specs.declared.frame.Leaving.TheVariants.{Method, Body, Clause, Part}
use Rattle.ns_machine_frames.specs.declared.registers.Registers.{Registers}
use Rattle.ns_machine_frames.specs.Standing.{Stood, Runs, Loops}

-- where the values of the frames below the topmost end
abbrev pub floor_of : Frame → ℕ
floor_of (Running frame) = frame.floor
floor_of (Looping frame) = frame.floor

abbrev pub top_floor : List Frame → ℕ
top_floor [] = 0
top_floor (frame ∷ frames) = floor_of frame

-- the registers of the topmost frame, which goes on
abbrev pub resumed : List Frame → Registers → Registers
resumed [] at = at
resumed (Running frame ∷ frames) at = record at { next = frame.next; base = frame.base }
resumed (Looping frame ∷ frames) at = at

-- ---- values that are delivered

-- the state of a method of the kernel whose block has answered
abbrev pub answered : Value → KState → KState
answered value state = record state { last = Some value }

-- a value comes to the topmost frame: it is an operand, or what the block answered
abbrev pub delivered : Value → List Stood → List Stood
delivered value [] = []
delivered value (Runs frame locals stack ∷ stood) = Runs frame locals (value ∷ stack) ∷ stood
delivered value (Loops frame ∷ stood) = Loops (record frame { state = answered value frame.state }) ∷ stood

-- the frames to which it comes
abbrev pub with_answer : Value → List Frame → List Frame
with_answer value [] = []
with_answer value (Running frame ∷ frames) = Running frame ∷ frames
with_answer value (Looping frame ∷ frames) = Looping (record frame { state = answered value frame.state }) ∷ frames

-- there is a place for it
abbrev pub HasPlace : List Frame → ℕ → ℕ → Type 0
HasPlace [] top filled = Unit {0}
HasPlace (Running frame ∷ frames) top filled = top < filled
HasPlace (Looping frame ∷ frames) top filled = Unit {0}

-- the frames of which the topmost, a method of the kernel, waits for a block with a count
abbrev pub with_count : ℤ → List Frame → List Frame
with_count count [] = []
with_count count (Running frame ∷ frames) = Running frame ∷ frames
with_count count (Looping frame ∷ frames) = Looping (record frame { state = waiting frame.state count }) ∷ frames

-- so it stands
abbrev pub counted : ℤ → List Stood → List Stood
counted count [] = []
counted count (Runs frame locals stack ∷ stood) = Runs frame locals stack ∷ stood
counted count (Loops frame ∷ stood) = Loops (record frame { state = waiting frame.state count }) ∷ stood

-- a method of the kernel, on top, goes on in another state
abbrev pub turned : KState → List Stood → List Stood
turned state [] = []
turned state (Runs frame locals stack ∷ stood) = Runs frame locals stack ∷ stood
turned state (Loops frame ∷ stood) = Loops (record frame { state = state }) ∷ stood

-- ---- homes

-- whether a frame's end is a method's
abbrev pub is_method : Leaving → Bool
is_method Method = true
is_method Body = false
is_method (Clause class) = false
is_method Part = false

-- whether a frame is a method's with that home
abbrev pub is_home : ℕ → Frame → Bool
is_home home (Running frame) = if is_method frame.leaving then frame.activation.home == home else false
is_home home (Looping frame) = false

-- one more, where there is a number
abbrev pub one_more : Option ℕ → Option ℕ
one_more None = None
one_more (Some count) = Some (count + 1)

-- how many frames there are down to a home, with it, where it is there
abbrev pub frames_to : ℕ → List Frame → Option ℕ
frames_to home [] = None
frames_to home (frame ∷ frames) = if is_home home frame then Some 1 else one_more (frames_to home frames)
