-- Frames that are put back in their order, and what of them must fit.
use Rattle.std.specs.Prelude.{◌≡◌, ℕ, ◌+◌, ◌*◌, ◌<◌, ◌≤◌, List, [], ◌∷◌, length, reverse, slice_get, Option, Some, None, Bool, true, false}
use Rattle.ns_base.specs.declared.place.Place.{Place as SourcePlace}
use Rattle.ns_code.specs.declared.program.CodeProgram.{CodeProgram}
use Rattle.ns_world.specs.Heap.{cell_number}
use Rattle.ns_moves.specs.declared.site.Site.{Site}
use Rattle.ns_moves.specs.Bodies.{height_in, greatest_of}
use Rattle.ns_frozen.specs.declared.frame.FrameKind.{FrameKind}
use Rattle.ns_frozen.specs.declared.frame.FrameKind.TheVariants as kinds
use Rattle.ns_frozen.specs.declared.frame.FrozenFrame.{FrozenFrame}
use Rattle.ns_frozen.specs.Thawing.{frames_thawed}
use Rattle.ns_machine_frames.specs.declared.frame.KeptSite.{KeptSite}
use Rattle.ns_machine_frames.specs.declared.frame.Leaving.{Leaving}
use Rattle.ns_machine_frames.specs.declared.frame.RunningFrame.{RunningFrame}
use Rattle.ns_machine_frames.specs.declared.frame.Frame.{Frame}
use Rattle.ns_machine_frames.specs.declared.frame.Frame.TheVariants.{Running, Looping}
use Rattle.ns_machine_frames.specs.declared.registers.Registers.{Registers}
use Rattle.ns_machine_frames.specs.declared.stack.Stack.{Stack}
use Rattle.ns_machine_frames.specs.Room.{bound}
use Rattle.ns_machine_frames.specs.Stack.{stood}
use Rattle.ns_machine_frames.specs.Standing.{Stood, Runs, Loops}
use Rattle.ns_machine_frames.specs.View.{frames_shown}
use Rattle.ns_machine_plan.specs.Plan.{HasStep}
use Rattle.ns_machine_plan.specs.Steps.{no_place}
use Rattle.ns_machine_core.specs.Standing.{AreStanding}

-- ---- places of sites

-- the number under which a site's place stands: that of its own, and none where it has no place
abbrev pub site_number : ℕ → Option SourcePlace → ℕ
site_number number None = no_place
site_number number (Some place) = number

-- a site has its place under a number
abbrev pub SiteIsPlaced : List SourcePlace → ℕ → Site → Type 0
SiteIsPlaced places number site = slice_get places (site_number number site.place) ≡ site.place

-- the sites of frames have theirs from a number on
abbrev pub SitesArePlaced : List SourcePlace → ℕ → List FrozenFrame → Type 0
SitesArePlaced places first frames =
    (k : ℕ) (frame : FrozenFrame) → slice_get frames k ≡ Some frame → SiteIsPlaced places (first + k) frame.site

-- A site has its place under a number, and the other numbers have theirs as before.
pub record SiteIsWritten (number : ℕ) (site : Site) (old new : List SourcePlace) : Type 0 where
  pub placed : SiteIsPlaced new number site
  pub others : (k : ℕ) → (k ≡ number → ⊥) → slice_get new k ≡ slice_get old k
  pub count : length new ≡ length old

-- The sites of frames have theirs from a number on, and the numbers below have theirs as before.
pub record SitesAreWritten (first : ℕ) (frames : List FrozenFrame) (old new : List SourcePlace) : Type 0 where
  pub placed : SitesArePlaced new first frames
  pub below : (k : ℕ) → k < first → slice_get new k ≡ slice_get old k
  pub count : length new ≡ length old

-- ---- what must fit

-- A frame stands at a step of its body, its locals and the body's operands are no more than those of the greatest frame, and
-- its operands are no more than the body has at most.
pub record BodyFits (code : CodeProgram) (frame : FrozenFrame) (body : ℕ) : Type 0 where
  pub there : HasStep code body frame.instr
  pub small : frame.instr + 1 ≤ 65536
  pub locals : length frame.locals + height_in code body ≤ greatest_of code.bodies
  pub operands : length frame.operands ≤ height_in code body

-- So does a frame of that kind; the object and the holder of a clause are the frame's own.
abbrev pub KindFits : CodeProgram → FrozenFrame → FrameKind → Type 0
KindFits code frame (kinds.Method body) = BodyFits code frame body
KindFits code frame (kinds.Block body) = BodyFits code frame body
KindFits code frame (kinds.Initialiser body) = BodyFits code frame body
KindFits code frame (kinds.Clause body object holder class) =
    BodyFits code frame body × (cell_number frame.receiver ≡ object) × (frame.holder ≡ holder)
KindFits code frame (kinds.Kernel method state) = Unit {0}

-- So do all frames.
abbrev pub FramesFit : CodeProgram → List FrozenFrame → Type 0
FramesFit code [] = Unit {0}
FramesFit code (frame ∷ frames) = KindFits code frame frame.kind × FramesFit code frames

-- There is room for one frame more.
pub record HasFrameRoom (code : CodeProgram) (stack : Stack) : Type 0 where
  pub frames : length stack.frames.items < stack.frames.room
  pub values : greatest_of code.bodies + bound (greatest_of code.bodies) stack.frames.items ≤ stack.values.room

-- There is room for so many frames, and for their values.
pub record HasDepthRoom (code : CodeProgram) (depth : ℕ) (stack : Stack) : Type 0 where
  pub frames : depth ≤ stack.frames.room
  pub values : depth * greatest_of code.bodies ≤ stack.values.room

-- ---- frames as the machine keeps them

-- a kept frame with the values of that which it stands for
abbrev pub stood_of : Frame → FrozenFrame → Stood
stood_of (Running kept) frame = Runs kept frame.locals (reverse frame.operands)
stood_of (Looping kept) frame = Loops kept

-- The locals of a body begin at a top, and its operands behind them; none of both are too many.
pub record KeepsBody (code : CodeProgram) (top : ℕ) (frame : FrozenFrame) (kept : RunningFrame) : Type 0 where
  pub floor : kept.floor ≡ top
  pub base : kept.base ≡ top
  pub behind : kept.operands ≡ top + length frame.locals
  pub locals : length frame.locals + height_in code kept.activation.body ≤ greatest_of code.bodies
  pub operands : length frame.operands ≤ height_in code kept.activation.body

-- So does a frame of either kind.
abbrev pub KeepsFrame : CodeProgram → ℕ → FrozenFrame → Frame → Type 0
KeepsFrame code top frame (Running kept) = KeepsBody code top frame kept
KeepsFrame code top frame (Looping kept) = kept.floor ≡ top

-- the next instruction of a frame: the one behind that which waits, where it waits
abbrev pub next_of : Bool → ℕ → ℕ
next_of true instr = instr + 1
next_of false instr = instr

-- the kept frame of a body
abbrev pub kept_body : FrozenFrame → ℕ → Leaving → KeptSite → Bool → ℕ → RunningFrame
kept_body frame body leaving site waits top = record {
  leaving = leaving;
  activation = record { me = frame.receiver; holder = frame.holder; body = body; home = frame.home; env = frame.env; site = site };
  next = next_of waits frame.instr;
  floor = top;
  base = top;
  operands = top + length frame.locals;
}

-- a frame that has just been entered
abbrev pub at_start : RunningFrame → RunningFrame
at_start kept = record kept { next = 0 }

-- ---- what stands afterwards

-- The frames stand, and their values end within what so many may reach.
pub record StandLow (code : CodeProgram) (stack : Stack) (at : Registers) : Type 0 where
  pub standing : AreStanding code stack at
  pub top : at.top ≤ bound (greatest_of code.bodies) stack.frames.items

-- There is as much room as there was.
pub record SameFrameRoom (old new : Stack) : Type 0 where
  pub values : new.values.room ≡ old.values.room
  pub frames : new.frames.room ≡ old.frames.room

-- A frame stands above those that there were.
pub record FrameIsPut (code : CodeProgram) (one : Stood) (old : Stack) (at : Registers) (new : Stack) (to : Registers) : Type 0 where
  pub stands : stood new to ≡ one ∷ stood old at
  pub stand : StandLow code new to
  pub room : SameFrameRoom old new
  pub count : length new.frames.items ≡ length old.frames.items + 1

-- These frames stand, where their sites have their places.
pub record FramesArePut (code : CodeProgram) (first : ℕ) (waits : Bool) (frames : List FrozenFrame) (old new : Stack) (to : Registers) : Type 0 where
  pub shown : (places : List SourcePlace) → SitesArePlaced places first frames → frames_shown code places (stood new to) ≡ frames_thawed code waits frames
  pub stand : StandLow code new to
  pub room : SameFrameRoom old new
