-- Which frames a run can have. A frame waits where another stands above it or something waits to be done; then it
-- stands behind the instruction that waits.
use Rattle.std.specs.Prelude.{◌≡◌, ℕ, zero, suc, ◌+◌, ◌-◌, ◌<◌, nat_lt, IsTrue, Bool, true, false, ◌==◌, ◌&&◌, ◌||◌, if◌then◌else◌}
use Rattle.std.specs.Prelude.{List, [], ◌∷◌, length, slice_get, Some, All, IsSome}
use Rattle.std.specs.Option.{ForSome}
use Rattle.std.specs.List.{slice_index_or}
use Rattle.ns_code.specs.declared.program.CodeProgram.{CodeProgram}
use Rattle.ns_code.specs.declared.body.BodyCode.{BodyCode}
use Rattle.ns_code.specs.declared.instruction.Instr.{Instr}
use Rattle.ns_code.specs.declared.instruction.Instr.TheVariants as instr
use Rattle.ns_code.specs.Soundness.{method_kind, block_kind, initialiser_kind, clause_kind}
use Rattle.ns_world.specs.declared.value.Value.{Value}
use Rattle.ns_world.specs.declared.value.Value.TheVariants.{Ref}
use Rattle.ns_world.specs.Heap.{Heap}
use Rattle.ns_world.specs.Lawful.{IsLiveValue, FitsEnvironment}
use Rattle.ns_code.specs.Table.{takes}
use Rattle.ns_verify.specs.Heights.{heights}
use Rattle.ns_verify.specs.Chains.{home_kinds}
use Rattle.ns_world.specs.declared.kernel_parts.KMethod.{KMethod}
use Rattle.ns_kcode.specs.declared.state.KState.{KState}
use Rattle.ns_moves.specs.declared.site.Site.{Site}
use Rattle.ns_moves.specs.Control.{Progress, Activation, FromMethod, FromBody, FromClause}
use Rattle.ns_moves.specs.Bodies.{clause_of, no_home}
use Rattle.ns_moves.specs.Blocks.{has_arguments}
use Rattle.ns_moves.specs.Lawful.{LiveState, FitsActivation, FitsExit}
use Rattle.ns_moves.specs.Fitting.{belongs_to, counts_fit, kind_of, locals_beside, environment_body, FitsObject, FitsSite}
use Rattle.ns_moves.specs.State.{Leaving, Loud, Silent, Frame, Running, Looping, Pending, Evaluating}
use Rattle.ns_moves.specs.Steps.{PlacedInstr, steps_of, steps_from}

-- ---- what a frame waits for

-- Nothing: it goes on; the value of a send; the value of a block; or the end of a superclass part.
pub data Awaited : Type 0 where
  Nothing : Awaited
  SendValue : Awaited
  BlockValue : Awaited
  PartEnd : Awaited

-- what the frame below one waits for
abbrev pub awaited_below : CodeProgram → Frame → Awaited
awaited_below code (Running Silent activation locals rest stack) = PartEnd
awaited_below code (Running (Loud exit) activation locals rest stack) =
    if kind_of code activation.body == block_kind then BlockValue else SendValue
awaited_below code (Looping method state site) = SendValue

-- what the topmost frame waits for, by what waits to be done
abbrev pub awaited_for : Pending → Awaited
awaited_for (Evaluating block arguments site) = BlockValue
awaited_for pending = SendValue

-- whether an instruction waits for a value so
abbrev pub is_send : Instr → Bool
is_send (instr.Send sel argc) = true
is_send (instr.SendInner sel argc) = true
is_send (instr.SendPrivate level sel argc) = true
is_send (instr.SendSuper sel argc) = true
is_send other = false

-- whether an instruction waits for the end of a superclass part
abbrev pub is_super_part : Instr → Bool
is_super_part (instr.InitSuper argc) = true
is_super_part other = false

-- ---- where a body stands

-- the number of the next instruction, by what is left of the body
abbrev pub next_number : CodeProgram → ℕ → List PlacedInstr → ℕ
next_number code body rest = length (steps_of code body) - length rest

-- how many operands there are before an instruction, and without those that it takes
abbrev pub height_of : BodyCode → ℕ → ℕ
height_of body number = slice_index_or (heights body) number 0

-- Before its next instruction a frame has its height of operands; while an instruction waits, that one's height
-- less those that it took.
abbrev pub StandsBefore : BodyCode → ℕ → ℕ → Type 0
StandsBefore body number count = (number < length body.instrs) × (count ≡ height_of body number)

-- the frame stands behind an instruction that waits
abbrev pub WaitsBehind : BodyCode → ℕ → ℕ → (Instr → Bool) → Type 0
WaitsBehind body zero count waits = ⊥
WaitsBehind body (suc number) count waits =
    IsSome (slice_get body.instrs number)
    × ForSome (slice_get body.instrs number) (λ (before : Instr). IsTrue (waits before) × (count ≡ height_of body number - takes before))

-- where a frame stands, by what it waits for
abbrev pub Stands : BodyCode → Awaited → ℕ → ℕ → Type 0
Stands body Nothing number count = StandsBefore body number count
Stands body SendValue number count = WaitsBehind body number count is_send
Stands body BlockValue number count = WaitsBehind body number count is_send
Stands body PartEnd number count = WaitsBehind body number count is_super_part

-- ---- homes

-- whether the outermost body around a body is a method
abbrev pub is_in_method : CodeProgram → ℕ → Bool
is_in_method code body = slice_index_or (home_kinds code) body clause_kind == method_kind

-- whether a block of a body can have a home: one that began where the block stands in a method, and none otherwise
abbrev pub has_block_home : CodeProgram → ℕ → ℕ → ℕ → Bool
has_block_home code begun body home = if is_in_method code body then nat_lt home begun else home == no_home

-- whether a frame can have a home; those of methods are asked below
abbrev pub has_home_of : CodeProgram → ℕ → ℕ → ℕ → ℕ → Bool
has_home_of code begun kind body home =
    if kind == method_kind then nat_lt home begun
    else (if kind == block_kind then has_block_home code begun body home else home == no_home)

-- whether the homes of methods fall from below a number on, the topmost first
abbrev pub homes_fall : ℕ → List Frame → Bool
homes_fall bound [] = true
homes_fall bound (Running (Loud FromMethod) activation locals rest stack ∷ frames) =
    nat_lt activation.home bound && homes_fall activation.home frames
homes_fall bound (frame ∷ frames) = homes_fall bound frames

-- ---- bodies that run

-- whether the end of a frame is that of a body of its kind
abbrev pub ends_kind : Leaving → ℕ → Bool
ends_kind (Loud FromMethod) kind = kind == method_kind
ends_kind (Loud FromBody) kind = kind == block_kind || kind == initialiser_kind
ends_kind (Loud (FromClause object holder class)) kind = kind == clause_kind
ends_kind Silent kind = kind == initialiser_kind

-- The end of a frame can be met; a clause's object and holder are the frame's own, and its class has that clause.
abbrev pub FitsLeaving : Heap → CodeProgram → Leaving → Activation → Type 0
FitsLeaving heap code (Loud (FromClause object holder class)) activation =
    FitsExit heap code (FromClause object holder class)
    × (activation.self ≡ Ref object) × (activation.holder ≡ holder) × (clause_of code class ≡ Some activation.body)
FitsLeaving heap code leaving activation = Unit {0}

-- A body runs: its self, holder, environment and locals fit it, an initialiser's self is an object with its holder,
-- and it stands where its instructions and its operands meet.
pub record RunningIsValid (code : CodeProgram) (progress : Progress) (awaited : Awaited) (leaving : Leaving) (activation : Activation)
    (locals : List Value) (rest : List PlacedInstr) (stack : List Value) : Type 0 where
  pub fits : FitsActivation progress.world.cells code activation
  pub object : FitsObject progress.world.cells code activation
  pub kind : IsTrue (ends_kind leaving (kind_of code activation.body))
  pub leaves : FitsLeaving progress.world.cells code leaving activation
  pub inside : rest ≡ steps_from code activation.body (next_number code activation.body rest)
  pub stands : ForSome (slice_get code.bodies activation.body) (λ (b : BodyCode). Stands b awaited (next_number code activation.body rest) (length stack))
  pub environment : FitsEnvironment (activation.body + 1) progress.world.cells code (environment_body code activation.body) activation.env
  pub beside : length locals ≡ locals_beside code activation.body
  pub live_locals : All (IsLiveValue progress.world.cells code) locals
  pub live_stack : All (IsLiveValue progress.world.cells code) stack
  pub home : IsTrue (has_home_of code progress.begun (kind_of code activation.body) activation.body activation.home)
  pub named : FitsSite code activation.site

-- ---- methods of the kernel

-- whether it can wait for that
abbrev pub waits_for : Awaited → Bool
waits_for Nothing = true
waits_for BlockValue = true
waits_for awaited = false

-- A method of the kernel has a receiver and arguments of its kinds, and waits for a block alone.
pub record LoopingIsValid (heap : Heap) (code : CodeProgram) (awaited : Awaited) (method : KMethod) (state : KState) (site : Site) : Type 0 where
  pub live : LiveState heap code state
  pub receiver : IsTrue (belongs_to heap state.receiver method)
  pub arguments : IsTrue (has_arguments heap method state.first state.second)
  pub counts : IsTrue (counts_fit heap state method)
  pub waits : IsTrue (waits_for awaited)
  pub named : FitsSite code site

-- ---- all frames

-- a frame of either kind, by what it waits for
abbrev pub FrameIsValid : CodeProgram → Progress → Awaited → Frame → Type 0
FrameIsValid code progress awaited (Running leaving activation locals rest stack) =
    RunningIsValid code progress awaited leaving activation locals rest stack
FrameIsValid code progress awaited (Looping method state site) = LoopingIsValid progress.world.cells code awaited method state site

-- Each frame is valid where it stands, and a superclass part stands on the initialiser that waits for it.
abbrev pub FramesAreValid : CodeProgram → Progress → Awaited → List Frame → Type 0
FramesAreValid code progress PartEnd [] = ⊥
FramesAreValid code progress awaited [] = Unit {0}
FramesAreValid code progress awaited (frame ∷ frames) =
    FrameIsValid code progress awaited frame × FramesAreValid code progress (awaited_below code frame) frames
