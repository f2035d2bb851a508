-- What steps of sound code can rely on, and what the machine's definitions say of them.
use Rattle.std.specs.Prelude.{◌≡◌, ◌≢◌, ℕ, ◌+◌, ◌<◌, ◌≤◌, List, length, Some, IsSome, slice_get, true}
use Rattle.ns_base.specs.declared.selector.Sel.{Sel}
use Rattle.ns_code.specs.declared.program.CodeProgram.{CodeProgram}
use Rattle.ns_code.specs.declared.body.BodyCode.{BodyCode}
use Rattle.ns_code.specs.declared.instruction.Instr.TheVariants.{SendPrivate}
use Rattle.ns_code.specs.Fits.{Fits}
use Rattle.ns_code.specs.Table.{goes_on, target}
use Rattle.ns_verify.specs.Verify.{IsSound}
use Rattle.ns_verify.specs.Uses.{IsUsable}
use Rattle.ns_world.specs.declared.value.Value.{Value}
use Rattle.ns_world.specs.Heap.{Heap}
use Rattle.ns_world.specs.Lawful.{IsLawful}
use Rattle.ns_world.specs.World.{World}
use Rattle.ns_find.specs.declared.found.Found.TheVariants as found
use Rattle.ns_find.specs.declared.found.Sending.{Sending}
use Rattle.ns_world.specs.Layout.{declaration_of, entries_of}
use Rattle.ns_world.specs.declared.kernel_parts.DataRow.{DataRow}
use Rattle.ns_world.specs.declared.kernel_parts.KMethod.{KMethod}
use Rattle.ns_world.specs.declared.kernel_parts.IntRow.{IntRow}
use Rattle.ns_moves.specs.Bodies.{enclosing, locals_of, height_in, greatest_of}
use Rattle.ns_moves.specs.Control.{Progress, Activation}
use Rattle.ns_moves.specs.Lawful.{FitsActivation, declaration_at}
use Rattle.ns_moves.specs.Sends.{ToPrivate, found_at}
use Rattle.ns_moves.specs.State.{Leaving}
use Rattle.ns_moves.specs.Steps as moves
use Rattle.ns_moves.specs.Steps.{steps_from}
use Rattle.ns_moves.specs.ValidFrames.{Nothing, RunningIsValid}
use Rattle.ns_machine_plan.specs.declared.step.Step.{Step}
use Rattle.ns_machine_plan.specs.declared.step.Member.TheVariants.{Absent}
use Rattle.ns_machine_plan.specs.Arrays.{FindsArray}
use Rattle.ns_machine_plan.specs.Arrays.{row_of_send as row_of_array_send}
use Rattle.ns_machine_plan.specs.Booleans.{FindsBoolean, method_of_send}
use Rattle.ns_machine_plan.specs.Integers.{FindsInteger, row_of_send}
use Rattle.ns_machine_plan.specs.Privates.{SlotIsAmong, found_in, member_at}
use Rattle.ns_machine_plan.specs.Steps.{instr_of}
use Rattle.ns_machine_plan.specs.Plan.{HasStep, IsStepAt}

-- The first step of a body is there.
abbrev pub BodiesHaveSteps : CodeProgram → Type 0
BodiesHaveSteps code = (body : ℕ) → IsSound code → body < length code.bodies → HasStep code body 0

-- Behind a step that goes on there is a next one.
abbrev pub StepsGoOn : CodeProgram → Type 0
StepsGoOn code =
    (body next : ℕ) (step : Step) → IsSound code → HasStep code body next → IsStepAt code body next step → goes_on (instr_of step) ≡ true
    → HasStep code body (next + 1)

-- The target of a jump is a step of its body.
abbrev pub JumpsLand : CodeProgram → Type 0
JumpsLand code =
    (body next to : ℕ) (step : Step) → IsSound code → HasStep code body next → IsStepAt code body next step → target (instr_of step) ≡ Some to
    → HasStep code body to

-- What a step names is there, and it stands in a body in which it can be used.
abbrev pub StepsAreUsable : CodeProgram → Type 0
StepsAreUsable code =
    (body next : ℕ) (step : Step) (b : BodyCode) → IsSound code → HasStep code body next → IsStepAt code body next step
    → slice_get code.bodies body ≡ Some b → IsUsable code body b next (instr_of step)

-- A body that runs and waits for nothing has a next step.
abbrev pub RunningHasStep : CodeProgram → Type 0
RunningHasStep code =
    (progress : Progress) (leaving : Leaving) (activation : Activation) (locals stack : List Value) (next : ℕ) (rest : List moves.PlacedInstr)
    → rest ≡ steps_from code activation.body next → RunningIsValid code progress Nothing leaving activation locals rest stack
    → HasStep code activation.body next

-- In a lawful world the member of a private send, with the holder at its level, is what its lookup finds.
abbrev pub MembersAreFound : CodeProgram → Type 0
MembersAreFound code =
    (world : World) (activation : Activation) (b : BodyCode) (level : ℕ) (sel : Sel) → IsLawful world code
    → FitsActivation world.cells code activation → slice_get code.bodies activation.body ≡ Some b → IsSome (declaration_at code activation.body level)
    → found_at world.cells code activation (ToPrivate level) sel.0
    ≡ found_in world.cells code (enclosing world.cells activation level).holder (member_at code b level sel)

-- Where it is that of a slot, the slot is an entry of the declaration of that holder.
abbrev pub MembersAreEntries : CodeProgram → Type 0
MembersAreEntries code =
    (world : World) (activation : Activation) (b : BodyCode) (level : ℕ) (sel : Sel) → IsLawful world code
    → FitsActivation world.cells code activation → slice_get code.bodies activation.body ≡ Some b → IsSome (declaration_at code activation.body level)
    → SlotIsAmong (entries_of code (declaration_of world.cells (enclosing world.cells activation level).holder)) (member_at code b level sel)

-- A private send of sound code has a member.
abbrev pub PrivateSendsHaveMembers : CodeProgram → Type 0
PrivateSendsHaveMembers code =
    (body at level argc : ℕ) (sel : Sel) (b : BodyCode) → Fits code → slice_get code.bodies body ≡ Some b
    → IsUsable code body b at (SendPrivate level sel argc) → member_at code b level sel ≢ Absent

-- So its lookup finds one, in each lawful world.
abbrev pub PrivateSendsFind : CodeProgram → Type 0
PrivateSendsFind code =
    (world : World) (activation : Activation) (at level argc : ℕ) (sel : Sel) (b : BodyCode) → Fits code → IsLawful world code
    → FitsActivation world.cells code activation → slice_get code.bodies activation.body ≡ Some b
    → IsUsable code activation.body b at (SendPrivate level sel argc)
    → found_at world.cells code activation (ToPrivate level) sel.0 ≢ found.Absent

-- An Integer finds the row of Integer that a selector spells, however it is sent.
abbrev pub IntegersFindRows : Heap → CodeProgram → Type 0
IntegersFindRows heap code =
    (sel : Sel) (kind : Sending) (row : IntRow) → row_of_send code sel ≡ Some row → FindsInteger heap code sel kind row

-- A Boolean finds the method of Boolean that a selector spells, however it is sent.
abbrev pub BooleansFindRows : Heap → CodeProgram → Type 0
BooleansFindRows heap code =
    (sel : Sel) (kind : Sending) (method : KMethod) → method_of_send code sel ≡ Some method → FindsBoolean heap code sel kind method

-- An Array finds the row of Array that a selector spells, however it is sent.
abbrev pub ArraysFindRows : Heap → CodeProgram → Type 0
ArraysFindRows heap code =
    (sel : Sel) (kind : Sending) (row : DataRow) → row_of_array_send code sel ≡ Some row → FindsArray heap code sel kind row

-- No body has more locals and operands than the greatest frame.
abbrev pub FramesAreWithin : CodeProgram → Type 0
FramesAreWithin code = (body : ℕ) → locals_of code body + height_in code body ≤ greatest_of code.bodies
