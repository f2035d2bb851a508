-- What each instruction does. The frame that has it stands on the others without it, and with what is left after it.
use Rattle.std.specs.Prelude.{ℕ, List, [], ◌∷◌, Option, true, false}
use Rattle.ns_base.specs.declared.place.Place.{Place as SourcePlace}
use Rattle.ns_code.specs.declared.program.CodeProgram.{CodeProgram}
use Rattle.ns_code.specs.declared.instruction.Instr.{Instr}
use Rattle.ns_code.specs.declared.instruction.Instr.TheVariants as instr
use Rattle.ns_world.specs.declared.value.Value.{Value}
use Rattle.ns_world.specs.declared.value.Value.TheVariants.{Nil, True, False, Int, Sym}
use Rattle.ns_find.specs.declared.found.Sending.TheVariants.{Inner}
use Rattle.ns_moves.specs.Control.{Progress, Activation}
use Rattle.ns_moves.specs.Bodies.{enclosing, local_at, locals_with, local_stored}
use Rattle.ns_moves.specs.Blocks.{new_block, new_text, new_array}
use Rattle.ns_moves.specs.Classes.{super_part, slot_filled}
use Rattle.ns_moves.specs.Sends.{To, ToPrivate, ToSuper, to_value, sent}
use Rattle.ns_moves.specs.State.{Leaving, Frame, Running, Phase, State, Going, Stuck}
use Rattle.ns_moves.specs.Steps.{PlacedInstr, steps_from, literal}
use Rattle.ns_moves.specs.Operands.{on_top, taken_off, picked}
use Rattle.ns_moves.specs.Returns.{settled, returned, returned_home}
use Rattle.ns_moves.specs.Arrivals.{arrived, part_arrived}
use Rattle.ns_moves.specs.Jumps.{jumped, jumped_on}

-- the frame goes on with these operands
abbrev pub on_with : Phase → Leaving → Activation → List Value → List PlacedInstr → List Value → List Frame → Progress → State
on_with phase leaving activation locals rest stack frames progress =
    Going phase (Running leaving activation locals rest stack ∷ frames) progress

-- the topmost value is stored in a local, and stays
abbrev pub stored_local : CodeProgram → Phase → ℕ → ℕ → Value → Leaving → Activation → List Value → List PlacedInstr → List Value →
    List Frame → Progress → State
stored_local code phase hops index value leaving activation locals rest below frames progress =
    on_with phase leaving activation (locals_with code activation locals hops index value) rest (value ∷ below) frames
    (local_stored code activation hops index value progress)

-- one instruction
abbrev pub executed : CodeProgram → Phase → Instr → Option SourcePlace → Leaving → Activation → List Value → List PlacedInstr → List Value →
    List Frame → Progress
    → State
executed code phase instr.PushNil place leaving activation locals rest stack frames progress =
    on_with phase leaving activation locals rest (Nil ∷ stack) frames progress
executed code phase instr.PushTrue place leaving activation locals rest stack frames progress =
    on_with phase leaving activation locals rest (True ∷ stack) frames progress
executed code phase instr.PushFalse place leaving activation locals rest stack frames progress =
    on_with phase leaving activation locals rest (False ∷ stack) frames progress
executed code phase (instr.PushInt number) place leaving activation locals rest stack frames progress =
    on_with phase leaving activation locals rest (Int number ∷ stack) frames progress
executed code phase (instr.PushSym sel) place leaving activation locals rest stack frames progress =
    on_with phase leaving activation locals rest (Sym sel ∷ stack) frames progress
executed code phase (instr.PushText text) place leaving activation locals rest stack frames progress =
    settled code phase (new_text (literal code text) progress) (Running leaving activation locals rest stack ∷ frames)
executed code phase instr.PushSelf place leaving activation locals rest stack frames progress =
    on_with phase leaving activation locals rest (activation.self ∷ stack) frames progress
executed code phase (instr.PushOuter level) place leaving activation locals rest stack frames progress =
    on_with phase leaving activation locals rest ((enclosing progress.world.cells activation level).object ∷ stack) frames progress
executed code phase (instr.PushLocal hops index) place leaving activation locals rest stack frames progress =
    on_with phase leaving activation locals rest (local_at progress.world.cells code activation locals hops index ∷ stack) frames progress
executed code phase (instr.StoreLocal hops index) place leaving activation locals rest stack frames progress =
    on_top (Stuck progress) stack λ value below. stored_local code phase hops index value leaving activation locals rest below frames progress
executed code phase (instr.PushBlock body) place leaving activation locals rest stack frames progress =
    settled code phase (new_block activation body progress) (Running leaving activation locals rest stack ∷ frames)
executed code phase (instr.MakeArray count) place leaving activation locals rest stack frames progress =
    taken_off (Stuck progress) count [] stack λ items below.
    settled code phase (new_array items progress) (Running leaving activation locals rest below ∷ frames)
executed code phase instr.Pop place leaving activation locals rest stack frames progress =
    on_top (Stuck progress) stack λ value below. on_with phase leaving activation locals rest below frames progress
executed code phase (instr.Pick number) place leaving activation locals rest stack frames progress =
    picked (Stuck progress) number stack λ value. on_with phase leaving activation locals rest (value ∷ stack) frames progress
executed code phase (instr.Send sel argc) place leaving activation locals rest stack frames progress =
    taken_off (Stuck progress) argc [] stack λ arguments below. on_top (Stuck progress) below λ receiver below.
    arrived code phase (sent code activation (to_value receiver) sel arguments place progress) (Running leaving activation locals rest below ∷ frames)
executed code phase (instr.SendInner sel argc) place leaving activation locals rest stack frames progress =
    taken_off (Stuck progress) argc [] stack λ arguments below. on_top (Stuck progress) below λ receiver below.
    arrived code phase (sent code activation (To receiver Inner) sel arguments place progress) (Running leaving activation locals rest below ∷ frames)
executed code phase (instr.SendPrivate level sel argc) place leaving activation locals rest stack frames progress =
    taken_off (Stuck progress) argc [] stack λ arguments below.
    arrived code phase (sent code activation (ToPrivate level) sel arguments place progress) (Running leaving activation locals rest below ∷ frames)
executed code phase (instr.SendSuper sel argc) place leaving activation locals rest stack frames progress =
    taken_off (Stuck progress) argc [] stack λ arguments below.
    arrived code phase (sent code activation ToSuper sel arguments place progress) (Running leaving activation locals rest below ∷ frames)
executed code phase (instr.InitSuper argc) place leaving activation locals rest stack frames progress =
    taken_off (Stuck progress) argc [] stack λ arguments below.
    part_arrived code phase (super_part code activation arguments progress) (Running leaving activation locals rest below ∷ frames)
executed code phase (instr.StoreSlot slot) place leaving activation locals rest stack frames progress =
    on_top (Stuck progress) stack λ value below. on_with phase leaving activation locals rest below frames (slot_filled code activation slot value progress)
executed code phase instr.Return place leaving activation locals rest stack frames progress =
    on_top (Stuck progress) stack λ value below. returned code phase leaving activation value frames progress
executed code phase instr.ReturnSelf place leaving activation locals rest stack frames progress =
    returned code phase leaving activation activation.self frames progress
executed code phase instr.ReturnHome place leaving activation locals rest stack frames progress =
    on_top (Stuck progress) stack λ value below. returned_home code phase activation value (Running leaving activation locals rest below ∷ frames) progress
executed code phase (instr.Jump target) place leaving activation locals rest stack frames progress =
    jumped phase leaving activation locals rest (steps_from code activation.body target) stack frames progress
executed code phase (instr.JumpFalse target) place leaving activation locals rest stack frames progress =
    on_top (Stuck progress) stack λ value below.
    jumped_on phase false value leaving activation locals rest (steps_from code activation.body target) below frames progress
executed code phase (instr.JumpTrue target) place leaving activation locals rest stack frames progress =
    on_top (Stuck progress) stack λ value below.
    jumped_on phase true value leaving activation locals rest (steps_from code activation.body target) below frames progress
