-- The steps of code, body by body, and the places of its sends, in the order of the code.
use Rattle.std.specs.Prelude.{◌≡◌, ℕ, ◌+◌, List, [], ◌∷◌, ◌++◌, length, map, Option, None, slice_get, ◌==◌, if◌then◌else◌}
use Rattle.ns_base.specs.declared.place.Place.{Place as SourcePlace}
use Rattle.ns_base.specs.declared.selector.Sel.{Sel}
use Rattle.ns_code.specs.declared.program.CodeProgram.{CodeProgram}
use Rattle.ns_code.specs.declared.body.BodyCode.{BodyCode}
use Rattle.ns_code.specs.declared.instruction.Instr.{Instr}
use Rattle.ns_code.specs.declared.instruction.Instr.TheVariants as instr
use Rattle.ns_find.specs.declared.found.Sending.{Sending}
use Rattle.ns_find.specs.declared.found.Sending.TheVariants.{Plain, Inner}
use Rattle.ns_moves.specs.Steps as moves
use Rattle.ns_machine_plan.specs.declared.step.Step.{Step}
use Rattle.ns_machine_plan.specs.declared.step.Step.TheVariants.{PushNil, PushTrue, PushFalse, PushInt, PushSym, PushText, PushSelf, PushOuter, PushLocal}
use Rattle.ns_machine_plan.specs.declared.step.Step.TheVariants.{StoreLocal, PushBlock, MakeArray, Pop, Pick, Send, SendPrivate, SendSuper, InitSuper}
use Rattle.ns_machine_plan.specs.declared.step.Step.TheVariants.{StoreSlot, Return, ReturnSelf, ReturnHome, Jump, JumpFalse, JumpTrue}
use Rattle.ns_machine_plan.specs.Privates.{member_at}
use Rattle.ns_machine_plan.specs.Spelled.{spelled_by}

-- the number of no place
abbrev pub no_place : ℕ
no_place = 4294967295

-- the number of the place of an instruction, where those of its body are numbered from that number on
abbrev pub place_number : ℕ → List (ℕ × SourcePlace) → ℕ → ℕ
place_number first [] at = no_place
place_number first (entry ∷ entries) at = if entry.0 == at then first else place_number (first + 1) entries at

-- an instruction of a body as a step, whose place has that number
abbrev pub step_of : CodeProgram → BodyCode → ℕ → Instr → Step
step_of code body place instr.PushNil = PushNil
step_of code body place instr.PushTrue = PushTrue
step_of code body place instr.PushFalse = PushFalse
step_of code body place (instr.PushInt number) = PushInt number
step_of code body place (instr.PushSym sel) = PushSym sel
step_of code body place (instr.PushText text) = PushText text
step_of code body place instr.PushSelf = PushSelf
step_of code body place (instr.PushOuter level) = PushOuter level
step_of code body place (instr.PushLocal hops index) = PushLocal hops index
step_of code body place (instr.StoreLocal hops index) = StoreLocal hops index
step_of code body place (instr.PushBlock block) = PushBlock block
step_of code body place (instr.MakeArray count) = MakeArray count
step_of code body place instr.Pop = Pop
step_of code body place (instr.Pick number) = Pick number
step_of code body place (instr.Send sel argc) = Send sel argc Plain place (spelled_by code sel)
step_of code body place (instr.SendInner sel argc) = Send sel argc Inner place (spelled_by code sel)
step_of code body place (instr.SendPrivate level sel argc) = SendPrivate level sel argc place (member_at code body level sel)
step_of code body place (instr.SendSuper sel argc) = SendSuper sel argc place
step_of code body place (instr.InitSuper argc) = InitSuper argc place
step_of code body place (instr.StoreSlot slot) = StoreSlot slot
step_of code body place instr.Return = Return
step_of code body place instr.ReturnSelf = ReturnSelf
step_of code body place instr.ReturnHome = ReturnHome
step_of code body place (instr.Jump target) = Jump target
step_of code body place (instr.JumpFalse target) = JumpFalse target
step_of code body place (instr.JumpTrue target) = JumpTrue target

-- the steps of instructions of a body, which are numbered from that number on
abbrev pub prepared : CodeProgram → BodyCode → ℕ → List (ℕ × SourcePlace) → ℕ → List Instr → List Step
prepared code body first places at [] = []
prepared code body first places at (instr ∷ instrs) =
    step_of code body (place_number first places at) instr ∷ prepared code body first places (at + 1) instrs

-- the steps of each of some bodies, whose places are numbered from that number on
abbrev pub all_steps : CodeProgram → ℕ → List BodyCode → List (List Step)
all_steps code first [] = []
all_steps code first (body ∷ bodies) =
    prepared code body first body.places 0 body.instrs ∷ all_steps code (first + length body.places) bodies

-- the places of a body
abbrev pub places_in : BodyCode → List SourcePlace
places_in body = map (λ (entry : ℕ × SourcePlace). entry.1) body.places

-- the places of bodies
abbrev pub all_places : List BodyCode → List SourcePlace
all_places [] = []
all_places (body ∷ bodies) = places_in body ++ all_places bodies

-- the places of code
abbrev pub places_of : CodeProgram → List SourcePlace
places_of code = all_places code.bodies

-- ---- what a step stands for

-- the send of that kind
abbrev pub send_instr : Sending → Sel → ℕ → Instr
send_instr Plain sel argc = instr.Send sel argc
send_instr Inner sel argc = instr.SendInner sel argc

-- the instruction of a step
abbrev pub instr_of : Step → Instr
instr_of PushNil = instr.PushNil
instr_of PushTrue = instr.PushTrue
instr_of PushFalse = instr.PushFalse
instr_of (PushInt number) = instr.PushInt number
instr_of (PushSym sel) = instr.PushSym sel
instr_of (PushText text) = instr.PushText text
instr_of PushSelf = instr.PushSelf
instr_of (PushOuter level) = instr.PushOuter level
instr_of (PushLocal hops index) = instr.PushLocal hops index
instr_of (StoreLocal hops index) = instr.StoreLocal hops index
instr_of (PushBlock block) = instr.PushBlock block
instr_of (MakeArray count) = instr.MakeArray count
instr_of Pop = instr.Pop
instr_of (Pick number) = instr.Pick number
instr_of (Send sel argc kind place row) = send_instr kind sel argc
instr_of (SendPrivate level sel argc place member) = instr.SendPrivate level sel argc
instr_of (SendSuper sel argc place) = instr.SendSuper sel argc
instr_of (InitSuper argc place) = instr.InitSuper argc
instr_of (StoreSlot slot) = instr.StoreSlot slot
instr_of Return = instr.Return
instr_of ReturnSelf = instr.ReturnSelf
instr_of ReturnHome = instr.ReturnHome
instr_of (Jump target) = instr.Jump target
instr_of (JumpFalse target) = instr.JumpFalse target
instr_of (JumpTrue target) = instr.JumpTrue target

-- its place, among these places
abbrev pub place_of : List SourcePlace → Step → Option SourcePlace
place_of places (Send sel argc kind place row) = slice_get places place
place_of places (SendPrivate level sel argc place member) = slice_get places place
place_of places (SendSuper sel argc place) = slice_get places place
place_of places (InitSuper argc place) = slice_get places place
place_of places other = None

-- the instruction and its place
abbrev pub step_shown : List SourcePlace → Step → moves.PlacedInstr
step_shown places step = (instr_of step, place_of places step)

-- A private send has the private member of the declaration around the body that it names, and a send to a value the row that
-- its selector spells.
abbrev pub HasItsMember : CodeProgram → BodyCode → Step → Type 0
HasItsMember code body (Send sel argc kind place row) = row ≡ spelled_by code sel
HasItsMember code body (SendPrivate level sel argc place member) = member ≡ member_at code body level sel
HasItsMember code body other = Unit {0}
