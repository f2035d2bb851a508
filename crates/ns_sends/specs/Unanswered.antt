-- Sends that nothing can answer, each once, by their places.
use Rattle.std.specs.Prelude.{ℕ, List, [], ◌∷◌, flat_map, slice_get, Option, Some, None, if◌then◌else◌}
use Rattle.std.specs.Option.{option_map_or}
use Rattle.ns_base.specs.declared.place.Place.{Place}
use Rattle.ns_base.specs.declared.selector.Sel.{Sel}
use Rattle.ns_code.specs.declared.program.CodeProgram.{CodeProgram}
use Rattle.ns_code.specs.declared.body.BodyCode.{BodyCode}
use Rattle.ns_code.specs.declared.instruction.Instr.{Instr}
use Rattle.ns_code.specs.declared.instruction.Instr.TheVariants as i
use Rattle.ns_code.specs.Selector.{selector_text}
use Rattle.ns_static_all.specs.InOrder.{in_order}
use Rattle.ns_sends.specs.declared.sent.SentAt.{SentAt}
use Rattle.ns_sends.specs.Answered.{is_answered}

-- what an instruction sends, where it is one of the four sends
abbrev pub sent_by : Instr → Option Sel
sent_by (i.Send sel argc) = Some sel
sent_by (i.SendInner sel argc) = Some sel
sent_by (i.SendPrivate level sel argc) = Some sel
sent_by (i.SendSuper sel argc) = Some sel
sent_by i.PushNil = None
sent_by i.PushTrue = None
sent_by i.PushFalse = None
sent_by (i.PushInt number) = None
sent_by (i.PushSym sel) = None
sent_by (i.PushText text) = None
sent_by i.PushSelf = None
sent_by (i.PushOuter level) = None
sent_by (i.PushLocal hops index) = None
sent_by (i.StoreLocal hops index) = None
sent_by (i.PushBlock body) = None
sent_by (i.MakeArray count) = None
sent_by i.Pop = None
sent_by (i.Pick number) = None
sent_by (i.InitSuper argc) = None
sent_by (i.StoreSlot slot) = None
sent_by i.Return = None
sent_by i.ReturnSelf = None
sent_by i.ReturnHome = None
sent_by (i.Jump target) = None
sent_by (i.JumpFalse target) = None
sent_by (i.JumpTrue target) = None

-- a selector that is sent at a place, where nothing answers it
abbrev pub lost_at : CodeProgram → Place → Option Sel → List SentAt
lost_at code place None = []
lost_at code place (Some sel) =
    if is_answered code (selector_text code sel.0) then [] else record { place = place; sel = sel } ∷ []

-- what the instruction that has a place sends, where nothing answers it
abbrev pub lost_by : CodeProgram → List Instr → ℕ × Place → List SentAt
lost_by code instrs x = lost_at code x.1 (option_map_or sent_by (slice_get instrs x.0) None)

-- the sends of a body that nothing answers
abbrev pub lost_in : CodeProgram → BodyCode → List SentAt
lost_in code body = flat_map (lost_by code body.instrs) body.places

-- those of all bodies
abbrev pub lost_sends : CodeProgram → List SentAt
lost_sends code = flat_map (lost_in code) code.bodies

abbrev pub column_key : SentAt → List ℕ
column_key sent = sent.place.col ∷ sent.sel.0 ∷ []

abbrev pub line_key : SentAt → List ℕ
line_key sent = sent.place.line ∷ column_key sent

-- what sends are compared by: the file, the line, the column, and the selector's number
abbrev pub sent_key : SentAt → List ℕ
sent_key sent = sent.place.file ∷ line_key sent

-- the sends of code that nothing can answer, each once, in their order
abbrev pub unanswered : CodeProgram → List SentAt
unanswered code = in_order sent_key (lost_sends code)
