-- The audit of a module: the first of its instructions that sends a denied selector, or `perform:with:`, which can send any.
use Rattle.std.specs.Prelude.{ℕ, ◌+◌, List, [], ◌∷◌, Option, Some, None, unwrap_or, codes, Bool, ◌==◌, if◌then◌else◌}
use Rattle.std.specs.Option.{option_or}
use Rattle.std.specs.List.{list_any}
use Rattle.std.specs.Str.{bytes_eq}
use Rattle.ns_base.specs.declared.selector.Sel.{Sel}
use Rattle.ns_code.specs.declared.program.CodeProgram.{CodeProgram}
use Rattle.ns_code.specs.declared.body.BodyCode.{BodyCode}
use Rattle.ns_code.specs.declared.instruction.Instr.{Instr}
use Rattle.ns_code.specs.declared.instruction.Instr.TheVariants as instr
use Rattle.ns_code.specs.Selector.{selector_text}
use Rattle.ns_audit.specs.declared.answer.Audit.{Audit}
use Rattle.ns_audit.specs.declared.answer.Audit.TheVariants.{Yes, Sends, Performs}
use Rattle.ns_audit.specs.Module.{tops, is_of_module}

-- what an instruction sends, where it is one of the four sends; the start of a superclass part is none
abbrev pub sent_by : Instr → Option Sel
sent_by instr.PushNil = None
sent_by instr.PushTrue = None
sent_by instr.PushFalse = None
sent_by (instr.PushInt number) = None
sent_by (instr.PushSym sel) = None
sent_by (instr.PushText text) = None
sent_by instr.PushSelf = None
sent_by (instr.PushOuter level) = None
sent_by (instr.PushLocal hops index) = None
sent_by (instr.StoreLocal hops index) = None
sent_by (instr.PushBlock body) = None
sent_by (instr.MakeArray count) = None
sent_by instr.Pop = None
sent_by (instr.Pick number) = None
sent_by (instr.Send sel argc) = Some sel
sent_by (instr.SendInner sel argc) = Some sel
sent_by (instr.SendPrivate level sel argc) = Some sel
sent_by (instr.SendSuper sel argc) = Some sel
sent_by (instr.InitSuper argc) = None
sent_by (instr.StoreSlot slot) = None
sent_by instr.Return = None
sent_by instr.ReturnSelf = None
sent_by instr.ReturnHome = None
sent_by (instr.Jump target) = None
sent_by (instr.JumpFalse target) = None
sent_by (instr.JumpTrue target) = None

-- whether a selector is one of these
abbrev pub is_denied : List Sel → Sel → Bool
is_denied denied sel = list_any (λ (other : Sel). other.0 == sel.0) denied

-- whether a selector is `perform:with:`
abbrev pub is_perform : CodeProgram → Sel → Bool
is_perform code sel = bytes_eq (selector_text code sel.0) (codes "perform:with:")

-- the answer that a send asks for, if it asks for one: a denied one that is `perform:with:` too is denied
abbrev pub told_of : CodeProgram → List Sel → ℕ → ℕ → Option Sel → Option Audit
told_of code denied body at None = None
told_of code denied body at (Some sel) =
    if is_denied denied sel then Some (Sends body at)
    else (if is_perform code sel then Some (Performs body at) else None)

-- the first answer that instructions ask for, which are numbered from that number on
abbrev pub told_in : CodeProgram → List Sel → ℕ → ℕ → List Instr → Option Audit
told_in code denied body at [] = None
told_in code denied body at (instr ∷ instrs) =
    option_or (told_of code denied body at (sent_by instr)) (told_in code denied body (at + 1) instrs)

-- the first that a body asks for, where it is of the module
abbrev pub told_of_body : CodeProgram → List Sel → Bool → ℕ → BodyCode → Option Audit
told_of_body code denied inside number body = if inside then told_in code denied number 0 body.instrs else None

-- the first that bodies ask for, which are numbered from that number on
abbrev pub told_from : CodeProgram → List Sel → List ℕ → ℕ → ℕ → List BodyCode → Option Audit
told_from code denied tops top number [] = None
told_from code denied tops top number (body ∷ bodies) =
    option_or (told_of_body code denied (is_of_module tops top body) number body) (told_from code denied tops top (number + 1) bodies)

-- the audit of the module of that top-level class
abbrev pub audited : CodeProgram → ℕ → List Sel → Audit
audited code top denied = unwrap_or (told_from code denied (tops code) top 0 code.bodies) Yes
