-- What an audit makes of the bytes of an image: they are read, the code is verified, the class is found, and its module is
-- audited (this profile).
use Rattle.std.specs.Prelude.{ℕ, ◌+◌, List, [], ◌∷◌, ◌++◌, slice_get, Option, Some, None, option_and_then, Bool, ◌&&◌, Result, Ok, Err}
use Rattle.std.specs.Prelude.{codes, if◌then◌else◌}
use Rattle.std.specs.Fmt.{decimal}
use Rattle.std.specs.Option.{is_none}
use Rattle.std.specs.Str.{bytes_eq}
use Rattle.ns_base.specs.declared.selector.Sel.{Sel}
use Rattle.ns_base.specs.declared.status.Status.{Status}
use Rattle.ns_base.specs.declared.status.Status.TheVariants.{Done, ProgramError}
use Rattle.ns_code.specs.declared.program.CodeProgram.{CodeProgram}
use Rattle.ns_code.specs.declared.class.ClassCode.{ClassCode}
use Rattle.ns_code.specs.declared.body.BodyCode.{BodyCode}
use Rattle.ns_code.specs.Selector.{selector_text}
use Rattle.ns_image.specs.Reading.{read_image}
use Rattle.ns_image.specs.declared.fault.ImageFault.{ImageFault}
use Rattle.ns_image.specs.declared.fault.ImageFault.TheVariants.{NotAnImage, BadVersion, Truncated, BadField, Trailing, Memory}
use Rattle.ns_json.specs.declared.saying.Audit as saying
use Rattle.ns_json.specs.declared.saying.Audit.TheVariants as says
use Rattle.ns_verify.specs.Verify.{fault_of}
use Rattle.ns_verify.specs.declared.fault.Fault.{Fault}
use Rattle.ns_verify.specs.declared.fault.VerifyCause.{VerifyCause}
use Rattle.ns_verify.specs.declared.fault.Where.{Where}
use Rattle.ns_audit.specs.declared.answer.Audit.{Audit}
use Rattle.ns_audit.specs.declared.answer.Audit.TheVariants.{Yes, Sends, Performs}
use Rattle.ns_audit.specs.declared.image.AuditFault.{AuditFault}
use Rattle.ns_audit.specs.declared.image.AuditFault.TheVariants as fault
use Rattle.ns_audit.specs.Audit.{audited, sent_by}

-- bytes that are no image, code that isn't admitted, no such class, or the line that is told, the status, and what is told in parts
pub data AuditedImage : Type 0 where
  unread : (fault : ImageFault) → AuditedImage
  unadmitted : (cause : VerifyCause) (at : Where) → AuditedImage
  no_class : AuditedImage
  answers : (line : List ℕ) (status : Status) (part : saying.Audit) → AuditedImage

-- ---- what is asked for

-- the first of some names that is this text, which are numbered from that number on
abbrev pub named_from : List (List ℕ) → ℕ → List ℕ → Option ℕ
named_from [] number text = None
named_from (name ∷ names) number text = if bytes_eq name text then Some number else named_from names (number + 1) text

-- selectors, and the one of that number in front of them
abbrev pub with_named : Option ℕ → List Sel → List Sel
with_named None sels = sels
with_named (Some number) sels = record { 0 = number } ∷ sels

-- the selectors of these texts that the code names: no other text is sent
abbrev pub denied_in : CodeProgram → List (List ℕ) → List Sel
denied_in code [] = []
denied_in code (text ∷ texts) = with_named (named_from code.names 0 text) (denied_in code texts)

-- whether a class is top-level and has that name
abbrev pub is_called : CodeProgram → List ℕ → ClassCode → Bool
is_called code name class = is_none class.outer && bytes_eq (selector_text code class.name.0) name

-- the first such class, of classes that are numbered from that number on
abbrev pub called_from : CodeProgram → List ℕ → ℕ → List ClassCode → Option ℕ
called_from code name number [] = None
called_from code name number (class ∷ classes) =
    if is_called code name class then Some number else called_from code name (number + 1) classes

-- ---- what is told

-- the text of a selector, empty where there is none
abbrev pub text_of : CodeProgram → Option Sel → List ℕ
text_of code None = []
text_of code (Some sel) = selector_text code sel.0

-- what the instruction of that number in the body of that number sends
abbrev pub sent_by_instr : CodeProgram → ℕ → ℕ → Option Sel
sent_by_instr code body at = option_and_then sent_by (option_and_then (λ (b : BodyCode). slice_get b.instrs at) (slice_get code.bodies body))

abbrev pub instruction_text : ℕ → ℕ → List ℕ
instruction_text body at = codes "body " ++ decimal body ++ codes " at " ++ decimal at

abbrev pub performs_text : ℕ → ℕ → List ℕ
performs_text body at = instruction_text body at ++ codes " performs" ++ 10 ∷ []

-- the line of an audit
abbrev pub answer_line : CodeProgram → Audit → List ℕ
answer_line code Yes = codes "yes" ++ 10 ∷ []
answer_line code (Sends body at) = instruction_text body at ++ codes " sends " ++ text_of code (sent_by_instr code body at) ++ 10 ∷ []
answer_line code (Performs body at) = performs_text body at

-- an audit that isn't passed is an error of the program
abbrev pub answer_status : Audit → Status
answer_status Yes = Done
answer_status (Sends body at) = ProgramError
answer_status (Performs body at) = ProgramError

-- an audit in parts
abbrev pub answer_part : CodeProgram → Audit → saying.Audit
answer_part code Yes = says.Yes
answer_part code (Sends body at) = says.Sends (text_of code (sent_by_instr code body at)) body at
answer_part code (Performs body at) = says.Performs body at

abbrev pub answer_told : CodeProgram → Audit → AuditedImage
answer_told code audit = answers (answer_line code audit) (answer_status audit) (answer_part code audit)

-- ---- all of it

-- the audit of the module of a class, if there is one
abbrev pub of_class : CodeProgram → List (List ℕ) → Option ℕ → AuditedImage
of_class code denied None = no_class
of_class code denied (Some class) = answer_told code (audited code class (denied_in code denied))

-- the audit of code, of which this is the first fault
abbrev pub of_code : List (List ℕ) → List ℕ → CodeProgram → Option Fault → AuditedImage
of_code denied class code (Some fault) = unadmitted fault.cause fault.at
of_code denied class code None = of_class code denied (called_from code class 0 code.classes)

-- the audit of what was read
abbrev pub of_read : List (List ℕ) → List ℕ → Result CodeProgram ImageFault → AuditedImage
of_read denied class (Err fault) = unread fault
of_read denied class (Ok code) = of_code denied class code (fault_of code)

-- why an image was not audited, apart from want of memory
abbrev pub told_fault : ImageFault → AuditFault
told_fault NotAnImage = fault.Image NotAnImage
told_fault BadVersion = fault.Image BadVersion
told_fault Truncated = fault.Image Truncated
told_fault (BadField at) = fault.Image (BadField at)
told_fault Trailing = fault.Image Trailing
told_fault Memory = fault.Memory

-- the audit of the module of that class in the image of these bytes
abbrev pub audited_image : List ℕ → List (List ℕ) → List ℕ → AuditedImage
audited_image bytes denied class = of_read denied class (read_image bytes)
