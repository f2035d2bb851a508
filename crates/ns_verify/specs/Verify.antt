-- Which code is sound: the first fault of code, over its classes, then its bodies, then their instructions.
use Rattle.std.specs.Prelude.{◌≡◌, ℕ, ◌+◌, List, [], ◌∷◌, length, Option, Some, None, option_map, if◌then◌else◌}
use Rattle.std.specs.List.{slice_index_or}
use Rattle.std.specs.Option.{option_or}
use Rattle.ns_code.specs.declared.program.CodeProgram.{CodeProgram}
use Rattle.ns_code.specs.declared.class.ClassCode.{ClassCode}
use Rattle.ns_code.specs.declared.body.BodyCode.{BodyCode}
use Rattle.ns_code.specs.declared.instruction.Instr.{Instr}
use Rattle.ns_code.specs.Soundness.{has_bad_scope, has_bad_literal}
use Rattle.ns_verify.specs.declared.fault.VerifyCause.{VerifyCause}
use Rattle.ns_verify.specs.declared.fault.VerifyCause.TheVariants.{BadScope, BadLiteral}
use Rattle.ns_verify.specs.declared.fault.Where.{Where}
use Rattle.ns_verify.specs.declared.fault.Where.TheVariants.{Class, Body}
use Rattle.ns_verify.specs.declared.fault.Fault.{Fault}
use Rattle.ns_verify.specs.declared.fault.VerifyFault.{VerifyFault}
use Rattle.ns_verify.specs.declared.fault.VerifyFault.TheVariants.{At, Memory}
use Rattle.ns_verify.specs.Heights.{Pass, begin, next}
use Rattle.ns_verify.specs.Chains.{home_kinds}
use Rattle.ns_verify.specs.Causes.{cause_at, empty_cause}

-- a cause at a place
abbrev pub placed : Where → VerifyCause → Fault
placed at cause = record { cause = cause; at = at }

-- the first cause that holds of a class
abbrev pub class_cause : CodeProgram → ℕ → ClassCode → Option VerifyCause
class_cause code number class =
    if has_bad_scope code number class then Some BadScope
    else (if has_bad_literal code class then Some BadLiteral else None)

-- the first fault of classes, which are numbered from that number on
abbrev pub classes_fault : CodeProgram → ℕ → List ClassCode → Option Fault
classes_fault code number [] = None
classes_fault code number (class ∷ classes) =
    option_or (option_map (placed (Class number)) (class_cause code number class)) (classes_fault code (number + 1) classes)

-- the first fault of a program's classes, of which there is at least one
abbrev pub first_class_fault : CodeProgram → List ClassCode → Option Fault
first_class_fault code [] = Some (placed (Class 0) BadScope)
first_class_fault code (class ∷ classes) = classes_fault code 0 (class ∷ classes)

-- the first fault of a body's instructions, which are numbered from that number on
abbrev pub instrs_fault : CodeProgram → ℕ → BodyCode → ℕ → Pass → ℕ → List Instr → Option Fault
instrs_fault code number body home pass at [] = None
instrs_fault code number body home pass at (instr ∷ instrs) =
    option_or (option_map (placed (Body number at)) (cause_at code number body home pass at instr))
    (instrs_fault code number body home (next pass at instr) (at + 1) instrs)

-- the first fault of a body with these instructions
abbrev pub body_fault_in : CodeProgram → ℕ → BodyCode → ℕ → List Instr → Option Fault
body_fault_in code number body home [] = Some (placed (Body number 0) (empty_cause code number body))
body_fault_in code number body home (instr ∷ instrs) =
    instrs_fault code number body home (begin (length (instr ∷ instrs))) 0 (instr ∷ instrs)

-- the first fault of a body
abbrev pub body_fault : CodeProgram → ℕ → BodyCode → Option Fault
body_fault code number body = body_fault_in code number body (slice_index_or (home_kinds code) number body.kind) body.instrs

-- the first fault of bodies, which are numbered from that number on
abbrev pub bodies_fault : CodeProgram → ℕ → List BodyCode → Option Fault
bodies_fault code number [] = None
bodies_fault code number (body ∷ bodies) = option_or (body_fault code number body) (bodies_fault code (number + 1) bodies)

-- the first fault of code, if it has one
abbrev pub fault_of : CodeProgram → Option Fault
fault_of code = option_or (first_class_fault code code.classes) (bodies_fault code 0 code.bodies)

-- Code is sound where it has no fault.
abbrev pub IsSound : CodeProgram → Type 0
IsSound code = fault_of code ≡ None

-- A fault that is told is the first one; want of memory is told of any code.
abbrev pub Told : Option Fault → VerifyFault → Type 0
Told first (At cause at) = first ≡ Some (placed at cause)
Told first Memory = Unit {0}
