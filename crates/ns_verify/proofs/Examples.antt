-- Worked examples of heights and first faults.
use Rattle.std.specs.Prelude.{◌≡◌, ℕ, List, [], ◌∷◌, Option, None, Some, codes}
use Rattle.std.proofs.Common.{refl}
use Rattle.ns_code.specs.declared.program.CodeProgram.{CodeProgram}
use Rattle.ns_code.specs.declared.body.BodyCode.{BodyCode}
use Rattle.ns_code.specs.declared.instruction.Instr.{Instr}
use Rattle.ns_code.specs.declared.instruction.Instr.TheVariants.{PushNil, PushTrue, PushText, PushSelf, PushOuter, PushLocal, Pop, Send, Return, ReturnSelf, Jump, JumpFalse, JumpTrue}
use Rattle.ns_verify.specs.declared.fault.Fault.{Fault}
use Rattle.ns_verify.specs.declared.fault.VerifyCause.{VerifyCause}
use Rattle.ns_verify.specs.declared.fault.VerifyCause.TheVariants.{BadJump, BadHeight, BadSlot, BadScope, BadLiteral, NoReturn}
use Rattle.ns_verify.specs.declared.fault.Where.TheVariants.{Class, Body}
use Rattle.ns_verify.specs.Heights.{heights}
use Rattle.ns_verify.specs.Least.{least_class, least_body, least_code}
use Rattle.ns_verify.specs.Verify.{placed, fault_of}

-- a method of one local
abbrev method : List Instr → BodyCode
method instrs = record (least_body 3) { kind = 0; locals = 1; instrs = instrs }

-- the least class with this method
abbrev with_method : List Instr → CodeProgram
with_method instrs =
    record (least_code 0) {
      names = codes "A" ∷ codes "foo" ∷ [];
      classes = record least_class { methods = record { sel = record { 0 = 1 }; access = 0; body = 1 } ∷ [] } ∷ [];
      bodies = least_body 0 ∷ method instrs ∷ [];
    }

abbrev in_method : ℕ → VerifyCause → Option Fault
in_method at cause = Some (placed (Body 1 at) cause)

-- A jump gives its height to its target, also behind a return.
to_both_ways : heights (method (PushTrue ∷ JumpFalse 3 ∷ ReturnSelf ∷ ReturnSelf ∷ [])) ≡ 0 ∷ 1 ∷ 0 ∷ 0 ∷ []
to_both_ways = refl

behind_a_return : heights (method (PushTrue ∷ PushTrue ∷ JumpTrue 4 ∷ Return ∷ Return ∷ [])) ≡ 0 ∷ 1 ∷ 2 ∷ 1 ∷ 1 ∷ []
behind_a_return = refl

-- Nothing else reaches an instruction behind a return.
alone_behind_a_return : heights (method (PushNil ∷ Return ∷ PushNil ∷ Return ∷ [])) ≡ 0 ∷ 1 ∷ 0 ∷ 1 ∷ []
alone_behind_a_return = refl

sound_least : fault_of (least_code 7) ≡ None
sound_least = refl

too_high : fault_of (least_code 1024) ≡ Some (placed (Body 0 0) BadScope)
too_high = refl

no_class : fault_of (record (least_code 0) { classes = [] }) ≡ Some (placed (Class 0) BadScope)
no_class = refl

class_before_body : fault_of (record (least_code 1024) { classes = record least_class { outer = Some 0 } ∷ [] }) ≡ Some (placed (Class 0) BadScope)
class_before_body = refl

name_of_an_operator : fault_of (record (least_code 0) { names = codes "+" ∷ [] }) ≡ Some (placed (Class 0) BadScope)
name_of_an_operator = refl

sound_method : fault_of (with_method (PushSelf ∷ Send (record { 0 = 1 }) 0 ∷ Return ∷ [])) ≡ None
sound_method = refl

jump_past_the_end : fault_of (with_method (Jump 1 ∷ [])) ≡ in_method 0 BadJump
jump_past_the_end = refl

jump_before_height : fault_of (with_method (JumpTrue 9 ∷ [])) ≡ in_method 0 BadJump
jump_before_height = refl

nothing_to_pop : fault_of (with_method (Pop ∷ ReturnSelf ∷ [])) ≡ in_method 0 BadHeight
nothing_to_pop = refl

two_heights_at_the_jump : fault_of (with_method (PushNil ∷ Jump 0 ∷ [])) ≡ in_method 1 BadHeight
two_heights_at_the_jump = refl

two_heights_below : fault_of (with_method (PushTrue ∷ JumpTrue 3 ∷ PushNil ∷ Return ∷ [])) ≡ in_method 3 BadHeight
two_heights_below = refl

no_local : fault_of (with_method (PushLocal 0 1 ∷ Return ∷ [])) ≡ in_method 0 BadSlot
no_local = refl

no_body_around : fault_of (with_method (PushLocal 1 1 ∷ Return ∷ [])) ≡ in_method 0 BadScope
no_body_around = refl

no_level : fault_of (with_method (PushOuter 1 ∷ Return ∷ [])) ≡ in_method 0 BadScope
no_level = refl

no_text : fault_of (with_method (PushText 0 ∷ Return ∷ [])) ≡ in_method 0 BadLiteral
no_text = refl

one_argument_more : fault_of (with_method (PushSelf ∷ PushNil ∷ Send (record { 0 = 1 }) 1 ∷ Return ∷ [])) ≡ in_method 2 BadLiteral
one_argument_more = refl

nothing_returned : fault_of (with_method (PushNil ∷ [])) ≡ in_method 0 NoReturn
nothing_returned = refl

nothing_at_all : fault_of (with_method []) ≡ in_method 0 NoReturn
nothing_at_all = refl
