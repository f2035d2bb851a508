-- The private sends of sound code are of names.
use Rattle.std.proofs.Common.{◌≡◌, ℕ, ◌<◌, List, length, get_or, refl, sym, ap, ◌∙◌}
use Rattle.std.specs.Prelude.{slice_get, Some, All}
use Rattle.std.proofs.lemmas.Option.{slice_get-get_or, slice_get_read}
use Rattle.ns_code.specs.declared.program.CodeProgram.{CodeProgram}
use Rattle.ns_code.specs.declared.body.BodyCode.{BodyCode}
use Rattle.ns_code.specs.declared.instruction.Instr.{Instr}
use Rattle.ns_code.specs.declared.instruction.Instr.TheVariants.{PushNil, PushTrue, PushFalse, PushInt, PushSym, PushText, PushSelf, PushOuter, PushLocal, StoreLocal, PushBlock, MakeArray, Pop, Pick, Send, SendInner, SendPrivate, SendSuper, InitSuper, StoreSlot, Return, ReturnSelf, ReturnHome, Jump, JumpFalse, JumpTrue}
use Rattle.ns_verify.specs.Verify.{IsSound}
use Rattle.ns_verify.specs.Uses.{IsUsable}
use Rattle.ns_machine_plan.specs.Making.{SendsAName}

named : (code : CodeProgram) (number at : ℕ) (body : BodyCode) (instr : Instr) → IsUsable code number body at instr → SendsAName code instr
named code number at body PushNil usable = tt
named code number at body PushTrue usable = tt
named code number at body PushFalse usable = tt
named code number at body (PushInt n) usable = tt
named code number at body (PushSym sel) usable = tt
named code number at body (PushText text) usable = tt
named code number at body PushSelf usable = tt
named code number at body (PushOuter level) usable = tt
named code number at body (PushLocal hops index) usable = tt
named code number at body (StoreLocal hops index) usable = tt
named code number at body (PushBlock block) usable = tt
named code number at body (MakeArray count) usable = tt
named code number at body Pop usable = tt
named code number at body (Pick depth) usable = tt
named code number at body (Send sel argc) usable = tt
named code number at body (SendInner sel argc) usable = tt
named code number at body (SendPrivate level sel argc) usable = usable.0.0
named code number at body (SendSuper sel argc) usable = tt
named code number at body (InitSuper argc) usable = tt
named code number at body (StoreSlot slot) usable = tt
named code number at body Return usable = tt
named code number at body ReturnSelf usable = tt
named code number at body ReturnHome usable = tt
named code number at body (Jump to) usable = tt
named code number at body (JumpFalse to) usable = tt
named code number at body (JumpTrue to) usable = tt

abbrev Usable : Type 0
Usable =
    (code : CodeProgram) (number at : ℕ) (body : BodyCode) (instr : Instr) → IsSound code → slice_get code.bodies number ≡ Some body
    → slice_get body.instrs at ≡ Some instr → IsUsable code number body at instr

are_named : Usable → (code : CodeProgram) (number : ℕ) (body : BodyCode) → IsSound code → slice_get code.bodies number ≡ Some body →
    All (SendsAName code) body.instrs
are_named usable code number body sound is at d lt =
    named code number at body (get_or body.instrs at d) (usable code number at body (get_or body.instrs at d) sound is (slice_get-get_or body.instrs at d lt))

-- those of a body of the code
pub sends_are_named : Usable → (code : CodeProgram) (number : ℕ) (body : BodyCode) (slice : List BodyCode) → IsSound code →
    slice ≡ code.bodies →
    number < length slice → body ≡ get_or slice number body → All (SendsAName code) body.instrs
sends_are_named usable code number body slice sound slice_is lt is =
    are_named usable code number body sound (ap (λ bodies. slice_get bodies number) (sym slice_is) ∙ slice_get_read slice (length slice) number body refl lt is)
