-- What comes of an opening, by how it ended; and the code of a program that isn't too large.
use Rattle.std.proofs.Common.{◌≡◌, ◌∙◌, ℕ, List, Option, Some, None, Bool, true, false, ap, sym, refl, subst, codes}
use Rattle.std.proofs.Common.{Err, IsErrOf, Result, option_and_then, slice_get, cond}
use Rattle.std.proofs.lemmas.Slice.Eq.{bytes_eq-Decides}
use Rattle.std.specs.Str.{bytes_eq}
use Rattle.ns_base.specs.declared.limits.Limits.{Limits}
use Rattle.ns_code.specs.declared.class.ClassCode.{ClassCode}
use Rattle.ns_code.specs.declared.program.CodeProgram.{CodeProgram}
use Rattle.ns_code.specs.Selector.{selector_text}
use Rattle.ns_gen_code.specs.Code.{code_of}
use Rattle.ns_gen_code.specs.Sizes.{size_fault}
use Rattle.ns_gen_code.specs.declared.size.SizeKind.{SizeKind}
use Rattle.ns_moves.specs.State.{State, ending_of, world_of}
use Rattle.ns_resolved.specs.Program.{Meant}
use Rattle.ns_run_code.specs.Machine.{end_of}
use Rattle.ns_world.specs.Heap.{Heap}
use Rattle.ns_world.specs.World.{World}
use Rattle.ns_world.specs.declared.ending.Ending.{Ending}
use Rattle.ns_world.specs.declared.ending.Ending.TheVariants.{Done, Error, Limit}
use Rattle.ns_world.specs.declared.value.Value.{Value}
use Rattle.ns_test.specs.declared.report.TestReport.{TestReport}
use Rattle.ns_test.specs.declared.report.TestFault.{TestFault}
use Rattle.ns_test.specs.declared.report.TestFault.TheVariants.{NotTests}
use Rattle.ns_test.specs.Opening.{class_declared, class_with_new, tests_class, with_new}
use Rattle.ns_test.specs.Source.{sized_tested, source_tested}
use Rattle.ns_test.specs.Stated.{AnswersClass, AnswersFault, Tells}
use Rattle.ns_test.specs.Tests.{Tested, of_class, of_ending, of_opening, stopped_at, tests_run}

-- what comes of an opening that has ended comes of how it did
ends_so : (code : CodeProgram) (limits : Limits) (reversed : Bool) (only : Option (List ℕ)) (state : State) (ending : Ending)
    → ending_of state ≡ Some ending → of_opening code limits reversed only state ≡ of_ending code limits reversed only state ending
ends_so code limits reversed only state ending ended = ap (λ e. of_ending code limits reversed only state (end_of e)) ended

-- what was found in a world of the code is found where the run came to rest
pub found_there : (code own : CodeProgram) (there here : World) (value : Value) (found : Option ClassCode) → own ≡ code
    → here ≡ there → found ≡ tests_class own here.cells value → tests_class code there.cells value ≡ found
found_there code own there here value found same stands is =
    let mine = ap (λ (each : CodeProgram). tests_class each here.cells value) same in
    sym (is ∙ (mine ∙ ap (λ (world : World). tests_class code world.cells value) stands))

pub answers_class : (code : CodeProgram) (state : State) (value : Value) (class : ClassCode) → ending_of state ≡ Some (Done value)
    → tests_class code (world_of state).cells value ≡ Some class → AnswersClass code state class
answers_class code state value class ended is limits reversed only =
    ends_so code limits reversed only state (Done value) ended ∙ ap (of_class code limits reversed only) is

pub answers_none : (code : CodeProgram) (state : State) (value : Value) → ending_of state ≡ Some (Done value)
    → tests_class code (world_of state).cells value ≡ None → AnswersFault code state NotTests
answers_none code state value ended is limits reversed only =
    ends_so code limits reversed only state (Done value) ended ∙ ap (of_class code limits reversed only) is

-- an opening that ended without a value has stopped
has_stopped : (code : CodeProgram) (limits : Limits) (reversed : Bool) (only : Option (List ℕ)) (state : State) (ending : Ending)
    → ((value : Value) → ending ≡ Done value → ⊥) → of_ending code limits reversed only state ending ≡ stopped_at code state
has_stopped code limits reversed only state (Done value) other = absurd (other value refl)
has_stopped code limits reversed only state (Error error) other = refl
has_stopped code limits reversed only state (Limit limit) other = refl

pub answers_stop : (code own : CodeProgram) (state : State) (ending : Ending) (fault : TestFault) → own ≡ code
    → ending_of state ≡ Some ending → ((value : Value) → ending ≡ Done value → ⊥)
    → Tells (stopped_at own state) (Err fault) → AnswersFault code state fault
answers_stop code own state ending fault same ended other tells limits reversed only =
    let here = ends_so code limits reversed only state ending ended ∙ has_stopped code limits reversed only state ending other in
    let mine = subst (λ (each : CodeProgram). Tells (stopped_at each state) (Err fault)) same tells in
    subst (λ (tested : Tested). Tells tested (Err fault)) (sym here) mine

-- what is said of the fault of an answer is said of each fault that it is
pub is_fault : {T E : Type 0} (Says : E → Type 0) (fault each : E) → IsErrOf {T = T} {E = E} (Err fault) each → Says fault → Says each
is_fault Says fault each is said = let same : fault ≡ each = cc in subst Says same said

-- a class of tests has the factory `new`
pub class_has_new : (code : CodeProgram) (heap : Heap) (value : Value) (class : ClassCode) → tests_class code heap value ≡ Some class
    → selector_text code class.factory.0 ≡ codes "new"
class_has_new code heap value class is = declared (class_declared heap value) is
  where
    factory : (each : ClassCode) (b : Bool) → bytes_eq (selector_text code each.factory.0) (codes "new") ≡ b
        → cond b (Some each) None ≡ Some class → selector_text code class.factory.0 ≡ codes "new"
    factory each true new e =
        let text = (bytes_eq-Decides (selector_text code each.factory.0) (codes "new")).0 new in
        let same : each ≡ class = cc in
        subst (λ (k : ClassCode). selector_text code k.factory.0 ≡ codes "new") same text
    factory each false new e = absurd (cc)

    found : (o : Option ClassCode) → option_and_then (with_new code) o ≡ Some class
        → selector_text code class.factory.0 ≡ codes "new"
    found None e = absurd (cc)
    found (Some each) e = factory each (bytes_eq (selector_text code each.factory.0) (codes "new")) refl e

    declared : (o : Option ℕ) → option_and_then (class_with_new code) o ≡ Some class
        → selector_text code class.factory.0 ≡ codes "new"
    declared None e = absurd (cc)
    declared (Some number) e = found (slice_get code.classes number) e

-- what is told of the tests of a program's code is told of the program, where the code isn't too large
pub source_tells : (program : Meant) (limits : Limits) (reversed : Bool) (only : Option (List ℕ)) (code : CodeProgram)
    (result : Result TestReport TestFault) → code ≡ code_of program → size_fault (code_of program) ≡ None
    → Tells (tests_run code limits reversed only) result → Tells (source_tested program limits reversed only) result
source_tells program limits reversed only code result same small tells =
    let here = subst (λ (each : CodeProgram). Tells (tests_run each limits reversed only) result) same tells in
    subst (λ (fault : Option SizeKind). Tells (sized_tested (code_of program) limits reversed only fault) result) (sym small) here
