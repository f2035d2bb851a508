-- Code has no fault where no cause holds at any place.
use Rattle.std.proofs.Common.{◌≡◌, ℕ, zero, suc, ◌+◌, ◌≤◌, List, [], ◌∷◌, length, slice_get, Option, Some, None, option_map, refl, arith, subst}
use Rattle.std.specs.Option.{option_or}
use Rattle.ns_code.specs.declared.program.CodeProgram.{CodeProgram}
use Rattle.ns_code.specs.declared.class.ClassCode.{ClassCode}
use Rattle.ns_code.specs.declared.body.BodyCode.{BodyCode}
use Rattle.ns_code.specs.declared.instruction.Instr.{Instr}
use Rattle.ns_verify.specs.declared.fault.Fault.{Fault}
use Rattle.ns_verify.specs.declared.fault.Where.TheVariants.{Class, Body}
use Rattle.ns_verify.specs.Heights.{Pass, begin, next}
use Rattle.ns_verify.specs.Causes.{cause_at}
use Rattle.ns_verify.specs.Verify.{placed, class_cause, classes_fault, first_class_fault, instrs_fault, body_fault_in, body_fault, bodies_fault, IsSound}
use Rattle.ns_verify.specs.Places.{pass_on, home_of, HasNoCause}

first_none : (first second : Option Fault) → option_or first second ≡ None → first ≡ None
first_none None second h = refl
first_none (Some fault) second h = absurd cc

second_none : (first second : Option Fault) → option_or first second ≡ None → second ≡ None
second_none None second h = h
second_none (Some fault) second h = absurd cc

both_none : (first second : Option Fault) → first ≡ None → second ≡ None → option_or first second ≡ None
both_none first second h k = rw h k

placed_none : {T U : Type 0} (f : T → U) (cause : Option T) → option_map f cause ≡ None → cause ≡ None
placed_none f None h = refl
placed_none f (Some cause) h = absurd cc

-- no cause at any class
classes_none : (code : CodeProgram) (number : ℕ) (classes : List ClassCode) (i : ℕ) (class : ClassCode) →
    classes_fault code number classes ≡ None → slice_get classes i ≡ Some class → class_cause code (number + i) class ≡ None
classes_none code number [] i class h there = absurd cc
classes_none code number (first ∷ classes) zero class h there =
    let same : first ≡ class = cc in
    let at : number + 0 ≡ number = omega arith in
    rw (at, ← same) (placed_none (placed (Class number)) (class_cause code number first) (first_none _ (classes_fault code (number + 1) classes) h))
classes_none code number (first ∷ classes) (suc i) class h there =
    let at : number + suc i ≡ (number + 1) + i = omega arith in
    rw at (classes_none code (number + 1) classes i class (second_none (option_map (placed (Class number)) (class_cause code number first)) _ h) there)

-- and then no fault
none_classes : (code : CodeProgram) (number : ℕ) (classes : List ClassCode) →
    ((i : ℕ) (class : ClassCode) → slice_get classes i ≡ Some class → class_cause code (number + i) class ≡ None) → classes_fault code number classes ≡ None
none_classes code number [] h = refl
none_classes code number (first ∷ classes) h =
    let at : number + 0 ≡ number = omega arith in
    let here : class_cause code number first ≡ None = subst (λ n. class_cause code n first ≡ None) at (h 0 first refl) in
    rw here
    (none_classes code (number + 1) classes
    (λ i class there. let on : number + suc i ≡ (number + 1) + i = omega arith in subst (λ n. class_cause code n class ≡ None) on (h (suc i) class there)))

-- no cause at any instruction
instrs_none : (code : CodeProgram) (number : ℕ) (body : BodyCode) (home : ℕ) (pass : Pass) (at : ℕ) (instrs : List Instr) (i : ℕ) (instr : Instr) →
    instrs_fault code number body home pass at instrs ≡ None → slice_get instrs i ≡ Some instr →
    cause_at code number body home (pass_on pass at instrs i) (at + i) instr ≡ None
instrs_none code number body home pass at [] i instr h there = absurd cc
instrs_none code number body home pass at (first ∷ instrs) zero instr h there =
    let same : first ≡ instr = cc in
    let here : at + 0 ≡ at = omega arith in
    rw (here, ← same) (placed_none (placed (Body number at)) (cause_at code number body home pass at first) (first_none _ (instrs_fault code number body home (next pass at first) (at + 1) instrs) h))
instrs_none code number body home pass at (first ∷ instrs) (suc i) instr h there =
    let on : at + suc i ≡ (at + 1) + i = omega arith in
    rw on (instrs_none code number body home (next pass at first) (at + 1) instrs i instr (second_none (option_map (placed (Body number at)) (cause_at code number body home pass at first)) _ h) there)

none_instrs : (code : CodeProgram) (number : ℕ) (body : BodyCode) (home : ℕ) (pass : Pass) (at : ℕ) (instrs : List Instr) →
    ((i : ℕ) (instr : Instr) → slice_get instrs i ≡ Some instr → cause_at code number body home (pass_on pass at instrs i) (at + i) instr ≡ None) →
    instrs_fault code number body home pass at instrs ≡ None
none_instrs code number body home pass at [] h = refl
none_instrs code number body home pass at (first ∷ instrs) h =
    let here : at + 0 ≡ at = omega arith in
    let none : cause_at code number body home pass at first ≡ None = subst (λ n. cause_at code number body home pass n first ≡ None) here (h 0 first refl) in
    rw none
    (none_instrs code number body home (next pass at first) (at + 1) instrs
    (λ i instr there. let on : at + suc i ≡ (at + 1) + i = omega arith in subst (λ n. cause_at code number body home (pass_on (next pass at first) (at + 1) instrs i) n instr ≡ None) on (h (suc i) instr there)))

bodies_none : (code : CodeProgram) (number : ℕ) (bodies : List BodyCode) (i : ℕ) (body : BodyCode) →
    bodies_fault code number bodies ≡ None → slice_get bodies i ≡ Some body → body_fault code (number + i) body ≡ None
bodies_none code number [] i body h there = absurd cc
bodies_none code number (first ∷ bodies) zero body h there =
    let same : first ≡ body = cc in
    let at : number + 0 ≡ number = omega arith in
    rw (at, ← same) (first_none (body_fault code number first) (bodies_fault code (number + 1) bodies) h)
bodies_none code number (first ∷ bodies) (suc i) body h there =
    let at : number + suc i ≡ (number + 1) + i = omega arith in
    rw at (bodies_none code (number + 1) bodies i body (second_none (body_fault code number first) _ h) there)

none_bodies : (code : CodeProgram) (number : ℕ) (bodies : List BodyCode) →
    ((i : ℕ) (body : BodyCode) → slice_get bodies i ≡ Some body → body_fault code (number + i) body ≡ None) → bodies_fault code number bodies ≡ None
none_bodies code number [] h = refl
none_bodies code number (first ∷ bodies) h =
    let at : number + 0 ≡ number = omega arith in
    let here : body_fault code number first ≡ None = subst (λ n. body_fault code n first ≡ None) at (h 0 first refl) in
    rw here
    (none_bodies code (number + 1) bodies
    (λ i body there. let on : number + suc i ≡ (number + 1) + i = omega arith in subst (λ n. body_fault code n body ≡ None) on (h (suc i) body there)))

-- a body without a fault has an instruction
some_instr : (code : CodeProgram) (number : ℕ) (body : BodyCode) (home : ℕ) (instrs : List Instr) →
    body_fault_in code number body home instrs ≡ None → 1 ≤ length instrs
some_instr code number body home [] h = absurd cc
some_instr code number body home (instr ∷ instrs) h = omega arith

body_none : (code : CodeProgram) (number : ℕ) (body : BodyCode) (home : ℕ) (instrs : List Instr) (i : ℕ) (instr : Instr) →
    body_fault_in code number body home instrs ≡ None → slice_get instrs i ≡ Some instr →
    cause_at code number body home (pass_on (begin (length instrs)) 0 instrs i) i instr ≡ None
body_none code number body home [] i instr h there = absurd cc
body_none code number body home (first ∷ instrs) i instr h there =
    let at : 0 + i ≡ i = omega arith in
    subst (λ n. cause_at code number body home (pass_on (begin (length (first ∷ instrs))) 0 (first ∷ instrs) i) n instr ≡ None) at
    (instrs_none code number body home (begin (length (first ∷ instrs))) 0 (first ∷ instrs) i instr h there)

none_body : (code : CodeProgram) (number : ℕ) (body : BodyCode) (home : ℕ) (instrs : List Instr) → 1 ≤ length instrs →
    ((i : ℕ) (instr : Instr) → slice_get instrs i ≡ Some instr → cause_at code number body home (pass_on (begin (length instrs)) 0 instrs i) i instr ≡ None) →
    body_fault_in code number body home instrs ≡ None
none_body code number body home [] some h = absurd (omega arith)
none_body code number body home (first ∷ instrs) some h =
    none_instrs code number body home (begin (length (first ∷ instrs))) 0 (first ∷ instrs)
    (λ i instr there. let at : i ≡ 0 + i = omega arith in subst (λ n. cause_at code number body home (pass_on (begin (length (first ∷ instrs))) 0 (first ∷ instrs) i) n instr ≡ None) at (h i instr there))

some_class : (code : CodeProgram) (classes : List ClassCode) → first_class_fault code classes ≡ None → 1 ≤ length classes
some_class code [] h = absurd cc
some_class code (class ∷ classes) h = omega arith

all_classes : (code : CodeProgram) (classes : List ClassCode) → first_class_fault code classes ≡ None → classes_fault code 0 classes ≡ None
all_classes code [] h = absurd cc
all_classes code (class ∷ classes) h = h

first_classes : (code : CodeProgram) (classes : List ClassCode) → 1 ≤ length classes → classes_fault code 0 classes ≡ None →
    first_class_fault code classes ≡ None
first_classes code [] some h = absurd (omega arith)
first_classes code (class ∷ classes) some h = h

-- sound code, place by place
pub no_cause : (code : CodeProgram) → IsSound code → HasNoCause code
no_cause code h =
    let classes = first_none (first_class_fault code code.classes) (bodies_fault code 0 code.bodies) h in
    let bodies = second_none (first_class_fault code code.classes) (bodies_fault code 0 code.bodies) h in
    let body_sound : (number : ℕ) (body : BodyCode) → slice_get code.bodies number ≡ Some body → body_fault code number body ≡ None =
    λ number body there. let at : 0 + number ≡ number = omega arith in subst (λ n. body_fault code n body ≡ None) at (bodies_none code 0 code.bodies number body bodies there) in
    record {
      some_class = some_class code code.classes classes;
      classes = λ number class there. let at : 0 + number ≡ number = omega arith in subst (λ n. class_cause code n class ≡ None) at (classes_none code 0 code.classes number class (all_classes code code.classes classes) there);
      some_instr = λ number body there. some_instr code number body (home_of code number body) body.instrs (body_sound number body there);
      instrs = λ number at body instr there here. body_none code number body (home_of code number body) body.instrs at instr (body_sound number body there) here;
    }

-- and back
pub without_cause : (code : CodeProgram) → HasNoCause code → IsSound code
without_cause code none =
    both_none (first_class_fault code code.classes) (bodies_fault code 0 code.bodies)
    (first_classes code code.classes none.some_class (none_classes code 0 code.classes (λ i class there. let at : i ≡ 0 + i = omega arith in subst (λ n. class_cause code n class ≡ None) at (none.classes i class there))))
    (none_bodies code 0 code.bodies (λ i body there. let at : i ≡ 0 + i = omega arith in subst (λ n. body_fault code n body ≡ None) at (none_body code i body (home_of code i body) body.instrs (none.some_instr i body there) (λ j instr here. none.instrs i j body instr there here))))
