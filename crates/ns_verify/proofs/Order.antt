-- What sound code has by the causes of its classes and bodies.
use Rattle.std.proofs.Common.{◌≡◌, ℕ, suc, ◌+◌, ◌≤◌, List, [], ◌∷◌, length, slice_get, Option, Some, None, Bool, true, false, not, ◌||◌, ◌==◌, nat_lt, refl, arith, subst, if◌then◌else◌}
use Rattle.std.specs.Option.{option_map_or, option_and_then, is_some}
use Rattle.std.proofs.lemmas.Bool.Decides.{nat_tests}
use Rattle.ns_code.specs.declared.program.CodeProgram.{CodeProgram}
use Rattle.ns_code.specs.declared.class.ClassCode.{ClassCode}
use Rattle.ns_code.specs.declared.body.BodyCode.{BodyCode}
use Rattle.ns_code.specs.declared.instruction.Instr.{Instr}
use Rattle.ns_code.specs.Soundness.{block_kind, has_bad_scope, has_bad_literal, are_classes_sound, has_sound_classes, are_parents_earlier}
use Rattle.ns_verify.specs.declared.fault.VerifyCause.TheVariants.{BadJump, BadHeight, BadSlot, BadScope, BadLiteral, NoReturn}
use Rattle.ns_verify.specs.Heights.{Pass}
use Rattle.ns_verify.specs.Causes.{cause_at, has_bad_jump, has_bad_height, has_bad_slot, has_bad_scope_at, has_bad_use, has_bad_name, has_bad_head, is_misplaced, holds_block, runs_on}
use Rattle.ns_verify.specs.Verify.{class_cause, IsSound}
use Rattle.ns_verify.specs.Places.{HasNoCause, pass_before, home_of}
use Rattle.ns_verify.proofs.Places.{no_cause}

-- a cause that doesn't hold, and what holds behind it
pub not_this : {T : Type 0} (bad : Bool) (cause : T) (rest : Option T) → (if bad then Some cause else rest) ≡ None → bad ≡ false
not_this true cause rest h = absurd cc
not_this false cause rest h = refl

pub nor_others : {T : Type 0} (bad : Bool) (cause : T) (rest : Option T) → (if bad then Some cause else rest) ≡ None → rest ≡ None
nor_others true cause rest h = absurd cc
nor_others false cause rest h = h

-- No cause holds at an instruction, one by one.
pub record NoneHolds (code : CodeProgram) (number : ℕ) (body : BodyCode) (home : ℕ) (pass : Pass) (at : ℕ) (instr : Instr) : Type 0 where
  pub jump : has_bad_jump body instr ≡ false
  pub height : has_bad_height body pass at instr ≡ false
  pub slot : has_bad_slot code number body instr ≡ false
  pub scope : has_bad_scope_at code number body home pass.started at instr ≡ false
  pub name : has_bad_name code body instr ≡ false
  pub ends : runs_on body at instr ≡ false

pub none_holds : (code : CodeProgram) (number : ℕ) (body : BodyCode) (home : ℕ) (pass : Pass) (at : ℕ) (instr : Instr) →
    cause_at code number body home pass at instr ≡ None → NoneHolds code number body home pass at instr
none_holds code number body home pass at instr h =
    let height = nor_others (has_bad_jump body instr) BadJump _ h in
    let slot = nor_others (has_bad_height body pass at instr) BadHeight _ height in
    let scope = nor_others (has_bad_slot code number body instr) BadSlot _ slot in
    let name = nor_others (has_bad_scope_at code number body home pass.started at instr) BadScope _ scope in
    let ends = nor_others (has_bad_name code body instr) BadLiteral _ name in
    record {
      jump = not_this (has_bad_jump body instr) BadJump _ h;
      height = not_this (has_bad_height body pass at instr) BadHeight _ height;
      slot = not_this (has_bad_slot code number body instr) BadSlot _ slot;
      scope = not_this (has_bad_scope_at code number body home pass.started at instr) BadScope _ scope;
      name = not_this (has_bad_name code body instr) BadLiteral _ name;
      ends = not_this (runs_on body at instr) NoReturn _ ends;
    }

pub or_left : (a b : Bool) → (a || b) ≡ false → a ≡ false
or_left true b h = h
or_left false b h = refl

pub or_right : (a b : Bool) → (a || b) ≡ false → b ≡ false
or_right true b h = absurd cc
or_right false b h = h

-- the classes from a number on
sound_from : (code : CodeProgram) (number : ℕ) (classes : List ClassCode) →
    ((i : ℕ) (class : ClassCode) → slice_get classes i ≡ Some class → class_cause code (number + i) class ≡ None) → are_classes_sound code number classes ≡ true
sound_from code number [] h = refl
sound_from code number (class ∷ classes) h =
    let at : number + 0 ≡ number = omega arith in
    let none : class_cause code number class ≡ None = subst (λ n. class_cause code n class ≡ None) at (h 0 class refl) in
    let scope = not_this (has_bad_scope code number class) BadScope _ none in
    let literal = not_this (has_bad_literal code class) BadLiteral _ (nor_others (has_bad_scope code number class) BadScope _ none) in
    rw (scope, literal)
    (sound_from code (number + 1) classes
    (λ i later there. let on : number + suc i ≡ (number + 1) + i = omega arith in subst (λ n. class_cause code n later ≡ None) on (h (suc i) later there)))

pub sound_classes : (code : CodeProgram) → IsSound code → has_sound_classes code ≡ true
sound_classes code sound =
    let none = no_cause code sound in
    let some : nat_lt 0 (length code.classes) ≡ true = grind (arith, nat_tests, none.some_class) in
    rw some
    (sound_from code 0 code.classes (λ i class there. let at : i ≡ 0 + i = omega arith in subst (λ n. class_cause code n class ≡ None) at (none.classes i class there)))

-- the head of a sound body
first_instr : (instrs : List Instr) → 1 ≤ length instrs → (instr : Instr) × (slice_get instrs 0 ≡ Some instr)
first_instr [] h = absurd (omega arith)
first_instr (instr ∷ instrs) h = (instr, refl)

pub sound_head : (code : CodeProgram) (number : ℕ) (body : BodyCode) → HasNoCause code → slice_get code.bodies number ≡ Some body →
    has_bad_head code number body ≡ false
sound_head code number body none there =
    let first = first_instr body.instrs (none.some_instr number body there) in
    let holds = none_holds code number body (home_of code number body) (pass_before body 0) 0 first.0 (none.instrs number 0 body first.0 there first.1) in
    or_left (has_bad_head code number body) (has_bad_use code number body (home_of code number body) (pass_before body 0).started first.0) holds.scope

earlier_told : (parent number : ℕ) (holds : ℕ → Bool) (b : Bool) → nat_lt parent number ≡ b →
    not (option_map_or holds (if b then Some parent else None) false) ≡ false → nat_lt parent number ≡ true
earlier_told parent number holds true e h = e
earlier_told parent number holds false e h = absurd cc

earlier_of : (block : Bool) (parent : Option ℕ) (number : ℕ) (holds : ℕ → Bool) →
    (if block then not (option_map_or holds (if block then option_and_then (λ parent. if nat_lt parent number then Some parent else None) parent else None) false) else is_some parent) ≡ false →
    option_map_or (λ parent. nat_lt parent number) parent true ≡ true
earlier_of block None number holds h = refl
earlier_of true (Some parent) number holds h = earlier_told parent number holds (nat_lt parent number) refl h
earlier_of false (Some parent) number holds h = absurd cc

-- a body that isn't misplaced has an earlier parent, if it has one
parent_earlier : (code : CodeProgram) (number : ℕ) (body : BodyCode) → is_misplaced code number body ≡ false →
    option_map_or (λ parent. nat_lt parent number) body.parent true ≡ true
parent_earlier code number body h = earlier_of (body.kind == block_kind) body.parent number (holds_block code body) h

head_parent : (code : CodeProgram) (number : ℕ) (body : BodyCode) → has_bad_head code number body ≡ false →
    is_misplaced code number body ≡ false
head_parent code number body h =
    or_left (is_misplaced code number body) _ (or_right (not (nat_lt body.class (length code.classes))) _ h)

parents_from : (number : ℕ) (bodies : List BodyCode) →
    ((i : ℕ) (body : BodyCode) → slice_get bodies i ≡ Some body → option_map_or (λ parent. nat_lt parent (number + i)) body.parent true ≡ true) → are_parents_earlier number bodies ≡ true
parents_from number [] h = refl
parents_from number (body ∷ bodies) h =
    let at : number + 0 ≡ number = omega arith in
    let here : option_map_or (λ parent. nat_lt parent number) body.parent true ≡ true = subst (λ n. option_map_or (λ parent. nat_lt parent n) body.parent true ≡ true) at (h 0 body refl) in
    rw here
    (parents_from (number + 1) bodies
    (λ i later there. let on : number + suc i ≡ (number + 1) + i = omega arith in subst (λ n. option_map_or (λ parent. nat_lt parent n) later.parent true ≡ true) on (h (suc i) later there)))

pub earlier_parents : (code : CodeProgram) → IsSound code → are_parents_earlier 0 code.bodies ≡ true
earlier_parents code sound =
    let none = no_cause code sound in
    parents_from 0 code.bodies
    (λ i body there. let at : i ≡ 0 + i = omega arith in subst (λ n. option_map_or (λ parent. nat_lt parent n) body.parent true ≡ true) at (parent_earlier code i body (head_parent code i body (sound_head code i body none there))))
