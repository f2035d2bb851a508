-- The slot of a private member is an entry of its declaration.
use Rattle.std.proofs.Common.{◌≡◌, ℕ, ◌+◌, ◌≤◌, List, [], ◌∷◌, length, refl, sym, ap, ◌∙◌, subst, arith, Option, Some, None, Bool, true, false, cond}
use Rattle.std.specs.Prelude.{slice_get, unwrap_or, ◌==◌, ◌&&◌, IsSome}
use Rattle.std.specs.Option.{option_map_or, option_or}
use Rattle.ns_code.specs.declared.program.CodeProgram.{CodeProgram}
use Rattle.ns_code.specs.declared.class.ClassCode.{ClassCode}
use Rattle.ns_code.specs.declared.class.SlotCode.{SlotCode}
use Rattle.ns_code.specs.declared.class.NestedCode.{NestedCode}
use Rattle.ns_code.specs.declared.class.MethodCode.{MethodCode}
use Rattle.ns_world.specs.Layout.{declaration_of, entries_of}
use Rattle.ns_find.specs.declared.members.Side.{Side}
use Rattle.ns_find.specs.declared.members.Side.TheVariants.{Instance as InstanceSide, Class as ClassSide}
use Rattle.ns_find.specs.Members.{is_named, NamedAs}
use Rattle.ns_code.specs.Access.{private_access}
use Rattle.ns_moves.specs.Bodies.{enclosing}
use Rattle.ns_moves.specs.Lawful.{declaration_at}
use Rattle.ns_machine_plan.specs.declared.step.Member.{Member}
use Rattle.ns_machine_plan.specs.declared.step.Member.TheVariants.{Method, Getter, Setter, Nested, Absent}
use Rattle.ns_machine_plan.specs.Privates.{SlotIsAmong, reads, writes, slots_member, nested_member, method_member, side_member, private_member, declaration_out, level_side, member_at}
use Rattle.ns_machine_plan.specs.Stated.{MembersAreEntries}
use Rattle.ns_machine_plan.proofs.Finding.{Declared, out_is}

-- so is one that may be none
abbrev MayBeAmong : ℕ → Option Member → Type 0
MayBeAmong count None = Unit {0}
MayBeAmong count (Some member) = SlotIsAmong count member

methods_among : (count sel : ℕ) (methods : List MethodCode) → MayBeAmong count (method_member sel methods)
methods_among count sel [] = tt
methods_among count sel (method ∷ methods) =
    tested (sel == method.sel.0 && method.access == private_access) (methods_among count sel methods)
  where
    tested : (b : Bool) → MayBeAmong count (method_member sel methods) → MayBeAmong count (cond b (Some (Method method.body)) (method_member sel methods))
    tested true is = tt
    tested false is = is

nested_among : (code : CodeProgram) (count sel : ℕ) (nested : List NestedCode) (other : Option Member) → MayBeAmong count other
    → MayBeAmong count (option_or (nested_member code sel nested) other)
nested_among code count sel [] other then = then
nested_among code count sel (one ∷ nested) other then =
    tested (is_named code sel (NamedAs one.class) && one.access == private_access) (nested_among code count sel nested other then)
  where
    tested : (b : Bool) → MayBeAmong count (option_or (nested_member code sel nested) other)
        → MayBeAmong count (option_or (cond b (Some (Nested one.class)) (nested_member code sel nested)) other)
    tested true is = tt
    tested false is = is

slots_among : (code : CodeProgram) (count sel entry : ℕ) (slots : List SlotCode) (other : Option Member) → entry + length slots ≤ count →
    MayBeAmong count other
    → MayBeAmong count (option_or (slots_member code sel entry slots) other)
slots_among code count sel entry [] other fits then = then
slots_among code count sel entry (slot ∷ slots) other fits then =
    tested (reads sel slot) (writes code sel slot) (slots_among code count sel (entry + 1) slots other (omega arith) then)
  where
    tested : (r w : Bool) → MayBeAmong count (option_or (slots_member code sel (entry + 1) slots) other)
        → MayBeAmong count (option_or (option_or (cond r (Some (Getter entry)) (cond w (Some (Setter entry)) None)) (slots_member code sel (entry + 1) slots)) other)
    tested true w is = omega arith
    tested false true is = omega arith
    tested false false is = is

side_among : (code : CodeProgram) (side : Side) (sel : ℕ) (class : ClassCode) →
    MayBeAmong (length class.slots + length class.nested) (side_member code side sel class)
side_among code InstanceSide sel class =
    slots_among code (length class.slots + length class.nested) sel 0 class.slots (option_or (nested_member code sel class.nested) (method_member sel class.methods))
    (omega arith)
    (nested_among code (length class.slots + length class.nested) sel class.nested (method_member sel class.methods)
    (methods_among (length class.slots + length class.nested) sel class.methods))
side_among code ClassSide sel class = methods_among (length class.slots + length class.nested) sel class.side_methods

unwrapped : (count : ℕ) (member : Option Member) → MayBeAmong count member → SlotIsAmong count (unwrap_or member Absent)
unwrapped count None is = tt
unwrapped count (Some member) is = is

declared_among : (code : CodeProgram) (side : Side) (sel : ℕ) (declared : Option ClassCode)
    → SlotIsAmong (option_map_or (λ (class : ClassCode). length class.slots + length class.nested) declared 0)
    (unwrap_or (option_map_or (side_member code side sel) declared None) Absent)
declared_among code side sel None = tt
declared_among code side sel (Some class) =
    unwrapped (length class.slots + length class.nested) (side_member code side sel class) (side_among code side sel class)

pub members_are_entries : Declared → (code : CodeProgram) → MembersAreEntries code
members_are_entries declared code world activation b level sel lawful fits is there =
    found (declaration_at code activation.body level) refl there
  where
    holder : ℕ
    holder = (enclosing world.cells activation level).holder

    found : (o : Option ℕ) → declaration_at code activation.body level ≡ o → IsSome o
        → SlotIsAmong (entries_of code (declaration_of world.cells holder)) (member_at code b level sel)
    found None e some = absurd (cc (some))
    found (Some decl) e some =
        let has : declaration_of world.cells holder ≡ decl = declared world code activation level decl lawful fits e in
        let out : declaration_out code b.class level ≡ Some (declaration_of world.cells holder) = sym (out_is code activation.body b level is) ∙ (e ∙ ap Some (sym has)) in
        subst (λ (o : Option ℕ). SlotIsAmong (entries_of code (declaration_of world.cells holder)) (option_map_or (private_member code (level_side b level) sel.0) o Absent)) (sym out)
        (declared_among code (level_side b level) sel.0 (slice_get code.classes (declaration_of world.cells holder)))
