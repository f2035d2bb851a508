-- A private member with its holder is what its lookup finds.
use Rattle.std.proofs.Common.{◌≡◌, ℕ, zero, suc, ◌+◌, List, [], ◌∷◌, ◌++◌, refl, sym, ap, ◌∙◌, Option, Some, None, Bool, true, false, cond}
use Rattle.std.specs.Prelude.{slice_get, unwrap_or, option_map, ◌==◌, ◌&&◌, IsSome}
use Rattle.std.specs.Option.{option_map_or, option_or}
use Rattle.ns_code.specs.declared.program.CodeProgram.{CodeProgram}
use Rattle.ns_code.specs.declared.body.BodyCode.{BodyCode}
use Rattle.ns_code.specs.declared.class.ClassCode.{ClassCode}
use Rattle.ns_code.specs.declared.class.SlotCode.{SlotCode}
use Rattle.ns_code.specs.declared.class.NestedCode.{NestedCode}
use Rattle.ns_code.specs.declared.class.MethodCode.{MethodCode}
use Rattle.ns_code.specs.Soundness.{class_side}
use Rattle.ns_world.specs.Heap.{Heap}
use Rattle.ns_world.specs.Lawful.{IsLawful}
use Rattle.ns_world.specs.World.{World}
use Rattle.ns_world.specs.Layout.{declaration_of, entry_word}
use Rattle.ns_find.specs.declared.found.Found.{Found}
use Rattle.ns_find.specs.declared.found.Found.TheVariants as found
use Rattle.ns_find.specs.declared.found.Sending.TheVariants.{Inner}
use Rattle.ns_find.specs.declared.members.Wanted.TheVariants.{Private}
use Rattle.ns_find.specs.declared.members.Side.{Side}
use Rattle.ns_find.specs.declared.members.Side.TheVariants.{Instance as InstanceSide, Class as ClassSide}
use Rattle.ns_find.specs.Find.{found_private, side_of}
use Rattle.ns_find.specs.Members.{Member as FoundMember, is_named, NamedAs, search, slots_members, nested_members, method_members, side_members}
use Rattle.ns_code.specs.Access.{private_access}
use Rattle.ns_moves.specs.Bodies.{enclosing, side_at}
use Rattle.ns_moves.specs.Control.{Activation}
use Rattle.ns_moves.specs.Lawful.{FitsActivation, declaration_at, outer_of}
use Rattle.ns_machine_plan.specs.declared.step.Member.{Member}
use Rattle.ns_machine_plan.specs.declared.step.Member.TheVariants.{Method, Getter, Setter, Nested, Absent}
use Rattle.ns_machine_plan.specs.Privates.{found_in, reads, writes, slots_member, nested_member, method_member, side_member, private_member, declaration_out, level_side, member_at}
use Rattle.ns_machine_plan.specs.Stated.{MembersAreFound}

module _ (heap : Heap) (code : CodeProgram) (holder sel : ℕ) where
  -- what is found with a member, if there is one
  abbrev with_holder : Option Member → Option Found
  with_holder member = option_map (found_in heap code holder) member

  methods_found : (methods : List MethodCode) → search code sel Inner (method_members Private holder methods) ≡ with_holder (method_member sel methods)
  methods_found [] = refl
  methods_found (method ∷ methods) = tested (sel == method.sel.0 && method.access == private_access) (methods_found methods)
    where
      rest : Type 0
      rest = search code sel Inner (method_members Private holder methods) ≡ with_holder (method_member sel methods)

      tested : (b : Bool) → rest → cond b (Some (found.Method method.body holder)) (search code sel Inner (method_members Private holder methods)) ≡ with_holder (cond b (Some (Method method.body)) (method_member sel methods))
      tested true is = refl
      tested false is = is

  nested_found : (nested : List NestedCode) (later : List FoundMember) (other : Option Member) → search code sel Inner later ≡ with_holder other → search code sel Inner (nested_members Private holder nested ++ later) ≡ with_holder (option_or (nested_member code sel nested) other)
  nested_found [] later other then = then
  nested_found (one ∷ nested) later other then = tested (is_named code sel (NamedAs one.class) && one.access == private_access) (nested_found nested later other then)
    where
      rest : Type 0
      rest = search code sel Inner (nested_members Private holder nested ++ later) ≡ with_holder (option_or (nested_member code sel nested) other)

      tested : (b : Bool) → rest → cond b (Some (found.Nested one.class holder)) (search code sel Inner (nested_members Private holder nested ++ later)) ≡ with_holder (option_or (cond b (Some (Nested one.class)) (nested_member code sel nested)) other)
      tested true is = refl
      tested false is = is

  slots_found : (entry : ℕ) (slots : List SlotCode) (later : List FoundMember) (other : Option Member) → search code sel Inner later ≡ with_holder other → search code sel Inner (slots_members heap code Private holder entry slots ++ later) ≡ with_holder (option_or (slots_member code sel entry slots) other)
  slots_found entry [] later other then = then
  slots_found entry (slot ∷ slots) later other then = tested (reads sel slot) (writes code sel slot) (slots_found (entry + 1) slots later other then)
    where
      rest : Type 0
      rest = search code sel Inner (slots_members heap code Private holder (entry + 1) slots ++ later) ≡ with_holder (option_or (slots_member code sel (entry + 1) slots) other)

      tested : (r w : Bool) → rest → cond r (Some (found.Getter holder (entry_word heap code holder entry))) (cond w (Some (found.Setter holder (entry_word heap code holder entry))) (search code sel Inner (slots_members heap code Private holder (entry + 1) slots ++ later))) ≡ with_holder (option_or (option_or (cond r (Some (Getter entry)) (cond w (Some (Setter entry)) None)) (slots_member code sel (entry + 1) slots)) other)
      tested true w is = refl
      tested false true is = refl
      tested false false is = is

  side_found : (side : Side) (class : ClassCode) → search code sel Inner (side_members heap code Private side holder class) ≡ with_holder (side_member code side sel class)
  side_found InstanceSide class =
      slots_found 0 class.slots (nested_members Private holder class.nested ++ method_members Private holder class.methods) (option_or (nested_member code sel class.nested) (method_member sel class.methods))
      (nested_found class.nested (method_members Private holder class.methods) (method_member sel class.methods) (methods_found class.methods))
  side_found ClassSide class = methods_found class.side_methods

  unwrapped : (member : Option Member) → unwrap_or (with_holder member) found.Absent ≡ found_in heap code holder (unwrap_or member Absent)
  unwrapped None = refl
  unwrapped (Some member) = refl

  declared_found : (side : Side) (declared : Option ClassCode) → unwrap_or (search code sel Inner (option_map_or (side_members heap code Private side holder) declared [])) found.Absent ≡ found_in heap code holder (unwrap_or (option_map_or (side_member code side sel) declared None) Absent)
  declared_found side None = refl
  declared_found side (Some class) = ap (λ f. unwrap_or f found.Absent) (side_found side class) ∙ unwrapped (side_member code side sel class)

  private_found : (side : Side) → found_private heap code holder side sel ≡ found_in heap code holder (private_member code side sel (declaration_of heap holder))
  private_found side = declared_found side (slice_get code.classes (declaration_of heap holder))

pub out_is : (code : CodeProgram) (body : ℕ) (b : BodyCode) (level : ℕ) → slice_get code.bodies body ≡ Some b →
    declaration_at code body level ≡ declaration_out code b.class level
out_is code body b zero is = ap (λ o. option_map (λ (x : BodyCode). x.class) o) is
out_is code body b (suc level) is = ap (outer_of code) (out_is code body b level is)

side_is : (code : CodeProgram) (activation : Activation) (b : BodyCode) (level : ℕ) → slice_get code.bodies activation.body ≡ Some b →
    side_at code activation level ≡ level_side b level
side_is code activation b zero is = ap (λ o. side_of (option_map_or (λ (x : BodyCode). x.side == class_side) o false)) is
side_is code activation b (suc level) is = refl

abbrev pub Declared : Type 0
Declared =
    (world : World) (code : CodeProgram) (activation : Activation) (level decl : ℕ) → IsLawful world code → FitsActivation world.cells code activation
    → declaration_at code activation.body level ≡ Some decl → declaration_of world.cells (enclosing world.cells activation level).holder ≡ decl

pub members_are_found : Declared → (code : CodeProgram) → MembersAreFound code
members_are_found declared code world activation b level sel lawful fits is there =
    found (declaration_at code activation.body level) refl there
  where
    heap : Heap
    heap = world.cells

    holder : ℕ
    holder = (enclosing heap activation level).holder

    goal : Type 0
    goal = found_private heap code holder (side_at code activation level) sel.0 ≡ found_in heap code holder (member_at code b level sel)

    found : (o : Option ℕ) → declaration_at code activation.body level ≡ o → IsSome o → goal
    found None e some = absurd (cc (some))
    found (Some decl) e some =
        let has : declaration_of heap holder ≡ decl = declared world code activation level decl lawful fits e in
        let out : declaration_out code b.class level ≡ Some (declaration_of heap holder) = sym (out_is code activation.body b level is) ∙ (e ∙ ap Some (sym has)) in
        ap (λ side. found_private heap code holder side sel.0) (side_is code activation b level is)
        ∙ (private_found heap code holder sel.0 (level_side b level)
        ∙ ap (λ o. found_in heap code holder (option_map_or (private_member code (level_side b level) sel.0) o Absent)) (sym out))
