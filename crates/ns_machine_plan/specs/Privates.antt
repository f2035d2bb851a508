-- The private member that a selector names in a declaration, before it has a holder.
use Rattle.std.specs.Prelude.{ℕ, zero, suc, ◌+◌, ◌<◌, List, [], ◌∷◌, Bool, ◌==◌, ◌&&◌, Option, Some, None, slice_get, unwrap_or, if◌then◌else◌}
use Rattle.std.specs.Option.{option_map_or, option_or}
use Rattle.ns_base.specs.declared.selector.Sel.{Sel}
use Rattle.ns_code.specs.declared.program.CodeProgram.{CodeProgram}
use Rattle.ns_code.specs.declared.class.ClassCode.{ClassCode}
use Rattle.ns_code.specs.declared.class.SlotCode.{SlotCode}
use Rattle.ns_code.specs.declared.class.NestedCode.{NestedCode}
use Rattle.ns_code.specs.declared.class.MethodCode.{MethodCode}
use Rattle.ns_code.specs.declared.body.BodyCode.{BodyCode}
use Rattle.ns_code.specs.Soundness.{class_side}
use Rattle.ns_world.specs.Heap.{Heap}
use Rattle.ns_world.specs.Layout.{entry_word}
use Rattle.ns_find.specs.declared.found.Found.{Found}
use Rattle.ns_find.specs.declared.found.Found.TheVariants as found
use Rattle.ns_find.specs.declared.members.Side.{Side}
use Rattle.ns_find.specs.declared.members.Side.TheVariants.{Instance as InstanceSide, Class as ClassSide}
use Rattle.ns_find.specs.Find.{side_of}
use Rattle.ns_find.specs.Members.{is_named, SetterOf, NamedAs}
use Rattle.ns_code.specs.Access.{private_access}
use Rattle.ns_moves.specs.Lawful.{outer_of}
use Rattle.ns_machine_plan.specs.declared.step.Member.{Member}
use Rattle.ns_machine_plan.specs.declared.step.Member.TheVariants.{Method, Getter, Setter, Nested, Absent}

-- what a lookup finds with a member, once its holder is known
abbrev pub found_in : Heap → CodeProgram → ℕ → Member → Found
found_in heap code holder (Method body) = found.Method body holder
found_in heap code holder (Getter entry) = found.Getter holder (entry_word heap code holder entry)
found_in heap code holder (Setter entry) = found.Setter holder (entry_word heap code holder entry)
found_in heap code holder (Nested class) = found.Nested class holder
found_in heap code holder Absent = found.Absent

-- The slot of a member is one of so many entries.
abbrev pub SlotIsAmong : ℕ → Member → Type 0
SlotIsAmong count (Method body) = Unit {0}
SlotIsAmong count (Getter entry) = entry < count
SlotIsAmong count (Setter entry) = entry < count
SlotIsAmong count (Nested class) = Unit {0}
SlotIsAmong count Absent = Unit {0}

-- whether a selector reads a private slot
abbrev pub reads : ℕ → SlotCode → Bool
reads sel slot = sel == slot.name.0 && slot.access == private_access

-- whether it writes one
abbrev pub writes : CodeProgram → ℕ → SlotCode → Bool
writes code sel slot = is_named code sel (SetterOf slot.name.0) && (slot.access == private_access && slot.mutable)

-- the getter or the setter of a slot of that number
abbrev pub slot_member : CodeProgram → ℕ → ℕ → SlotCode → Option Member
slot_member code sel entry slot =
    if reads sel slot then Some (Getter entry) else (if writes code sel slot then Some (Setter entry) else None)

-- the first of slots, which are numbered from that number on
abbrev pub slots_member : CodeProgram → ℕ → ℕ → List SlotCode → Option Member
slots_member code sel entry [] = None
slots_member code sel entry (slot ∷ slots) = option_or (slot_member code sel entry slot) (slots_member code sel (entry + 1) slots)

-- the first private nested class of that name
abbrev pub nested_member : CodeProgram → ℕ → List NestedCode → Option Member
nested_member code sel [] = None
nested_member code sel (nested ∷ rest) =
    if is_named code sel (NamedAs nested.class) && nested.access == private_access then Some (Nested nested.class) else nested_member code sel rest

-- the first private method of that name
abbrev pub method_member : ℕ → List MethodCode → Option Member
method_member sel [] = None
method_member sel (method ∷ methods) =
    if sel == method.sel.0 && method.access == private_access then Some (Method method.body) else method_member sel methods

-- the first private member of one side
abbrev pub side_member : CodeProgram → Side → ℕ → ClassCode → Option Member
side_member code InstanceSide sel class =
    option_or (slots_member code sel 0 class.slots) (option_or (nested_member code sel class.nested) (method_member sel class.methods))
side_member code ClassSide sel class = method_member sel class.side_methods

-- that of a declaration
abbrev pub private_member : CodeProgram → Side → ℕ → ℕ → Member
private_member code side sel decl = unwrap_or (option_map_or (side_member code side sel) (slice_get code.classes decl) None) Absent

-- the declaration so many levels out from one, where there are as many
abbrev pub declaration_out : CodeProgram → ℕ → ℕ → Option ℕ
declaration_out code decl zero = Some decl
declaration_out code decl (suc level) = outer_of code (declaration_out code decl level)

-- the side whose members count at a level: that of the code itself, and further out the instance side
abbrev pub level_side : BodyCode → ℕ → Side
level_side body zero = side_of (body.side == class_side)
level_side body (suc level) = InstanceSide

-- the private member of that name of the declaration so many levels out from a body
abbrev pub member_at : CodeProgram → BodyCode → ℕ → Sel → Member
member_at code body level sel =
    option_map_or (private_member code (level_side body level) sel.0) (declaration_out code body.class level) Absent
