-- Private members under the numbers of their selectors, in the order in which a lookup meets them. A getter, a nested class
-- and a method stand under the number of their name; a setter under that of the name that is its selector, or of none.
use Rattle.std.specs.Prelude.{◌≡◌, ℕ, ◌+◌, ◌<◌, List, [], ◌∷◌, ◌++◌, ◌==◌, ◌&&◌, nat_lt, Option, Some, None, length, slice_get, if◌then◌else◌}
use Rattle.std.specs.List.{AllZip}
use Rattle.std.specs.Option.{option_map_or}
use Rattle.ns_code.specs.declared.program.CodeProgram.{CodeProgram}
use Rattle.ns_code.specs.declared.class.ClassCode.{ClassCode}
use Rattle.ns_code.specs.declared.class.SlotCode.{SlotCode}
use Rattle.ns_code.specs.declared.class.NestedCode.{NestedCode}
use Rattle.ns_code.specs.declared.class.MethodCode.{MethodCode}
use Rattle.ns_find.specs.declared.members.Side.{Side}
use Rattle.ns_find.specs.declared.members.Side.TheVariants.{Instance as InstanceSide, Class as ClassSide}
use Rattle.ns_code.specs.Access.{private_access}
use Rattle.ns_verify_members.specs.Numbers.{setter_number}
use Rattle.ns_machine_plan.specs.declared.index.Entry.{Entry}
use Rattle.ns_machine_plan.specs.declared.members.Members.{Members}
use Rattle.ns_machine_plan.specs.declared.members.Privates.{Privates}
use Rattle.ns_machine_plan.specs.declared.step.Member.{Member}
use Rattle.ns_machine_plan.specs.declared.step.Member.TheVariants.{Method, Getter, Setter, Nested}
use Rattle.ns_machine_plan.specs.Outers.{AreOutersOf}
use Rattle.ns_machine_plan.specs.Privates.{side_member}

-- the first member under a number
abbrev pub first_under : ℕ → List Entry → Option Member
first_under number [] = None
first_under number (entry ∷ entries) = if number == entry.number then Some entry.member else first_under number entries

-- a member under a number
abbrev pub under : ℕ → Member → Entry
under number member = record { number = number; member = member }

-- the getter of a slot of that number, and the setter where it is mutable
abbrev pub named_entries : List (List ℕ) → ℕ → SlotCode → List Entry
named_entries names entry slot =
    under slot.name.0 (Getter entry) ∷ (if slot.mutable then under (setter_number names slot.name.0) (Setter entry) ∷ [] else [])

-- those of a slot that is private and has a name
abbrev pub slot_entries : List (List ℕ) → ℕ → SlotCode → List Entry
slot_entries names entry slot =
    if slot.access == private_access && nat_lt slot.name.0 (length names) then named_entries names entry slot else []

-- those of slots, which are numbered from that number on
abbrev pub all_slot_entries : List (List ℕ) → ℕ → List SlotCode → List Entry
all_slot_entries names entry [] = []
all_slot_entries names entry (slot ∷ slots) = slot_entries names entry slot ++ all_slot_entries names (entry + 1) slots

-- a nested class that is private and there
abbrev pub nested_entry : CodeProgram → NestedCode → List Entry
nested_entry code nested =
    if nested.access == private_access
    then option_map_or (λ (class : ClassCode). under class.name.0 (Nested nested.class) ∷ []) (slice_get code.classes nested.class) []
    else []

abbrev pub nested_entries : CodeProgram → List NestedCode → List Entry
nested_entries code [] = []
nested_entries code (nested ∷ rest) = nested_entry code nested ++ nested_entries code rest

-- a method that is private
abbrev pub method_entry : MethodCode → List Entry
method_entry method = if method.access == private_access then under method.sel.0 (Method method.body) ∷ [] else []

abbrev pub method_entries : List MethodCode → List Entry
method_entries [] = []
method_entries (method ∷ methods) = method_entry method ++ method_entries methods

-- the private members of the instance side
abbrev pub instance_entries : CodeProgram → ClassCode → List Entry
instance_entries code class =
    all_slot_entries code.names 0 class.slots ++ (nested_entries code class.nested ++ method_entries class.methods)

-- the first under a number on a side
abbrev pub found_on : Members → Side → ℕ → Option Member
found_on members InstanceSide number = first_under number members.instance
found_on members ClassSide number = first_under number members.side

-- On each side the first under the number of a name is the private member of that name.
abbrev pub AreMembersOf : CodeProgram → ClassCode → Members → Type 0
AreMembersOf code class members =
    (side : Side) (number : ℕ) → number < length code.names → found_on members side number ≡ side_member code side number class

-- The same of all declarations, and those around them.
pub record ArePrivatesOf (code : CodeProgram) (privates : Privates) : Type 0 where
  pub members : AllZip (AreMembersOf code) code.classes privates.classes
  pub outers : AreOutersOf code privates.outers
