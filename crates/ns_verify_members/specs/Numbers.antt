-- The selectors of members by number. A getter, a nested class and a method have the number of their name. A setter
-- has that of the name that is its text, or where there is none, its slot's number counted behind all names.
use Rattle.std.specs.Prelude.{◌≡◌, ℕ, ◌+◌, ◌≤◌, List, [], ◌∷◌, ◌++◌, ◌==◌, Bool, true, false, ◌&&◌, not, nat_lt, nat_eq, Option, Some, None, unwrap_or, length, map, filter, position, if◌then◌else◌}
use Rattle.std.specs.List.{list_any, slice_index_or}
use Rattle.std.specs.List.Sorted.{IsPermutation}
use Rattle.std.specs.Str.{bytes_eq}
use Rattle.ns_base.specs.Names.{NoRepeats}
use Rattle.ns_base.specs.Spelling.{is_identifier}
use Rattle.ns_code.specs.Selectors.{IsTableOf}
use Rattle.ns_code.specs.Soundness.{nested_names}
use Rattle.ns_code.specs.declared.program.CodeProgram.{CodeProgram}
use Rattle.ns_code.specs.declared.class.ClassCode.{ClassCode}
use Rattle.ns_code.specs.declared.class.SlotCode.{SlotCode}
use Rattle.ns_code.specs.declared.class.NestedCode.{NestedCode}
use Rattle.ns_code.specs.declared.class.MethodCode.{MethodCode}
use Rattle.ns_verify_members.specs.declared.names.NameTable.{NameTable}
use Rattle.ns_verify_members.specs.declared.privates.Privates.{Privates}
use Rattle.ns_code.specs.Access.{private_access}

-- the number of the name that is this text with a colon behind it
abbrev pub with_colon : List (List ℕ) → List ℕ → Option ℕ
with_colon names text = position (bytes_eq (text ++ 58 ∷ [])) names

-- The names are few and differ, and the table has of each its arity, whether it is an identifier, and the number of it with a colon.
pub record IsNameTable (code : CodeProgram) (table : NameTable) : Type 0 where
  pub few : length code.names ≤ 65536
  pub differ : NoRepeats code.names
  pub selectors : IsTableOf code table.selectors
  pub identifiers : table.identifiers ≡ map is_identifier code.names
  pub setters : table.setters ≡ map (with_colon code.names) code.names

-- the number of the setter of a slot of that name
abbrev pub setter_number : List (List ℕ) → ℕ → ℕ
setter_number names number = unwrap_or (with_colon names (slice_index_or names number [])) (length names + number)

-- the numbers of a slot that has a name: that of the name, and of its setter where it is mutable
abbrev pub named_numbers : List (List ℕ) → SlotCode → List ℕ
named_numbers names slot = slot.name.0 ∷ (if slot.mutable then setter_number names slot.name.0 ∷ [] else [])

-- those of any slot
abbrev pub slot_numbers : List (List ℕ) → SlotCode → List ℕ
slot_numbers names slot = if nat_lt slot.name.0 (length names) then named_numbers names slot else []

abbrev pub all_slot_numbers : List (List ℕ) → List SlotCode → List ℕ
all_slot_numbers names [] = []
all_slot_numbers names (slot ∷ slots) = slot_numbers names slot ++ all_slot_numbers names slots

-- those numbers that are names'
abbrev pub there : List (List ℕ) → List ℕ → List ℕ
there names numbers = filter (λ number. nat_lt number (length names)) numbers

-- the numbers of methods
abbrev pub method_numbers : List (List ℕ) → List MethodCode → List ℕ
method_numbers names methods = there names (map (λ (method : MethodCode). method.sel.0) methods)

-- the numbers of slots, nested classes and methods
abbrev pub numbers_of : CodeProgram → List SlotCode → List NestedCode → List MethodCode → List ℕ
numbers_of code slots nested methods =
    all_slot_numbers code.names slots ++ (there code.names (nested_names code nested) ++ method_numbers code.names methods)

-- the numbers of the members of the instance side, and of the class side
abbrev pub instance_numbers : CodeProgram → ClassCode → List ℕ
instance_numbers code class = numbers_of code class.slots class.nested class.methods

abbrev pub side_numbers : CodeProgram → ClassCode → List ℕ
side_numbers code class = method_numbers code.names class.side_methods

-- those of the private members
abbrev pub private_instance_numbers : CodeProgram → ClassCode → List ℕ
private_instance_numbers code class =
    numbers_of code
    (filter (λ (slot : SlotCode). slot.access == private_access) class.slots)
    (filter (λ (nested : NestedCode). nested.access == private_access) class.nested)
    (filter (λ (method : MethodCode). method.access == private_access) class.methods)

abbrev pub private_side_numbers : CodeProgram → ClassCode → List ℕ
private_side_numbers code class =
    method_numbers code.names (filter (λ (method : MethodCode). method.access == private_access) class.side_methods)

-- whether no number comes twice
abbrev pub are_apart : List ℕ → Bool
are_apart [] = true
are_apart (number ∷ numbers) = not (list_any (nat_eq number) numbers) && are_apart numbers

-- whether a number is the last one, if there is any
abbrev pub is_last : Option ℕ → ℕ → Bool
is_last None number = false
is_last (Some last) number = nat_eq last number

-- whether no number is the one before it, behind a last one
abbrev pub have_no_twins : Option ℕ → List ℕ → Bool
have_no_twins last [] = true
have_no_twins last (number ∷ numbers) = not (is_last last number) && have_no_twins (Some number) numbers

-- The numbers of a declaration's private members, of both sides, each in some order, in code whose names differ.
pub record IsPrivatesOf (code : CodeProgram) (class : ClassCode) (privates : Privates) : Type 0 where
  pub differ : NoRepeats code.names
  pub instance : IsPermutation (private_instance_numbers code class) privates.instance
  pub side : IsPermutation (private_side_numbers code class) privates.side
