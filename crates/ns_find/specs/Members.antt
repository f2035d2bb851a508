-- Members, in the order in which a lookup meets them, and the search among them by name.
use Rattle.std.specs.Prelude.{ℕ, ◌+◌, List, [], ◌∷◌, ◌++◌, Bool, false, ◌==◌, ◌&&◌, not, Option, Some, None, slice_get, if◌then◌else◌}
use Rattle.std.specs.Option.{option_map_or}
use Rattle.std.specs.Str.{bytes_eq}
use Rattle.ns_code.specs.declared.program.CodeProgram.{CodeProgram}
use Rattle.ns_code.specs.declared.class.ClassCode.{ClassCode}
use Rattle.ns_code.specs.declared.class.SlotCode.{SlotCode}
use Rattle.ns_code.specs.declared.class.NestedCode.{NestedCode}
use Rattle.ns_code.specs.declared.class.MethodCode.{MethodCode}
use Rattle.ns_code.specs.Selector.{selector_text}
use Rattle.ns_code.specs.Access.{public_access, private_access}
use Rattle.ns_world.specs.Heap.{Heap}
use Rattle.ns_world.specs.Layout.{declaration_of, entry_word}
use Rattle.ns_find.specs.declared.found.Found.{Found}
use Rattle.ns_find.specs.declared.found.Found.TheVariants.{Method, Getter, Setter, Nested, Factory, NotPublic}
use Rattle.ns_find.specs.declared.members.Wanted.{Wanted}
use Rattle.ns_find.specs.declared.members.Wanted.TheVariants.{Visible, Private}
use Rattle.ns_find.specs.declared.members.Side.{Side}
use Rattle.ns_find.specs.declared.members.Side.TheVariants.{Instance as InstanceSide, Class as ClassSide}
use Rattle.ns_find.specs.declared.found.Sending.{Sending}
use Rattle.ns_find.specs.declared.found.Sending.TheVariants.{Plain, Inner}

-- how a member is named: by the number of a name of the code, with a colon behind such a name, by the
-- name of a class, or by a text
pub data Name : Type 0 where
  Numbered : (number : ℕ) → Name
  SetterOf : (number : ℕ) → Name
  NamedAs : (class : ℕ) → Name
  Spelled : (text : List ℕ) → Name

-- a member of a list: whether it is there for this lookup, its name, its access and what is found with it
pub record Member : Type 0 where
  pub there : Bool
  pub name : Name
  pub access : ℕ
  pub found : Found

-- whether a selector is the name of a member
abbrev pub is_named : CodeProgram → ℕ → Name → Bool
is_named code sel (Numbered number) = sel == number
is_named code sel (SetterOf number) = bytes_eq (selector_text code sel) (selector_text code number ++ 58 ∷ [])
is_named code sel (NamedAs class) = option_map_or (λ (c : ClassCode). sel == c.name.0) (slice_get code.classes class) false
is_named code sel (Spelled text) = bytes_eq (selector_text code sel) text

-- a plain send that meets a member that isn't public finds that it isn't
abbrev pub allowed : Sending → ℕ → Found → Found
allowed Plain access found = if access == public_access then found else NotPublic
allowed Inner access found = found

-- the first member of that name decides
abbrev pub search : CodeProgram → ℕ → Sending → List Member → Option Found
search code sel kind [] = None
search code sel kind (member ∷ members) =
    if is_named code sel member.name && member.there then Some (allowed kind member.access member.found) else search code sel kind members

-- whether a member of this access is looked at
abbrev pub is_wanted : Wanted → ℕ → Bool
is_wanted Visible access = not (access == private_access)
is_wanted Private access = access == private_access

-- the getter and the setter of a slot, which is the entry of that number of its holder
abbrev pub slot_members : Heap → CodeProgram → Wanted → ℕ → ℕ → SlotCode → List Member
slot_members heap code wanted holder entry slot =
    record {
      there = is_wanted wanted slot.access;
      name = Numbered slot.name.0;
      access = slot.access;
      found = Getter holder (entry_word heap code holder entry);
    }
    ∷ record {
      there = is_wanted wanted slot.access && slot.mutable;
      name = SetterOf slot.name.0;
      access = slot.access;
      found = Setter holder (entry_word heap code holder entry);
    }
    ∷ []

-- those of slots, whose entries are numbered from that number on
abbrev pub slots_members : Heap → CodeProgram → Wanted → ℕ → ℕ → List SlotCode → List Member
slots_members heap code wanted holder entry [] = []
slots_members heap code wanted holder entry (slot ∷ slots) =
    slot_members heap code wanted holder entry slot ++ slots_members heap code wanted holder (entry + 1) slots

-- nested classes, each named as its class
abbrev pub nested_members : Wanted → ℕ → List NestedCode → List Member
nested_members wanted holder [] = []
nested_members wanted holder (nested ∷ rest) =
    record { there = is_wanted wanted nested.access; name = NamedAs nested.class; access = nested.access; found = Nested nested.class holder }
    ∷ nested_members wanted holder rest

-- methods
abbrev pub method_members : Wanted → ℕ → List MethodCode → List Member
method_members wanted holder [] = []
method_members wanted holder (method ∷ methods) =
    record { there = is_wanted wanted method.access; name = Numbered method.sel.0; access = method.access; found = Method method.body holder }
    ∷ method_members wanted holder methods

-- the members of one side of a declaration
abbrev pub side_members : Heap → CodeProgram → Wanted → Side → ℕ → ClassCode → List Member
side_members heap code wanted InstanceSide holder class =
    slots_members heap code wanted holder 0 class.slots
    ++ (nested_members wanted holder class.nested ++ method_members wanted holder class.methods)
side_members heap code wanted ClassSide holder class = method_members wanted holder class.side_methods

-- the members of one side of a holder's declaration
abbrev pub holder_members : Heap → CodeProgram → Wanted → Side → ℕ → List Member
holder_members heap code wanted side holder =
    option_map_or (side_members heap code wanted side holder) (slice_get code.classes (declaration_of heap holder)) []

-- the members along a chain, none of them private
abbrev pub members_along : Heap → CodeProgram → Side → List ℕ → List Member
members_along heap code side [] = []
members_along heap code side (holder ∷ chain) = holder_members heap code Visible side holder ++ members_along heap code side chain

-- the factory of a class, where the start says so
abbrev pub factory_member : Heap → CodeProgram → ℕ → Bool → List Member
factory_member heap code class factory =
    option_map_or (λ (c : ClassCode). record { there = factory; name = Numbered c.factory.0; access = public_access; found = Factory class } ∷ [])
    (slice_get code.classes (declaration_of heap class)) []
