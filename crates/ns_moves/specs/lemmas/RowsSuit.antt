-- Rows of the kernel that are found suit the receiver.
use Rattle.std.proofs.Common.{◌≡◌, ℕ, ◌+◌, List, [], ◌∷◌, ◌++◌, refl, ap, Option, Some, None, Bool, true, slice_get}
use Rattle.std.specs.Option.{option_map_or}
use Rattle.ns_code.specs.declared.program.CodeProgram.{CodeProgram}
use Rattle.ns_code.specs.declared.class.ClassCode.{ClassCode}
use Rattle.ns_code.specs.declared.class.SlotCode.{SlotCode}
use Rattle.ns_code.specs.declared.class.NestedCode.{NestedCode}
use Rattle.ns_code.specs.declared.class.MethodCode.{MethodCode}
use Rattle.ns_world.specs.declared.value.Value.{Value}
use Rattle.ns_world.specs.declared.value.Value.TheVariants as value
use Rattle.ns_world.specs.declared.cell.FacetKind.{FacetKind}
use Rattle.ns_world.specs.declared.cell.FacetKind.TheVariants as kinds
use Rattle.ns_world.specs.declared.value.KClass.{KClass}
use Rattle.ns_world.specs.declared.value.KClass.TheVariants as kernel
use Rattle.ns_world.specs.declared.cell.NewCell.TheVariants as new
use Rattle.ns_world.specs.declared.kernel_class.KernelRow.{KernelRow}
use Rattle.ns_world.specs.declared.kernel_class.KernelRow.TheVariants as row
use Rattle.ns_world.specs.declared.kernel.Start.{Start}
use Rattle.ns_world.specs.declared.kernel.Start.TheVariants as start
use Rattle.ns_world.specs.Cell.{Cell, ObjectCell, ClassCell, BlockCell, EnvironmentCell, ArrayCell, TextCell, FacetCell, MirrorCell, MessageCell, shape_of}
use Rattle.ns_world.specs.Heap.{Heap, find_cell, chain_of}
use Rattle.ns_world.specs.Starts.{start_of, start_of_cell, facet_row, kernel_class_row}
use Rattle.ns_world.specs.Layout.{declaration_of}
use Rattle.ns_find.specs.declared.found.Found.TheVariants as found
use Rattle.ns_find.specs.declared.found.Sending.{Sending}
use Rattle.ns_find.specs.declared.found.Sending.TheVariants.{Inner}
use Rattle.ns_find.specs.declared.members.Wanted.{Wanted}
use Rattle.ns_find.specs.declared.members.Wanted.TheVariants.{Visible, Private}
use Rattle.ns_find.specs.declared.members.Side.{Side}
use Rattle.ns_find.specs.declared.members.Side.TheVariants.{Instance as InstanceSide, Class as ClassSide}
use Rattle.ns_find.specs.Members.{Numbered, slots_members, nested_members, method_members, side_members, holder_members, members_along, factory_member}
use Rattle.ns_code.specs.Access.{public_access}
use Rattle.ns_world.specs.KernelTable.{first_of}
use Rattle.ns_find.specs.Rows.{top_rows, kernel_rows}
use Rattle.ns_find.specs.Find.{members_from, found_from, found_private, super_start}
use Rattle.ns_find.specs.laws.Named.{EachNamed, named_append, search_named}
use Rattle.ns_kdata.specs.Arguments.{is_array}
use Rattle.ns_moves.specs.Blocks.{is_block, is_integer}
use Rattle.ns_world.specs.Booleans.{is_boolean}
use Rattle.ns_moves.specs.Suiting.{is_reference, facet_in, facet_at, FoundSuits}

-- What is known of a receiver by the class of the kernel at which its lookups start.
abbrev IsOfKind : Heap → Value → KernelRow → Type 0
IsOfKind heap self row.Boolean = is_boolean self ≡ true
IsOfKind heap self row.Integer = is_integer self ≡ true
IsOfKind heap self row.Array = is_array heap self ≡ true
IsOfKind heap self row.Block = is_block heap self ≡ true
IsOfKind heap self row.Manifest = facet_at heap self ≡ Some kinds.Manifest
IsOfKind heap self row.Platform = facet_at heap self ≡ Some kinds.Platform
IsOfKind heap self row.Kernel = facet_at heap self ≡ Some kinds.Kernel
IsOfKind heap self row.Console = facet_at heap self ≡ Some kinds.Console
IsOfKind heap self row.Board = facet_at heap self ≡ Some kinds.Board
IsOfKind heap self row.Mirrors = is_reference self ≡ true
IsOfKind heap self row.Mirror = is_reference self ≡ true
IsOfKind heap self other = Unit {0}

tops_suit : (heap : Heap) (code : CodeProgram) (self : Value) (sel number : ℕ) (classes : List ClassCode) →
    facet_at heap self ≡ Some kinds.Manifest →
    EachNamed (FoundSuits heap self) code sel (top_rows heap (first_of row.Manifest) number classes)
tops_suit heap code self sel number [] kind = tt
tops_suit heap code self sel number (class ∷ classes) kind = ((λ n. kind), tops_suit heap code self sel (number + 1) classes kind)

rows_suit : (heap : Heap) (code : CodeProgram) (self : Value) (sel : ℕ) (r : KernelRow) → IsOfKind heap self r →
    EachNamed (FoundSuits heap self) code sel (kernel_rows heap code r)
rows_suit heap code self sel row.ObjectClass kind = ((λ n. tt), tt)
rows_suit heap code self sel row.ArrayClass kind = ((λ n. tt), tt)
rows_suit heap code self sel row.Class kind = ((λ n. tt), tt)
rows_suit heap code self sel row.UndefinedObject kind = ((λ n. tt), tt)
rows_suit heap code self sel row.Boolean kind =
    ((λ n. tt), ((λ n. tt), ((λ n. tt), ((λ n. tt), ((λ n. kind), ((λ n. kind), ((λ n. kind), ((λ n. kind), ((λ n. kind), ((λ n. kind), tt))))))))))
rows_suit heap code self sel row.Integer kind =
    ((λ n. tt), ((λ n. tt), ((λ n. tt), ((λ n. tt), ((λ n. tt), ((λ n. tt), ((λ n. tt), ((λ n. tt), ((λ n. tt), ((λ n. tt), ((λ n. tt), ((λ n. tt), ((λ n. tt), ((λ n. tt), ((λ n. tt), ((λ n. kind), ((λ n. kind), tt)))))))))))))))))
rows_suit heap code self sel row.String kind = ((λ n. tt), ((λ n. tt), ((λ n. tt), ((λ n. tt), ((λ n. tt), ((λ n. tt), ((λ n. tt), tt)))))))
rows_suit heap code self sel row.Symbol kind = ((λ n. tt), ((λ n. tt), ((λ n. tt), ((λ n. tt), tt))))
rows_suit heap code self sel row.Array kind = ((λ n. tt), ((λ n. tt), ((λ n. tt), ((λ n. kind), tt))))
rows_suit heap code self sel row.Block kind =
    ((λ n. kind), ((λ n. kind), ((λ n. kind), ((λ n. kind), ((λ n. kind), ((λ n. tt), ((λ n. kind), ((λ n. kind), tt))))))))
rows_suit heap code self sel row.Kernel kind = ((λ n. kind), ((λ n. kind), tt))
rows_suit heap code self sel row.Console kind = ((λ n. kind), ((λ n. kind), tt))
rows_suit heap code self sel row.Board kind = ((λ n. kind), ((λ n. kind), tt))
rows_suit heap code self sel row.Mirrors kind = ((λ n. kind), tt)
rows_suit heap code self sel row.Mirror kind =
    ((λ n. kind), ((λ n. kind), ((λ n. kind), ((λ n. kind), ((λ n. kind), ((λ n. kind), ((λ n. kind), tt)))))))
rows_suit heap code self sel row.Message kind = ((λ n. tt), ((λ n. tt), tt))
rows_suit heap code self sel row.Object kind = ((λ n. tt), ((λ n. tt), ((λ n. tt), ((λ n. tt), ((λ n. tt), ((λ n. tt), tt))))))
rows_suit heap code self sel row.Manifest kind =
    named_append (FoundSuits heap self) code sel (top_rows heap (first_of row.Manifest) 0 code.classes) [] (tops_suit heap code self sel 0 code.classes kind) tt
rows_suit heap code self sel row.Platform kind = ((λ n. kind), ((λ n. kind), ((λ n. kind), ((λ n. kind), tt))))

slots_suit : (heap : Heap) (code : CodeProgram) (self : Value) (sel : ℕ) (wanted : Wanted) (holder entry : ℕ) (slots : List SlotCode) →
    EachNamed (FoundSuits heap self) code sel (slots_members heap code wanted holder entry slots)
slots_suit heap code self sel wanted holder entry [] = tt
slots_suit heap code self sel wanted holder entry (slot ∷ slots) =
    ((λ n. tt), ((λ n. tt), slots_suit heap code self sel wanted holder (entry + 1) slots))

nested_suit : (heap : Heap) (code : CodeProgram) (self : Value) (sel : ℕ) (wanted : Wanted) (holder : ℕ) (nested : List NestedCode) →
    EachNamed (FoundSuits heap self) code sel (nested_members wanted holder nested)
nested_suit heap code self sel wanted holder [] = tt
nested_suit heap code self sel wanted holder (nested ∷ rest) = ((λ n. tt), nested_suit heap code self sel wanted holder rest)

methods_suit : (heap : Heap) (code : CodeProgram) (self : Value) (sel : ℕ) (wanted : Wanted) (holder : ℕ) (methods : List MethodCode) →
    EachNamed (FoundSuits heap self) code sel (method_members wanted holder methods)
methods_suit heap code self sel wanted holder [] = tt
methods_suit heap code self sel wanted holder (method ∷ methods) = ((λ n. tt), methods_suit heap code self sel wanted holder methods)

holder_suits : (heap : Heap) (code : CodeProgram) (self : Value) (sel : ℕ) (wanted : Wanted) (side : Side) (holder : ℕ) →
    EachNamed (FoundSuits heap self) code sel (holder_members heap code wanted side holder)
holder_suits heap code self sel wanted side holder = there (slice_get code.classes (declaration_of heap holder)) side
  where
    there : (o : Option ClassCode) (side : Side) → EachNamed (FoundSuits heap self) code sel (option_map_or (side_members heap code wanted side holder) o [])
    there None side = tt
    there (Some class) ClassSide = methods_suit heap code self sel wanted holder class.side_methods
    there (Some class) InstanceSide =
        named_append (FoundSuits heap self) code sel (slots_members heap code wanted holder 0 class.slots) (nested_members wanted holder class.nested ++ method_members wanted holder class.methods)
        (slots_suit heap code self sel wanted holder 0 class.slots)
        (named_append (FoundSuits heap self) code sel (nested_members wanted holder class.nested) (method_members wanted holder class.methods)
        (nested_suit heap code self sel wanted holder class.nested) (methods_suit heap code self sel wanted holder class.methods))

along_suit : (heap : Heap) (code : CodeProgram) (self : Value) (sel : ℕ) (side : Side) (chain : List ℕ) →
    EachNamed (FoundSuits heap self) code sel (members_along heap code side chain)
along_suit heap code self sel side [] = tt
along_suit heap code self sel side (holder ∷ chain) =
    named_append (FoundSuits heap self) code sel (holder_members heap code Visible side holder) (members_along heap code side chain) (holder_suits heap code self sel Visible side holder) (along_suit heap code self sel side chain)

factory_suits : (heap : Heap) (code : CodeProgram) (self : Value) (sel class : ℕ) (factory : Bool) →
    EachNamed (FoundSuits heap self) code sel (factory_member heap code class factory)
factory_suits heap code self sel class factory = there (slice_get code.classes (declaration_of heap class))
  where
    there : (o : Option ClassCode) → EachNamed (FoundSuits heap self) code sel (option_map_or (λ (c : ClassCode). record { there = factory; name = Numbered c.factory.0; access = public_access; found = found.Factory class } ∷ []) o [])
    there (Some c) = ((λ n. tt), tt)
    there None = tt

-- what a start tells of a receiver
abbrev StartsAs : Heap → Value → Start → Type 0
StartsAs heap self (start.Instance class) = Unit {0}
StartsAs heap self (start.ClassSide class factory) = Unit {0}
StartsAs heap self (start.Kernel r) = IsOfKind heap self r

from_suits : (heap : Heap) (code : CodeProgram) (self : Value) (from : Start) (sel : ℕ) (kind : Sending) → StartsAs heap self from →
    FoundSuits heap self (found_from heap code from sel kind)
from_suits heap code self (start.Instance class) sel kind known =
    search_named (FoundSuits heap self) code sel kind (members_from heap code (start.Instance class)) tt tt
    (named_append (FoundSuits heap self) code sel (members_along heap code InstanceSide (chain_of heap class)) (kernel_rows heap code row.Object) (along_suit heap code self sel InstanceSide (chain_of heap class)) (rows_suit heap code self sel row.Object tt))
from_suits heap code self (start.ClassSide class factory) sel kind known =
    search_named (FoundSuits heap self) code sel kind (members_from heap code (start.ClassSide class factory)) tt tt
    (named_append (FoundSuits heap self) code sel (factory_member heap code class factory) (members_along heap code ClassSide (chain_of heap class) ++ (kernel_rows heap code row.Class ++ kernel_rows heap code row.Object))
    (factory_suits heap code self sel class factory)
    (named_append (FoundSuits heap self) code sel (members_along heap code ClassSide (chain_of heap class)) (kernel_rows heap code row.Class ++ kernel_rows heap code row.Object) (along_suit heap code self sel ClassSide (chain_of heap class))
    (named_append (FoundSuits heap self) code sel (kernel_rows heap code row.Class) (kernel_rows heap code row.Object) (rows_suit heap code self sel row.Class tt) (rows_suit heap code self sel row.Object tt))))
from_suits heap code self (start.Kernel r) sel kind known =
    search_named (FoundSuits heap self) code sel kind (members_from heap code (start.Kernel r)) tt tt
    (named_append (FoundSuits heap self) code sel (kernel_rows heap code r) (kernel_rows heap code row.Object) (rows_suit heap code self sel r known) (rows_suit heap code self sel row.Object tt))

facet_kind : (heap : Heap) (at : ℕ) (k : FacetKind) → find_cell heap at ≡ Some (FacetCell k) → IsOfKind heap (value.Ref at) (facet_row k)
facet_kind heap at kinds.Manifest e = ap facet_in e
facet_kind heap at kinds.Platform e = ap facet_in e
facet_kind heap at kinds.Console e = ap facet_in e
facet_kind heap at kinds.Mirrors e = refl
facet_kind heap at kinds.Kernel e = ap facet_in e
facet_kind heap at kinds.Board e = ap facet_in e

class_kind : (heap : Heap) (self : Value) (k : KClass) → IsOfKind heap self (kernel_class_row k)
class_kind heap self kernel.Object = tt
class_kind heap self kernel.Array = tt

starts_as : (heap : Heap) (self : Value) → StartsAs heap self (start_of heap self)
starts_as heap (value.Ref at) = cell (find_cell heap at) refl
  where
    cell : (o : Option Cell) → find_cell heap at ≡ o → StartsAs heap (value.Ref at) (start_of_cell (option_map_or shape_of o (new.Mirror value.Nil)) at)
    cell None e = refl
    cell (Some (ObjectCell class entries)) e = tt
    cell (Some (ClassCell decl base encl holder over)) e = tt
    cell (Some (BlockCell body env home receiver holder)) e = rw e refl
    cell (Some (EnvironmentCell parent locals)) e = tt
    cell (Some (ArrayCell items)) e = rw e refl
    cell (Some (TextCell bytes)) e = tt
    cell (Some (FacetCell k)) e = facet_kind heap at k e
    cell (Some (MirrorCell shown)) e = refl
    cell (Some (MessageCell name args)) e = tt
starts_as heap value.Nil = tt
starts_as heap value.True = refl
starts_as heap value.False = refl
starts_as heap (value.Int number) = refl
starts_as heap (value.Sym name) = tt
starts_as heap (value.Kernel class) = class_kind heap (value.Kernel class) class

-- what a send to a value, to super and to a private member finds
pub value_suits : (heap : Heap) (code : CodeProgram) (self : Value) (sel : ℕ) (kind : Sending) →
    FoundSuits heap self (found_from heap code (start_of heap self) sel kind)
value_suits heap code self sel kind = from_suits heap code self (start_of heap self) sel kind (starts_as heap self)

pub above_suits : (heap : Heap) (code : CodeProgram) (self : Value) (holder : ℕ) (side : Side) (sel : ℕ) →
    FoundSuits heap self (found_from heap code (super_start heap holder side) sel Inner)
above_suits heap code self holder InstanceSide sel = from_suits heap code self (super_start heap holder InstanceSide) sel Inner tt
above_suits heap code self holder ClassSide sel = from_suits heap code self (super_start heap holder ClassSide) sel Inner tt

pub own_suits : (heap : Heap) (code : CodeProgram) (self : Value) (holder : ℕ) (side : Side) (sel : ℕ) →
    FoundSuits heap self (found_private heap code holder side sel)
own_suits heap code self holder side sel =
    search_named (FoundSuits heap self) code sel Inner (holder_members heap code Private side holder) tt tt (holder_suits heap code self sel Private side holder)
