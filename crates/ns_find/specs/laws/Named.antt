-- What is found has the selector that was sought.
use Rattle.std.proofs.Common.{◌≡◌, ℕ, ◌+◌, List, [], ◌∷◌, ◌++◌, refl, sym, Option, Some, None, Bool, true, false, cond, eqb, ◌&&◌, drop, slice_get, unwrap_or}
use Rattle.std.specs.Option.{option_map_or}
use Rattle.std.proofs.lemmas.Bool.{eqb-true}
use Rattle.ns_code.specs.declared.program.CodeProgram.{CodeProgram}
use Rattle.ns_code.specs.declared.class.ClassCode.{ClassCode}
use Rattle.ns_code.specs.declared.class.SlotCode.{SlotCode}
use Rattle.ns_code.specs.declared.class.NestedCode.{NestedCode}
use Rattle.ns_code.specs.declared.class.MethodCode.{MethodCode}
use Rattle.ns_world.specs.declared.kernel_class.KernelRow.{KernelRow}
use Rattle.ns_world.specs.declared.kernel_class.KernelRow.TheVariants as row
use Rattle.ns_world.specs.declared.kernel.Start.TheVariants as start
use Rattle.ns_world.specs.Heap.{Heap, chain_of}
use Rattle.ns_world.specs.Layout.{declaration_of}
use Rattle.ns_world.specs.laws.Chains.{both_of}
use Rattle.ns_find.specs.declared.found.Found.{Found}
use Rattle.ns_find.specs.declared.found.Found.TheVariants.{NotPublic, Absent, Factory}
use Rattle.ns_find.specs.declared.found.Sending.{Sending}
use Rattle.ns_find.specs.declared.found.Sending.TheVariants.{Plain, Inner}
use Rattle.ns_find.specs.declared.members.Wanted.{Wanted}
use Rattle.ns_find.specs.declared.members.Wanted.TheVariants.{Visible, Private}
use Rattle.ns_find.specs.declared.members.Side.{Side}
use Rattle.ns_find.specs.declared.members.Side.TheVariants.{Instance as InstanceSide, Class as ClassSide}
use Rattle.ns_find.specs.Members.{Member, Numbered, is_named, allowed, search, slots_members, nested_members, method_members, side_members, holder_members, members_along, factory_member}
use Rattle.ns_code.specs.Access.{public_access}
use Rattle.ns_world.specs.KernelTable.{Numbered as NumberedRow, rows_of}
use Rattle.ns_find.specs.Rows.{top_rows, called_by, row_members, rows_members, kernel_rows}
use Rattle.ns_find.specs.Find.{members_from, found_from, found_private}
use Rattle.ns_find.specs.Belonging.{methods_on}
use Rattle.ns_find.specs.Named.{HasNamed, IsNamedBy}
use Rattle.ns_find.specs.laws.Belonging.{first_left, next_left}

-- what is found with each member of a list that is there and has a name has a property
abbrev pub EachNamed : (Found → Type 0) → CodeProgram → ℕ → List Member → Type 0
EachNamed P code sel [] = Unit {0}
EachNamed P code sel (member ∷ members) = (is_named code sel member.name ≡ true → P member.found) × EachNamed P code sel members

-- Members of two lists are named as those of each.
pub named_append : (P : Found → Type 0) (code : CodeProgram) (sel : ℕ) (first later : List Member) → EachNamed P code sel first →
    EachNamed P code sel later → EachNamed P code sel (first ++ later)
named_append P code sel [] later one two = two
named_append P code sel (member ∷ first) later (here, one) two = (here, named_append P code sel first later one two)

allowed_has : (P : Found → Type 0) (kind : Sending) (access : ℕ) (found : Found) → P NotPublic → P found → P (allowed kind access found)
allowed_has P Inner access found closed open' = open'
allowed_has P Plain access found closed open' = tested (eqb access public_access)
  where
    tested : (b : Bool) → P (cond b found NotPublic)
    tested true = open'
    tested false = closed

-- What a search of members gives is one of those that are named, or none.
pub search_named : (P : Found → Type 0) (code : CodeProgram) (sel : ℕ) (kind : Sending) (members : List Member) → P NotPublic → P Absent →
    EachNamed P code sel members → P (unwrap_or (search code sel kind members) Absent)
search_named P code sel kind [] closed absent each = absent
search_named P code sel kind (member ∷ members) closed absent (here, rest) =
    tested (is_named code sel member.name && member.there) refl (search_named P code sel kind members closed absent rest)
  where
    tested : (b : Bool) → (is_named code sel member.name && member.there) ≡ b → P (unwrap_or (search code sel kind members) Absent) → P (unwrap_or (cond b (Some (allowed kind member.access member.found)) (search code sel kind members)) Absent)
    tested true e below = allowed_has P kind member.access member.found closed (here (both_of (is_named code sel member.name) member.there e).0)
    tested false e below = below

-- ---- the lists of members

slots_named : (heap : Heap) (code : CodeProgram) (side : Side) (sel : ℕ) (wanted : Wanted) (holder entry : ℕ) (slots : List SlotCode) →
    EachNamed (IsNamedBy heap code side sel) code sel (slots_members heap code wanted holder entry slots)
slots_named heap code side sel wanted holder entry [] = tt
slots_named heap code side sel wanted holder entry (slot ∷ slots) =
    ((λ n. tt), ((λ n. tt), slots_named heap code side sel wanted holder (entry + 1) slots))

nested_named : (heap : Heap) (code : CodeProgram) (side : Side) (sel : ℕ) (wanted : Wanted) (holder : ℕ) (nested : List NestedCode) →
    EachNamed (IsNamedBy heap code side sel) code sel (nested_members wanted holder nested)
nested_named heap code side sel wanted holder [] = tt
nested_named heap code side sel wanted holder (nested ∷ rest) = ((λ n. tt), nested_named heap code side sel wanted holder rest)

methods_named :
    (heap : Heap) (code : CodeProgram) (side : Side) (sel : ℕ) (wanted : Wanted) (holder : ℕ) (class : ClassCode) (k : ℕ) (methods : List MethodCode) →
    slice_get code.classes (declaration_of heap holder) ≡ Some class → drop k (methods_on side class) ≡ methods
    → EachNamed (IsNamedBy heap code side sel) code sel (method_members wanted holder methods)
methods_named heap code side sel wanted holder class k [] is e = tt
methods_named heap code side sel wanted holder class k (method ∷ methods) is e =
    let has : sel ≡ method.sel.0 → HasNamed heap code side holder sel method.body =
    λ s. record { class = class; class_is = is; place = k; method = method; method_is = first_left (methods_on side class) k method methods e; sel_is = sym s; body_is = refl } in
    ((λ n. has (eqb-true sel method.sel.0 n)), methods_named heap code side sel wanted holder class (k + 1) methods is (next_left (methods_on side class) k method methods e))

side_named : (heap : Heap) (code : CodeProgram) (sel : ℕ) (wanted : Wanted) (side : Side) (holder : ℕ) (class : ClassCode) →
    slice_get code.classes (declaration_of heap holder) ≡ Some class →
    EachNamed (IsNamedBy heap code side sel) code sel (side_members heap code wanted side holder class)
side_named heap code sel wanted InstanceSide holder class is =
    let P = IsNamedBy heap code InstanceSide sel in
    named_append P code sel (slots_members heap code wanted holder 0 class.slots) (nested_members wanted holder class.nested ++ method_members wanted holder class.methods)
    (slots_named heap code InstanceSide sel wanted holder 0 class.slots)
    (named_append P code sel (nested_members wanted holder class.nested) (method_members wanted holder class.methods)
    (nested_named heap code InstanceSide sel wanted holder class.nested) (methods_named heap code InstanceSide sel wanted holder class 0 class.methods is refl))
side_named heap code sel wanted ClassSide holder class is =
    methods_named heap code ClassSide sel wanted holder class 0 class.side_methods is refl

holder_named : (heap : Heap) (code : CodeProgram) (sel : ℕ) (wanted : Wanted) (side : Side) (holder : ℕ) →
    EachNamed (IsNamedBy heap code side sel) code sel (holder_members heap code wanted side holder)
holder_named heap code sel wanted side holder = found (slice_get code.classes (declaration_of heap holder)) refl
  where
    found : (o : Option ClassCode) → slice_get code.classes (declaration_of heap holder) ≡ o → EachNamed (IsNamedBy heap code side sel) code sel (option_map_or (side_members heap code wanted side holder) o [])
    found (Some class) e = side_named heap code sel wanted side holder class e
    found None e = tt

along_named : (heap : Heap) (code : CodeProgram) (sel : ℕ) (side : Side) (chain : List ℕ) →
    EachNamed (IsNamedBy heap code side sel) code sel (members_along heap code side chain)
along_named heap code sel side [] = tt
along_named heap code sel side (holder ∷ chain) =
    named_append (IsNamedBy heap code side sel) code sel (holder_members heap code Visible side holder) (members_along heap code side chain) (holder_named heap code sel Visible side holder) (along_named heap code sel side chain)

top_named : (heap : Heap) (code : CodeProgram) (side : Side) (sel row number : ℕ) (classes : List ClassCode) →
    EachNamed (IsNamedBy heap code side sel) code sel (top_rows heap row number classes)
top_named heap code side sel row number [] = tt
top_named heap code side sel row number (class ∷ classes) = ((λ n. tt), top_named heap code side sel row (number + 1) classes)

row_named : (heap : Heap) (code : CodeProgram) (side : Side) (sel : ℕ) (row : NumberedRow) (text : Option (List ℕ)) →
    EachNamed (IsNamedBy heap code side sel) code sel (called_by heap code row text)
row_named heap code side sel row (Some text) = ((λ n. tt), tt)
row_named heap code side sel row None = top_named heap code side sel row.number 0 code.classes

each_named : (heap : Heap) (code : CodeProgram) (side : Side) (sel : ℕ) (rows : List NumberedRow) →
    EachNamed (IsNamedBy heap code side sel) code sel (rows_members heap code rows)
each_named heap code side sel [] = tt
each_named heap code side sel (row ∷ rows) =
    named_append (IsNamedBy heap code side sel) code sel (row_members heap code row) (rows_members heap code rows)
    (row_named heap code side sel row row.line.text) (each_named heap code side sel rows)

rows_named : (heap : Heap) (code : CodeProgram) (side : Side) (sel : ℕ) (r : KernelRow) →
    EachNamed (IsNamedBy heap code side sel) code sel (kernel_rows heap code r)
rows_named heap code side sel r = each_named heap code side sel (rows_of r)

factory_named : (heap : Heap) (code : CodeProgram) (sel class : ℕ) (factory : Bool) →
    EachNamed (IsNamedBy heap code ClassSide sel) code sel (factory_member heap code class factory)
factory_named heap code sel class factory = found (slice_get code.classes (declaration_of heap class)) refl
  where
    found : (o : Option ClassCode) → slice_get code.classes (declaration_of heap class) ≡ o
        → EachNamed (IsNamedBy heap code ClassSide sel) code sel (option_map_or (λ (c : ClassCode). record { there = factory; name = Numbered c.factory.0; access = public_access; found = Factory class } ∷ []) o [])
    found (Some c) e = ((λ n. record { declared = c; class_is = e; sel_is = sym (eqb-true sel c.factory.0 n) }), tt)
    found None e = tt

-- ---- what lookups find

pub instance_named : (heap : Heap) (code : CodeProgram) (class sel : ℕ) (kind : Sending) →
    IsNamedBy heap code InstanceSide sel (found_from heap code (start.Instance class) sel kind)
instance_named heap code class sel kind =
    let P = IsNamedBy heap code InstanceSide sel in
    search_named P code sel kind (members_from heap code (start.Instance class)) tt tt
    (named_append P code sel (members_along heap code InstanceSide (chain_of heap class)) (kernel_rows heap code row.Object)
    (along_named heap code sel InstanceSide (chain_of heap class)) (rows_named heap code InstanceSide sel row.Object))

pub class_named : (heap : Heap) (code : CodeProgram) (class : ℕ) (factory : Bool) (sel : ℕ) (kind : Sending) →
    IsNamedBy heap code ClassSide sel (found_from heap code (start.ClassSide class factory) sel kind)
class_named heap code class factory sel kind =
    let P = IsNamedBy heap code ClassSide sel in
    search_named P code sel kind (members_from heap code (start.ClassSide class factory)) tt tt
    (named_append P code sel (factory_member heap code class factory) (members_along heap code ClassSide (chain_of heap class) ++ (kernel_rows heap code row.Class ++ kernel_rows heap code row.Object))
    (factory_named heap code sel class factory)
    (named_append P code sel (members_along heap code ClassSide (chain_of heap class)) (kernel_rows heap code row.Class ++ kernel_rows heap code row.Object)
    (along_named heap code sel ClassSide (chain_of heap class))
    (named_append P code sel (kernel_rows heap code row.Class) (kernel_rows heap code row.Object) (rows_named heap code ClassSide sel row.Class) (rows_named heap code ClassSide sel row.Object))))

pub kernel_named : (heap : Heap) (code : CodeProgram) (side : Side) (named : KernelRow) (sel : ℕ) (kind : Sending) →
    IsNamedBy heap code side sel (found_from heap code (start.Kernel named) sel kind)
kernel_named heap code side named sel kind =
    let P = IsNamedBy heap code side sel in
    search_named P code sel kind (members_from heap code (start.Kernel named)) tt tt
    (named_append P code sel (kernel_rows heap code named) (kernel_rows heap code row.Object) (rows_named heap code side sel named) (rows_named heap code side sel row.Object))

pub private_named : (heap : Heap) (code : CodeProgram) (holder : ℕ) (side : Side) (sel : ℕ) →
    IsNamedBy heap code side sel (found_private heap code holder side sel)
private_named heap code holder side sel =
    search_named (IsNamedBy heap code side sel) code sel Inner (holder_members heap code Private side holder) tt tt (holder_named heap code sel Private side holder)
