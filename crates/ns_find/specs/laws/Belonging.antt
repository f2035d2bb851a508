-- What is found belongs to a holder in the chain.
use Rattle.std.proofs.Common.{◌≡◌, ℕ, zero, suc, ◌+◌, ◌<◌, List, [], ◌∷◌, ◌++◌, length, drop, refl, ap, arith, Option, Some, None, Bool, true, false, cond, eqb, ◌&&◌}
use Rattle.std.specs.Prelude.{Contains, slice_get, unwrap_or}
use Rattle.std.specs.Option.{option_map_or}
use Rattle.ns_code.specs.declared.program.CodeProgram.{CodeProgram}
use Rattle.ns_code.specs.declared.class.ClassCode.{ClassCode}
use Rattle.ns_code.specs.declared.class.SlotCode.{SlotCode}
use Rattle.ns_code.specs.declared.class.NestedCode.{NestedCode}
use Rattle.ns_code.specs.declared.class.MethodCode.{MethodCode}
use Rattle.ns_world.specs.declared.kernel_class.KernelRow.{KernelRow}
use Rattle.ns_world.specs.declared.kernel_class.KernelRow.TheVariants as row
use Rattle.ns_world.specs.declared.kernel.Start.TheVariants as start
use Rattle.ns_world.specs.Heap.{Heap, chain_of}
use Rattle.ns_world.specs.Layout.{declaration_of, entry_word}
use Rattle.ns_world.specs.laws.Chains.{both_of}
use Rattle.ns_find.specs.declared.found.Found.{Found}
use Rattle.ns_find.specs.declared.found.Found.TheVariants.{Factory, NotPublic, Absent}
use Rattle.ns_find.specs.declared.found.Sending.{Sending}
use Rattle.ns_find.specs.declared.found.Sending.TheVariants.{Plain, Inner}
use Rattle.ns_find.specs.declared.members.Side.{Side}
use Rattle.ns_find.specs.declared.members.Side.TheVariants.{Instance as InstanceSide, Class as ClassSide}
use Rattle.ns_find.specs.declared.members.Wanted.{Wanted}
use Rattle.ns_find.specs.declared.members.Wanted.TheVariants.{Visible, Private}
use Rattle.ns_find.specs.Members.{Member, Numbered, is_named, allowed, search, slots_members, nested_members, method_members, side_members, holder_members, members_along, factory_member}
use Rattle.ns_code.specs.Access.{public_access}
use Rattle.ns_world.specs.KernelTable.{Numbered as NumberedRow, rows_of}
use Rattle.ns_find.specs.Rows.{top_rows, called_by, row_members, rows_members, kernel_rows}
use Rattle.ns_find.specs.Find.{members_from, found_from, found_private}
use Rattle.ns_find.specs.Belonging.{Belongs, factories_at, IsSlotOf, HasNested, IsMethodOf, methods_on}

-- what is found with each member of a list that is there has a property
abbrev Each : (Found → Type 0) → List Member → Type 0
Each P [] = Unit {0}
Each P (member ∷ members) = (member.there ≡ true → P member.found) × Each P members

each_append : (P : Found → Type 0) (first later : List Member) → Each P first → Each P later → Each P (first ++ later)
each_append P [] later one two = two
each_append P (member ∷ first) later (here, one) two = (here, each_append P first later one two)

allowed_has : (P : Found → Type 0) (kind : Sending) (access : ℕ) (found : Found) → P NotPublic → P found → P (allowed kind access found)
allowed_has P Inner access found closed open' = open'
allowed_has P Plain access found closed open' = tested (eqb access public_access)
  where
    tested : (b : Bool) → P (cond b found NotPublic)
    tested true = open'
    tested false = closed

-- and so has what the search finds
search_has : (P : Found → Type 0) (code : CodeProgram) (sel : ℕ) (kind : Sending) (members : List Member) → P NotPublic → P Absent →
    Each P members → P (unwrap_or (search code sel kind members) Absent)
search_has P code sel kind [] closed absent each = absent
search_has P code sel kind (member ∷ members) closed absent (here, rest) =
    tested (is_named code sel member.name && member.there) refl (search_has P code sel kind members closed absent rest)
  where
    tested : (b : Bool) → (is_named code sel member.name && member.there) ≡ b → P (unwrap_or (search code sel kind members) Absent) → P (unwrap_or (cond b (Some (allowed kind member.access member.found)) (search code sel kind members)) Absent)
    tested true e below = allowed_has P kind member.access member.found closed (here (both_of (is_named code sel member.name) member.there e).1)
    tested false e below = below

-- the first of what is left of a list
pub first_left : {A : Type 0} (all : List A) (k : ℕ) (first : A) (rest : List A) → drop k all ≡ first ∷ rest → slice_get all k ≡ Some first
first_left [] zero first rest e = absurd (cc)
first_left [] (suc k) first rest e = absurd (cc)
first_left (x ∷ all) zero first rest e = let is : x ≡ first = cc in ap Some is
first_left (x ∷ all) (suc k) first rest e = first_left all k first rest e

left_inside : {A : Type 0} (all : List A) (k : ℕ) (first : A) (rest : List A) → drop k all ≡ first ∷ rest → k < length all
left_inside [] zero first rest e = absurd (cc)
left_inside [] (suc k) first rest e = absurd (cc)
left_inside (x ∷ all) zero first rest e = omega arith
left_inside (x ∷ all) (suc k) first rest e = omega (arith, left_inside all k first rest e)

pub next_left : {A : Type 0} (all : List A) (k : ℕ) (first : A) (rest : List A) → drop k all ≡ first ∷ rest → drop (k + 1) all ≡ rest
next_left [] zero first rest e = absurd (cc)
next_left [] (suc k) first rest e = absurd (cc)
next_left (x ∷ all) zero first rest e = let is : all ≡ rest = cc in is
next_left (x ∷ all) (suc k) first rest e = let more : suc k + 1 ≡ suc (k + 1) = omega arith in rw more (next_left all k first rest e)

-- a holder whose declaration is there, in a chain
record Holds (heap : Heap) (code : CodeProgram) (chain : List ℕ) (holder : ℕ) (class : ClassCode) : Type 0 where
  contained : Contains chain holder
  class_is : slice_get code.classes (declaration_of heap holder) ≡ Some class

slots_belong :
    (heap : Heap) (code : CodeProgram) (wanted : Wanted) (chain factories : List ℕ) (holder : ℕ) (class : ClassCode) (entry : ℕ) (slots : List SlotCode) →
    Holds heap code chain holder class → drop entry class.slots ≡ slots
    → Each (Belongs heap code InstanceSide chain factories) (slots_members heap code wanted holder entry slots)
slots_belong heap code wanted chain factories holder class entry [] holds e = tt
slots_belong heap code wanted chain factories holder class entry (slot ∷ slots) holds e =
    let has : IsSlotOf heap code holder (entry_word heap code holder entry) =
    record { class = class; class_is = holds.class_is; entry = entry; inside = left_inside class.slots entry slot slots e; word_is = refl } in
    ((λ t. (tt, holds.contained, has)), ((λ t. (tt, holds.contained, has)), slots_belong heap code wanted chain factories holder class (entry + 1) slots holds (next_left class.slots entry slot slots e)))

nested_belong :
    (heap : Heap) (code : CodeProgram) (wanted : Wanted) (chain factories : List ℕ) (holder : ℕ) (class : ClassCode) (k : ℕ) (rest : List NestedCode) →
    Holds heap code chain holder class → drop k class.nested ≡ rest
    → Each (Belongs heap code InstanceSide chain factories) (nested_members wanted holder rest)
nested_belong heap code wanted chain factories holder class k [] holds e = tt
nested_belong heap code wanted chain factories holder class k (nested ∷ rest) holds e =
    let has : HasNested heap code holder nested.class =
    record { class = class; class_is = holds.class_is; place = k; nested = nested; nested_is = first_left class.nested k nested rest e; decl_is = refl } in
    ((λ t. (tt, holds.contained, has)), nested_belong heap code wanted chain factories holder class (k + 1) rest holds (next_left class.nested k nested rest e))

methods_belong :
    (heap : Heap) (code : CodeProgram) (wanted : Wanted) (side : Side) (chain factories : List ℕ) (holder : ℕ) (class : ClassCode) (k : ℕ) (methods : List MethodCode) →
    Holds heap code chain holder class → drop k (methods_on side class) ≡ methods
    → Each (Belongs heap code side chain factories) (method_members wanted holder methods)
methods_belong heap code wanted side chain factories holder class k [] holds e = tt
methods_belong heap code wanted side chain factories holder class k (method ∷ methods) holds e =
    let has : IsMethodOf heap code side holder method.body =
    record { class = class; class_is = holds.class_is; place = k; method = method; method_is = first_left (methods_on side class) k method methods e; body_is = refl } in
    ((λ t. (holds.contained, has)), methods_belong heap code wanted side chain factories holder class (k + 1) methods holds (next_left (methods_on side class) k method methods e))

side_belongs :
    (heap : Heap) (code : CodeProgram) (wanted : Wanted) (side : Side) (chain factories : List ℕ) (holder : ℕ) (class : ClassCode) →
    Holds heap code chain holder class → Each (Belongs heap code side chain factories) (side_members heap code wanted side holder class)
side_belongs heap code wanted InstanceSide chain factories holder class holds =
    each_append (Belongs heap code InstanceSide chain factories) (slots_members heap code wanted holder 0 class.slots) (nested_members wanted holder class.nested ++ method_members wanted holder class.methods)
    (slots_belong heap code wanted chain factories holder class 0 class.slots holds refl)
    (each_append (Belongs heap code InstanceSide chain factories) (nested_members wanted holder class.nested) (method_members wanted holder class.methods)
    (nested_belong heap code wanted chain factories holder class 0 class.nested holds refl) (methods_belong heap code wanted InstanceSide chain factories holder class 0 class.methods holds refl))
side_belongs heap code wanted ClassSide chain factories holder class holds =
    methods_belong heap code wanted ClassSide chain factories holder class 0 class.side_methods holds refl

holder_belongs : (heap : Heap) (code : CodeProgram) (wanted : Wanted) (side : Side) (chain factories : List ℕ) (holder : ℕ) →
    Contains chain holder → Each (Belongs heap code side chain factories) (holder_members heap code wanted side holder)
holder_belongs heap code wanted side chain factories holder contained = found (slice_get code.classes (declaration_of heap holder)) refl
  where
    found : (o : Option ClassCode) → slice_get code.classes (declaration_of heap holder) ≡ o → Each (Belongs heap code side chain factories) (option_map_or (side_members heap code wanted side holder) o [])
    found (Some class) e = side_belongs heap code wanted side chain factories holder class (record { contained = contained; class_is = e })
    found None e = tt

along_belongs : (heap : Heap) (code : CodeProgram) (side : Side) (chain factories rest : List ℕ) →
    ((holder : ℕ) → Contains rest holder → Contains chain holder) →
    Each (Belongs heap code side chain factories) (members_along heap code side rest)
along_belongs heap code side chain factories [] among = tt
along_belongs heap code side chain factories (holder ∷ rest) among =
    each_append (Belongs heap code side chain factories) (holder_members heap code Visible side holder) (members_along heap code side rest)
    (holder_belongs heap code Visible side chain factories holder (among holder (0, omega arith, refl)))
    (along_belongs heap code side chain factories rest (λ other (k, inside, is). among other (suc k, omega (arith, inside), is)))

-- rows of the kernel have no holder
top_belong : (heap : Heap) (code : CodeProgram) (side : Side) (chain factories : List ℕ) (row number : ℕ) (classes : List ClassCode) →
    Each (Belongs heap code side chain factories) (top_rows heap row number classes)
top_belong heap code side chain factories row number [] = tt
top_belong heap code side chain factories row number (class ∷ classes) =
    ((λ t. tt), top_belong heap code side chain factories row (number + 1) classes)

row_belongs : (heap : Heap) (code : CodeProgram) (side : Side) (chain factories : List ℕ) (row : NumberedRow) (text : Option (List ℕ)) →
    Each (Belongs heap code side chain factories) (called_by heap code row text)
row_belongs heap code side chain factories row (Some text) = ((λ t. tt), tt)
row_belongs heap code side chain factories row None = top_belong heap code side chain factories row.number 0 code.classes

each_belongs : (heap : Heap) (code : CodeProgram) (side : Side) (chain factories : List ℕ) (rows : List NumberedRow) →
    Each (Belongs heap code side chain factories) (rows_members heap code rows)
each_belongs heap code side chain factories [] = tt
each_belongs heap code side chain factories (row ∷ rows) =
    each_append (Belongs heap code side chain factories) (row_members heap code row) (rows_members heap code rows)
    (row_belongs heap code side chain factories row row.line.text) (each_belongs heap code side chain factories rows)

rows_belong : (heap : Heap) (code : CodeProgram) (side : Side) (chain factories : List ℕ) (r : KernelRow) →
    Each (Belongs heap code side chain factories) (kernel_rows heap code r)
rows_belong heap code side chain factories r = each_belongs heap code side chain factories (rows_of r)

factory_belongs : (heap : Heap) (code : CodeProgram) (side : Side) (chain : List ℕ) (class : ℕ) (factory : Bool) →
    Each (Belongs heap code side chain (factories_at class factory)) (factory_member heap code class factory)
factory_belongs heap code side chain class factory = found (slice_get code.classes (declaration_of heap class))
  where
    there : (b : Bool) → b ≡ true → Contains (factories_at class b) class
    there true t = (0, omega arith, refl)
    there false t = absurd (cc)

    found : (o : Option ClassCode) → Each (Belongs heap code side chain (factories_at class factory)) (option_map_or (λ (c : ClassCode). record { there = factory; name = Numbered c.factory.0; access = public_access; found = Factory class } ∷ []) o [])
    found (Some c) = (there factory, tt)
    found None = tt

-- What is found from an instance of a class belongs to the class's chain.
pub instance_belongs : (heap : Heap) (code : CodeProgram) (class sel : ℕ) (kind : Sending) →
    Belongs heap code InstanceSide (chain_of heap class) [] (found_from heap code (start.Instance class) sel kind)
instance_belongs heap code class sel kind =
    let chain = chain_of heap class in
    search_has (Belongs heap code InstanceSide chain []) code sel kind (members_from heap code (start.Instance class)) tt tt
    (each_append (Belongs heap code InstanceSide chain []) (members_along heap code InstanceSide chain) (kernel_rows heap code row.Object)
    (along_belongs heap code InstanceSide chain [] chain (λ holder c. c)) (rows_belong heap code InstanceSide chain [] row.Object))

-- What is found from a class belongs to its chain or to a factory.
pub class_belongs : (heap : Heap) (code : CodeProgram) (class : ℕ) (factory : Bool) (sel : ℕ) (kind : Sending) →
    Belongs heap code ClassSide (chain_of heap class) (factories_at class factory) (found_from heap code (start.ClassSide class factory) sel kind)
class_belongs heap code class factory sel kind =
    let chain = chain_of heap class in
    let P = Belongs heap code ClassSide chain (factories_at class factory) in
    search_has P code sel kind (members_from heap code (start.ClassSide class factory)) tt tt
    (each_append P (factory_member heap code class factory) (members_along heap code ClassSide chain ++ (kernel_rows heap code row.Class ++ kernel_rows heap code row.Object))
    (factory_belongs heap code ClassSide chain class factory)
    (each_append P (members_along heap code ClassSide chain) (kernel_rows heap code row.Class ++ kernel_rows heap code row.Object)
    (along_belongs heap code ClassSide chain (factories_at class factory) chain (λ holder c. c))
    (each_append P (kernel_rows heap code row.Class) (kernel_rows heap code row.Object)
    (rows_belong heap code ClassSide chain (factories_at class factory) row.Class) (rows_belong heap code ClassSide chain (factories_at class factory) row.Object))))

-- What is found from a row of the kernel belongs to the kernel.
pub kernel_belongs : (heap : Heap) (code : CodeProgram) (side : Side) (named : KernelRow) (sel : ℕ) (kind : Sending) →
    Belongs heap code side [] [] (found_from heap code (start.Kernel named) sel kind)
kernel_belongs heap code side named sel kind =
    search_has (Belongs heap code side [] []) code sel kind (members_from heap code (start.Kernel named)) tt tt
    (each_append (Belongs heap code side [] []) (kernel_rows heap code named) (kernel_rows heap code row.Object) (rows_belong heap code side [] [] named) (rows_belong heap code side [] [] row.Object))

-- What is found privately belongs to its holder.
pub private_belongs : (heap : Heap) (code : CodeProgram) (holder : ℕ) (side : Side) (sel : ℕ) →
    Belongs heap code side (holder ∷ []) [] (found_private heap code holder side sel)
private_belongs heap code holder side sel =
    search_has (Belongs heap code side (holder ∷ []) []) code sel Inner (holder_members heap code Private side holder) tt tt (holder_belongs heap code Private side (holder ∷ []) [] holder (0, omega arith, refl))
