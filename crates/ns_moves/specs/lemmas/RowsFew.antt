-- A selector that finds the evaluation of a block among the rows of the kernel takes few arguments.
use Rattle.std.proofs.Common.{◌≡◌, ℕ, ◌+◌, List, [], ◌∷◌, ◌++◌, Option, Some, None, Bool, true, slice_get}
use Rattle.std.specs.Option.{option_map_or}
use Rattle.ns_code.specs.declared.program.CodeProgram.{CodeProgram}
use Rattle.ns_code.specs.declared.class.ClassCode.{ClassCode}
use Rattle.ns_code.specs.declared.class.SlotCode.{SlotCode}
use Rattle.ns_code.specs.declared.class.NestedCode.{NestedCode}
use Rattle.ns_code.specs.declared.class.MethodCode.{MethodCode}
use Rattle.ns_world.specs.declared.kernel_class.KernelRow.{KernelRow}
use Rattle.ns_world.specs.declared.kernel_class.KernelRow.TheVariants as row
use Rattle.ns_world.specs.declared.kernel.Start.{Start}
use Rattle.ns_world.specs.declared.kernel.Start.TheVariants as start
use Rattle.ns_world.specs.Heap.{Heap, chain_of}
use Rattle.ns_world.specs.Layout.{declaration_of}
use Rattle.ns_find.specs.declared.found.Found.{Found}
use Rattle.ns_find.specs.declared.found.Found.TheVariants as found
use Rattle.ns_find.specs.declared.found.Sending.{Sending}
use Rattle.ns_find.specs.declared.members.Wanted.{Wanted}
use Rattle.ns_find.specs.declared.members.Wanted.TheVariants.{Visible}
use Rattle.ns_find.specs.declared.members.Side.{Side}
use Rattle.ns_find.specs.declared.members.Side.TheVariants.{Instance as InstanceSide, Class as ClassSide}
use Rattle.ns_find.specs.Members.{Numbered, slots_members, nested_members, method_members, side_members, holder_members, members_along, factory_member}
use Rattle.ns_code.specs.Access.{public_access}
use Rattle.ns_world.specs.KernelTable.{first_of, row_at}
use Rattle.ns_find.specs.Rows.{top_rows, kernel_rows}
use Rattle.ns_find.specs.Find.{members_from, found_from}
use Rattle.ns_find.specs.laws.Named.{EachNamed, named_append, search_named}
use Rattle.ns_world.specs.declared.kernel_row.Row.{Row}
use Rattle.ns_world.specs.declared.kernel_row.Row.TheVariants as answer
use Rattle.std.proofs.Common.{◌≤◌, ap, arith}
use Rattle.std.specs.Prelude.{codes}
use Rattle.std.specs.Str.{bytes_eq}
use Rattle.std.proofs.lemmas.Slice.Eq.{bytes_eq-Decides}
use Rattle.ns_code.specs.Selector.{selector_text, selector_arity, text_arity}

abbrev pub RowFew : CodeProgram → ℕ → Row → Type 0
RowFew code sel (answer.Data r) = Unit {0}
RowFew code sel (answer.Integer r) = Unit {0}
RowFew code sel answer.Top = Unit {0}
RowFew code sel (answer.Facet r) = Unit {0}
RowFew code sel (answer.Mirror r) = Unit {0}
RowFew code sel (answer.Method method) = Unit {0}
RowFew code sel answer.Apply = Unit {0}
RowFew code sel answer.Value = selector_arity code sel ≤ 255
RowFew code sel answer.ValueWithArguments = Unit {0}
RowFew code sel answer.NumArgs = Unit {0}

-- A row that evaluates a block with the arguments of its send is found by a selector of few.
abbrev pub FoundFew : CodeProgram → ℕ → Found → Type 0
FoundFew code sel (found.Kernel number) = RowFew code sel (row_at number)
FoundFew code sel other = Unit {0}

few_named : (code : CodeProgram) (sel : ℕ) (text : List ℕ) → bytes_eq (selector_text code sel) text ≡ true → text_arity text ≤ 255 →
    selector_arity code sel ≤ 255
few_named code sel text n few = let same : selector_arity code sel ≡ text_arity text = ap text_arity ((bytes_eq-Decides (selector_text code sel) text).0 n) in omega (arith, same, few)

tops_few : (heap : Heap) (code : CodeProgram) (sel number : ℕ) (classes : List ClassCode) →
    EachNamed (FoundFew code sel) code sel (top_rows heap (first_of row.Manifest) number classes)
tops_few heap code sel number [] = tt
tops_few heap code sel number (class ∷ classes) = ((λ n. tt), tops_few heap code sel (number + 1) classes)

rows_few : (heap : Heap) (code : CodeProgram) (sel : ℕ) (r : KernelRow) → EachNamed (FoundFew code sel) code sel (kernel_rows heap code r)
rows_few heap code sel row.ObjectClass = ((λ n. tt), tt)
rows_few heap code sel row.ArrayClass = ((λ n. tt), tt)
rows_few heap code sel row.Class = ((λ n. tt), tt)
rows_few heap code sel row.UndefinedObject = ((λ n. tt), tt)
rows_few heap code sel row.Boolean =
    ((λ n. tt), ((λ n. tt), ((λ n. tt), ((λ n. tt), ((λ n. tt), ((λ n. tt), ((λ n. tt), ((λ n. tt), ((λ n. tt), ((λ n. tt), tt))))))))))
rows_few heap code sel row.Integer =
    ((λ n. tt), ((λ n. tt), ((λ n. tt), ((λ n. tt), ((λ n. tt), ((λ n. tt), ((λ n. tt), ((λ n. tt), ((λ n. tt), ((λ n. tt), ((λ n. tt), ((λ n. tt), ((λ n. tt), ((λ n. tt), ((λ n. tt), ((λ n. tt), ((λ n. tt), tt)))))))))))))))))
rows_few heap code sel row.String = ((λ n. tt), ((λ n. tt), ((λ n. tt), ((λ n. tt), ((λ n. tt), ((λ n. tt), ((λ n. tt), tt)))))))
rows_few heap code sel row.Symbol = ((λ n. tt), ((λ n. tt), ((λ n. tt), ((λ n. tt), tt))))
rows_few heap code sel row.Array = ((λ n. tt), ((λ n. tt), ((λ n. tt), ((λ n. tt), tt))))
rows_few heap code sel row.Block = (
  (λ n. few_named code sel (codes "value") n (omega arith)),
  (
    (λ n. few_named code sel (codes "value:") n (omega arith)),
    (
      (λ n. few_named code sel (codes "value:value:") n (omega arith)),
      (
        (λ n. few_named code sel (codes "value:value:value:") n (omega arith)),
        ((λ n. tt), ((λ n. tt), ((λ n. tt), ((λ n. tt), tt)))),
      ),
    ),
  ),
)
rows_few heap code sel row.Kernel = ((λ n. tt), ((λ n. tt), tt))
rows_few heap code sel row.Console = ((λ n. tt), ((λ n. tt), tt))
rows_few heap code sel row.Board = ((λ n. tt), ((λ n. tt), tt))
rows_few heap code sel row.Mirrors = ((λ n. tt), tt)
rows_few heap code sel row.Mirror = ((λ n. tt), ((λ n. tt), ((λ n. tt), ((λ n. tt), ((λ n. tt), ((λ n. tt), ((λ n. tt), tt)))))))
rows_few heap code sel row.Message = ((λ n. tt), ((λ n. tt), tt))
rows_few heap code sel row.Object = ((λ n. tt), ((λ n. tt), ((λ n. tt), ((λ n. tt), ((λ n. tt), ((λ n. tt), tt))))))
rows_few heap code sel row.Manifest =
    named_append (FoundFew code sel) code sel (top_rows heap (first_of row.Manifest) 0 code.classes) [] (tops_few heap code sel 0 code.classes) tt
rows_few heap code sel row.Platform = ((λ n. tt), ((λ n. tt), ((λ n. tt), ((λ n. tt), tt))))

slots_few : (heap : Heap) (code : CodeProgram) (sel : ℕ) (wanted : Wanted) (holder entry : ℕ) (slots : List SlotCode) →
    EachNamed (FoundFew code sel) code sel (slots_members heap code wanted holder entry slots)
slots_few heap code sel wanted holder entry [] = tt
slots_few heap code sel wanted holder entry (slot ∷ slots) =
    ((λ n. tt), ((λ n. tt), slots_few heap code sel wanted holder (entry + 1) slots))

nested_few : (heap : Heap) (code : CodeProgram) (sel : ℕ) (wanted : Wanted) (holder : ℕ) (nested : List NestedCode) →
    EachNamed (FoundFew code sel) code sel (nested_members wanted holder nested)
nested_few heap code sel wanted holder [] = tt
nested_few heap code sel wanted holder (nested ∷ rest) = ((λ n. tt), nested_few heap code sel wanted holder rest)

methods_few : (heap : Heap) (code : CodeProgram) (sel : ℕ) (wanted : Wanted) (holder : ℕ) (methods : List MethodCode) →
    EachNamed (FoundFew code sel) code sel (method_members wanted holder methods)
methods_few heap code sel wanted holder [] = tt
methods_few heap code sel wanted holder (method ∷ methods) = ((λ n. tt), methods_few heap code sel wanted holder methods)

holder_few : (heap : Heap) (code : CodeProgram) (sel : ℕ) (wanted : Wanted) (side : Side) (holder : ℕ) →
    EachNamed (FoundFew code sel) code sel (holder_members heap code wanted side holder)
holder_few heap code sel wanted side holder = there (slice_get code.classes (declaration_of heap holder)) side
  where
    there : (o : Option ClassCode) (side : Side) → EachNamed (FoundFew code sel) code sel (option_map_or (side_members heap code wanted side holder) o [])
    there None side = tt
    there (Some class) ClassSide = methods_few heap code sel wanted holder class.side_methods
    there (Some class) InstanceSide =
        named_append (FoundFew code sel) code sel (slots_members heap code wanted holder 0 class.slots) (nested_members wanted holder class.nested ++ method_members wanted holder class.methods)
        (slots_few heap code sel wanted holder 0 class.slots)
        (named_append (FoundFew code sel) code sel (nested_members wanted holder class.nested) (method_members wanted holder class.methods)
        (nested_few heap code sel wanted holder class.nested) (methods_few heap code sel wanted holder class.methods))

along_few : (heap : Heap) (code : CodeProgram) (sel : ℕ) (side : Side) (chain : List ℕ) →
    EachNamed (FoundFew code sel) code sel (members_along heap code side chain)
along_few heap code sel side [] = tt
along_few heap code sel side (holder ∷ chain) =
    named_append (FoundFew code sel) code sel (holder_members heap code Visible side holder) (members_along heap code side chain) (holder_few heap code sel Visible side holder) (along_few heap code sel side chain)

factory_few : (heap : Heap) (code : CodeProgram) (sel class : ℕ) (factory : Bool) →
    EachNamed (FoundFew code sel) code sel (factory_member heap code class factory)
factory_few heap code sel class factory = there (slice_get code.classes (declaration_of heap class))
  where
    there : (o : Option ClassCode) → EachNamed (FoundFew code sel) code sel (option_map_or (λ (c : ClassCode). record { there = factory; name = Numbered c.factory.0; access = public_access; found = found.Factory class } ∷ []) o [])
    there (Some c) = ((λ n. tt), tt)
    there None = tt

pub from_few : (heap : Heap) (code : CodeProgram) (from : Start) (sel : ℕ) (kind : Sending) →
    FoundFew code sel (found_from heap code from sel kind)
from_few heap code (start.Instance class) sel kind =
    search_named (FoundFew code sel) code sel kind (members_from heap code (start.Instance class)) tt tt
    (named_append (FoundFew code sel) code sel (members_along heap code InstanceSide (chain_of heap class)) (kernel_rows heap code row.Object) (along_few heap code sel InstanceSide (chain_of heap class)) (rows_few heap code sel row.Object))
from_few heap code (start.ClassSide class factory) sel kind =
    search_named (FoundFew code sel) code sel kind (members_from heap code (start.ClassSide class factory)) tt tt
    (named_append (FoundFew code sel) code sel (factory_member heap code class factory) (members_along heap code ClassSide (chain_of heap class) ++ (kernel_rows heap code row.Class ++ kernel_rows heap code row.Object))
    (factory_few heap code sel class factory)
    (named_append (FoundFew code sel) code sel (members_along heap code ClassSide (chain_of heap class)) (kernel_rows heap code row.Class ++ kernel_rows heap code row.Object) (along_few heap code sel ClassSide (chain_of heap class))
    (named_append (FoundFew code sel) code sel (kernel_rows heap code row.Class) (kernel_rows heap code row.Object) (rows_few heap code sel row.Class) (rows_few heap code sel row.Object))))
from_few heap code (start.Kernel r) sel kind =
    search_named (FoundFew code sel) code sel kind (members_from heap code (start.Kernel r)) tt tt
    (named_append (FoundFew code sel) code sel (kernel_rows heap code r) (kernel_rows heap code row.Object) (rows_few heap code sel r) (rows_few heap code sel row.Object))
