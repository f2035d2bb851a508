-- The kernel's row that performs is found by `perform:with:` alone.
use Rattle.std.proofs.Common.{◌≡◌, ℕ, ◌+◌, List, [], ◌∷◌, ◌++◌, Option, Some, None, Bool, true, slice_get}
use Rattle.std.specs.Prelude.{codes}
use Rattle.std.specs.Option.{option_map_or}
use Rattle.std.specs.Str.{bytes_eq}
use Rattle.ns_code.specs.declared.program.CodeProgram.{CodeProgram}
use Rattle.ns_code.specs.declared.class.ClassCode.{ClassCode}
use Rattle.ns_code.specs.declared.class.SlotCode.{SlotCode}
use Rattle.ns_code.specs.declared.class.NestedCode.{NestedCode}
use Rattle.ns_code.specs.declared.class.MethodCode.{MethodCode}
use Rattle.ns_code.specs.Access.{public_access}
use Rattle.ns_code.specs.Selector.{selector_text}
use Rattle.ns_world.specs.declared.kernel_class.KernelRow.{KernelRow}
use Rattle.ns_world.specs.declared.kernel_class.KernelRow.TheVariants as row
use Rattle.ns_world.specs.declared.kernel.Start.{Start}
use Rattle.ns_world.specs.declared.kernel.Start.TheVariants as start
use Rattle.ns_world.specs.Heap.{Heap, chain_of}
use Rattle.ns_world.specs.Layout.{declaration_of}
use Rattle.ns_find.specs.declared.found.Found.{Found}
use Rattle.ns_find.specs.declared.found.Found.TheVariants as found
use Rattle.ns_find.specs.declared.found.Sending.{Sending}
use Rattle.ns_find.specs.declared.found.Sending.TheVariants.{Inner}
use Rattle.ns_find.specs.declared.members.Wanted.{Wanted}
use Rattle.ns_find.specs.declared.members.Wanted.TheVariants.{Visible, Private}
use Rattle.ns_find.specs.declared.members.Side.{Side}
use Rattle.ns_find.specs.declared.members.Side.TheVariants.{Instance as InstanceSide, Class as ClassSide}
use Rattle.ns_find.specs.Members.{Numbered, slots_members, nested_members, method_members, side_members, holder_members, members_along, factory_member}
use Rattle.ns_find.specs.Rows.{top_rows, kernel_rows}
use Rattle.ns_find.specs.Find.{members_from, found_from, found_private}
use Rattle.ns_find.specs.laws.Named.{EachNamed, named_append, search_named}
use Rattle.ns_world.specs.declared.kernel_parts.MirrorRow.{MirrorRow}
use Rattle.ns_world.specs.declared.kernel_parts.MirrorRow.TheVariants as mirror
use Rattle.ns_world.specs.declared.kernel_row.Row.{Row}
use Rattle.ns_world.specs.declared.kernel_row.Row.TheVariants as rows
use Rattle.ns_world.specs.KernelTable.{row_at, first_of}

-- the selector of that number is `perform:with:`
abbrev pub Performs : CodeProgram → ℕ → Type 0
Performs code sel = bytes_eq (selector_text code sel) (codes "perform:with:") ≡ true

-- What a row asks of the selector by which it is found.
abbrev pub MirrorAsks : CodeProgram → ℕ → MirrorRow → Type 0
MirrorAsks code sel mirror.Perform = Performs code sel
MirrorAsks code sel other = Unit {0}

abbrev pub RowAsks : CodeProgram → ℕ → Row → Type 0
RowAsks code sel (rows.Mirror mirrors) = MirrorAsks code sel mirrors
RowAsks code sel other = Unit {0}

abbrev pub FoundAsks : CodeProgram → ℕ → Found → Type 0
FoundAsks code sel (found.Kernel number) = RowAsks code sel (row_at number)
FoundAsks code sel other = Unit {0}

module _ (code : CodeProgram) (sel : ℕ) where
  tops_ask : (heap : Heap) (number : ℕ) (classes : List ClassCode) →
      EachNamed (FoundAsks code sel) code sel (top_rows heap (first_of row.Manifest) number classes)
  tops_ask heap number [] = tt
  tops_ask heap number (class ∷ classes) = ((λ n. tt), tops_ask heap (number + 1) classes)

  rows_ask : (heap : Heap) (r : KernelRow) → EachNamed (FoundAsks code sel) code sel (kernel_rows heap code r)
  rows_ask heap row.ObjectClass = ((λ n. tt), tt)
  rows_ask heap row.ArrayClass = ((λ n. tt), tt)
  rows_ask heap row.Class = ((λ n. tt), tt)
  rows_ask heap row.UndefinedObject = ((λ n. tt), tt)
  rows_ask heap row.Boolean =
      ((λ n. tt), ((λ n. tt), ((λ n. tt), ((λ n. tt), ((λ n. tt), ((λ n. tt), ((λ n. tt), ((λ n. tt), ((λ n. tt), ((λ n. tt), tt))))))))))
  rows_ask heap row.Integer =
      ((λ n. tt), ((λ n. tt), ((λ n. tt), ((λ n. tt), ((λ n. tt), ((λ n. tt), ((λ n. tt), ((λ n. tt), ((λ n. tt), ((λ n. tt), ((λ n. tt), ((λ n. tt), ((λ n. tt), ((λ n. tt), ((λ n. tt), ((λ n. tt), ((λ n. tt), tt)))))))))))))))))
  rows_ask heap row.String = ((λ n. tt), ((λ n. tt), ((λ n. tt), ((λ n. tt), ((λ n. tt), ((λ n. tt), ((λ n. tt), tt)))))))
  rows_ask heap row.Symbol = ((λ n. tt), ((λ n. tt), ((λ n. tt), ((λ n. tt), tt))))
  rows_ask heap row.Array = ((λ n. tt), ((λ n. tt), ((λ n. tt), ((λ n. tt), tt))))
  rows_ask heap row.Block = ((λ n. tt), ((λ n. tt), ((λ n. tt), ((λ n. tt), ((λ n. tt), ((λ n. tt), ((λ n. tt), ((λ n. tt), tt))))))))
  rows_ask heap row.Kernel = ((λ n. tt), ((λ n. tt), tt))
  rows_ask heap row.Console = ((λ n. tt), ((λ n. tt), tt))
  rows_ask heap row.Board = ((λ n. tt), ((λ n. tt), tt))
  rows_ask heap row.Mirrors = ((λ n. tt), tt)
  rows_ask heap row.Mirror = ((λ n. tt), ((λ n. tt), ((λ n. tt), ((λ n. tt), ((λ n. tt), ((λ n. tt), ((λ n. n), tt)))))))
  rows_ask heap row.Message = ((λ n. tt), ((λ n. tt), tt))
  rows_ask heap row.Object = ((λ n. tt), ((λ n. tt), ((λ n. tt), ((λ n. tt), ((λ n. tt), ((λ n. tt), tt))))))
  rows_ask heap row.Manifest =
      named_append (FoundAsks code sel) code sel (top_rows heap (first_of row.Manifest) 0 code.classes) [] (tops_ask heap 0 code.classes) tt
  rows_ask heap row.Platform = ((λ n. tt), ((λ n. tt), ((λ n. tt), ((λ n. tt), tt))))

  slots_ask : (heap : Heap) (wanted : Wanted) (holder entry : ℕ) (slots : List SlotCode) →
      EachNamed (FoundAsks code sel) code sel (slots_members heap code wanted holder entry slots)
  slots_ask heap wanted holder entry [] = tt
  slots_ask heap wanted holder entry (slot ∷ slots) = ((λ n. tt), ((λ n. tt), slots_ask heap wanted holder (entry + 1) slots))

  nested_ask : (wanted : Wanted) (holder : ℕ) (nested : List NestedCode) →
      EachNamed (FoundAsks code sel) code sel (nested_members wanted holder nested)
  nested_ask wanted holder [] = tt
  nested_ask wanted holder (nested ∷ rest) = ((λ n. tt), nested_ask wanted holder rest)

  methods_ask : (wanted : Wanted) (holder : ℕ) (methods : List MethodCode) →
      EachNamed (FoundAsks code sel) code sel (method_members wanted holder methods)
  methods_ask wanted holder [] = tt
  methods_ask wanted holder (method ∷ methods) = ((λ n. tt), methods_ask wanted holder methods)

  holder_asks : (heap : Heap) (wanted : Wanted) (side : Side) (holder : ℕ) →
      EachNamed (FoundAsks code sel) code sel (holder_members heap code wanted side holder)
  holder_asks heap wanted side holder = there (slice_get code.classes (declaration_of heap holder)) side
    where
      there : (o : Option ClassCode) (side : Side) →
          EachNamed (FoundAsks code sel) code sel (option_map_or (side_members heap code wanted side holder) o [])
      there None side = tt
      there (Some class) ClassSide = methods_ask wanted holder class.side_methods
      there (Some class) InstanceSide =
          named_append (FoundAsks code sel) code sel (slots_members heap code wanted holder 0 class.slots) (nested_members wanted holder class.nested ++ method_members wanted holder class.methods)
          (slots_ask heap wanted holder 0 class.slots)
          (named_append (FoundAsks code sel) code sel (nested_members wanted holder class.nested) (method_members wanted holder class.methods)
          (nested_ask wanted holder class.nested) (methods_ask wanted holder class.methods))

  along_ask : (heap : Heap) (side : Side) (chain : List ℕ) → EachNamed (FoundAsks code sel) code sel (members_along heap code side chain)
  along_ask heap side [] = tt
  along_ask heap side (holder ∷ chain) =
      named_append (FoundAsks code sel) code sel (holder_members heap code Visible side holder) (members_along heap code side chain) (holder_asks heap Visible side holder) (along_ask heap side chain)

  factory_asks : (heap : Heap) (class : ℕ) (factory : Bool) →
      EachNamed (FoundAsks code sel) code sel (factory_member heap code class factory)
  factory_asks heap class factory = there (slice_get code.classes (declaration_of heap class))
    where
      there : (o : Option ClassCode) →
          EachNamed (FoundAsks code sel) code sel (option_map_or (λ (c : ClassCode). record { there = factory; name = Numbered c.factory.0; access = public_access; found = found.Factory class } ∷ []) o [])
      there (Some c) = ((λ n. tt), tt)
      there None = tt

  -- what a lookup finds from a start
  pub from_asks : (heap : Heap) (from : Start) (kind : Sending) → FoundAsks code sel (found_from heap code from sel kind)
  from_asks heap (start.Instance class) kind =
      search_named (FoundAsks code sel) code sel kind (members_from heap code (start.Instance class)) tt tt
      (named_append (FoundAsks code sel) code sel (members_along heap code InstanceSide (chain_of heap class)) (kernel_rows heap code row.Object) (along_ask heap InstanceSide (chain_of heap class)) (rows_ask heap row.Object))
  from_asks heap (start.ClassSide class factory) kind =
      search_named (FoundAsks code sel) code sel kind (members_from heap code (start.ClassSide class factory)) tt tt
      (named_append (FoundAsks code sel) code sel (factory_member heap code class factory) (members_along heap code ClassSide (chain_of heap class) ++ (kernel_rows heap code row.Class ++ kernel_rows heap code row.Object))
      (factory_asks heap class factory)
      (named_append (FoundAsks code sel) code sel (members_along heap code ClassSide (chain_of heap class)) (kernel_rows heap code row.Class ++ kernel_rows heap code row.Object) (along_ask heap ClassSide (chain_of heap class))
      (named_append (FoundAsks code sel) code sel (kernel_rows heap code row.Class) (kernel_rows heap code row.Object) (rows_ask heap row.Class) (rows_ask heap row.Object))))
  from_asks heap (start.Kernel r) kind =
      search_named (FoundAsks code sel) code sel kind (members_from heap code (start.Kernel r)) tt tt
      (named_append (FoundAsks code sel) code sel (kernel_rows heap code r) (kernel_rows heap code row.Object) (rows_ask heap r) (rows_ask heap row.Object))

  -- what a private send finds
  pub own_asks : (heap : Heap) (holder : ℕ) (side : Side) → FoundAsks code sel (found_private heap code holder side sel)
  own_asks heap holder side =
      search_named (FoundAsks code sel) code sel Inner (holder_members heap code Private side holder) tt tt (holder_asks heap Private side holder)
