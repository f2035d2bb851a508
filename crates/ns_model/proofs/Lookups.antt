-- Lookups and layouts read of a code its names and the records of its classes alone.
use Rattle.std.proofs.Common.{◌≡◌, ℕ, ◌+◌, List, [], ◌∷◌, ◌++◌, refl, ap, ap₂, ◌∙◌}
use Rattle.std.specs.Prelude.{cond, ◌&&◌, Option, Some, None, unwrap_or, slice_get}
use Rattle.std.specs.Option.{option_map_or}
use Rattle.ns_code.specs.declared.program.CodeProgram.{CodeProgram}
use Rattle.ns_code.specs.declared.body.BodyCode.{BodyCode}
use Rattle.ns_code.specs.declared.class.ClassCode.{ClassCode}
use Rattle.ns_code.specs.declared.class.SlotCode.{SlotCode}
use Rattle.ns_world.specs.declared.value.Value.{Value}
use Rattle.ns_world.specs.declared.kernel.Start.{Start}
use Rattle.ns_world.specs.declared.kernel.Start.TheVariants.{Instance, ClassSide as SideStart, Kernel}
use Rattle.ns_world.specs.declared.kernel_class.KernelRow.{KernelRow}
use Rattle.ns_world.specs.declared.kernel_class.KernelRow.TheVariants as row
use Rattle.ns_world.specs.Heap.{Heap, chain_of, chain_above, superclass_of, word_at}
use Rattle.ns_world.specs.Layout.{declaration_of, entries_of, entries_along, entries_above, layout_of, entry_word}
use Rattle.ns_classes.specs.Nested.{nested_entry, kept_in, kept_class}
use Rattle.ns_find.specs.declared.found.Found.TheVariants.{Getter, Setter, Absent}
use Rattle.ns_find.specs.declared.members.Wanted.{Wanted}
use Rattle.ns_find.specs.declared.members.Wanted.TheVariants.{Visible, Private}
use Rattle.ns_find.specs.declared.members.Side.{Side}
use Rattle.ns_find.specs.declared.members.Side.TheVariants.{Instance as InstanceSide, Class as ClassSide}
use Rattle.ns_find.specs.declared.found.Sending.{Sending}
use Rattle.ns_find.specs.declared.found.Sending.TheVariants.{Inner}
use Rattle.ns_find.specs.Members.{Name, Numbered, SetterOf, NamedAs, Spelled, Member, is_named, allowed, search, is_wanted}
use Rattle.ns_find.specs.Members.{slots_members, nested_members, method_members, side_members, holder_members, members_along, factory_member}
use Rattle.ns_find.specs.Rows.{kernel_rows}
use Rattle.ns_find.specs.Find.{members_from, found_from, found_private}

-- the same names and records of classes, with other texts and other bodies
abbrev pub recoded : CodeProgram → List (List ℕ) → List BodyCode → CodeProgram
recoded code texts bodies = record code { texts = texts; bodies = bodies }

module _ (code : CodeProgram) (texts : List (List ℕ)) (bodies : List BodyCode) where
  abbrev other : CodeProgram
  other = recoded code texts bodies

  -- ---- layouts

  along : (heap : Heap) (chain : List ℕ) → entries_along heap code chain ≡ entries_along heap other chain
  along heap [] = refl
  along heap (class ∷ chain) = ap (λ n. entries_of code (declaration_of heap class) + n) (along heap chain)

  pub layout_same : (heap : Heap) (class : ℕ) → layout_of heap code class ≡ layout_of heap other class
  layout_same heap class = along heap (chain_of heap class)

  pub above_same : (heap : Heap) (over : Value) → entries_above heap code over ≡ entries_above heap other over
  above_same heap over = along heap (chain_above over (chain_of heap))

  pub word_same : (heap : Heap) (holder entry : ℕ) → entry_word heap code holder entry ≡ entry_word heap other holder entry
  word_same heap holder entry = ap (λ n. n + entry) (layout_same heap (superclass_of heap holder))

  pub kept_same : (heap : Heap) (object holder class : ℕ) → kept_class heap code object holder class ≡ kept_class heap other object holder class
  kept_same heap object holder class =
      ap (λ w. kept_in (word_at heap object w)) (word_same heap holder (nested_entry code (declaration_of heap holder) class))

  -- ---- members

  -- the two members of a slot of that word
  abbrev slot_at : Wanted → ℕ → SlotCode → ℕ → List Member
  slot_at wanted holder slot word =
      record { there = is_wanted wanted slot.access; name = Numbered slot.name.0; access = slot.access; found = Getter holder word }
      ∷ record { there = is_wanted wanted slot.access && slot.mutable; name = SetterOf slot.name.0; access = slot.access; found = Setter holder word }
      ∷ []

  slots_same : (heap : Heap) (wanted : Wanted) (holder entry : ℕ) (slots : List SlotCode)
      → slots_members heap code wanted holder entry slots ≡ slots_members heap other wanted holder entry slots
  slots_same heap wanted holder entry [] = refl
  slots_same heap wanted holder entry (slot ∷ slots) =
      ap₂ (λ w rest. slot_at wanted holder slot w ++ rest) (word_same heap holder entry) (slots_same heap wanted holder (entry + 1) slots)

  side_same : (heap : Heap) (wanted : Wanted) (side : Side) (holder : ℕ) (class : ClassCode)
      → side_members heap code wanted side holder class ≡ side_members heap other wanted side holder class
  side_same heap wanted InstanceSide holder class =
      ap (λ members. members ++ (nested_members wanted holder class.nested ++ method_members wanted holder class.methods))
      (slots_same heap wanted holder 0 class.slots)
  side_same heap wanted ClassSide holder class = refl

  declared_same : (heap : Heap) (wanted : Wanted) (side : Side) (holder : ℕ) (o : Option ClassCode)
      → option_map_or (side_members heap code wanted side holder) o [] ≡ option_map_or (side_members heap other wanted side holder) o []
  declared_same heap wanted side holder None = refl
  declared_same heap wanted side holder (Some class) = side_same heap wanted side holder class

  holder_same : (heap : Heap) (wanted : Wanted) (side : Side) (holder : ℕ)
      → holder_members heap code wanted side holder ≡ holder_members heap other wanted side holder
  holder_same heap wanted side holder = declared_same heap wanted side holder (slice_get code.classes (declaration_of heap holder))

  chain_same : (heap : Heap) (side : Side) (chain : List ℕ) → members_along heap code side chain ≡ members_along heap other side chain
  chain_same heap side [] = refl
  chain_same heap side (holder ∷ chain) = ap₂ (λ one more. one ++ more) (holder_same heap Visible side holder) (chain_same heap side chain)

  kernel_same : (heap : Heap) (class : KernelRow) → kernel_rows heap code class ≡ kernel_rows heap other class
  kernel_same heap row.Object = refl
  kernel_same heap row.ObjectClass = refl
  kernel_same heap row.ArrayClass = refl
  kernel_same heap row.Class = refl
  kernel_same heap row.UndefinedObject = refl
  kernel_same heap row.Boolean = refl
  kernel_same heap row.Integer = refl
  kernel_same heap row.String = refl
  kernel_same heap row.Symbol = refl
  kernel_same heap row.Array = refl
  kernel_same heap row.Block = refl
  kernel_same heap row.Manifest = refl
  kernel_same heap row.Platform = refl
  kernel_same heap row.Kernel = refl
  kernel_same heap row.Console = refl
  kernel_same heap row.Board = refl
  kernel_same heap row.Mirrors = refl
  kernel_same heap row.Mirror = refl
  kernel_same heap row.Message = refl

  from_same : (heap : Heap) (start : Start) → members_from heap code start ≡ members_from heap other start
  from_same heap (Instance class) = ap (λ members. members ++ kernel_rows heap code row.Object) (chain_same heap InstanceSide (chain_of heap class))
  from_same heap (SideStart class factory) =
      ap (λ members. factory_member heap code class factory ++ (members ++ (kernel_rows heap code row.Class ++ kernel_rows heap code row.Object)))
      (chain_same heap ClassSide (chain_of heap class))
  from_same heap (Kernel class) = ap (λ members. members ++ kernel_rows heap code row.Object) (kernel_same heap class)

  -- ---- the search

  named_same : (sel : ℕ) (name : Name) → is_named code sel name ≡ is_named other sel name
  named_same sel (Numbered number) = refl
  named_same sel (SetterOf number) = refl
  named_same sel (NamedAs class) = refl
  named_same sel (Spelled text) = refl

  search_same : (sel : ℕ) (kind : Sending) (members : List Member) → search code sel kind members ≡ search other sel kind members
  search_same sel kind [] = refl
  search_same sel kind (member ∷ members) =
      ap₂ (λ b rest. cond (b && member.there) (Some (allowed kind member.access member.found)) rest) (named_same sel member.name)
      (search_same sel kind members)

  pub found_same : (heap : Heap) (start : Start) (sel : ℕ) (kind : Sending) → found_from heap code start sel kind ≡ found_from heap other start sel kind
  found_same heap start sel kind =
      ap (λ o. unwrap_or o Absent) (ap (search code sel kind) (from_same heap start) ∙ search_same sel kind (members_from heap other start))

  pub private_same : (heap : Heap) (holder : ℕ) (side : Side) (sel : ℕ) → found_private heap code holder side sel ≡ found_private heap other holder side sel
  private_same heap holder side sel =
      ap (λ o. unwrap_or o Absent)
      (ap (search code sel Inner) (holder_same heap Private side holder) ∙ search_same sel Inner (holder_members heap other Private side holder))
