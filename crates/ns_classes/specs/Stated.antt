-- What the laws say of the entries of objects.
use Rattle.std.specs.Prelude.{◌≡◌, ℕ, ◌+◌, ◌<◌, length, slice_get, Some, Contains, IsTrue}
use Rattle.ns_code.specs.declared.program.CodeProgram.{CodeProgram}
use Rattle.ns_code.specs.declared.class.ClassCode.{ClassCode}
use Rattle.ns_code.specs.declared.class.NestedCode.{NestedCode}
use Rattle.ns_world.specs.declared.value.Value.{Value}
use Rattle.ns_world.specs.declared.value.Value.TheVariants.{Ref}
use Rattle.ns_world.specs.Heap.{is_chain_start, chain_of}
use Rattle.ns_world.specs.World.{World, written}
use Rattle.ns_world.specs.Lawful.{IsLawful, IsLiveValue, IsKept, HasHolder}
use Rattle.ns_world.specs.Layout.{declaration_of, entries_of, entry_word}

-- Two entries of holders in one chain that stand at one word are one entry of one holder.
abbrev pub EntriesNeverMeet : Type 0
EntriesNeverMeet =
    (world : World) (code : CodeProgram) (class first second entry other : ℕ) → IsLawful world code
    → IsTrue (is_chain_start world.cells class) → Contains (chain_of world.cells class) first → Contains (chain_of world.cells class) second
    → entry < entries_of code (declaration_of world.cells first) → other < entries_of code (declaration_of world.cells second)
    → entry_word world.cells code first entry ≡ entry_word world.cells code second other → (first ≡ second) × (entry ≡ other)

-- A lawful world stays lawful where a slot of an object is filled with a live value.
abbrev pub FillingKeepsLawful : Type 0
FillingKeepsLawful =
    (world : World) (code : CodeProgram) (object holder entry : ℕ) (declared : ClassCode) (value : Value) → IsLawful world code
    → HasHolder world.cells (Ref object) holder → slice_get code.classes (declaration_of world.cells holder) ≡ Some declared
    → entry < length declared.slots → IsLiveValue world.cells code value
    → IsLawful (written world object (entry_word world.cells code holder entry) value) code

-- So it does where an object keeps a nested class that is enclosed by the object and its holder.
abbrev pub KeepingKeepsLawful : Type 0
KeepingKeepsLawful =
    (world : World) (code : CodeProgram) (object holder k : ℕ) (declared : ClassCode) (nested : NestedCode) (value : Value)
    → IsLawful world code → HasHolder world.cells (Ref object) holder
    → slice_get code.classes (declaration_of world.cells holder) ≡ Some declared → slice_get declared.nested k ≡ Some nested
    → IsLiveValue world.cells code value → IsKept world.cells object holder nested.class value
    → IsLawful (written world object (entry_word world.cells code holder (length declared.slots + k)) value) code
