-- What is asked of a cell that is made, and of a word that is written, so that a lawful world stays lawful.
use Rattle.std.specs.Prelude.{◌≡◌, ℕ, ◌+◌, ◌≤◌, length, slice_get, Some, IsTrue, IsSome, Contains}
use Rattle.std.specs.Option.{ForSome}
use Rattle.ns_code.specs.declared.program.CodeProgram.{CodeProgram}
use Rattle.ns_code.specs.declared.class.ClassCode.{ClassCode}
use Rattle.ns_code.specs.declared.class.NestedCode.{NestedCode}
use Rattle.ns_world.specs.declared.value.Value.{Value}
use Rattle.ns_world.specs.declared.cell.NewCell.{NewCell}
use Rattle.ns_world.specs.declared.cell.NewCell.TheVariants.{Object, Class, Block, Environment, Array, Text, Facet, Mirror, Message}
use Rattle.ns_world.specs.Heap.{Heap, find_cell, is_chain_start, chain_of, chain_above}
use Rattle.ns_world.specs.Layout.{declaration_of, layout_of, entries_above, entry_word}
use Rattle.ns_world.specs.Lawful.{IsLiveValue, IsEnvironmentOrNil, HasEnclosing, IsKept, BlockIsLawful, MessageIsLawful, class_of_object}

-- The declaration is one of the code, and the enclosing two are those that it asks for.
abbrev pub IsEnclosed : Heap → CodeProgram → ℕ → Value → Value → Type 0
IsEnclosed heap code decl encl holder =
    IsSome (slice_get code.classes decl) × ForSome (slice_get code.classes decl) (λ (class : ClassCode). HasEnclosing heap code class.outer encl holder)

-- A cell may be made: an object has as many words as its class lays out; a class has a declaration, the
-- enclosing two that it asks for, the entries of its superclass as its base and at most 255 classes above it; what a block, an environment, a mirror
-- or a message holds is of the kind that is asked for there.
abbrev pub MayBeMade : Heap → CodeProgram → NewCell → Type 0
MayBeMade heap code (Object class words) = IsTrue (is_chain_start heap class) × (words ≡ layout_of heap code class)
MayBeMade heap code (Class decl base encl holder over) =
    IsEnclosed heap code decl encl holder × (base ≡ entries_above heap code over)
    × (length (chain_above over (chain_of heap)) ≤ 255)
MayBeMade heap code (Block body env home receiver holder) = BlockIsLawful heap code body env receiver holder
MayBeMade heap code (Environment parent locals) = IsEnvironmentOrNil heap parent
MayBeMade heap code (Array size) = Unit {0}
MayBeMade heap code (Text bytes) = Unit {0}
MayBeMade heap code (Facet kind) = Unit {0}
MayBeMade heap code (Mirror mirrored) = IsLiveValue heap code mirrored
MayBeMade heap code (Message sel args) = MessageIsLawful heap code sel args

-- A value that comes into the word of a nested class, of a holder in an object's chain, is a class that is kept there, or nil.
abbrev pub KeepsWord : Heap → CodeProgram → ℕ → ℕ → ℕ → Value → Type 0
KeepsWord heap code object class word value =
    (holder : ℕ) → Contains (chain_of heap class) holder
    → ForSome (slice_get code.classes (declaration_of heap holder))
    (λ (declared : ClassCode). (k : ℕ) (nested : NestedCode) → slice_get declared.nested k ≡ Some nested
    → entry_word heap code holder (length declared.slots + k) ≡ word → IsKept heap object holder nested.class value)

-- A word may be written: the value is live and no environment, and where the word is that of an object's
-- nested class, the value may be kept there.
abbrev pub MayBeWritten : Heap → CodeProgram → ℕ → ℕ → Value → Type 0
MayBeWritten heap code at word value =
    IsLiveValue heap code value × ForSome (class_of_object (find_cell heap at)) (λ class. KeepsWord heap code at class word value)
