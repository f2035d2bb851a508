-- What the laws say of what a send finds, of where its lookup begins, and of what is there then.
use Rattle.std.specs.Prelude.{◌≡◌, ℕ, ◌<◌, List, length, Some, IsSome}
use Rattle.ns_base.specs.declared.selector.Sel.{Sel}
use Rattle.ns_code.specs.declared.program.CodeProgram.{CodeProgram}
use Rattle.ns_world.specs.declared.value.Value.{Value}
use Rattle.ns_world.specs.declared.value.Value.TheVariants.{Ref}
use Rattle.ns_world.specs.Cell.{Cell, ArrayCell, MessageCell}
use Rattle.ns_world.specs.Heap.{Heap, heap_size, open_words_at}
use Rattle.ns_world.specs.Layout.{declaration_of, entries_of, entry_word}
use Rattle.ns_world.specs.Lawful.{IsLawful, HasHolder}
use Rattle.ns_world.specs.Starts.{start_of}
use Rattle.ns_world.specs.World.{World, made}
use Rattle.ns_classes.specs.Nested.{nested_entry}
use Rattle.ns_find.specs.declared.found.Sending.{Sending}
use Rattle.ns_find.specs.declared.found.Sending.TheVariants.{Inner}
use Rattle.ns_find.specs.Belonging.{IsSlotOf}
use Rattle.ns_find.specs.Find.{found_from, found_private, super_start}
use Rattle.ns_moves.specs.Control.{Activation}
use Rattle.ns_moves.specs.Bodies.{enclosing, side_of_body, side_at}
use Rattle.ns_moves.specs.Lawful.{FitsActivation, FitsSelector, HasClass, declaration_at}
use Rattle.ns_moves.specs.Suits.{Suits, IsEnclosingPlace, Follows}

-- ---- what is found can be done with the receiver

-- What is found from a value's own start.
abbrev pub OwnSuits : Type 0
OwnSuits =
    (world : World) (code : CodeProgram) (receiver : Value) (sel : ℕ) (kind : Sending) → IsLawful world code
    → Suits world.cells code receiver (found_from world.cells code (start_of world.cells receiver) sel kind)

-- What is found as a private member of a declaration around running code.
abbrev pub PrivateSuits : Type 0
PrivateSuits =
    (world : World) (code : CodeProgram) (activation : Activation) (level sel : ℕ) → IsLawful world code
    → FitsActivation world.cells code activation → IsSome (declaration_at code activation.body level)
    → Suits world.cells code (enclosing world.cells activation level).object
    (found_private world.cells code (enclosing world.cells activation level).holder (side_at code activation level) sel)

-- What is found above the holder of running code.
abbrev pub AboveSuits : Type 0
AboveSuits =
    (world : World) (code : CodeProgram) (activation : Activation) (sel : ℕ) → IsLawful world code
    → FitsActivation world.cells code activation
    → Suits world.cells code activation.self
    (found_from world.cells code (super_start world.cells activation.holder (side_of_body code activation.body)) sel Inner)

-- ---- the objects around running code

-- Each declaration around running code has its object and its class.
abbrev pub LevelIsThere : Type 0
LevelIsThere =
    (world : World) (code : CodeProgram) (activation : Activation) (level : ℕ) → IsLawful world code
    → FitsActivation world.cells code activation → IsSome (declaration_at code activation.body level)
    → IsEnclosingPlace world.cells code (enclosing world.cells activation level)

-- The class has that declaration.
abbrev pub LevelIsDeclared : Type 0
LevelIsDeclared =
    (world : World) (code : CodeProgram) (activation : Activation) (level decl : ℕ) → IsLawful world code
    → FitsActivation world.cells code activation → declaration_at code activation.body level ≡ Some decl
    → declaration_of world.cells (enclosing world.cells activation level).holder ≡ decl

-- ---- the words of objects

-- An object whose chain has a holder has a word for each entry of that holder, which may be written.
abbrev pub EntryIsInside : Type 0
EntryIsInside =
    (world : World) (code : CodeProgram) (at holder entry : ℕ) → IsLawful world code
    → HasHolder world.cells (Ref at) holder → entry < entries_of code (declaration_of world.cells holder)
    → entry_word world.cells code holder entry < length (open_words_at world.cells at)

-- So it has for each slot.
abbrev pub SlotIsInside : Type 0
SlotIsInside =
    (world : World) (code : CodeProgram) (at holder word : ℕ) → IsLawful world code
    → HasHolder world.cells (Ref at) holder → IsSlotOf world.cells code holder word → word < length (open_words_at world.cells at)

-- A nested class of a holder has an entry of it.
abbrev pub NestedHasEntry : Type 0
NestedHasEntry =
    (heap : Heap) (code : CodeProgram) (object holder class : ℕ) → HasClass heap code object holder class
    → nested_entry code (declaration_of heap holder) class < entries_of code (declaration_of heap holder)

-- The word of that entry may be written.
abbrev pub NestedIsInside : Type 0
NestedIsInside =
    (world : World) (code : CodeProgram) (object holder class : ℕ) → IsLawful world code
    → HasClass world.cells code object holder class
    → entry_word world.cells code holder (nested_entry code (declaration_of world.cells holder) class) < length (open_words_at world.cells object)

-- An object has its nested class where a cell is made.
abbrev pub NestedStays : Type 0
NestedStays =
    (world after : World) (code : CodeProgram) (cell : Cell) (object holder class : ℕ) → IsLawful world code → IsLawful after code
    → made world cell ≡ Some after → HasClass world.cells code object holder class → HasClass after.cells code object holder class

-- ---- messages

-- The Message of a selector with as many live arguments as it takes leaves a lawful world.
abbrev pub MessageFollows : Type 0
MessageFollows =
    (world mid after : World) (code : CodeProgram) (sel : Sel) (values : List Value) → IsLawful world code
    → FitsSelector world.cells code sel values → made world (ArrayCell values) ≡ Some mid
    → made mid (MessageCell sel (Ref (heap_size world.cells))) ≡ Some after → Follows code world after
