-- The classes that an object keeps.
use Rattle.std.specs.Prelude.{ℕ, ◌+◌, List, [], ◌∷◌, length, Option, Some, None, Bool, false, ◌==◌, slice_get, if◌then◌else◌}
use Rattle.std.specs.Option.{option_map_or}
use Rattle.std.specs.List.{list_any}
use Rattle.ns_code.specs.declared.program.CodeProgram.{CodeProgram}
use Rattle.ns_code.specs.declared.class.ClassCode.{ClassCode}
use Rattle.ns_code.specs.declared.class.NestedCode.{NestedCode}
use Rattle.ns_world.specs.declared.value.Value.{Value}
use Rattle.ns_world.specs.declared.value.Value.TheVariants.{Ref}
use Rattle.ns_world.specs.Heap.{Heap, word_at}
use Rattle.ns_world.specs.Layout.{declaration_of, entry_word}

-- the place of a nested class among those of its declaration
abbrev pub place_of : List NestedCode → ℕ → ℕ
place_of [] class = 0
place_of (nested ∷ rest) class = if nested.class == class then 0 else 1 + place_of rest class

-- whether a declaration has that nested class
abbrev pub has_nested : CodeProgram → ℕ → ℕ → Bool
has_nested code decl class =
    option_map_or (λ (c : ClassCode). list_any (λ (nested : NestedCode). nested.class == class) c.nested) (slice_get code.classes decl) false

-- the number of its entry: the nested classes stand after the slots
abbrev pub nested_entry : CodeProgram → ℕ → ℕ → ℕ
nested_entry code decl class = option_map_or (λ (c : ClassCode). length c.slots + place_of c.nested class) (slice_get code.classes decl) 0

-- the word in which an object keeps a nested class of a holder
abbrev pub nested_word : Heap → CodeProgram → ℕ → ℕ → ℕ
nested_word heap code holder class = entry_word heap code holder (nested_entry code (declaration_of heap holder) class)

-- the class that a word keeps, if it keeps one
abbrev pub kept_in : Value → Option ℕ
kept_in (Ref class) = Some class
kept_in _ = None

-- the class that an object keeps of a nested class of a holder, if it keeps one
abbrev pub kept_class : Heap → CodeProgram → ℕ → ℕ → ℕ → Option ℕ
kept_class heap code object holder class =
    kept_in (word_at heap object (entry_word heap code holder (nested_entry code (declaration_of heap holder) class)))
