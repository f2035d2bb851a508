-- Where the entries of an object stand: from the topmost declared class down, for each class its slots and then its nested classes.
use Rattle.std.specs.Prelude.{ℕ, ◌+◌, List, [], ◌∷◌, length, slice_get}
use Rattle.std.specs.Option.{option_map_or}
use Rattle.ns_code.specs.declared.program.CodeProgram.{CodeProgram}
use Rattle.ns_code.specs.declared.class.ClassCode.{ClassCode}
use Rattle.ns_world.specs.declared.value.Value.{Value}
use Rattle.ns_world.specs.declared.cell.NewCell.{NewCell}
use Rattle.ns_world.specs.declared.cell.NewCell.TheVariants as new
use Rattle.ns_world.specs.Heap.{Heap, shape_at, chain_of, chain_above, superclass_of}
use Rattle.ns_world.specs.Starts.{declaration_in}

-- the declaration of a class
abbrev pub declaration_of : Heap → ℕ → ℕ
declaration_of heap class = declaration_in (shape_at heap class)

-- the base of a class, 0 where the cell is none
abbrev pub base_in : NewCell → ℕ
base_in (new.Class decl base encl holder over) = base
base_in cell = 0

-- the base of the class of that number
abbrev pub base_of : Heap → ℕ → ℕ
base_of heap class = base_in (shape_at heap class)

-- how many entries a declaration adds: its slots and its nested classes
abbrev pub entries_of : CodeProgram → ℕ → ℕ
entries_of code decl = option_map_or (λ (class : ClassCode). length class.slots + length class.nested) (slice_get code.classes decl) 0

-- how many entries the classes of a chain add
abbrev pub entries_along : Heap → CodeProgram → List ℕ → ℕ
entries_along heap code [] = 0
entries_along heap code (class ∷ classes) = entries_of code (declaration_of heap class) + entries_along heap code classes

-- how many entries the instances of a class have
abbrev pub layout_of : Heap → CodeProgram → ℕ → ℕ
layout_of heap code class = entries_along heap code (chain_of heap class)

-- how many entries the classes above a class have
abbrev pub layout_above : Heap → CodeProgram → ℕ → ℕ
layout_above heap code class = layout_of heap code (superclass_of heap class)

-- how many entries the instances of a superclass have, none where it isn't declared
abbrev pub entries_above : Heap → CodeProgram → Value → ℕ
entries_above heap code over = entries_along heap code (chain_above over (chain_of heap))

-- the word of an entry of a holder, in every object whose chain has that holder
abbrev pub entry_word : Heap → CodeProgram → ℕ → ℕ → ℕ
entry_word heap code holder entry = layout_above heap code holder + entry
