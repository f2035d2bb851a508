-- What is asked of cells of one kind each.
use Rattle.std.specs.Prelude.{ℕ, List, [], ◌∷◌, ◌+◌, slice_get, Option, Some, None, Bool, false, ◌==◌, ◌&&◌, if◌then◌else◌}
use Rattle.std.specs.Option.{option_map_or}
use Rattle.ns_code.specs.declared.program.CodeProgram.{CodeProgram}
use Rattle.ns_code.specs.declared.class.ClassCode.{ClassCode}
use Rattle.ns_code.specs.declared.body.BodyCode.{BodyCode}
use Rattle.ns_world.specs.declared.value.Value.{Value}
use Rattle.ns_world.specs.declared.value.Value.TheVariants.{Ref}
use Rattle.ns_world.specs.Cell.{Cell}
use Rattle.ns_world.specs.Heap.{Heap, no_class}
use Rattle.ns_frozen.specs.declared.cell.CellData.{CellData}
use Rattle.ns_frozen.specs.Thawing.{cell_thawed}
use Rattle.ns_frozen.specs.Live.{has_holder, declares}
use Rattle.ns_frozen.specs.Cells.{has_enclosing, is_empty, is_instance, is_block_of, is_good_cell, stands_first, behind_first, arguments_behind, is_awaited}
use Rattle.ns_frozen_valid.specs.declared.cells.BlockParts.{BlockParts}
use Rattle.ns_frozen_tables.specs.Numbers.{data_size}

-- whether an object is as it must be
abbrev pub is_good_object : CodeProgram → Heap → ℕ → ℕ → List Value → Bool
is_good_object code heap number class words = if class == no_class then is_empty words else is_instance code heap number class words

-- whether the enclosing two of a class are those that its declaration asks for, which is there
abbrev pub is_placed : CodeProgram → Heap → ℕ → Value → Value → Bool
is_placed code heap decl encl holder =
    option_map_or (λ (class : ClassCode). has_enclosing code heap class.outer encl holder) (slice_get code.classes decl) false

-- whether the enclosing two of a class are an object with a holder of the outer declaration
abbrev pub is_enclosed : CodeProgram → Heap → ℕ → Value → Value → Bool
is_enclosed code heap outer encl (Ref holder) = has_holder code heap holder encl && declares heap outer holder
is_enclosed code heap outer encl holder = false

-- whether a block is
abbrev pub is_good_block : CodeProgram → Heap → ℕ → ℕ → BlockParts → Bool
is_good_block code heap homes body parts =
    option_map_or (λ (b : BodyCode). is_block_of code heap homes body parts.env parts.home parts.receiver parts.holder b) (slice_get code.bodies body) false

-- a cell, whose base isn't asked for
abbrev pub cell_of : CodeProgram → CellData → Cell
cell_of code cell = cell_thawed code [] cell

-- whether a cell of that number is as it must be, and stands where these are to come, and arguments, if they are wanted
abbrev pub stands_so : CodeProgram → Heap → ℕ → List Cell → Bool → ℕ → CellData → Bool
stands_so code heap homes first arguments number cell =
    is_good_cell code heap homes number (cell_of code cell) && stands_first first arguments (cell_of code cell)

-- the first bad cell of those that are left, as plain data, of which the first has that place and that number
abbrev pub bad_data_from : CodeProgram → Heap → ℕ → List Cell → Bool → ℕ → ℕ → List CellData → Option ℕ
bad_data_from code heap homes first arguments place number [] = if is_awaited first arguments then Some place else None
bad_data_from code heap homes first arguments place number (cell ∷ cells) =
    if stands_so code heap homes first arguments number cell
    then bad_data_from code heap homes (behind_first first) (arguments_behind first arguments (cell_of code cell)) (place + 1) (number + data_size cell) cells
    else Some place
