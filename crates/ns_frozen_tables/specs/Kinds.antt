-- What is asked of a cell as plain data, where there is one. Each word has the name of the one that asks the same of a heap's.
use Rattle.std.specs.Prelude.{ℕ, List, length, Option, Some, None, Bool, true, false, ◌==◌, ◌&&◌}
use Rattle.ns_world.specs.declared.value.Value.{Value}
use Rattle.ns_world.specs.declared.value.Value.TheVariants.{Nil}
use Rattle.ns_frozen.specs.Live.{is_ref}
use Rattle.ns_frozen.specs.declared.cell.CellData.{CellData}
use Rattle.ns_frozen.specs.declared.cell.CellData.TheVariants as cell

abbrev pub is_receiver_cell : Option CellData → Bool
is_receiver_cell (Some (cell.Environment parent locals)) = false
is_receiver_cell (Some other) = true
is_receiver_cell None = false

abbrev pub is_class : Option CellData → Bool
is_class (Some (cell.Class decl encl holder over)) = true
is_class other = false

abbrev pub is_environment : Option CellData → Bool
is_environment (Some (cell.Environment parent locals)) = true
is_environment other = false

abbrev pub is_block : Option CellData → Bool
is_block (Some (cell.Block body env receiver holder home)) = true
is_block other = false

abbrev pub is_array : Option CellData → Bool
is_array (Some (cell.Array items)) = true
is_array other = false

-- how many elements an array has, 0 where the cell is another
abbrev pub item_count : Option CellData → ℕ
item_count (Some (cell.Array items)) = length items
item_count other = 0

-- the declaration of a class, 0 where the cell is none
abbrev pub declaration : Option CellData → ℕ
declaration (Some (cell.Class decl encl holder over)) = decl
declaration other = 0

-- the superclass of a class, nil where the cell is none
abbrev pub superclass : Option CellData → Value
superclass (Some (cell.Class decl encl holder over)) = over
superclass other = Nil

-- the class of an object
abbrev pub class_of : Option CellData → Option ℕ
class_of (Some (cell.Object class words)) = Some class
class_of other = None

-- the parent and the locals of an environment
abbrev pub environment_in : Option CellData → Option (Value × List Value)
environment_in (Some (cell.Environment parent locals)) = Some (parent, locals)
environment_in other = None

-- whether a cell is a class of that declaration, enclosed by this object and holder
abbrev pub is_kept_cell : ℕ → ℕ → ℕ → Option CellData → Bool
is_kept_cell object holder decl (Some (cell.Class other encl holder' over)) = other == decl && (is_ref object encl && is_ref holder holder')
is_kept_cell object holder decl other = false
