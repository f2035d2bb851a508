-- What the cells of a frozen state must be, and which is the first that isn't.
use Rattle.std.specs.Prelude.{ℕ, ◌+◌, nat_lt, List, [], ◌∷◌, length, reverse, slice_get, Option, Some, None, Bool, true, false, ◌==◌, ◌&&◌, if◌then◌else◌}
use Rattle.std.specs.Option.{option_map_or}
use Rattle.std.specs.List.{list_all, slice_index_or}
use Rattle.ns_base.specs.declared.selector.Sel.{Sel}
use Rattle.ns_code.specs.declared.program.CodeProgram.{CodeProgram}
use Rattle.ns_code.specs.declared.class.ClassCode.{ClassCode}
use Rattle.ns_code.specs.declared.class.NestedCode.{NestedCode}
use Rattle.ns_code.specs.declared.body.BodyCode.{BodyCode}
use Rattle.ns_code.specs.Selector.{is_selector_number, selector_arity}
use Rattle.ns_code.specs.Soundness.{block_kind}
use Rattle.ns_world.specs.declared.value.Value.{Value}
use Rattle.ns_world.specs.declared.value.Value.TheVariants.{Nil, Ref}
use Rattle.ns_world.specs.declared.ending.Ending.{Ending}
use Rattle.ns_world.specs.declared.ending.Ending.TheVariants.{Limit}
use Rattle.ns_world.specs.declared.ending.LimitKind.TheVariants.{Cells}
use Rattle.ns_world.specs.Cell.{Cell, ObjectCell, ClassCell, BlockCell, EnvironmentCell, ArrayCell, TextCell, FacetCell, MirrorCell, MessageCell, cell_size}
use Rattle.ns_world.specs.Heap.{Heap, find_cell, chain_of, no_class}
use Rattle.ns_world.specs.Layout.{declaration_of, layout_of, entry_word}
use Rattle.ns_world.specs.Lawful.{is_environment}
use Rattle.ns_world.specs.Seek.{is_nil, is_facet}
use Rattle.ns_kdata.specs.Arguments.{items_of, is_array}
use Rattle.ns_moves.specs.Start.{standing_cells}
use Rattle.ns_moves.specs.Valid.{fitting, is_no_facet}
use Rattle.ns_moves.specs.ValidFrames.{has_block_home}
use Rattle.ns_frozen.specs.Live.{is_live, are_live, is_ref, is_object_class, has_chain, has_holder, declares, fits_body, fits_environment}
use Rattle.ns_frozen.specs.declared.frozen.Frozen.{Frozen}

-- ---- classes and objects

-- whether the enclosing two of a class are those that its declaration asks for
abbrev pub has_enclosing : CodeProgram → Heap → Option ℕ → Value → Value → Bool
has_enclosing code heap None encl holder = is_nil encl && is_nil holder
has_enclosing code heap (Some outer) encl (Ref holder) = has_holder code heap holder encl && declares heap outer holder
has_enclosing code heap (Some outer) encl holder = false

-- whether a cell is a class of that declaration, enclosed by this object and holder
abbrev pub is_kept_cell : ℕ → ℕ → ℕ → Option Cell → Bool
is_kept_cell object holder decl (Some (ClassCell other base encl holder' over)) = other == decl && (is_ref object encl && is_ref holder holder')
is_kept_cell object holder decl cell = false

-- whether a word for a nested class is nil, or holds such a class
abbrev pub is_kept : Heap → ℕ → ℕ → ℕ → Value → Bool
is_kept heap object holder decl Nil = true
is_kept heap object holder decl (Ref class) = is_kept_cell object holder decl (find_cell heap class)
is_kept heap object holder decl value = false

-- whether those words of an object are so which stand for the nested classes of a holder, from a word on
abbrev pub are_kept_from : Heap → ℕ → ℕ → List Value → ℕ → List NestedCode → Bool
are_kept_from heap object holder entries word [] = true
are_kept_from heap object holder entries word (nested ∷ more) =
    is_kept heap object holder nested.class (slice_index_or entries word Nil) && are_kept_from heap object holder entries (word + 1) more

-- all of a holder
abbrev pub are_kept_of : CodeProgram → Heap → ℕ → List Value → ℕ → Bool
are_kept_of code heap object entries holder =
    option_map_or (λ (class : ClassCode). are_kept_from heap object holder entries (entry_word heap code holder (length class.slots)) class.nested)
    (slice_get code.classes (declaration_of heap holder)) false

-- whether there are no values
abbrev pub is_empty : List Value → Bool
is_empty [] = true
is_empty (value ∷ values) = false

-- whether an object of a class has a word for each entry, which are live, and its nested classes are its own
abbrev pub is_instance : CodeProgram → Heap → ℕ → ℕ → List Value → Bool
is_instance code heap number class entries =
    has_chain code heap class
    && (length entries == layout_of heap code class
    && (are_live code heap entries && list_all (are_kept_of code heap number entries) (chain_of heap class)))

-- ---- other cells

-- whether a block's self, holder, environment and home fit its body, which is a block's
abbrev pub is_block_of : CodeProgram → Heap → ℕ → ℕ → Value → ℕ → Value → ℕ → BodyCode → Bool
is_block_of code heap homes number env home receiver holder body =
    body.kind == block_kind
    && (fits_body code heap body receiver holder
    && (fits_environment (number + 1) code heap body.parent env && has_block_home code homes number home))

-- whether a value is nil or an environment
abbrev pub is_environment_or_nil : Heap → Value → Bool
is_environment_or_nil heap Nil = true
is_environment_or_nil heap (Ref at) = is_environment (find_cell heap at)
is_environment_or_nil heap value = false

-- whether an array has as many elements as a selector takes arguments
abbrev pub has_elements_for : CodeProgram → Heap → Sel → Value → Bool
has_elements_for code heap sel array =
    is_selector_number code sel.0 && (is_array heap array && length (items_of heap array) == selector_arity code sel.0)

-- whether a cell of that number is as it must be
abbrev pub is_good_cell : CodeProgram → Heap → ℕ → ℕ → Cell → Bool
is_good_cell code heap homes number (ObjectCell class entries) =
    if class == no_class then is_empty entries else is_instance code heap number class entries
is_good_cell code heap homes number (ClassCell decl base encl holder over) =
    has_chain code heap number
    && option_map_or (λ (class : ClassCode). has_enclosing code heap class.outer encl holder) (slice_get code.classes decl) false
is_good_cell code heap homes number (BlockCell body env home receiver holder) =
    option_map_or (λ (b : BodyCode). is_block_of code heap homes body env home receiver holder b) (slice_get code.bodies body) false
is_good_cell code heap homes number (EnvironmentCell parent locals) = is_environment_or_nil heap parent && are_live code heap locals
is_good_cell code heap homes number (ArrayCell items) = are_live code heap items
is_good_cell code heap homes number (TextCell bytes) = true
is_good_cell code heap homes number (FacetCell kind) = true
is_good_cell code heap homes number (MirrorCell mirrored) = is_live code heap mirrored
is_good_cell code heap homes number (MessageCell sel args) = has_elements_for code heap sel args

-- ---- the cells of the start

-- whether a cell is one of the start: that facet, or the class of that top-level declaration over the kernel's class Object
abbrev pub is_standing : Cell → Cell → Bool
is_standing (FacetCell kind) cell = is_facet kind cell
is_standing (ClassCell decl base encl holder over) (ClassCell decl' base' encl' holder' over') =
    decl == decl' && (is_nil encl' && (is_nil holder' && is_object_class over'))
is_standing first cell = false

-- whether a cell is a text or an array
abbrev pub is_argument : Cell → Bool
is_argument (TextCell bytes) = true
is_argument (ArrayCell items) = true
is_argument cell = false

-- whether a cell stands where cells of the start are to come, or texts and then an array, or any cell but a facet
abbrev pub stands_first : List Cell → Bool → Cell → Bool
stands_first [] true cell = is_argument cell
stands_first [] false cell = is_no_facet cell
stands_first (first ∷ more) arguments cell = is_standing first cell

-- the cells of the start that are to come behind one
abbrev pub behind_first : List Cell → List Cell
behind_first [] = []
behind_first (first ∷ more) = more

-- whether texts and an array are to come behind a cell
abbrev pub arguments_behind : List Cell → Bool → Cell → Bool
arguments_behind [] arguments (ArrayCell items) = false
arguments_behind first arguments cell = arguments

-- whether some cell is still to come
abbrev pub is_awaited : List Cell → Bool → Bool
is_awaited [] arguments = arguments
is_awaited (first ∷ more) arguments = true

-- the first bad cell of those that are left, of which the first has that place and that number
abbrev pub bad_cell_from : CodeProgram → Heap → ℕ → List Cell → Bool → ℕ → ℕ → List Cell → Option ℕ
bad_cell_from code heap homes first arguments place number [] = if is_awaited first arguments then Some place else None
bad_cell_from code heap homes first arguments place number (cell ∷ cells) =
    if is_good_cell code heap homes number cell && stands_first first arguments cell
    then bad_cell_from code heap homes (behind_first first) (arguments_behind first arguments cell) (place + 1) (number + cell_size cell) cells
    else Some place

-- whether the start of a run has ended it
abbrev pub ends_start : ℕ → Option Ending → Bool
ends_start phase (Some (Limit Cells)) = phase == 0
ends_start phase ending = false

-- the cells of the start, as many as the limit on cells holds where the start has ended the run
abbrev pub first_cells : CodeProgram → Frozen → List Cell
first_cells code frozen =
    if ends_start frozen.phase frozen.ending then fitting frozen.limits.cells 0 (standing_cells code frozen.grants) else standing_cells code frozen.grants

-- whether the texts of the arguments and their array must follow them
abbrev pub wants_arguments : ℕ → Option Ending → Bool
wants_arguments phase (Some ending) = false
wants_arguments phase None = nat_lt phase 2

-- the place of the first bad cell; how many there are where one is missing
abbrev pub bad_cell : CodeProgram → Heap → Frozen → Option ℕ
bad_cell code heap frozen =
    bad_cell_from code heap frozen.homes (first_cells code frozen) (wants_arguments frozen.phase frozen.ending) 0 0 (reverse heap)
