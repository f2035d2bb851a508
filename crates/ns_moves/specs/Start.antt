-- The start of a run: the cells that are made before the first send.
use Rattle.std.specs.Prelude.{ℕ, ◌+◌, List, [], ◌∷◌, ◌++◌, map, replicate, Bool, true, false, Option, Some, None}
use Rattle.ns_base.specs.declared.limits.Limits.{Limits}
use Rattle.ns_code.specs.declared.program.CodeProgram.{CodeProgram}
use Rattle.ns_code.specs.declared.class.ClassCode.{ClassCode}
use Rattle.ns_world.specs.declared.value.Value.{Value}
use Rattle.ns_world.specs.declared.value.Value.TheVariants.{Nil, Kernel, Ref}
use Rattle.ns_world.specs.declared.value.KClass.TheVariants.{Object}
use Rattle.ns_world.specs.declared.cell.FacetKind.{FacetKind}
use Rattle.ns_world.specs.declared.cell.FacetKind.TheVariants as facet
use Rattle.ns_world.specs.declared.ending.LimitKind.TheVariants.{Cells}
use Rattle.ns_world.specs.Cell.{Cell, ClassCell, ArrayCell, TextCell, FacetCell, cell_size}
use Rattle.ns_world.specs.Heap.{Heap, heap_size}
use Rattle.ns_world.specs.Seek.{first_such, is_top}
use Rattle.ns_world.specs.World.{empty_world, made}
use Rattle.ns_facets.specs.declared.row.Grants.{Grants}
use Rattle.ns_facets.specs.declared.board.Board.{Board}
use Rattle.ns_facets.specs.declared.board.Plain.TheVariants as plain
use Rattle.ns_facets.specs.Platform.{cell_value}
use Rattle.ns_moves.specs.Control.{Progress, After, Gives, Halts, charged}

-- ---- the cells of the start

-- a facet, where it is granted
abbrev pub facet_if : Bool → FacetKind → List Cell
facet_if true kind = FacetCell kind ∷ []
facet_if false kind = []

-- Manifest and Platform, and the facets that are granted
abbrev pub facets_of : Grants → List Cell
facets_of grants =
    FacetCell facet.Manifest ∷ FacetCell facet.Platform
    ∷ (facet_if grants.console facet.Console ++ (facet_if grants.mirrors facet.Mirrors
    ++ (facet_if grants.kernel facet.Kernel ++ facet_if grants.board facet.Board)))

-- a class of a declaration over the kernel's Object, where the declaration is a top-level one
abbrev pub top_if : Option ℕ → ℕ → List Cell
top_if None decl = ClassCell decl 0 Nil Nil (Kernel Object) ∷ []
top_if (Some outer) decl = []

-- the classes of the top-level declarations, of which the first has this number
abbrev pub tops_of : ℕ → List ClassCode → List Cell
tops_of decl [] = []
tops_of decl (class ∷ classes) = top_if class.outer decl ++ tops_of (decl + 1) classes

-- the facets and the top-level classes, which each run of some code has
abbrev pub standing_cells : CodeProgram → Grants → List Cell
standing_cells code grants = facets_of grants ++ tops_of 0 code.classes

-- the numbers of cells that are made from a number on
abbrev pub numbers_from : ℕ → List Cell → List ℕ
numbers_from number [] = []
numbers_from number (cell ∷ cells) = number ∷ numbers_from (number + cell_size cell) cells

-- how many cells these take
abbrev pub size_of_cells : List Cell → ℕ
size_of_cells [] = 0
size_of_cells (cell ∷ cells) = cell_size cell + size_of_cells cells

-- the texts of the arguments behind other cells, and then their array
abbrev pub with_arguments : List Cell → List Cell → List Cell
with_arguments before texts = before ++ (texts ++ ArrayCell (map Ref (numbers_from (size_of_cells before) texts)) ∷ [])

-- all cells of a start, in the order in which they are made (this profile)
abbrev pub start_cells : CodeProgram → Grants → List (List ℕ) → List Cell
start_cells code grants arguments = with_arguments (standing_cells code grants) (map TextCell arguments)

-- ---- the start

-- a board of nils
abbrev pub new_board : Board
new_board = record { places = replicate 64 plain.Nil }

-- nothing was done
abbrev pub nothing_done : Limits → Progress
nothing_done limits = record { world = empty_world limits; board = new_board; begun = 0 }

-- Cells are made one after another, and the last is the value; with the first that doesn't fit the run ends.
abbrev pub all_made : List Cell → Value → Progress → After
all_made [] last progress = Gives last progress
all_made (cell ∷ cells) last progress =
    charged Halts Cells (made progress.world cell) progress (all_made cells (Ref (heap_size progress.world.cells)))

-- the start of a run: the array of its arguments, or its end
abbrev pub start_made : CodeProgram → Grants → List (List ℕ) → Limits → After
start_made code grants arguments limits = all_made (start_cells code grants arguments) Nil (nothing_done limits)

-- the Manifest, which the first opening send gets: the facets that each run has are the first two cells
abbrev pub manifest : Value
manifest = Ref 0

-- the Platform, which the second opening send gets
abbrev pub platform : Value
platform = Ref 1

-- the class of the first file
abbrev pub first_class : Heap → Value
first_class heap = cell_value (first_such (is_top 0) heap)
