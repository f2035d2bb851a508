-- How a body is begun, and its locals and environments.
use Rattle.std.specs.Prelude.{ℕ, zero, suc, ◌+◌, ◌-◌, max, List, [], ◌∷◌, ◌++◌, replicate, slice_set, slice_get, Option, None, Bool, true, false, ◌==◌, if◌then◌else◌}
use Rattle.std.specs.Option.{option_map_or}
use Rattle.std.specs.List.{slice_index_or}
use Rattle.ns_code.specs.declared.program.CodeProgram.{CodeProgram}
use Rattle.ns_code.specs.declared.class.ClassCode.{ClassCode}
use Rattle.ns_code.specs.declared.body.BodyCode.{BodyCode}
use Rattle.ns_code.specs.Soundness.{class_side}
use Rattle.ns_world.specs.declared.value.Value.{Value}
use Rattle.ns_world.specs.declared.value.Value.TheVariants.{Nil, Ref}
use Rattle.ns_world.specs.declared.ending.Ending.{Ending}
use Rattle.ns_world.specs.declared.ending.LimitKind.TheVariants.{Cells}
use Rattle.ns_world.specs.declared.cell.NewCell.{NewCell}
use Rattle.ns_world.specs.declared.cell.NewCell.TheVariants as new
use Rattle.ns_world.specs.Cell.{EnvironmentCell}
use Rattle.ns_world.specs.Heap.{Heap, heap_size, shape_at, word_at, cell_number}
use Rattle.ns_world.specs.World.{World, made, written}
use Rattle.ns_find.specs.declared.members.Side.{Side}
use Rattle.ns_find.specs.Find.{side_of}
use Rattle.ns_moves.specs.Control.{Progress, in_world, Activation, charged}

-- ---- what a body declares

-- how many parameters a body has
abbrev pub parameters_of : CodeProgram → ℕ → ℕ
parameters_of code body = option_map_or (λ (b : BodyCode). b.params) (slice_get code.bodies body) 0

-- how many parameters and locals
abbrev pub locals_of : CodeProgram → ℕ → ℕ
locals_of code body = option_map_or (λ (b : BodyCode). b.locals) (slice_get code.bodies body) 0

-- whether its locals stand in an environment, where blocks find them
abbrev pub has_environment : CodeProgram → ℕ → Bool
has_environment code body = option_map_or (λ (b : BodyCode). b.environment) (slice_get code.bodies body) false

-- the side that it stands on
abbrev pub side_of_body : CodeProgram → ℕ → Side
side_of_body code body = side_of (option_map_or (λ (b : BodyCode). b.side == class_side) (slice_get code.bodies body) false)

-- how many operands it has at most
abbrev pub height_in : CodeProgram → ℕ → ℕ
height_in code body = option_map_or (λ (b : BodyCode). b.height) (slice_get code.bodies body) 0

-- the most locals and operands that a frame of one of these bodies has
abbrev pub greatest_of : List BodyCode → ℕ
greatest_of [] = 0
greatest_of (body ∷ bodies) = max (body.locals + body.height) (greatest_of bodies)

-- the initialiser of a declaration
abbrev pub initialiser_of : CodeProgram → ℕ → ℕ
initialiser_of code decl = option_map_or (λ (class : ClassCode). class.init) (slice_get code.classes decl) 0

-- its clause, where it has one
abbrev pub clause_of : CodeProgram → ℕ → Option ℕ
clause_of code decl = option_map_or (λ (class : ClassCode). class.clause) (slice_get code.classes decl) None

-- the home of what runs in no method: initialisers, clauses, the blocks in them and the kernel's methods
abbrev pub no_home : ℕ
no_home = 18446744073709551615

-- ---- beginning a body

-- the arguments, and nil for each local
abbrev pub first_locals : CodeProgram → ℕ → List Value → List Value
first_locals code body arguments = arguments ++ replicate (locals_of code body - parameters_of code body) Nil

-- A body begins: where its locals stand in an environment, that is made over the one around it.
abbrev pub opened : {A : Type 0} → CodeProgram → (Ending → Progress → A) → (Activation → List Value → Progress → A) → Activation →
    List Value → Progress → A
opened code stop go activation arguments progress =
    if has_environment code activation.body
    then charged stop Cells (made progress.world (EnvironmentCell activation.env (first_locals code activation.body arguments))) progress
    (go (record activation { env = Ref (heap_size progress.world.cells) }) [])
    else go activation (first_locals code activation.body arguments) progress

-- ---- enclosing objects

-- an object, and the class in its chain by which it is meant
pub record Place : Type 0 where
  pub object : Value
  pub holder : ℕ

-- the object and the holder that enclose a class; nil and 0 where the cell is none
abbrev pub enclosing_place : NewCell → Place
enclosing_place (new.Class decl base encl holder over) = record { object = encl; holder = cell_number holder }
enclosing_place cell = record { object = Nil; holder = 0 }

-- self and the holder, and so many declarations further out the enclosing object and its holder
abbrev pub lexical : Heap → Value → ℕ → ℕ → Place
lexical heap self holder zero = record { object = self; holder = holder }
lexical heap self holder (suc level) = enclosing_place (shape_at heap (lexical heap self holder level).holder)

-- those of an activation
abbrev pub enclosing : Heap → Activation → ℕ → Place
enclosing heap activation level = lexical heap activation.self activation.holder level

-- the side whose members count at a level: that of the code itself, and further out the instance side
abbrev pub side_at : CodeProgram → Activation → ℕ → Side
side_at code activation zero = side_of_body code activation.body
side_at code activation (suc level) = side_of false

-- ---- locals

-- the environment that stands around another
abbrev pub parent_in : NewCell → Value
parent_in (new.Environment parent locals) = parent
parent_in cell = Nil

-- the environment so many bodies out from one
abbrev pub environment_out : Heap → Value → ℕ → Value
environment_out heap env zero = env
environment_out heap env (suc hops) = parent_in (shape_at heap (cell_number (environment_out heap env hops)))

-- whether a local stands beside its activation: it is one of its own body, which has no environment
abbrev pub is_beside : CodeProgram → Activation → ℕ → Bool
is_beside code activation zero = if has_environment code activation.body then false else true
is_beside code activation (suc hops) = false

-- the environment of the body so many out from an activation's: its own is one where its body has one
abbrev pub environment_at : Heap → CodeProgram → Activation → ℕ → ℕ
environment_at heap code activation hops =
    cell_number (environment_out heap activation.env (if has_environment code activation.body then hops else hops - 1))

-- the local of that place, of the body so many out
abbrev pub local_at : Heap → CodeProgram → Activation → List Value → ℕ → ℕ → Value
local_at heap code activation locals hops place =
    if is_beside code activation hops then slice_index_or locals place Nil else word_at heap (environment_at heap code activation hops) place

-- the locals and the world with it stored
abbrev pub locals_with : CodeProgram → Activation → List Value → ℕ → ℕ → Value → List Value
locals_with code activation locals hops place value = if is_beside code activation hops then slice_set locals place value else locals

abbrev pub world_with_local : CodeProgram → Activation → ℕ → ℕ → Value → World → World
world_with_local code activation hops place value world =
    if is_beside code activation hops then world else written world (environment_at world.cells code activation hops) place value

-- what the run has done when a local is stored
abbrev pub local_stored : CodeProgram → Activation → ℕ → ℕ → Value → Progress → Progress
local_stored code activation hops place value progress =
    in_world progress (world_with_local code activation hops place value progress.world)
