-- What is known of the value that a mirror mirrors.
use Rattle.std.proofs.Common.{◌≡◌, ℕ, refl, ap, Option, Some, None, IsSome, true}
use Rattle.std.specs.Prelude.{Ok, Err}
use Rattle.std.specs.Option.{option_map_or}
use Rattle.ns_code.specs.declared.program.CodeProgram.{CodeProgram}
use Rattle.ns_world.specs.declared.value.Value.{Value}
use Rattle.ns_world.specs.declared.value.Value.TheVariants.{Nil}
use Rattle.ns_world.specs.declared.cell.NewCell.TheVariants as new
use Rattle.ns_world.specs.declared.ending.Fault.{Fault}
use Rattle.ns_world.specs.Cell.{Cell, shape_of, ObjectCell, ClassCell, BlockCell, EnvironmentCell, ArrayCell, TextCell, FacetCell, MirrorCell, MessageCell}
use Rattle.ns_world.specs.Heap.{find_cell, is_class}
use Rattle.ns_world.specs.World.{World, WorldView}
use Rattle.ns_world.specs.Lawful.{IsLawful, IsLiveValue}
use Rattle.ns_kdata.specs.Outcome.{RowOutcome, Answers, Fails, Gives}
use Rattle.ns_mirror.specs.Looking.{mirrored, mirrored_in}
use Rattle.ns_mirror.specs.Mirror.{GivesMirrored, reflected}
use Rattle.ns_mirror.specs.declared.row.Mirrored.TheVariants.{Answer}

mirrored_cell : (world : World) (code : CodeProgram) (mirror : ℕ) → IsLawful world code → (o : Option Cell) →
    find_cell world.cells mirror ≡ o → IsLiveValue world.cells code (mirrored_in (option_map_or shape_of o (new.Mirror Nil)))
mirrored_cell world code mirror lawful None e = (tt, refl)
mirrored_cell world code mirror lawful (Some (MirrorCell value)) e = lawful.cells mirror (MirrorCell value) e
mirrored_cell world code mirror lawful (Some (ObjectCell class entries)) e = (tt, refl)
mirrored_cell world code mirror lawful (Some (ClassCell decl base encl holder over)) e = (tt, refl)
mirrored_cell world code mirror lawful (Some (BlockCell body env home receiver holder)) e = (tt, refl)
mirrored_cell world code mirror lawful (Some (EnvironmentCell parent locals)) e = (tt, refl)
mirrored_cell world code mirror lawful (Some (ArrayCell items)) e = (tt, refl)
mirrored_cell world code mirror lawful (Some (TextCell bytes)) e = (tt, refl)
mirrored_cell world code mirror lawful (Some (FacetCell kind)) e = (tt, refl)
mirrored_cell world code mirror lawful (Some (MessageCell sel args)) e = (tt, refl)

-- what a mirror mirrors is a live value
pub mirrored_live : (world : World) (code : CodeProgram) (mirror : ℕ) → IsLawful world code →
    IsLiveValue world.cells code (mirrored world.cells mirror)
mirrored_live world code mirror lawful = mirrored_cell world code mirror lawful (find_cell world.cells mirror) refl

-- an outcome that is given is given as a mirror's answer
pub answers : (outcome : RowOutcome) (old new : WorldView) (value : Value) → Gives outcome old (Ok value) new →
    GivesMirrored (reflected outcome) old (Ok (Answer value)) new
answers (Answers answer world) old new value g = (ap Answer (g.0), g.1, g.2)
answers (Fails fault) old new value g = absurd g

pub refuses : (outcome : RowOutcome) (old new : WorldView) (fault : Fault) → Gives outcome old (Err fault) new →
    GivesMirrored (reflected outcome) old (Err fault) new
refuses (Answers answer world) old new fault g = absurd g
refuses (Fails found) old new fault g = g

-- a class is there
pub class_cell_there : (o : Option Cell) → is_class o ≡ true → IsSome o
class_cell_there None e = absurd (cc)
class_cell_there (Some cell) e = refl
