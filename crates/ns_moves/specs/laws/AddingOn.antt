-- Each action adds only what it may.
use Rattle.std.proofs.Common.{◌≡◌, ℕ, [], refl, Bool, true}
use Rattle.std.specs.Prelude.{◌&&◌, ◌==◌}
use Rattle.std.proofs.lemmas.Bool.{eq-eqb}
use Rattle.ns_code.specs.declared.program.CodeProgram.{CodeProgram}
use Rattle.ns_world.specs.declared.value.Value.TheVariants.{Ref}
use Rattle.ns_world.specs.declared.ending.LimitKind.TheVariants.{Cells}
use Rattle.ns_world.specs.declared.cell.NewCell.{NewCell}
use Rattle.ns_world.specs.Cell.{Cell, BlockCell, TextCell, ArrayCell, shape_of}
use Rattle.ns_world.specs.Heap.{heap_size}
use Rattle.ns_world.specs.World.{made}
use Rattle.ns_kdata.specs.Leading.{is_common}
use Rattle.ns_moves.specs.Control.{Progress, Gives, Halts}
use Rattle.ns_moves.specs.Blocks.{new_cell}
use Rattle.ns_moves.specs.Onward.{after_reached}
use Rattle.ns_moves.specs.Actions.{Action, Sends, SendsPlain, Performs, Evaluates, Continues, BeginsPart, EndsPart, EndsBody, MakesBlock, MakesText, MakesArray, FillsSlot, StoresLocal}
use Rattle.ns_moves.specs.Adding.{Adds, AddsOnly, is_block_of}
use Rattle.ns_moves.specs.laws.Onward.{charged_all}
use Rattle.ns_moves.specs.laws.Adding.{adds_none, made_adds}
use Rattle.ns_moves.specs.laws.ClassesOnward.{super_onward, ended_onward, filled_onward}
use Rattle.ns_moves.specs.laws.BlocksOnward.{evaluated_onward, next_onward}
use Rattle.ns_moves.specs.laws.LawfulValues.{local_onward}
use Rattle.ns_moves.specs.laws.SendsOnward.{sent_onward, plain_sent_onward, performed_onward}

cell_adds : (may : NewCell → Bool) (cell : Cell) (progress : Progress) → may (shape_of cell) ≡ true →
    Adds may progress.world.cells (after_reached (new_cell cell progress)).world.cells
cell_adds may cell progress m =
    charged_all (λ a. Adds may progress.world.cells (after_reached a).world.cells) Halts Cells (made progress.world cell) progress (Gives (Ref (heap_size progress.world.cells)))
    (adds_none may progress.world.cells) (λ world e. made_adds may progress.world world cell m e)

its_own : (body home : ℕ) → ((body == body) && (home == home)) ≡ true
its_own body home = rw (eq-eqb body body refl, eq-eqb home home refl) refl

-- Each action adds cells alone, and none but those that it may add.
pub action_adds : (code : CodeProgram) (action : Action) (progress : Progress) → AddsOnly code action progress
action_adds code (Sends activation target sel values place) progress =
    (sent_onward code activation target sel values place progress).world.adds
action_adds code (SendsPlain receiver sel values place) progress = (plain_sent_onward code receiver sel values place progress).world.adds
action_adds code (Performs receiver sel array site) progress = (performed_onward code receiver sel array site progress).world.adds
action_adds code (Evaluates block arguments site) progress = (evaluated_onward [] code block arguments site progress).world.adds
action_adds code (Continues method state site) progress = (next_onward [] method state site progress).world.adds
action_adds code (BeginsPart activation arguments) progress = (super_onward [] code activation arguments progress).world.adds
action_adds code EndsPart progress = adds_none is_common progress.world.cells
action_adds code (EndsBody exit activation value) progress = (ended_onward code exit activation value progress).world.adds
action_adds code (MakesBlock activation body) progress =
    cell_adds (is_block_of body activation.home) (BlockCell body activation.env activation.home activation.self activation.holder) progress (its_own body activation.home)
action_adds code (MakesText bytes) progress = cell_adds is_common (TextCell bytes) progress refl
action_adds code (MakesArray items) progress = cell_adds is_common (ArrayCell items) progress refl
action_adds code (FillsSlot activation slot value) progress = (filled_onward code activation slot value progress).world.adds
action_adds code (StoresLocal activation hops place value) progress = (local_onward code activation hops place value progress).world.adds
