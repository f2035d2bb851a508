-- Each action leads to a later world.
use Rattle.std.proofs.Common.{[], refl}
use Rattle.ns_code.specs.declared.program.CodeProgram.{CodeProgram}
use Rattle.ns_world.specs.Cell.{Cell, BlockCell, TextCell, ArrayCell}
use Rattle.ns_world.specs.Later.{IsLater}
use Rattle.ns_world.specs.laws.Leading.{later_left}
use Rattle.ns_moves.specs.Control.{Progress}
use Rattle.ns_moves.specs.Actions.{Action, Sends, SendsPlain, Performs, Evaluates, Continues, BeginsPart, EndsPart, EndsBody, MakesBlock, MakesText, MakesArray, FillsSlot, StoresLocal, progress_after}
use Rattle.ns_moves.specs.laws.Onward.{may_come}
use Rattle.ns_moves.specs.laws.ClassesOnward.{super_onward, ended_onward, filled_onward}
use Rattle.ns_moves.specs.laws.BlocksOnward.{evaluated_onward, next_onward, any_cell_later}
use Rattle.ns_moves.specs.laws.LawfulValues.{local_onward}
use Rattle.ns_moves.specs.laws.SendsOnward.{sent_onward, plain_sent_onward, performed_onward}

-- Each action leads to a later world.
pub action_leads : (code : CodeProgram) (action : Action) (progress : Progress) →
    IsLater progress.world (progress_after code action progress).world
action_leads code (Sends activation target sel values place) progress =
    (sent_onward code activation target sel values place progress).world.later
action_leads code (SendsPlain receiver sel values place) progress = (plain_sent_onward code receiver sel values place progress).world.later
action_leads code (Performs receiver sel array site) progress = (performed_onward code receiver sel array site progress).world.later
action_leads code (Evaluates block arguments site) progress = (evaluated_onward [] code block arguments site progress).world.later
action_leads code (Continues method state site) progress = (next_onward [] method state site progress).world.later
action_leads code (BeginsPart activation arguments) progress = (super_onward [] code activation arguments progress).world.later
action_leads code EndsPart progress = later_left progress.world
action_leads code (EndsBody exit activation value) progress = (ended_onward code exit activation value progress).world.later
action_leads code (MakesBlock activation body) progress =
    let cell : Cell = BlockCell body activation.env activation.home activation.self activation.holder in
    any_cell_later cell progress (may_come progress.world.cells cell refl refl)
action_leads code (MakesText bytes) progress =
    any_cell_later (TextCell bytes) progress (may_come progress.world.cells (TextCell bytes) refl refl)
action_leads code (MakesArray items) progress =
    any_cell_later (ArrayCell items) progress (may_come progress.world.cells (ArrayCell items) refl refl)
action_leads code (FillsSlot activation slot value) progress = (filled_onward code activation slot value progress).world.later
action_leads code (StoresLocal activation hops place value) progress = (local_onward code activation hops place value progress).world.later
