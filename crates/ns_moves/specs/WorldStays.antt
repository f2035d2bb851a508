-- The half of the invariant that speaks of the world and of the end: what an action asks for so that it stays, and
-- what then holds of a state.
use Rattle.std.specs.Prelude.{All, IsTrue}
use Rattle.ns_code.specs.declared.program.CodeProgram.{CodeProgram}
use Rattle.ns_world.specs.declared.value.Value.TheVariants.{Ref}
use Rattle.ns_world.specs.Lawful.{IsLiveValue, BlockIsLawful}
use Rattle.ns_facets.specs.declared.row.Grants.{Grants}
use Rattle.ns_facets.specs.declared.board.Board.{Board}
use Rattle.ns_kdata.specs.Arguments.{items_of}
use Rattle.ns_moves.specs.Control.{Progress}
use Rattle.ns_moves.specs.Start.{standing_cells}
use Rattle.ns_moves.specs.Lawful.{LiveState, FitsTarget, FitsSelector, FitsExit, FitsSlot, FitsLocal}
use Rattle.ns_moves.specs.Actions.{Action, Sends, SendsPlain, Performs, Evaluates, Continues, BeginsPart, EndsPart, EndsBody, MakesBlock, MakesText}
use Rattle.ns_moves.specs.Actions.{MakesArray, FillsSlot, StoresLocal, progress_after}
use Rattle.ns_moves.specs.State.{State, Unbegun, Going, Pends, Ended, Stuck, swapped}
use Rattle.ns_moves.specs.ValidFrames.{has_block_home}
use Rattle.ns_moves.specs.Valid.{WorldIsValid, GoesOn, EndIsValid, Valid}

-- A send can be made, its arguments fit its selector, and what is given or stored is live; a block fits where it is
-- made, and has the home that its body asks for.
abbrev pub AsksOfWorld : CodeProgram → Action → Progress → Type 0
AsksOfWorld code (Sends activation target sel values place) progress =
    FitsTarget progress.world.cells code activation target × FitsSelector progress.world.cells code sel values
AsksOfWorld code (SendsPlain receiver sel values place) progress =
    IsLiveValue progress.world.cells code receiver × FitsSelector progress.world.cells code sel values
AsksOfWorld code (Performs receiver sel array site) progress =
    IsLiveValue progress.world.cells code receiver × FitsSelector progress.world.cells code sel (items_of progress.world.cells (Ref array))
AsksOfWorld code (Evaluates block arguments site) progress = All (IsLiveValue progress.world.cells code) arguments
AsksOfWorld code (Continues method state site) progress = LiveState progress.world.cells code state
AsksOfWorld code (BeginsPart activation arguments) progress =
    IsLiveValue progress.world.cells code activation.self × All (IsLiveValue progress.world.cells code) arguments
AsksOfWorld code EndsPart progress = Unit {0}
AsksOfWorld code (EndsBody exit activation value) progress =
    FitsExit progress.world.cells code exit × IsLiveValue progress.world.cells code value
AsksOfWorld code (MakesBlock activation body) progress =
    BlockIsLawful progress.world.cells code body activation.env activation.self activation.holder
    × IsTrue (has_block_home code progress.begun body activation.home)
AsksOfWorld code (MakesText bytes) progress = Unit {0}
AsksOfWorld code (MakesArray items) progress = All (IsLiveValue progress.world.cells code) items
AsksOfWorld code (FillsSlot activation slot value) progress =
    FitsSlot progress.world.cells code activation slot × IsLiveValue progress.world.cells code value
AsksOfWorld code (StoresLocal activation hops place value) progress =
    FitsLocal progress.world.cells code activation hops × IsLiveValue progress.world.cells code value

-- So the world after it is one of a run of sound code, as the world before it was.
abbrev pub ActionsKeepWorld : CodeProgram → Grants → Type 0
ActionsKeepWorld code grants =
    (action : Action) (progress : Progress) → WorldIsValid code (standing_cells code grants) progress → AsksOfWorld code action progress
    → WorldIsValid code (standing_cells code grants) (progress_after code action progress)

-- what the invariant says of a state beside its frames and what waits
abbrev pub WorldFits : CodeProgram → Grants → State → Type 0
WorldFits code grants (Unbegun arguments progress) = Valid code grants (Unbegun arguments progress)
WorldFits code grants (Going phase frames progress) = GoesOn code grants phase frames progress
WorldFits code grants (Pends phase pending frames progress) = GoesOn code grants phase frames progress
WorldFits code grants (Ended ending phase progress) = EndIsValid code grants ending phase progress
WorldFits code grants (Stuck progress) = Unit {0}

-- Another board keeps a state valid.
abbrev pub SwapsKeepValid : CodeProgram → Grants → Type 0
SwapsKeepValid code grants = (board : Board) (state : State) → Valid code grants state → Valid code grants (swapped board state)
