-- What a send comes to once its step is charged.
use Rattle.std.specs.Prelude.{◌≡◌, List}
use Rattle.ns_base.specs.declared.selector.Sel.{Sel}
use Rattle.ns_code.specs.declared.program.CodeProgram.{CodeProgram}
use Rattle.ns_world.specs.declared.value.Value.{Value}
use Rattle.ns_world.specs.World.{WorldView}
use Rattle.ns_find.specs.declared.found.Found.{Found}
use Rattle.ns_find.specs.declared.found.Found.TheVariants as found
use Rattle.ns_moves.specs.declared.site.Site.{Site}
use Rattle.ns_moves.specs.Control.{Progress, Activation, Control}
use Rattle.ns_world.specs.KernelTable.{row_at}
use Rattle.ns_moves.specs.Kernel.{row_reached}
use Rattle.ns_moves.specs.Sends.{Target, receiver_of, found_at, answered_by}
use Rattle.ns_moves.specs.Shown.{reached_shown}
use Rattle.ns_moves.specs.Plain.{IsPlain}
use Rattle.ns_moves.specs.declared.sends.Answered.{Answered}
use Rattle.ns_moves.specs.declared.sends.Answered.TheVariants as is

-- what a send comes to: its row, where that is still to answer
abbrev pub answered_shown : CodeProgram → Sel → Value → Site → List Value → Answered → Progress → Control
answered_shown code sel receiver site values (is.Comes reached) progress = reached_shown code site values reached progress
answered_shown code sel receiver site values (is.Row number) progress = row_reached code (row_at number) sel receiver values site progress

-- what a send of running code finds answers, at that site
abbrev pub answered : CodeProgram → Activation → Target → Sel → List Value → Site → Progress → Control
answered code activation target sel values site progress =
    answered_by code (found_at progress.world.cells code activation target sel.0) sel (receiver_of progress.world.cells activation target) values site progress

-- What a send comes to is plain; a row that is still to answer is the one that was found, and no cell has changed by then.
abbrev pub IsAnswered : Found → WorldView → Answered → WorldView → Type 0
IsAnswered member old (is.Comes reached) new = IsPlain reached
IsAnswered member old (is.Row number) new = (member ≡ found.Kernel number) × (new ≡ old)
