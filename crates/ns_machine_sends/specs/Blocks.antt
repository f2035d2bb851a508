-- Blocks that are entered at once, as if their evaluation waited.
use Rattle.std.specs.Prelude.{◌≡◌, List, Option, Some, None}
use Rattle.ns_code.specs.declared.program.CodeProgram.{CodeProgram}
use Rattle.ns_world.specs.declared.cell.NewCell.{NewCell}
use Rattle.ns_world.specs.declared.cell.NewCell.TheVariants as cell
use Rattle.ns_world.specs.declared.value.Value.{Value}
use Rattle.ns_world.specs.World.{WorldView}
use Rattle.ns_moves.specs.declared.control.Entered.{Entered}
use Rattle.ns_moves.specs.declared.control.Exit.TheVariants as exit
use Rattle.ns_moves.specs.declared.control.Given.TheVariants as given
use Rattle.ns_moves.specs.declared.control.Reached.TheVariants as reached
use Rattle.ns_moves.specs.Blocks.{block_entered}
use Rattle.ns_moves.specs.declared.running.Running.{Running}
use Rattle.ns_moves.specs.Room.{SameRest}
use Rattle.ns_moves.specs.StatedAnswers.{ReachesAs}
use Rattle.ns_machine_frames.specs.declared.registers.Registers.{Registers}
use Rattle.ns_machine_core.specs.declared.state.Core.{Core}
use Rattle.ns_machine_core.specs.declared.state.Next.TheVariants as next
use Rattle.ns_machine_core.specs.Ready.{MakesMove}
use Rattle.ns_machine_sends.specs.declared.sent.Sent.{Sent}
use Rattle.ns_machine_sends.specs.Going.{arguments_in, Leads}
use Rattle.ns_machine_sends.specs.Waiting.{evaluated_with, with_block}

-- the cell of a block that runs in this
abbrev pub block_of : Running → NewCell
block_of running = cell.Block running.body running.env running.home running.me running.holder

-- A cell is that of a block which runs in this, if it is told.
abbrev pub IsBlockAt : NewCell → Option Running → Type 0
IsBlockAt cell (Some running) = cell ≡ block_of running
IsBlockAt cell None = Unit {0}

-- The body of a block is opened with these arguments: its step and its frame are charged, and its environment is made.
pub record HasOpened (code : CodeProgram) (running : Running) (arguments : List Value) (old new : WorldView) (entered : Entered) : Type 0 where
  pub reached : ReachesAs code arguments (reached.Enters exit.Body entered) old new (block_entered code (block_of running) arguments)
  pub body : entered.body ≡ running.body
  pub given : entered.given ≡ given.Listed
  pub rest : SameRest old new

-- So it is; or nothing is done.
abbrev pub OpensOrNot : CodeProgram → Running → List Value → WorldView → WorldView → Option Entered → Type 0
OpensOrNot code running arguments old new (Some entered) = HasOpened code running arguments old new entered
OpensOrNot code running arguments old new None = new ≡ old

-- Its evaluation has led to the topmost frame at those registers; or nothing is done.
abbrev pub EntersOrNot : CodeProgram → Core → Registers → Sent → Value → Core → Option Registers → Type 0
EntersOrNot code old at sent block new (Some to) =
    Leads code old at sent.floor (evaluated_with code old sent (arguments_in old at sent) block) new (next.On to)
EntersOrNot code old at sent block new None = new ≡ old

-- As if it waited, a move was made; or nothing is done.
abbrev pub MovesOrNot : CodeProgram → Core → Registers → Sent → Value → Core → Option Registers → Type 0
MovesOrNot code old at sent block new (Some to) = MakesMove code (with_block sent block old) (next.Waits at) new (next.On to)
MovesOrNot code old at sent block new None = new ≡ old
