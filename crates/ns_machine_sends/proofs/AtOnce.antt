-- Blocks that are entered at once.
use Rattle.std.proofs.Common.{◌≡◌, ℕ, List, Option, Some, None, sym, subst}
use Rattle.std.specs.Prelude.{IsSome}
use Rattle.ns_code.specs.declared.program.CodeProgram.{CodeProgram}
use Rattle.ns_facets.specs.declared.row.Grants.{Grants}
use Rattle.ns_world.specs.declared.cell.NewCell.{NewCell}
use Rattle.ns_world.specs.declared.value.Value.{Value}
use Rattle.ns_world.specs.declared.value.Value.TheVariants.{Ref}
use Rattle.ns_world.specs.Heap.{find_cell, shape_at}
use Rattle.ns_world.specs.World.{WorldView}
use Rattle.ns_moves.specs.declared.control.Reached.{Reached}
use Rattle.ns_moves.specs.declared.site.Site.{Site}
use Rattle.ns_moves.specs.Blocks.{block_entered, evaluated}
use Rattle.ns_moves.specs.Control.{Progress, in_world}
use Rattle.ns_moves.specs.Shown.{reached_shown}
use Rattle.ns_moves.specs.declared.running.Running.{Running}
use Rattle.ns_moves.specs.StatedAnswers.{ReachesAs}
use Rattle.ns_machine_frames.specs.declared.registers.Registers.{Registers}
use Rattle.ns_machine_core.specs.declared.state.Core.{Core}
use Rattle.ns_machine_core.specs.declared.state.Next.TheVariants.{On}
use Rattle.ns_machine_sends.specs.declared.sent.Sent.{Sent}
use Rattle.ns_machine_sends.specs.Blocks.{EntersOrNot, MovesOrNot, block_of}
use Rattle.ns_machine_sends.specs.Waiting.{BlockWaits, IsWaiting, with_block}
use Rattle.ns_machine_sends.proofs.Awaited.{once_moves}
use Rattle.ns_machine_sends.proofs.Evaluated.{block_there}

-- The cell of a block that waits is there.
pub cell_there : (code : CodeProgram) (core : Core) (values : List Value) (cell : ℕ) → IsWaiting code core values (Ref cell)
    → IsSome (find_cell core.run.world.world.cells cell)
cell_there code core values cell is = block_there core.run.world.world.cells (Ref cell) is.block_is

-- What enters it is its evaluation.
pub block_evaluated : (code : CodeProgram) (cell : ℕ) (running : Running) (values : List Value) (r : Reached) (old new : WorldView)
    → shape_at old.world.cells cell ≡ block_of running → ReachesAs code values r old new (block_entered code (block_of running) values)
    → (site : Site) (rest : Progress)
    → reached_shown code site values r (in_world rest new.world) ≡ evaluated code (Ref cell) values site (in_world rest old.world)
block_evaluated code cell running values r old new block enters site rest =
    subst (λ (c : NewCell). reached_shown code site values r (in_world rest new.world) ≡ block_entered code c values site (in_world rest old.world)) (sym block)
    (enters site rest)

-- Where it was entered, a move was made.
pub entered_moves : (code : CodeProgram) (grants : Grants) (core : Core) (at : Registers) (sent : Sent) (block : Value)
    → BlockWaits code grants (with_block sent block core) at sent block → (new : Core) (r : Option Registers) → EntersOrNot code core at sent block new r
    → MovesOrNot code core at sent block new r
entered_moves code grants core at sent block waits new (Some to) is = once_moves code grants core at sent block waits new (On to) is
entered_moves code grants core at sent block waits new None is = is
