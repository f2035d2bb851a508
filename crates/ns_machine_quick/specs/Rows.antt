-- Rows of the kernel that give a value at once, by the quick way.
use Rattle.std.specs.Prelude.{◌≡◌, ℕ, List, length, Ok}
use Rattle.ns_code.specs.declared.program.CodeProgram.{CodeProgram}
use Rattle.ns_world.specs.declared.value.Value.{Value}
use Rattle.ns_world.specs.Heap.{Heap}
use Rattle.ns_world.specs.Starts.{start_of}
use Rattle.ns_find.specs.declared.found.Found.TheVariants.{Kernel}
use Rattle.ns_find.specs.declared.found.Sending.{Sending}
use Rattle.ns_find.specs.Find.{found_from}
use Rattle.ns_kdata.specs.Arguments.{argument, items_of, place_in}
use Rattle.ns_world.specs.declared.kernel_row.Row.{Row}
use Rattle.ns_moves.specs.declared.site.Site.{Site}
use Rattle.ns_moves.specs.Control.{Progress, gives}
use Rattle.ns_moves.specs.Kernel.{row_reached}
use Rattle.ns_world.specs.KernelTable.{row_at}
use Rattle.ns_machine_frames.specs.declared.registers.Registers.{Registers}
use Rattle.ns_machine_core.specs.declared.state.Core.{Core}
use Rattle.ns_machine_sends.specs.declared.sent.Sent.{Sent}
use Rattle.ns_machine_sends.specs.Going.{arguments_in}

-- A send to a value finds that row of the kernel.
pub record FindsRow (code : CodeProgram) (core : Core) (sent : Sent) (receiver : Value) (kind : Sending) (row : Row) : Type 0 where
  pub number : ℕ
  pub found : found_from core.run.world.world.cells code (start_of core.run.world.world.cells receiver) sent.site.sel.0 kind ≡ Kernel number
  pub row_is : row_at number ≡ row

-- The row gives the value and changes nothing, in each run with these cells and with any arguments of which this is the first.
abbrev pub RowGives : CodeProgram → Heap → Row → Value → Value → Value → Type 0
RowGives code heap row receiver first value =
    (arguments : List Value) (site : Site) (progress : Progress) → argument arguments 0 ≡ first → progress.world.cells ≡ heap
    → row_reached code row site.sel receiver arguments site progress ≡ gives value progress

-- The first argument names that place of the array.
abbrev pub NamesPlace : Core → Registers → Sent → Value → ℕ → Type 0
NamesPlace core at sent array place =
    place_in (argument (arguments_in core at sent) 0) (length (items_of core.run.world.world.cells array)) ≡ Ok place
