-- The texts that a host hands over become cells of the program, which are charged as any.
use Rattle.std.specs.Prelude.{ℕ, ◌+◌, ◌==◌, ◌&&◌, nat_le, nat_lt, List, ◌++◌, Bool, true, false, Option, Some, None, if◌then◌else◌}
use Rattle.ns_frozen.specs.declared.frozen.Frozen.{Frozen}
use Rattle.ns_frozen.specs.Fault.{restore_fault}
use Rattle.ns_frozen.specs.Freezing.{frozen_of}
use Rattle.ns_frozen.specs.declared.fault.RestoreFault.{RestoreFault}
use Rattle.ns_machine.specs.Machine.{MachineView}
use Rattle.ns_moves.specs.State.{world_of}
use Rattle.ns_machine_restore.specs.Restored.{machine_at}
use Rattle.ns_world.specs.World.{counters_of}
use Rattle.ns_handed.specs.Laid.{cells_from, cost_of_all}
use Rattle.ns_handed.specs.declared.value.Hand.{Hand}

-- how many cells a program uses
abbrev pub cells_used : MachineView → ℕ
cells_used machine = (counters_of (world_of machine.state)).cells

-- the number of the cell behind the texts
abbrev pub cells_behind : List Hand → MachineView → ℕ
cells_behind hands machine = cells_used machine + cost_of_all hands

-- whether its limit leaves room for the texts. No limit on cells is so large that a reference couldn't have the number of each
abbrev pub has_room : List Hand → MachineView → Bool
has_room hands machine =
    nat_lt (world_of machine.state).limits.cells 4294967296 && nat_le (cells_behind hands machine) (world_of machine.state).limits.cells

-- a state with the texts behind its cells, of which that many are used then
abbrev pub laid : ℕ → List Hand → List ℕ → Frozen → Frozen
laid behind hands texts frozen = record frozen { used = record frozen.used { cells = behind }; cells = frozen.cells ++ cells_from texts hands }

-- a machine where that state stands, unless this part of it can't be
abbrev pub restored : MachineView → Frozen → Option RestoreFault → Option MachineView
restored machine frozen None = Some (machine_at machine.code frozen)
restored machine frozen (Some fault) = None

-- a program whose state is that one, if it is one in which a run can be
abbrev pub program_at : MachineView → Frozen → Option MachineView
program_at machine frozen = restored machine frozen (restore_fault machine.code (world_of machine.state).limits frozen)

-- the state of a program with the texts behind its cells
abbrev pub frozen_with : ℕ → List Hand → List ℕ → MachineView → Frozen
frozen_with behind hands texts machine = laid behind hands texts (frozen_of machine.code machine.grants machine.state)

-- a program with the texts; where none is handed over it stays as it is
abbrev pub with_texts : List Hand → List ℕ → MachineView → Option MachineView
with_texts hands texts machine =
    if cells_behind hands machine == cells_used machine then Some machine
    else program_at machine (frozen_with (cells_behind hands machine) hands texts machine)

-- that program, if so
abbrev pub if_so : Bool → MachineView → Option MachineView
if_so true machine = Some machine
if_so false machine = None
