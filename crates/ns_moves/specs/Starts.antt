-- The start of a run, its opening sends, and the sends of a host.
use Rattle.std.specs.Prelude.{ℕ, List, [], ◌∷◌, None, if◌then◌else◌}
use Rattle.ns_base.specs.declared.limits.Limits.{Limits}
use Rattle.ns_base.specs.declared.selector.Sel.{Sel}
use Rattle.ns_code.specs.declared.program.CodeProgram.{CodeProgram}
use Rattle.ns_code.specs.declared.own.Own.TheVariants.{PackageUsing}
use Rattle.ns_world.specs.declared.value.Value.{Value}
use Rattle.ns_world.specs.Heap.{cell_number}
use Rattle.ns_facets.specs.declared.row.Grants.{Grants}
use Rattle.ns_moves.specs.Control.{After, Gives, Halts}
use Rattle.ns_moves.specs.Start.{start_made, manifest, first_class}
use Rattle.ns_moves.specs.Sends.{site_at, own_sel}
use Rattle.ns_moves.specs.State.{Sending, Start, First, Hosted, State, Unbegun, Pends, Ended, is_idle, progress_of, world_of}
use Rattle.ns_moves.specs.Returns.{opening}

-- ---- the first state

-- A start that was made has begun nothing, and has the array of the arguments; one that doesn't fit has ended.
abbrev pub unbegun : After → State
unbegun (Gives array progress) = Unbegun (cell_number array) progress
unbegun (Halts ending progress) = Ended ending Start progress

-- a new machine has made its start
abbrev pub new_machine : CodeProgram → Limits → Grants → List (List ℕ) → State
new_machine code limits grants arguments = unbegun (start_made code grants arguments limits)

-- ---- what begins a run

-- The first opening send waits; a run that has ended stays as it is.
abbrev pub started : CodeProgram → State → State
started code (Unbegun arguments progress) =
    Pends (First arguments) (opening code (first_class progress.world.cells) (own_sel code PackageUsing) (manifest ∷ []) progress) [] progress
started code state = state

-- a send of the host waits
abbrev pub begun : Value → Sel → List Value → State → State
begun receiver sel arguments state =
    if is_idle state then Pends Hosted (Sending receiver sel arguments (site_at (world_of state).cells None receiver sel)) [] (progress_of state) else state
