-- A run from a valid state to an end has come to where it comes to rest.
use Rattle.std.proofs.Common.{◌≡◌, Some, true, refl}
use Rattle.ns_code.specs.declared.program.CodeProgram.{CodeProgram}
use Rattle.ns_facets.specs.declared.row.Grants.{Grants}
use Rattle.ns_world.specs.declared.ending.Ending.{Ending}
use Rattle.ns_moves.specs.Beginning.{NewIsValid, StartKeepsValid, HostKeepsValid}
use Rattle.ns_moves.specs.Falling.{run_left}
use Rattle.ns_moves.specs.Starts.{begun, new_machine}
use Rattle.ns_moves.specs.State.{State, Unbegun, Going, Pends, Ended, Stuck, ending_of}
use Rattle.ns_moves.specs.StatedMoves.{MovesAdd, StaysStill}
use Rattle.ns_moves.specs.Turn.{is_still}
use Rattle.ns_run_code.specs.Machine.{begins_with, rested}
use Rattle.ns_run_code.specs.Resting.{ValidComesToRest, ValidEndsAtRest, RunsEndAtRest, SendsEndAtRest}
use Rattle.ns_run_code.specs.Run.{granted}
use Rattle.ns_run_code.proofs.Resting.{one_rest}

-- a state with an end is still
pub ended_still : (state : State) (ending : Ending) → ending_of state ≡ Some ending → is_still state ≡ true
ended_still (Unbegun arguments p) ending e = absurd (cc)
ended_still (Going phase frames p) ending e = absurd (cc)
ended_still (Pends phase pending frames p) ending e = absurd (cc)
ended_still (Ended other phase p) ending e = refl
ended_still (Stuck p) ending e = absurd (cc)

pub ends_at_rest : (code : CodeProgram) (grants : Grants) → ((s : State) → MovesAdd code s) → ((s : State) → StaysStill code s)
    → ValidComesToRest code grants → ValidEndsAtRest code grants
ends_at_rest code grants add stay rests old new ending valid ran =
    let rest = rests old valid in
    one_rest code add stay ran.count (run_left code old) old new (rested code old) ran.is rest.moved
    (ended_still new ending ran.ends) rest.still

pub runs_at_rest : (code : CodeProgram) → NewIsValid code granted → StartKeepsValid code granted → ValidEndsAtRest code granted
    → RunsEndAtRest code
runs_at_rest code new start ends limits arguments state ending can =
    let first = new_machine code limits granted arguments in
    ends (begins_with code limits arguments) state ending (start first (new limits arguments can.sound can.fits can.range))

pub sends_at_rest : (code : CodeProgram) (grants : Grants) → HostKeepsValid code grants → ValidEndsAtRest code grants
    → SendsEndAtRest code grants
sends_at_rest code grants host ends receiver sel arguments state new ending valid may =
    ends (begun receiver sel arguments state) new ending (host receiver sel arguments state valid may)
