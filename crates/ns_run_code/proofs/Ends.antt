-- Each run of admitted code comes to its end, and what is told of it there is what the machine tells.
use Rattle.std.proofs.Common.{◌≡◌, ℕ, Some, true, refl, sym, ap, subst, ◌∙◌}
use Rattle.ns_code.specs.declared.program.CodeProgram.{CodeProgram}
use Rattle.ns_moves.specs.Falling.{run_left}
use Rattle.ns_moves.specs.Beginning.{NewIsValid, StartKeepsValid}
use Rattle.ns_moves.specs.StatedMoves.{MovesAdd, StaysStill}
use Rattle.ns_moves.specs.Move.{moves}
use Rattle.ns_moves.specs.Starts.{new_machine}
use Rattle.ns_moves.specs.State.{State, Unbegun, Going, Pends, Ended, Stuck, ending_of}
use Rattle.ns_moves.specs.Turn.{is_still}
use Rattle.ns_moves.specs.Valid.{Valid}
use Rattle.ns_world.specs.declared.ending.Ending.{Ending}
use Rattle.ns_run_code.specs.Laws.{ComesToItsEnd, CodeEnds}
use Rattle.ns_run_code.specs.Machine.{begins_with, rested, end_of, told_at}
use Rattle.ns_run_code.specs.Resting.{ValidComesToRest}
use Rattle.ns_run_code.specs.Run.{granted}
use Rattle.ns_run_code.specs.Running.{told_of}
use Rattle.ns_run_code.proofs.Begun.{is_begun, moves_begun, started_begun}
use Rattle.ns_run_code.proofs.AtRest.{ended_still}
use Rattle.ns_run_code.proofs.Resting.{one_rest}

-- a run that is still has ended, where something was begun and the state is valid
ended : (code : CodeProgram) (state rest : State) → moves code (run_left code state) state ≡ rested code state → rested code state ≡ rest
    → Valid code granted rest → is_still rest ≡ true → is_begun rest ≡ true → ComesToItsEnd code state
ended code state (Unbegun arguments p) moved e valid still begun = absurd (cc)
ended code state (Going phase frames p) moved e valid still begun = absurd (cc)
ended code state (Pends phase pending frames p) moved e valid still begun = absurd (cc)
ended code state (Ended ending phase p) moved e valid still begun =
    record { ending = ending; phase = phase; progress = p; is = e; moved = moved }
ended code state (Stuck p) moved e valid still begun = absurd valid

pub code_ends : (code : CodeProgram) → ValidComesToRest code granted → NewIsValid code granted → StartKeepsValid code granted
    → CodeEnds code
code_ends code rests new start limits arguments can =
    let first = new_machine code limits granted arguments in
    let state = begins_with code limits arguments in
    let rest = rests state (start first (new limits arguments can.sound can.fits can.range)) in
    let begun = subst (λ (s : State). is_begun s ≡ true) rest.moved (moves_begun code (run_left code state) state (started_begun code first)) in
    ended code state (rested code state) rest.moved refl rest.valid rest.still begun

-- What is told of a state with an end, to which moves have led, is told of where the run comes to rest.
pub told_is : (code : CodeProgram) → ((s : State) → MovesAdd code s) → ((s : State) → StaysStill code s) →
    (state new : State) (count : ℕ) (ending : Ending)
    → ComesToItsEnd code state → moves code count state ≡ new → ending_of new ≡ Some ending → told_of code new ending ≡ told_at code (rested code state)
told_is code add stay state new count ending ends is e =
    let rest : is_still (rested code state) ≡ true = ap is_still ends.is in
    let same : new ≡ rested code state =
    one_rest code add stay count (run_left code state) state new (rested code state) is ends.moved (ended_still new ending e) rest in
    ap (λ o. told_of code new (end_of o)) (sym e) ∙ ap (told_at code) same
