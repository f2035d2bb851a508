-- What a run of a valid state ended with can be reported.
use Rattle.std.proofs.Common.{◌≡◌, Some, subst}
use Rattle.std.proofs.lemmas.Option.{same_Some}
use Rattle.ns_code.specs.declared.program.CodeProgram.{CodeProgram}
use Rattle.ns_facets.specs.declared.row.Grants.{Grants}
use Rattle.ns_world.specs.declared.ending.Ending.{Ending}
use Rattle.ns_world.specs.declared.ending.Ending.TheVariants.{Done, Error, Limit}
use Rattle.ns_moves.specs.Control.{Progress}
use Rattle.ns_machine_report.specs.Ending.{IsLiveEnding}
use Rattle.ns_moves.specs.State.{Phase, State, Unbegun, Going, Pends, Ended, Stuck, ending_of, world_of}
use Rattle.ns_moves.specs.State as state
use Rattle.ns_moves.specs.Valid.{EndIsValid, Valid}

pub live_ending : (code : CodeProgram) (grants : Grants) (ending : Ending) (phase : Phase) (p : Progress) →
    EndIsValid code grants ending phase p
    → IsLiveEnding p.world.cells code ending
live_ending code grants (Done value) state.Start p valid = absurd valid
live_ending code grants (Done value) (state.First arguments) p valid = absurd valid
live_ending code grants (Done value) state.Second p valid = valid.1.0
live_ending code grants (Done value) state.Hosted p valid = valid.1.0
live_ending code grants (Error error) phase p valid = tt
live_ending code grants (Limit limit) phase p valid = tt

-- what a valid state ended with is live there
pub live_at : (code : CodeProgram) (grants : Grants) (ending : Ending) (state : State) → Valid code grants state →
    ending_of state ≡ Some ending
    → IsLiveEnding (world_of state).cells code ending
live_at code grants ending (Unbegun arguments p) valid ends = absurd (cc)
live_at code grants ending (Going phase frames p) valid ends = absurd (cc)
live_at code grants ending (Pends phase pending frames p) valid ends = absurd (cc)
live_at code grants ending (Ended other phase p) valid ends =
    subst (IsLiveEnding p.world.cells code) (same_Some other ending ends) (live_ending code grants other phase p valid)
live_at code grants ending (Stuck p) valid ends = absurd (cc)
