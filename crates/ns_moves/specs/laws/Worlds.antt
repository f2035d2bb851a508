-- The worlds of valid states.
use Rattle.ns_code.specs.declared.program.CodeProgram.{CodeProgram}
use Rattle.ns_facets.specs.declared.row.Grants.{Grants}
use Rattle.ns_world.specs.declared.ending.Ending.{Ending}
use Rattle.ns_world.specs.declared.ending.Ending.TheVariants.{Done, Error, Limit}
use Rattle.ns_world.specs.declared.ending.LimitKind.TheVariants.{Cells, Steps, Depth, Out}
use Rattle.ns_world.specs.Lawful.{IsLawful}
use Rattle.ns_moves.specs.Control.{Progress}
use Rattle.ns_moves.specs.State.{Phase, Start, First, Second, Hosted, State, Unbegun, Going, Pends, Ended, Stuck, progress_of}
use Rattle.ns_moves.specs.Valid.{Valid, EndIsValid}

ended_lawful : (code : CodeProgram) (grants : Grants) (ending : Ending) (phase : Phase) (p : Progress) →
    EndIsValid code grants ending phase p → IsLawful p.world code
ended_lawful code grants (Limit Cells) Start p v = v.lawful
ended_lawful code grants (Limit Steps) Start p v = absurd v
ended_lawful code grants (Limit Depth) Start p v = absurd v
ended_lawful code grants (Limit Out) Start p v = absurd v
ended_lawful code grants (Done value) Start p v = absurd v
ended_lawful code grants (Error error) Start p v = absurd v
ended_lawful code grants (Done value) (First arguments) p v = absurd v
ended_lawful code grants (Error error) (First arguments) p v = v.0.lawful
ended_lawful code grants (Limit Cells) (First arguments) p v = v.0.lawful
ended_lawful code grants (Limit Steps) (First arguments) p v = v.0.lawful
ended_lawful code grants (Limit Depth) (First arguments) p v = v.0.lawful
ended_lawful code grants (Limit Out) (First arguments) p v = v.0.lawful
ended_lawful code grants (Done value) Second p v = v.0.lawful
ended_lawful code grants (Error error) Second p v = v.0.lawful
ended_lawful code grants (Limit Cells) Second p v = v.0.lawful
ended_lawful code grants (Limit Steps) Second p v = v.0.lawful
ended_lawful code grants (Limit Depth) Second p v = v.0.lawful
ended_lawful code grants (Limit Out) Second p v = v.0.lawful
ended_lawful code grants (Done value) Hosted p v = v.0.lawful
ended_lawful code grants (Error error) Hosted p v = v.0.lawful
ended_lawful code grants (Limit Cells) Hosted p v = v.0.lawful
ended_lawful code grants (Limit Steps) Hosted p v = v.0.lawful
ended_lawful code grants (Limit Depth) Hosted p v = v.0.lawful
ended_lawful code grants (Limit Out) Hosted p v = v.0.lawful

-- The world of a valid state is lawful.
pub valid_lawful : (code : CodeProgram) (grants : Grants) (s : State) → Valid code grants s → IsLawful (progress_of s).world code
valid_lawful code grants (Unbegun arguments p) v = v.0.lawful
valid_lawful code grants (Going phase frames p) v = v.0.world.lawful
valid_lawful code grants (Pends phase pending frames p) v = v.0.world.lawful
valid_lawful code grants (Ended ending phase p) v = ended_lawful code grants ending phase p v
valid_lawful code grants (Stuck p) v = absurd v
