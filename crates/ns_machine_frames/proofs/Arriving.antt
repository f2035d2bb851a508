-- The frames that begin where an action leads.
use Rattle.std.proofs.Common.{◌≡◌, ℕ, ◌-◌, List, [], ◌∷◌, ◌++◌, replicate, Bool, if◌then◌else◌, ap, sym, ◌∙◌, refl}
use Rattle.ns_base.specs.declared.place.Place.{Place as SourcePlace}
use Rattle.ns_code.specs.declared.program.CodeProgram.{CodeProgram}
use Rattle.ns_world.specs.declared.value.Value.{Value}
use Rattle.ns_world.specs.declared.value.Value.TheVariants.{Nil}
use Rattle.ns_world.specs.Heap.{Heap}
use Rattle.ns_moves.specs.declared.control.Exit.{Exit as ExitKind}
use Rattle.ns_moves.specs.declared.control.Exit.TheVariants as exit
use Rattle.ns_moves.specs.declared.control.Entered.{Entered}
use Rattle.ns_moves.specs.declared.control.Reached.TheVariants as reached
use Rattle.ns_moves.specs.declared.control.PartReached.TheVariants as part
use Rattle.ns_moves.specs.Control.{Progress}
use Rattle.ns_moves.specs.Bodies.{has_environment, locals_of}
use Rattle.ns_moves.specs.Shown.{given_values, passed, exit_shown, locals_shown, reached_shown, part_shown}
use Rattle.ns_moves.specs.State as state
use Rattle.ns_moves.specs.State.{Loud, Phase, Going}
use Rattle.ns_moves.specs.Steps.{steps_of}
use Rattle.ns_moves.specs.Arrivals.{arrived, part_arrived}
use Rattle.ns_machine_frames.specs.declared.frame.KeptSite.{KeptSite}
use Rattle.ns_machine_frames.specs.declared.frame.Leaving.{Leaving}
use Rattle.ns_machine_frames.specs.declared.frame.Leaving.TheVariants.{Part}
use Rattle.ns_machine_frames.specs.declared.calls.BodyShape.{BodyShape}
use Rattle.ns_machine_frames.specs.declared.calls.Call.{Call}
use Rattle.ns_machine_frames.specs.Standing.{Stood}
use Rattle.ns_machine_frames.specs.Calls.{leaving_of, activation_of, arguments_for, begun_locals}
use Rattle.ns_machine_frames.specs.View.{site_shown, leaving_shown, activation_shown, frames_shown}
use Rattle.ns_machine_frames.specs.Arriving.{IsShapeOf, with_body}

-- what its value is for
exit_kept : (exit : ExitKind) (entered : Entered) (site : KeptSite) →
    leaving_shown (leaving_of exit) (activation_of entered site) ≡ Loud (exit_shown exit entered.me entered.holder)
exit_kept exit.Method entered site = refl
exit_kept exit.Body entered site = refl
exit_kept (exit.Clause class) entered site = refl

-- its locals
locals_kept : (code : CodeProgram) (heap : Heap) (shape : BodyShape) (entered : Entered) (values there : List Value) →
    IsShapeOf code entered.body shape
    → arguments_for there entered.given ≡ given_values heap values entered.given
    → begun_locals shape entered.given there ≡ locals_shown code heap values entered
locals_kept code heap shape entered values there fits same =
    ap (λ (environment : Bool). if environment then [] else arguments_for there entered.given ++ replicate (shape.locals - shape.params) Nil) fits.environment
    ∙ (ap (λ (all : List Value). if has_environment code entered.body then [] else all ++ replicate (shape.locals - shape.params) Nil) same
    ∙ (ap (λ (count : ℕ). if has_environment code entered.body then [] else given_values heap values entered.given ++ replicate (count - shape.params) Nil) fits.locals
    ∙ ap (λ (count : ℕ). if has_environment code entered.body then [] else given_values heap values entered.given ++ replicate (locals_of code entered.body - count) Nil) fits.params))

-- a body that is entered, by the end that is kept of it
stands_as : (code : CodeProgram) (places : List SourcePlace) (phase : Phase) (shape : BodyShape) (call : Call) (entered : Entered) (leaving : state.Leaving)
    (values there : List Value) (stood : List Stood) (progress : Progress) → IsShapeOf code entered.body shape
    → leaving_shown call.leaving (activation_of entered call.site) ≡ leaving
    → arguments_for there entered.given ≡ given_values progress.world.cells values entered.given
    → Going phase (state.Running leaving (activation_shown places (activation_of entered call.site)) (locals_shown code progress.world.cells values entered)
    (steps_of code entered.body) [] ∷ frames_shown code places stood) progress
    ≡ Going phase (frames_shown code places (with_body shape call entered there stood)) progress
stands_as code places phase shape call entered leaving values there stood progress fits left same =
    ap (λ (locals : List Value). Going phase (state.Running leaving (activation_shown places (activation_of entered call.site)) locals (steps_of code entered.body) []
    ∷ frames_shown code places stood) progress)
    (sym (locals_kept code progress.world.cells shape entered values there fits same))
    ∙ ap (λ (end : state.Leaving). Going phase (state.Running end (activation_shown places (activation_of entered call.site))
    (begun_locals shape entered.given there) (steps_of code entered.body) [] ∷ frames_shown code places stood) progress)
    (sym left)

pub body_begins : (code : CodeProgram) (places : List SourcePlace) (phase : Phase) (shape : BodyShape) (call : Call) (exit : ExitKind) (entered : Entered)
    (values there : List Value) (stood : List Stood) (progress : Progress) → IsShapeOf code entered.body shape → call.leaving ≡ leaving_of exit
    → arguments_for there entered.given ≡ given_values progress.world.cells (passed exit values) entered.given
    → arrived code phase (reached_shown code (site_shown places call.site) values (reached.Enters exit entered) progress) (frames_shown code places stood)
    ≡ Going phase (frames_shown code places (with_body shape call entered there stood)) progress
body_begins code places phase shape call exit entered values there stood progress fits left same =
    stands_as code places phase shape call entered (Loud (exit_shown exit entered.me entered.holder)) (passed exit values) there stood progress fits
    (ap (λ (end : Leaving). leaving_shown end (activation_of entered call.site)) left ∙ exit_kept exit entered call.site) same

pub part_begins : (code : CodeProgram) (places : List SourcePlace) (phase : Phase) (shape : BodyShape) (call : Call) (entered : Entered)
    (values there : List Value) (stood : List Stood) (progress : Progress) → IsShapeOf code entered.body shape → call.leaving ≡ Part
    → arguments_for there entered.given ≡ given_values progress.world.cells values entered.given
    → part_arrived code phase (part_shown code (site_shown places call.site) values (part.Enters entered) progress) (frames_shown code places stood)
    ≡ Going phase (frames_shown code places (with_body shape call entered there stood)) progress
part_begins code places phase shape call entered values there stood progress fits left same =
    stands_as code places phase shape call entered state.Silent values there stood progress fits
    (ap (λ (end : Leaving). leaving_shown end (activation_of entered call.site)) left) same
