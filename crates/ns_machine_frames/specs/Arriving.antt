-- What is said of the frames that begin where an action leads.
use Rattle.std.specs.Prelude.{◌≡◌, ℕ, List, [], ◌∷◌}
use Rattle.ns_base.specs.declared.place.Place.{Place as SourcePlace}
use Rattle.ns_code.specs.declared.program.CodeProgram.{CodeProgram}
use Rattle.ns_world.specs.declared.value.Value.{Value}
use Rattle.ns_world.specs.declared.kernel_parts.KMethod.{KMethod}
use Rattle.ns_kcode.specs.declared.state.KState.{KState}
use Rattle.ns_moves.specs.declared.control.Exit.{Exit}
use Rattle.ns_moves.specs.declared.control.Entered.{Entered}
use Rattle.ns_moves.specs.declared.control.Reached.TheVariants as reached
use Rattle.ns_moves.specs.declared.control.PartReached.TheVariants as part
use Rattle.ns_moves.specs.Control.{Progress}
use Rattle.ns_moves.specs.Bodies.{has_environment, parameters_of, locals_of}
use Rattle.ns_moves.specs.Shown.{given_values, passed, reached_shown, part_shown}
use Rattle.ns_moves.specs.State.{Phase, Going}
use Rattle.ns_moves.specs.Arrivals.{arrived, part_arrived}
use Rattle.ns_machine_frames.specs.declared.frame.KeptSite.{KeptSite}
use Rattle.ns_machine_frames.specs.declared.frame.Leaving.TheVariants.{Part}
use Rattle.ns_machine_frames.specs.declared.calls.BodyShape.{BodyShape}
use Rattle.ns_machine_frames.specs.declared.calls.Call.{Call}
use Rattle.ns_machine_frames.specs.Standing.{Stood, Runs, Loops}
use Rattle.ns_machine_frames.specs.Calls.{leaving_of, arguments_for, begun_locals, frame_for}
use Rattle.ns_machine_frames.specs.View.{site_shown, frames_shown}

-- A shape is that of a body of the code.
pub record IsShapeOf (code : CodeProgram) (body : ℕ) (shape : BodyShape) : Type 0 where
  pub params : shape.params ≡ parameters_of code body
  pub locals : shape.locals ≡ locals_of code body
  pub environment : shape.environment ≡ has_environment code body

-- the frames with the body that was entered on these arguments
abbrev pub with_body : BodyShape → Call → Entered → List Value → List Stood → List Stood
with_body shape call entered values stood = Runs (frame_for shape call entered) (begun_locals shape entered.given values) [] ∷ stood

-- A body that is reached begins where it is entered on the arguments that it is given: none in a clause.
abbrev pub BodiesBegin : CodeProgram → List SourcePlace → Phase → Type 0
BodiesBegin code places phase =
    (shape : BodyShape) (call : Call) (exit : Exit) (entered : Entered) (values there : List Value) (stood : List Stood) (progress : Progress)
    → IsShapeOf code entered.body shape → call.leaving ≡ leaving_of exit
    → arguments_for there entered.given ≡ given_values progress.world.cells (passed exit values) entered.given
    → arrived code phase (reached_shown code (site_shown places call.site) values (reached.Enters exit entered) progress) (frames_shown code places stood)
    ≡ Going phase (frames_shown code places (with_body shape call entered there stood)) progress

-- So does a superclass part.
abbrev pub PartsBegin : CodeProgram → List SourcePlace → Phase → Type 0
PartsBegin code places phase =
    (shape : BodyShape) (call : Call) (entered : Entered) (values there : List Value) (stood : List Stood) (progress : Progress)
    → IsShapeOf code entered.body shape → call.leaving ≡ Part
    → arguments_for there entered.given ≡ given_values progress.world.cells values entered.given
    → part_arrived code phase (part_shown code (site_shown places call.site) values (part.Enters entered) progress) (frames_shown code places stood)
    ≡ Going phase (frames_shown code places (with_body shape call entered there stood)) progress

-- A method of the kernel that is reached is the frame that begins.
abbrev pub MethodsBegin : CodeProgram → List SourcePlace → Phase → Type 0
MethodsBegin code places phase =
    (method : KMethod) (state : KState) (site : KeptSite) (floor : ℕ) (values : List Value) (stood : List Stood) (progress : Progress)
    → arrived code phase (reached_shown code (site_shown places site) values (reached.Begins method state) progress) (frames_shown code places stood)
    ≡ Going phase (frames_shown code places (Loops (record { method = method; state = state; site = site; floor = floor }) ∷ stood)) progress
