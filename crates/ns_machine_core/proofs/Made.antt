-- What instructions that make a cell lead to.
use Rattle.std.proofs.Common.{◌≡◌, ℕ, ◌-◌, List, [], ◌∷◌, length, ap, sym, ◌∙◌, refl, subst, Option, Result}
use Rattle.ns_base.specs.declared.place.Place.{Place as SourcePlace}
use Rattle.ns_code.specs.declared.program.CodeProgram.{CodeProgram}
use Rattle.ns_code.specs.declared.instruction.Instr.{Instr}
use Rattle.ns_code.specs.declared.instruction.Instr.TheVariants as instr
use Rattle.ns_world.specs.declared.value.Value.{Value}
use Rattle.ns_world.specs.declared.ending.Fault.{Fault}
use Rattle.ns_world.specs.World.{WorldView}
use Rattle.ns_moves.specs.declared.site.Site.{Site}
use Rattle.ns_moves.specs.Control.{Progress, in_world}
use Rattle.ns_moves.specs.Blocks.{new_block, new_text, new_array}
use Rattle.ns_moves.specs.Shown.{answer_shown}
use Rattle.ns_moves.specs.State.{State, Stuck}
use Rattle.ns_moves.specs.Steps.{literal}
use Rattle.ns_moves.specs.Returns.{settled}
use Rattle.ns_moves.specs.Room.{SameRest}
use Rattle.ns_moves.specs.Running.{activation_at}
use Rattle.ns_machine_frames.specs.declared.frame.Frame.TheVariants.{Running}
use Rattle.ns_machine_frames.specs.declared.frame.KeptSite.{KeptSite}
use Rattle.ns_machine_frames.specs.declared.frame.RunningFrame.{RunningFrame}
use Rattle.ns_machine_frames.specs.declared.registers.Registers.{Registers}
use Rattle.ns_machine_frames.specs.Standing.{Stood, Runs, Loops, pushed_all, below}
use Rattle.ns_machine_frames.specs.Stack.{stood, with_top}
use Rattle.ns_machine_frames.specs.Stated.{ComeOffAgain}
use Rattle.ns_machine_frames.specs.View.{site_shown, frames_shown}
use Rattle.ns_machine_core.specs.declared.state.Core.{Core}
use Rattle.ns_machine_core.specs.declared.state.Next.{Next}
use Rattle.ns_machine_core.specs.Shown.{phase_shown, progress_in}
use Rattle.ns_machine_core.specs.Doing.{done, Finds, CanDo, running_of, IsSettled, IsDone}
use Rattle.ns_machine_core.specs.laws.Pushed.{top_stands}
use Rattle.ns_machine_core.specs.laws.Worlds.{in_other}

-- An answer that is settled in another world is what an instruction leads to.
pub settled_does : (code : CodeProgram) (old new : Core) (world : WorldView) (at to : Registers) (instr : Instr) (place : Option SourcePlace) (site : KeptSite)
    (answer : Result Value Fault) (next : Next) → CanDo code old at instr → SameRest old.run.world world → IsSettled code (in_other old world) to site answer new next
    → settled code (phase_shown old.phase) (answer_shown (site_shown old.places site) answer (in_world (progress_in old) world.world)) (frames_shown code old.places (stood old.stack to))
    ≡ done code old.places (phase_shown old.phase) instr place (stood old.stack at) (progress_in old)
    → IsDone code instr place old at new next
settled_does code old new world at to instr place site answer next can rest is leads = record {
  state = is.state ∙ leads;
  stand = is.stand;
  stays = record {
    world = record {
      limits = is.stays.world.limits ∙ rest.limits;
      room = (is.stays.world.room.0 ∙ rest.room.0, is.stays.world.room.1 ∙ rest.room.1);
    };
    values = is.stays.values;
    frames = is.stays.frames;
    places = is.stays.places;
    arguments = is.stays.arguments;
  };
  kept = rw is.run can.kept;
}

pub block_done : (code : CodeProgram) (old new : Core) (world : WorldView) (at : Registers) (body : ℕ) (place : Option SourcePlace) (running : RunningFrame)
    (answer : Result Value Fault) (next : Next) → CanDo code old at (instr.PushBlock body)
    → old.stack.frames.items ≡ Running running ∷ below old.stack.frames.items
    → ((site : Site) (rest : Progress) → answer_shown site answer (in_world rest world.world)
    ≡ new_block (activation_at site (running_of running.activation)) body (in_world rest old.run.world.world))
    → SameRest old.run.world world → IsSettled code (in_other old world) at running.activation.site answer new next
    → IsDone code (instr.PushBlock body) place old at new next
block_done code old new world at body place running answer next can top makes rest is =
    settled_does code old new world at at (instr.PushBlock body) place running.activation.site answer next can rest is
    (ap (λ after. settled code (phase_shown old.phase) after (frames_shown code old.places (stood old.stack at)))
    (makes (site_shown old.places running.activation.site) (progress_in old))
    ∙ by_stood (stood old.stack at) refl can.finds)
  where
    by_stood : (s : List Stood) → s ≡ stood old.stack at → Finds code old.places (instr.PushBlock body) s (progress_in old)
        → settled code (phase_shown old.phase) (new_block (activation_at (site_shown old.places running.activation.site) (running_of running.activation)) body (progress_in old))
        (frames_shown code old.places s)
        ≡ done code old.places (phase_shown old.phase) (instr.PushBlock body) place s (progress_in old)
    by_stood [] e finds = absurd finds
    by_stood (Loops frame ∷ s) e finds = absurd finds
    by_stood (Runs frame locals stack ∷ s) e finds =
        let same = top_stands old at running frame locals stack s top e in
        ap (λ (f : RunningFrame). settled code (phase_shown old.phase)
        (new_block (activation_at (site_shown old.places f.activation.site) (running_of f.activation)) body (progress_in old))
        (frames_shown code old.places (Runs frame locals stack ∷ s))) (sym same)

pub text_done : (code : CodeProgram) (old new : Core) (world : WorldView) (at : Registers) (text : ℕ) (place : Option SourcePlace) (own : KeptSite)
    (answer : Result Value Fault) (next : Next) → CanDo code old at (instr.PushText text)
    → ((site : Site) (rest : Progress) → answer_shown site answer (in_world rest world.world) ≡ new_text (literal code text) (in_world rest old.run.world.world))
    → SameRest old.run.world world → IsSettled code (in_other old world) at own answer new next
    → IsDone code (instr.PushText text) place old at new next
text_done code old new world at text place own answer next can makes rest is =
    settled_does code old new world at at (instr.PushText text) place own answer next can rest is
    (ap (λ after. settled code (phase_shown old.phase) after (frames_shown code old.places (stood old.stack at))) (makes (site_shown old.places own) (progress_in old))
    ∙ by_stood (stood old.stack at) can.finds)
  where
    by_stood : (s : List Stood) → Finds code old.places (instr.PushText text) s (progress_in old)
        → settled code (phase_shown old.phase) (new_text (literal code text) (progress_in old)) (frames_shown code old.places s)
        ≡ done code old.places (phase_shown old.phase) (instr.PushText text) place s (progress_in old)
    by_stood [] finds = absurd finds
    by_stood (Loops frame ∷ s) finds = absurd finds
    by_stood (Runs frame locals stack ∷ s) finds = refl

pub array_done : ((missing : State) → ComeOffAgain missing) →
    (code : CodeProgram) (old new : Core) (world : WorldView) (at : Registers) (count : ℕ) (place : Option SourcePlace)
    (own : KeptSite) (items : List Value) (answer : Result Value Fault) (next : Next) → CanDo code old at (instr.MakeArray count)
    → stood old.stack at ≡ pushed_all items (stood old.stack (with_top (at.top - count) at)) → length items ≡ count
    → ((site : Site) (rest : Progress) → answer_shown site answer (in_world rest world.world) ≡ new_array items (in_world rest old.run.world.world))
    → SameRest old.run.world world → IsSettled code (in_other old world) (with_top (at.top - count) at) own answer new next
    → IsDone code (instr.MakeArray count) place old at new next
array_done taken code old new world at count place own items answer next can is_under many makes rest is =
    settled_does code old new world at (with_top (at.top - count) at) (instr.MakeArray count) place own answer next can rest is
    (ap (λ after. settled code (phase_shown old.phase) after (frames_shown code old.places under)) (makes (site_shown old.places own) (progress_in old))
    ∙ (by_stood under (subst (λ (s : List Stood). Finds code old.places (instr.MakeArray count) s (progress_in old)) is_under can.finds)
    ∙ ap (λ (s : List Stood). done code old.places (phase_shown old.phase) (instr.MakeArray count) place s (progress_in old)) (sym is_under)))
  where
    under : List Stood
    under = stood old.stack (with_top (at.top - count) at)

    by_stood : (s : List Stood) → Finds code old.places (instr.MakeArray count) (pushed_all items s) (progress_in old)
        → settled code (phase_shown old.phase) (new_array items (progress_in old)) (frames_shown code old.places s)
        ≡ done code old.places (phase_shown old.phase) (instr.MakeArray count) place (pushed_all items s) (progress_in old)
    by_stood [] finds = absurd finds
    by_stood (Loops frame ∷ s) finds = absurd finds
    by_stood (Runs frame locals stack ∷ s) finds =
        subst (λ (n : ℕ). settled code (phase_shown old.phase) (new_array items (progress_in old)) (frames_shown code old.places (Runs frame locals stack ∷ s))
        ≡ done code old.places (phase_shown old.phase) (instr.MakeArray n) place (pushed_all items (Runs frame locals stack ∷ s)) (progress_in old)) many
        (sym (taken (Stuck (progress_in old)) items stack _))
