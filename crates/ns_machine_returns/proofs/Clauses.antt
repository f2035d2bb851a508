-- The end of a clause, which makes a nested class.
use Rattle.std.proofs.Common.{◌≡◌, ℕ, List, ap, sym, ◌∙◌, subst, Ok, Err, Result}
use Rattle.ns_code.specs.declared.program.CodeProgram.{CodeProgram}
use Rattle.ns_world.specs.declared.value.Value.{Value}
use Rattle.ns_world.specs.declared.ending.Fault.{Fault}
use Rattle.ns_world.specs.Lawful.{IsLawful, IsLiveValue}
use Rattle.ns_world.specs.World.{WorldView, left}
use Rattle.ns_world.specs.Heap.{cell_number}
use Rattle.ns_moves.specs.declared.site.Site.{Site}
use Rattle.ns_moves.specs.Control.{Progress, Activation, Exit, FromClause, in_world}
use Rattle.ns_moves.specs.Classes.{body_ended}
use Rattle.ns_moves.specs.Lawful.{LawfulRun, LawfulAfter, FitsExit}
use Rattle.ns_moves.specs.Shown.{answer_shown}
use Rattle.ns_moves.specs.Returns.{settled, returned}
use Rattle.ns_moves.specs.WorldAsks.{CanLeave}
use Rattle.ns_moves.specs.Running.{activation_at}
use Rattle.ns_machine_frames.specs.declared.frame.Leaving.{Leaving}
use Rattle.ns_machine_frames.specs.declared.frame.Leaving.TheVariants as leaving
use Rattle.ns_machine_frames.specs.declared.frame.RunningFrame.{RunningFrame}
use Rattle.ns_machine_frames.specs.declared.registers.Registers.{Registers}
use Rattle.ns_machine_frames.specs.declared.stack.Stack.{Stack}
use Rattle.ns_machine_frames.specs.Standing.{Stood, below}
use Rattle.ns_machine_frames.specs.Stack.{stood}
use Rattle.ns_machine_frames.specs.View.{site_shown, leaving_shown, activation_shown, frames_shown}
use Rattle.ns_machine_core.specs.declared.state.Core.{Core}
use Rattle.ns_machine_core.specs.declared.state.Next.{Next}
use Rattle.ns_machine_core.specs.Shown.{phase_shown, progress_in}
use Rattle.ns_machine_core.specs.Framed.{HasRoomOnTop, answers}
use Rattle.ns_machine_core.specs.Doing.{running_of, IsSettled}
use Rattle.ns_machine_core.specs.laws.Kept.{stays_on}
use Rattle.ns_machine_returns.specs.Handing.{GivesLive}
use Rattle.ns_machine_returns.specs.Ending.{CanEnd, IsEnded}
use Rattle.ns_machine_returns.proofs.Left.{over, IsLeft, left_stays}
use Rattle.ns_machine_returns.proofs.Ended.{room_below}

pub clause_exit : (code : CodeProgram) (core : Core) (at : Registers) (frame : RunningFrame) (value : Value) (class : ℕ) →
    CanEnd code core at frame value
    → frame.leaving ≡ leaving.Clause class
    → FitsExit core.run.world.world.cells code (FromClause (cell_number frame.activation.me) frame.activation.holder class)
clause_exit code core at frame value class can is =
    subst (λ (l : Leaving). CanLeave core.run.world.world.cells code (leaving_shown l frame.activation)) is can.leaves

pub clause_room : (code : CodeProgram) (core : Core) (at : Registers) (frame : RunningFrame) (value : Value) (class : ℕ) →
    CanEnd code core at frame value
    → frame.leaving ≡ leaving.Clause class → HasRoomOnTop code (below (stood core.stack at))
clause_room code core at frame value class can is = room_below code core at frame value can (ap answers is)

-- a lawful answer leaves a lawful world, and what it gives is live
pub after_lawful : (code : CodeProgram) (site : Site) (p : Progress) (answer : Result Value Fault) →
    LawfulAfter code (answer_shown site answer p)
    → IsLawful p.world code × GivesLive p.world.cells code answer
after_lawful code site p (Ok value) lawful = lawful
after_lawful code site p (Err fault) lawful = (lawful, tt)

pub clause_after : ((code : CodeProgram) (exit : Exit) (activation : Activation) (value : Value) (p : Progress) → LawfulRun code p → FitsExit p.world.cells code exit
    → IsLiveValue p.world.cells code value → LawfulAfter code (body_ended code exit activation value p))
    → (code : CodeProgram) (core : Core) (at : Registers) (world : WorldView) (frame : RunningFrame) (value : Value) (class : ℕ) (answer : Result Value Fault)
    → CanEnd code core at frame value → frame.leaving ≡ leaving.Clause class
    → ((site : Site) (rest : Progress) → answer_shown site answer (in_world rest world.world)
    ≡ body_ended code (FromClause (cell_number frame.activation.me) frame.activation.holder class)
    (activation_at site (running_of frame.activation)) value (in_world rest core.run.world.world))
    → IsLawful world.world code × GivesLive world.world.cells code answer
clause_after law code core at world frame value class answer can is ended =
    let site = site_shown core.places frame.activation.site in
    after_lawful code site (in_world (progress_in core) world.world) answer
    (subst (LawfulAfter code) (sym (ended site (progress_in core)))
    (law code (FromClause (cell_number frame.activation.me) frame.activation.holder class) (activation_at site (running_of frame.activation)) value (progress_in core)
    can.lawful (clause_exit code core at frame value class can is) can.live))

pub clause_over : (code : CodeProgram) (core new : Core) (at here : Registers) (world : WorldView) (stack : Stack) (frame : RunningFrame) (value : Value) (class : ℕ)
    (answer : Result Value Fault) (n : Next) → CanEnd code core at frame value → frame.leaving ≡ leaving.Clause class → IsLeft core at world stack here
    → ((site : Site) (rest : Progress) → answer_shown site answer (in_world rest world.world)
    ≡ body_ended code (FromClause (cell_number frame.activation.me) frame.activation.holder class)
    (activation_at site (running_of frame.activation)) value (in_world rest core.run.world.world))
    → IsSettled code (over core world stack) here frame.activation.site answer new n → IsEnded code core at frame value new n
clause_over code core new at here world stack frame value class answer n can is left ended is_settled = record {
  state = is_settled.state
      ∙ (ap (λ (s : List Stood). settled code (phase_shown core.phase)
      (answer_shown (site_shown core.places frame.activation.site) answer (in_world (progress_in core) world.world)) (frames_shown code core.places s)) left.stood
      ∙ (ap (λ after. settled code (phase_shown core.phase) after (frames_shown code core.places (below (stood core.stack at))))
      (ended (site_shown core.places frame.activation.site) (progress_in core))
      ∙ ap (λ (l : Leaving). returned code (phase_shown core.phase) (leaving_shown l frame.activation) (activation_shown core.places frame.activation) value
      (frames_shown code core.places (below (stood core.stack at))) (progress_in core)) (sym is)));
  stand = is_settled.stand;
  stays = stays_on core (over core world stack) new (left_stays core at here world stack left) is_settled.stays;
  kept = rw is_settled.run can.kept;
}
