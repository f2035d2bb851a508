-- Sends from their step on, where the move after them is made too.
use Rattle.std.proofs.Common.{◌≡◌, sym, subst, Some}
use Rattle.ns_code.specs.declared.program.CodeProgram.{CodeProgram}
use Rattle.ns_world.specs.declared.value.Value.{Value}
use Rattle.ns_world.specs.World.{WorldView, SameRoom, stepped}
use Rattle.ns_moves.specs.Control.{Activation, Control}
use Rattle.ns_moves.specs.Sends.{Target, receiver_of}
use Rattle.ns_machine_frames.specs.declared.registers.Registers.{Registers}
use Rattle.ns_machine_core.specs.declared.state.Core.{Core}
use Rattle.ns_machine_core.specs.declared.state.Next.{Next}
use Rattle.ns_machine_core.specs.laws.Worlds.{in_other}
use Rattle.ns_machine_sends.specs.declared.sent.Sent.{Sent}
use Rattle.ns_machine_sends.specs.Sending.{CanSend, looked_up, sent_at}
use Rattle.ns_machine_sends.specs.laws.Stepped.{StepAndAnswer, sent_stepped, step_stays, step_kept}
use Rattle.ns_machine_quick.specs.Booleans.{AnswersAt}

-- With its step an answered send is the send.
pub step_answers : StepAndAnswer →
    (code : CodeProgram) (core new : Core) (at : Registers) (sent : Sent) (receiver : Value) (activation : Activation) (target : Target)
    (world : WorldView) (next : Next) → stepped core.run.world.world ≡ Some world.world → SameRoom core.run.world world
    → receiver_of core.run.world.world.cells activation target ≡ receiver → CanSend code core at sent receiver
    → AnswersAt code (in_other core world) at sent.floor (looked_up code (in_other core world) at sent activation target) new next
    → AnswersAt code core at sent.floor (sent_at code core at sent activation target) new next
step_answers steps code core new at sent receiver activation target world next e room to can is =
    subst (λ (c : Control). AnswersAt code core at sent.floor c new next)
    (sym (sent_stepped steps code core at sent receiver activation target world e to can.named))
    (record {
      state = is.state;
      goes = is.goes;
      free = is.free;
      stand = is.stand;
      stays = step_stays core new world e room is.stays;
      kept = step_kept code core new world e is.kept;
    })
