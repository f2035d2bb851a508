-- Where private sends lead.
use Rattle.std.proofs.Common.{◌≡◌, ◌∷◌, ℕ, Option, Some, None, slice_get}
use Rattle.ns_base.specs.declared.selector.Sel.{Sel}
use Rattle.ns_code.specs.declared.program.CodeProgram.{CodeProgram}
use Rattle.ns_code.specs.declared.instruction.Instr.TheVariants as instr
use Rattle.ns_world.specs.declared.kernel.ClassName.{ClassName}
use Rattle.ns_moves.specs.State.{State}
use Rattle.ns_moves.specs.declared.running.Running.{Running as RunningCode}
use Rattle.ns_machine_frames.specs.declared.frame.Frame.TheVariants.{Running}
use Rattle.ns_machine_frames.specs.declared.frame.RunningFrame.{RunningFrame}
use Rattle.ns_machine_frames.specs.declared.registers.Registers.{Registers}
use Rattle.ns_machine_frames.specs.Stated.{ComeOffAgain}
use Rattle.ns_machine_frames.specs.Standing.{below}
use Rattle.ns_machine_core.specs.declared.led.Led.{Led}
use Rattle.ns_machine_core.specs.declared.led.Led.TheVariants.{Straight, Charged, On as OnTop, Answered, Nowhere}
use Rattle.ns_machine_core.specs.declared.state.Core.{Core}
use Rattle.ns_machine_core.specs.declared.state.Next.TheVariants.{On}
use Rattle.ns_machine_core.specs.Doing.{CanDo, running_of}
use Rattle.ns_machine_core.specs.Tried.{LeadsOrChangesNothing, led_on, led_charged}
use Rattle.ns_machine_sends.specs.declared.sent.Sent.{Sent}
use Rattle.ns_machine_sends.specs.laws.Selves.{own_sent, private_does}
use Rattle.ns_machine_quick.specs.Opening.{AroundOrNot, AroundCharges, AroundLeads}

-- What was tried leads on with the topmost frame,
pub around_on : (code : CodeProgram) (old new : Core) (at : Registers) (sent : Sent) (running : RunningCode) (level : ℕ) (done : Option Registers)
    → AroundOrNot code old at sent running level new done → AroundLeads code old at sent running level new (led_on done)
around_on code old new at sent running level (Some to) is = is
around_on code old new at sent running level None is = is

-- or straight on.
pub around_charges : (code : CodeProgram) (old new : Core) (at : Registers) (sent : Sent) (running : RunningCode) (level : ℕ) (done : Option Registers)
    → AroundCharges code old at sent running level new done → AroundLeads code old at sent running level new (led_charged done)
around_charges code old new at sent running level (Some to) is = is
around_charges code old new at sent running level None is = is

-- Where a private send leads, the instruction leads.
pub private_leads : ((missing : State) → ComeOffAgain missing) →
    (code : CodeProgram) (old new : Core) (at : Registers) (level : ℕ) (sel : Sel) (argc place : ℕ)
    (class : ClassName) (here : RunningCode) (running : RunningFrame) (led : Led) → CanDo code old at (instr.SendPrivate level sel argc)
    → old.stack.frames.items ≡ Running running ∷ below old.stack.frames.items → here ≡ running_of running.activation
    → AroundLeads code old at (own_sent at argc place class sel) here level new led
    → LeadsOrChangesNothing code (instr.SendPrivate level sel argc) (slice_get old.places place) old at new led
private_leads taken code old new at level sel argc place class here running (Straight to) can top e is =
    record { does = private_does taken code old new at level sel argc place class here running (On to) can top e is.0; stays = is.1 }
private_leads taken code old new at level sel argc place class here running (Charged to) can top e is =
    record { does = private_does taken code old new at level sel argc place class here running (On to) can top e is.0; stays = is.1 }
private_leads taken code old new at level sel argc place class here running (OnTop to) can top e is =
    private_does taken code old new at level sel argc place class here running (On to) can top e is
private_leads taken code old new at level sel argc place class here running (Answered to) can top e is = absurd is
private_leads taken code old new at level sel argc place class here running Nowhere can top e is = is
