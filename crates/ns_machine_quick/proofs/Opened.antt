-- Methods that begin, with room for them.
use Rattle.std.proofs.Common.{◌≡◌, ℕ, List, ap, ◌∙◌, subst, Some}
use Rattle.ns_code.specs.declared.program.CodeProgram.{CodeProgram}
use Rattle.ns_world.specs.declared.value.Value.{Value}
use Rattle.ns_world.specs.World.{World, WorldView, stepped}
use Rattle.ns_find.specs.declared.found.Found.{Found}
use Rattle.ns_find.specs.declared.found.Found.TheVariants.{Method}
use Rattle.ns_moves.specs.declared.control.Reached.{Reached}
use Rattle.ns_moves.specs.declared.control.Reached.TheVariants as reached
use Rattle.ns_moves.specs.Control.{Activation}
use Rattle.ns_moves.specs.Sends.{Target, Listed, found_at, receiver_of, method_entered, answered_by}
use Rattle.ns_moves.specs.Shown.{reached_shown}
use Rattle.ns_moves.specs.declared.run.Run.{Run}
use Rattle.ns_moves.specs.declared.sends.Answered.TheVariants.{Comes}
use Rattle.ns_moves.specs.Run.{progress_of}
use Rattle.ns_machine_frames.specs.declared.registers.Registers.{Registers}
use Rattle.ns_machine_frames.specs.View.{site_shown}
use Rattle.ns_machine_core.specs.declared.state.Core.{Core}
use Rattle.ns_machine_core.specs.Shown.{progress_in}
use Rattle.ns_machine_sends.specs.declared.sent.Sent.{Sent}
use Rattle.ns_machine_sends.specs.Going.{arguments_in, answered_at}
use Rattle.ns_machine_sends.specs.Sending.{looked_up}
use Rattle.ns_machine_quick.specs.Opening.{begun_at}
use Rattle.ns_machine_core.specs.laws.Charged.{step_is}
use Rattle.ns_machine_core.specs.laws.Worlds.{in_other}

-- ---- what the send came to

pub method_comes : (code : CodeProgram) (core : Core) (at : Registers) (sent : Sent) (receiver : Value) (body holder : ℕ) (run : Run) (r : Reached)
    (values : List Value) → values ≡ arguments_in core at sent
    → reached_shown code (site_shown core.places sent.site) values r (progress_of run)
    ≡ method_entered code body holder receiver (Listed values) (site_shown core.places sent.site) (progress_in core)
    → answered_at code (record core { run = run }) at sent receiver (Comes r) ≡ begun_at code core at sent receiver body holder
method_comes code core at sent receiver body holder run r values same is =
    subst (λ (vs : List Value). reached_shown code (site_shown core.places sent.site) vs r (progress_of run)
    ≡ method_entered code body holder receiver (Listed vs) (site_shown core.places sent.site) (progress_in core)) same is

-- a send that found it begins it
pub method_found : (code : CodeProgram) (core : Core) (at : Registers) (sent : Sent) (receiver : Value) (body holder : ℕ) (activation : Activation) (target : Target)
    → found_at core.run.world.world.cells code activation target sent.site.sel.0 ≡ Method body holder → receiver_of core.run.world.world.cells activation target ≡ receiver
    → looked_up code core at sent activation target ≡ begun_at code core at sent receiver body holder
method_found code core at sent receiver body holder activation target finds to =
    ap (λ (f : Found). answered_by code f sent.site.sel (receiver_of core.run.world.world.cells activation target) (arguments_in core at sent)
    (site_shown core.places sent.site) (progress_in core)) finds
    ∙ ap (λ (r : Value). method_entered code body holder r (Listed (arguments_in core at sent)) (site_shown core.places sent.site) (progress_in core)) to

-- and so it does once its step is charged
pub found_later : (code : CodeProgram) (core : Core) (at : Registers) (sent : Sent) (receiver : Value) (body holder : ℕ) (activation : Activation) (target : Target)
    (world : WorldView) → stepped core.run.world.world ≡ Some world.world
    → found_at core.run.world.world.cells code activation target sent.site.sel.0 ≡ Method body holder → receiver_of core.run.world.world.cells activation target ≡ receiver
    → looked_up code (in_other core world) at sent activation target ≡ begun_at code (in_other core world) at sent receiver body holder
found_later code core at sent receiver body holder activation target world e finds to =
    method_found code (in_other core world) at sent receiver body holder activation target (rw cells finds) (rw cells to)
  where
    cells : world.world.cells ≡ core.run.world.world.cells
    cells = ap (λ (w : World). w.cells) (step_is core.run.world.world world.world e)
