-- Values, methods of the kernel and sends at which an action arrived.
use Rattle.std.proofs.Common.{◌≡◌, ◌<◌, ◌≤◌, ℕ, length, ap, refl, arith, Ok}
use Rattle.ns_base.specs.declared.selector.Sel.{Sel}
use Rattle.ns_code.specs.declared.program.CodeProgram.{CodeProgram}
use Rattle.ns_world.specs.declared.value.Value.{Value}
use Rattle.ns_world.specs.declared.kernel.ClassName.{ClassName}
use Rattle.ns_world.specs.Starts.{class_name_of}
use Rattle.ns_moves.specs.declared.control.Reached.TheVariants as reached
use Rattle.ns_moves.specs.State.{Pends, Performing}
use Rattle.ns_machine_frames.specs.declared.frame.Pending.TheVariants as pending
use Rattle.ns_machine_frames.specs.declared.registers.Registers.{Registers}
use Rattle.ns_machine_frames.specs.Stack.{stood, with_top}
use Rattle.ns_machine_frames.specs.View.{site_shown, frames_shown}
use Rattle.ns_machine_core.specs.declared.state.Core.{Core}
use Rattle.ns_machine_core.specs.declared.state.Next.{Next}
use Rattle.ns_machine_core.specs.declared.state.Next.TheVariants as next
use Rattle.ns_machine_core.specs.Shown.{phase_shown, progress_in}
use Rattle.ns_machine_core.specs.Arriving.{CanBegin, Arrives}
use Rattle.ns_machine_core.specs.Doing.{IsSettled}
use Rattle.ns_machine_core.specs.laws.Pushed.{waiting_stays}
use Rattle.ns_machine_sends.specs.declared.sent.Sent.{Sent}
use Rattle.ns_machine_sends.specs.Going.{control_at, IsLeft}

pub value_arrives : (code : CodeProgram) (old new : Core) (at : Registers) (sent : Sent) (value : Value) (next : Next)
    → IsSettled code old (with_top sent.floor at) sent.site (Ok value) new next
    → Arrives code old at sent.floor (control_at code old at sent (reached.Gives value)) new next
value_arrives code old new at sent value next is = record { state = is.state; stand = is.stand; run = is.run; stays = is.stays }

-- a frame can begin at a place between the floor and the arguments
pub begins_at : (code : CodeProgram) (core : Core) (at : Registers) (sent : Sent) (first : ℕ) → IsLeft code core at sent
    → length core.stack.frames.items < core.run.world.world.limits.depth → first ≤ sent.first → CanBegin code core at sent.floor first
begins_at code core at sent first left room low = record {
  begins = record {
    laid = left.stands.laid;
    waits = left.waits.stands.laid;
    low = let order = left.waits.order in let floor = left.waits.low in omega (arith, order, floor);
    frames = let all = left.rooms.frames in omega (arith, room, all);
  };
  within = left.stands.within;
  reach = let reach = left.waits.reach in omega (arith, low, reach);
}

pub can_begin : (code : CodeProgram) (core : Core) (at : Registers) (sent : Sent) → IsLeft code core at sent
    → length core.stack.frames.items < core.run.world.world.limits.depth → CanBegin code core at sent.floor sent.floor
can_begin code core at sent left room = begins_at code core at sent sent.floor left room left.waits.low

pub send_waits : (code : CodeProgram) (core : Core) (at : Registers) (sent : Sent) (receiver : Value) (sel : Sel) (array : ℕ) (class : ClassName)
    → IsLeft code core at sent → class ≡ class_name_of core.run.world.world.cells receiver
    → Arrives code core at sent.floor (control_at code core at sent (reached.Performs receiver sel array))
    (record core { waiting = pending.Performing receiver sel array (record { place = sent.site.place; class = class; sel = sel }) sent.floor }) (next.Waits at)
send_waits code core at sent receiver sel array class left same = record {
  state = ap (λ (c : ClassName). Pends (phase_shown core.phase)
      (Performing receiver sel array (site_shown core.places (record { place = sent.site.place; class = c; sel = sel })))
      (frames_shown code core.places (stood core.stack (with_top sent.floor at))) (progress_in core)) same;
  stand = (
    left.stands,
    record {
      order = let order = left.waits.order in let low = left.waits.low in omega (arith, order, low);
      low = omega arith;
      reach = let reach = left.waits.reach in let low = left.waits.low in omega (arith, low, reach);
      stands = left.waits.stands;
    },
  );
  run = refl;
  stays = waiting_stays core (pending.Performing receiver sel array (record { place = sent.site.place; class = class; sel = sel }) sent.floor);
}
