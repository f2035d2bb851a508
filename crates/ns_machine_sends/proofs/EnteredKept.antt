-- Bodies that were entered on the arguments that are kept.
use Rattle.std.proofs.Common.{◌≡◌, ◌+◌, ◌≤◌, ℕ, List, [], length, ap, sym, ◌∙◌, refl, subst, arith, true, false}
use Rattle.ns_code.specs.declared.program.CodeProgram.{CodeProgram}
use Rattle.ns_world.specs.declared.value.Value.{Value}
use Rattle.ns_moves.specs.declared.control.Exit.{Exit}
use Rattle.ns_moves.specs.declared.control.Exit.TheVariants as exit
use Rattle.ns_moves.specs.declared.control.Given.{Given}
use Rattle.ns_moves.specs.declared.control.Given.TheVariants as given
use Rattle.ns_moves.specs.declared.control.Entered.{Entered}
use Rattle.ns_moves.specs.declared.control.Reached.TheVariants as reached
use Rattle.ns_moves.specs.Bodies.{has_environment, locals_of, greatest_of}
use Rattle.ns_moves.specs.Control.{Control}
use Rattle.ns_moves.specs.Shown.{given_values, passed}
use Rattle.ns_moves.specs.Arrivals.{arrived}
use Rattle.ns_machine_frames.specs.declared.registers.Registers.{Registers}
use Rattle.ns_machine_frames.specs.Row.{FrameRow}
use Rattle.ns_machine_frames.specs.Room.{DepthGivesRoom}
use Rattle.ns_machine_frames.specs.Stack.{stood, with_top}
use Rattle.ns_machine_frames.specs.View.{site_shown, frames_shown}
use Rattle.ns_machine_core.specs.declared.state.Core.{Core}
use Rattle.ns_machine_core.specs.declared.state.Next.{Next}
use Rattle.ns_machine_core.specs.Shown.{phase_shown, progress_in}
use Rattle.ns_machine_core.specs.Arriving.{Arrives, reached_at}
use Rattle.ns_machine_core.specs.Entering.{ArgumentsAreLocals}
use Rattle.ns_machine_core.specs.laws.Kept.{rooms_stay}
use Rattle.ns_machine_core.specs.laws.Sizes.{size_fits}
use Rattle.ns_machine_sends.specs.declared.sent.Sent.{Sent}
use Rattle.ns_machine_sends.specs.Going.{arguments_in, control_at, ControlGoesOn, IsLeft, ArgumentsStand, ArePlaced}
use Rattle.ns_machine_sends.specs.Kept.{kept_control}
use Rattle.ns_machine_sends.proofs.Entered.{none_left}

-- what was sent, with arguments from its floor on, if there are any
abbrev from_floor : Sent → Sent
from_floor sent = record sent { first = sent.floor }

-- ---- in an environment

-- the control is the same, whatever arguments there are
inside_same : (code : CodeProgram) (core : Core) (sent : Sent) (exit : Exit) (entered : Entered) (some none : List Value) →
    has_environment code entered.body ≡ true
    → reached_at code core sent.site some (reached.Enters exit entered) ≡ reached_at code core sent.site none (reached.Enters exit entered)
inside_same code core sent exit entered some none e = rw e refl

pub bare_goes : (code : CodeProgram) (core : Core) (at : Registers) (sent : Sent) (exit : Exit) (entered : Entered) →
    has_environment code entered.body ≡ true
    → ControlGoesOn code (length core.stack.frames.items) (kept_control code core sent (reached.Enters exit entered))
    → ControlGoesOn code (length core.stack.frames.items) (control_at code core (with_top sent.floor at) (from_floor sent) (reached.Enters exit entered))
bare_goes code core at sent exit entered inside goes =
    subst (λ (c : Control). ControlGoesOn code (length core.stack.frames.items) c)
    (inside_same code core sent exit entered core.arguments.items (arguments_in core (with_top sent.floor at) (from_floor sent)) inside) goes

none_taken : (core : Core) (exit : Exit) → ArgumentsStand core exit given.Listed []
none_taken core exit.Method = refl
none_taken core exit.Body = refl
none_taken core (exit.Clause class) = refl

pub bare_taken : (core : Core) (at : Registers) (sent : Sent) (exit : Exit) (entered : Entered) → entered.given ≡ given.Listed
    → ArgumentsStand core exit entered.given (arguments_in core (with_top sent.floor at) (from_floor sent))
bare_taken core at sent exit entered listed =
    subst (λ (g : Given). ArgumentsStand core exit g (arguments_in core (with_top sent.floor at) (from_floor sent))) (sym listed)
    (subst (λ (vs : List Value). ArgumentsStand core exit given.Listed vs) (sym (none_left sent.floor core.stack.values.items)) (none_taken core exit))

pub bare_arrives : (code : CodeProgram) (core new : Core) (at : Registers) (sent : Sent) (exit : Exit) (entered : Entered) (next : Next)
    → has_environment code entered.body ≡ true
    → Arrives code core (with_top sent.floor at) sent.floor (control_at code core (with_top sent.floor at) (from_floor sent) (reached.Enters exit entered)) new next
    → Arrives code core at sent.floor (kept_control code core sent (reached.Enters exit entered)) new next
bare_arrives code core new at sent exit entered next inside is = record {
  state =
      let same = inside_same code core sent exit entered (arguments_in core (with_top sent.floor at) (from_floor sent)) core.arguments.items inside in
      is.state ∙ ap (λ (c : Control). arrived code (phase_shown core.phase) c (frames_shown code core.places (stood core.stack (with_top sent.floor at)))) same;
  stand = is.stand;
  run = is.run;
  stays = is.stays;
}

-- ---- beside the body

-- they have their places among its locals
pub kept_fit : (code : CodeProgram) → ArgumentsAreLocals code → DepthGivesRoom (greatest_of code.bodies) →
    (core : Core) (at : Registers) (sent : Sent) (exit : Exit)
    (entered : Entered) → IsLeft code core at sent → ControlGoesOn code (length core.stack.frames.items) (kept_control code core sent (reached.Enters exit entered))
    → entered.given ≡ given.Listed → passed exit core.arguments.items ≡ core.arguments.items → has_environment code entered.body ≡ false
    → sent.floor + length core.arguments.items ≤ core.stack.values.room
kept_fit code law depth core at sent exit entered left goes listed whole beside =
    let among : length core.arguments.items ≤ locals_of code entered.body =
    subst (λ (vs : List Value). length vs ≤ locals_of code entered.body) whole
    (subst (λ (g : Given). length (given_values core.run.world.world.cells (passed exit core.arguments.items) g) ≤ locals_of code entered.body) listed
    (law goes.own core.arguments.items exit entered (site_shown core.places sent.site) (progress_in core) left.sound goes.fits beside)) in
    let size = size_fits code entered.body in
    let reach = left.waits.reach in
    let low = left.waits.low in
    let room = left.rooms.values in
    let all = depth core.run.world.world.limits.depth sent.floor (length core.arguments.items) core.stack.frames.items goes.room (omega (arith, low, reach))
    (omega (arith, among, size)) in
    omega (arith, all, room)

module _ (code : CodeProgram) (core mid : Core) (at to : Registers) (sent : Sent) (placed : ArePlaced code core at sent.floor core.arguments.items mid to) where
  pub placed_left : IsLeft code core at sent → IsLeft code mid to (from_floor sent)
  placed_left left = record {
    sound = left.sound;
    rooms = rooms_stay code core mid left.rooms placed.stays;
    depth =
        let depth = left.depth in
        let limits = ap (λ l. l.depth) placed.stays.world.limits in
        let frames = ap (λ (kept : FrameRow). length kept.items) placed.frames in
        omega (arith, depth, limits, frames);
    stands = placed.stands;
    waits = placed.waits;
    place = let place = left.place in let filled = placed.filled in omega (arith, place, filled);
  }

  -- the control is the same
  placed_same : (exit : Exit) (entered : Entered) → control_at code mid to (from_floor sent) (reached.Enters exit entered) ≡ kept_control code core sent (reached.Enters exit entered)
  placed_same exit entered = rw (placed.arguments, placed.run, placed.stays.places) refl

  pub placed_goes : (exit : Exit) (entered : Entered) → ControlGoesOn code (length core.stack.frames.items) (kept_control code core sent (reached.Enters exit entered))
      → ControlGoesOn code (length mid.stack.frames.items) (control_at code mid to (from_floor sent) (reached.Enters exit entered))
  placed_goes exit entered goes =
      subst (λ (n : ℕ). ControlGoesOn code n (control_at code mid to (from_floor sent) (reached.Enters exit entered)))
      (ap (λ (kept : FrameRow). length kept.items) (sym placed.frames))
      (subst (λ (c : Control). ControlGoesOn code (length core.stack.frames.items) c) (sym (placed_same exit entered)) goes)

  pub placed_taken : (exit : Exit) (entered : Entered) → entered.given ≡ given.Listed → passed exit core.arguments.items ≡ core.arguments.items
      → ArgumentsStand mid exit entered.given (arguments_in mid to (from_floor sent))
  placed_taken exit entered listed whole =
      subst (λ (g : Given). ArgumentsStand mid exit g (arguments_in mid to (from_floor sent))) (sym listed)
      (subst (λ (vs : List Value). ArgumentsStand mid exit given.Listed vs) (sym placed.arguments) (sym whole))

  pub placed_arrives : (new : Core) (exit : Exit) (entered : Entered) (next : Next)
      → Arrives code mid to sent.floor (control_at code mid to (from_floor sent) (reached.Enters exit entered)) new next
      → Arrives code core at sent.floor (kept_control code core sent (reached.Enters exit entered)) new next
  placed_arrives new exit entered next is = record {
    state = is.state ∙ same;
    stand = is.stand;
    run = is.run ∙ placed.run;
    stays = record {
      world = record {
        limits = is.stays.world.limits ∙ placed.stays.world.limits;
        room = (is.stays.world.room.0 ∙ placed.stays.world.room.0, is.stays.world.room.1 ∙ placed.stays.world.room.1);
      };
      values = is.stays.values ∙ placed.stays.values;
      frames = is.stays.frames ∙ placed.stays.frames;
      places = is.stays.places ∙ placed.stays.places;
      arguments = is.stays.arguments ∙ placed.stays.arguments;
    };
  }
    where
      same : arrived code (phase_shown mid.phase) (control_at code mid to (from_floor sent) (reached.Enters exit entered))
          (frames_shown code mid.places (stood mid.stack (with_top sent.floor to)))
          ≡ arrived code (phase_shown core.phase) (kept_control code core sent (reached.Enters exit entered))
          (frames_shown code core.places (stood core.stack (with_top sent.floor at)))
      same = rw (placed.arguments, placed.below, placed.phase, placed.run, placed.stays.places) refl
