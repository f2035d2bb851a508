-- Bodies that were entered.
use Rattle.std.proofs.Common.{◌≡◌, ◌+◌, ◌<◌, ℕ, List, [], length, take, drop, ap, sym, ◌∙◌, refl, subst, arith}
use Rattle.std.proofs.lemmas.List.{drop-take}
use Rattle.ns_code.specs.declared.program.CodeProgram.{CodeProgram}
use Rattle.ns_world.specs.declared.value.Value.{Value}
use Rattle.ns_moves.specs.declared.control.Exit.{Exit}
use Rattle.ns_moves.specs.declared.control.Exit.TheVariants as exit
use Rattle.ns_moves.specs.declared.control.Given.{Given}
use Rattle.ns_moves.specs.declared.control.Given.TheVariants as given
use Rattle.ns_moves.specs.declared.control.Entered.{Entered}
use Rattle.ns_moves.specs.declared.control.Reached.TheVariants as reached
use Rattle.ns_moves.specs.Control.{Control}
use Rattle.ns_machine_frames.specs.declared.calls.Call.{Call}
use Rattle.ns_machine_frames.specs.declared.frame.Leaving.{Leaving}
use Rattle.ns_machine_frames.specs.declared.registers.Registers.{Registers}
use Rattle.ns_machine_frames.specs.Calls.{HasPlaceFor}
use Rattle.ns_moves.specs.Arrivals.{arrived}
use Rattle.ns_machine_frames.specs.Stack.{stood, with_top}
use Rattle.ns_machine_frames.specs.View.{site_shown, frames_shown}
use Rattle.ns_machine_core.specs.declared.state.Core.{Core}
use Rattle.ns_machine_core.specs.declared.state.Next.{Next}
use Rattle.ns_machine_core.specs.Shown.{phase_shown}
use Rattle.ns_machine_core.specs.Arriving.{CanEnter, Arrives, reached_at}
use Rattle.ns_machine_core.specs.Entering.{WhatIsReachedIsEntered}
use Rattle.ns_machine_sends.specs.declared.sent.Sent.{Sent}
use Rattle.ns_machine_sends.specs.Going.{arguments_in, control_at, ControlGoesOn, IsLeft, TakesNone, ArgumentsStand}
use Rattle.ns_machine_sends.proofs.Arrived.{begins_at}

has_place : (g : Given) (floor filled : ℕ) → floor < filled → HasPlaceFor g floor filled
has_place given.Listed floor filled low = tt
has_place (given.Message at) floor filled low = low
has_place (given.Items at) floor filled low = tt

-- the call of a send
abbrev pub call_of : Leaving → Sent → Call
call_of leaving sent = record { leaving = leaving; site = sent.site; floor = sent.floor; first = sent.first }

pub may_enter : ((code : CodeProgram) → WhatIsReachedIsEntered code) →
    (code : CodeProgram) (core : Core) (at : Registers) (sent : Sent) (leaving : Leaving) (exit : Exit)
    (entered : Entered) → IsLeft code core at sent
    → ControlGoesOn code (length core.stack.frames.items) (control_at code core at sent (reached.Enters exit entered))
    → ArgumentsStand core exit entered.given (arguments_in core at sent) → CanEnter code core at (call_of leaving sent) exit entered
may_enter law code core at sent leaving exit entered left goes taken =
    law code goes.own core at (call_of leaving sent) exit entered (site_shown core.places sent.site) left.sound goes.fits
    (record {
      begins = begins_at code core at sent sent.first left goes.room (omega arith);
      rooms = left.rooms;
      depth = goes.room;
      floor = left.waits.low;
      first = left.waits.order;
      place = has_place entered.given sent.floor (length core.stack.values.items) left.place;
      given = taken;
    })

-- ---- without arguments

pub none_left : (floor : ℕ) (values : List Value) → drop floor (take floor values) ≡ []
none_left floor values =
    let same : floor + 0 ≡ floor = omega arith in
    subst (λ (n : ℕ). drop floor (take n values) ≡ []) same (drop-take floor 0 values)

pub left_bare : (code : CodeProgram) (core : Core) (at : Registers) (sent : Sent) → IsLeft code core at sent
    → IsLeft code core (with_top sent.floor at) (record sent { first = sent.floor })
left_bare code core at sent left = record {
  sound = left.sound;
  rooms = left.rooms;
  depth = left.depth;
  stands = left.waits.stands;
  waits = record {
    order = omega arith;
    low = omega arith;
    reach = let reach = left.waits.reach in let low = left.waits.low in omega (arith, low, reach);
    stands = left.waits.stands;
  };
  place = left.place;
}

-- the control is the same, whatever arguments stand there
without_same : (code : CodeProgram) (core : Core) (sent : Sent) (exit : Exit) (entered : Entered) (g : Given) (some none : List Value) →
    entered.given ≡ g → TakesNone g exit
    → reached_at code core sent.site some (reached.Enters exit entered) ≡ reached_at code core sent.site none (reached.Enters exit entered)
without_same code core sent exit entered (given.Message at) some none e takes = rw e refl
without_same code core sent exit entered (given.Items at) some none e takes = absurd takes
without_same code core sent exit.Method entered given.Listed some none e takes = absurd takes
without_same code core sent exit.Body entered given.Listed some none e takes = absurd takes
without_same code core sent (exit.Clause class) entered given.Listed some none e takes = refl

pub bare_goes : (code : CodeProgram) (core : Core) (at : Registers) (sent : Sent) (exit : Exit) (entered : Entered) →
    TakesNone entered.given exit
    → ControlGoesOn code (length core.stack.frames.items) (control_at code core at sent (reached.Enters exit entered))
    → ControlGoesOn code (length core.stack.frames.items)
    (control_at code core (with_top sent.floor at) (record sent { first = sent.floor }) (reached.Enters exit entered))
bare_goes code core at sent exit entered takes goes =
    subst (λ (c : Control). ControlGoesOn code (length core.stack.frames.items) c)
    (without_same code core sent exit entered entered.given (arguments_in core at sent) (arguments_in core (with_top sent.floor at) (record sent { first = sent.floor })) refl takes) goes

taken_none : (core : Core) (exit : Exit) (g : Given) → TakesNone g exit → ArgumentsStand core exit g []
taken_none core exit (given.Message at) takes = refl
taken_none core exit (given.Items at) takes = absurd takes
taken_none core exit.Method given.Listed takes = absurd takes
taken_none core exit.Body given.Listed takes = absurd takes
taken_none core (exit.Clause class) given.Listed takes = refl

pub bare_taken : (core : Core) (at : Registers) (sent : Sent) (exit : Exit) (entered : Entered) → TakesNone entered.given exit
    → ArgumentsStand core exit entered.given (arguments_in core (with_top sent.floor at) (record sent { first = sent.floor }))
bare_taken core at sent exit entered takes =
    subst (λ (vs : List Value). ArgumentsStand core exit entered.given vs) (sym (none_left sent.floor core.stack.values.items)) (taken_none core exit entered.given takes)

pub bare_arrives : (code : CodeProgram) (core new : Core) (at : Registers) (sent : Sent) (exit : Exit) (entered : Entered) (next : Next) →
    TakesNone entered.given exit
    → Arrives code core (with_top sent.floor at) sent.floor
    (control_at code core (with_top sent.floor at) (record sent { first = sent.floor }) (reached.Enters exit entered)) new next
    → Arrives code core at sent.floor (control_at code core at sent (reached.Enters exit entered)) new next
bare_arrives code core new at sent exit entered next takes is = record {
  state =
      let same = without_same code core sent exit entered entered.given (arguments_in core at sent)
      (arguments_in core (with_top sent.floor at) (record sent { first = sent.floor })) refl takes in
      is.state ∙ ap (λ (c : Control). arrived code (phase_shown core.phase) c (frames_shown code core.places (stood core.stack (with_top sent.floor at)))) (sym same);
  stand = is.stand;
  run = is.run;
  stays = is.stays;
}
