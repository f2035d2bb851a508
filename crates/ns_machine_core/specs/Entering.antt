-- What a body that an action reached needs, so that it can be entered.
use Rattle.std.specs.Prelude.{◌≡◌, ℕ, ◌<◌, ◌≤◌, List, length, false}
use Rattle.ns_code.specs.declared.program.CodeProgram.{CodeProgram}
use Rattle.ns_verify.specs.Verify.{IsSound}
use Rattle.ns_world.specs.declared.value.Value.{Value}
use Rattle.ns_moves.specs.Bodies.{has_environment, locals_of}
use Rattle.ns_moves.specs.Control.{Progress}
use Rattle.ns_moves.specs.declared.site.Site.{Site}
use Rattle.ns_moves.specs.declared.control.Exit.{Exit}
use Rattle.ns_moves.specs.declared.control.Entered.{Entered}
use Rattle.ns_moves.specs.declared.control.Reached.TheVariants as reached
use Rattle.ns_moves.specs.Shown.{given_values, passed, reached_shown}
use Rattle.ns_moves.specs.Fitting.{FitsNext}
use Rattle.ns_machine_frames.specs.declared.calls.Call.{Call}
use Rattle.ns_machine_frames.specs.declared.registers.Registers.{Registers}
use Rattle.ns_machine_frames.specs.Calls.{arguments_for, arguments_of, HasPlaceFor}
use Rattle.ns_machine_core.specs.declared.state.Core.{Core}
use Rattle.ns_machine_core.specs.Shown.{progress_in}
use Rattle.ns_machine_core.specs.Standing.{HasRooms}
use Rattle.ns_machine_core.specs.Arriving.{CanBegin, CanEnter}

-- The frame of a body was charged, its arguments stand from a place on up to the top, behind the values of its caller, and a clause has none.
pub record MayEnter (code : CodeProgram) (core : Core) (at : Registers) (call : Call) (exit : Exit) (entered : Entered) : Type 0 where
  pub begins : CanBegin code core at call.floor call.first
  pub rooms : HasRooms code core
  pub depth : length core.stack.frames.items < core.run.world.world.limits.depth
  pub floor : call.floor ≤ call.first
  pub first : call.first ≤ at.top
  pub place : HasPlaceFor entered.given call.floor (length core.stack.values.items)
  pub given : arguments_for (arguments_of call core.stack at) entered.given
      ≡ given_values core.run.world.world.cells (passed exit (arguments_of call core.stack at)) entered.given

-- A body that an action of sound code has reached can be entered.
abbrev pub WhatIsReachedIsEntered : CodeProgram → Type 0
WhatIsReachedIsEntered code =
    (own : ℕ) (core : Core) (at : Registers) (call : Call) (exit : Exit) (entered : Entered) (site : Site) → IsSound code
    → FitsNext own code (reached_shown code site (arguments_of call core.stack at) (reached.Enters exit entered) (progress_in core))
    → MayEnter code core at call exit entered → CanEnter code core at call exit entered

-- The arguments with which an action of sound code enters a body are among its locals, where these stand beside it.
abbrev pub ArgumentsAreLocals : CodeProgram → Type 0
ArgumentsAreLocals code =
    (own : ℕ) (values : List Value) (exit : Exit) (entered : Entered) (site : Site) (progress : Progress) → IsSound code
    → FitsNext own code (reached_shown code site values (reached.Enters exit entered) progress) → has_environment code entered.body ≡ false
    → length (given_values progress.world.cells (passed exit values) entered.given) ≤ locals_of code entered.body
