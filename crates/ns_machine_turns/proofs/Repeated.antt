-- The end of a block that `to:do:` evaluates, and the next action of the method, which is done without what the block has answered.
use Rattle.std.proofs.Common.{◌≡◌, ℕ, ◌≤◌, List, ◌∷◌, length, take, refl, ap, sym, ◌∙◌, subst, arith, Option}
use Rattle.ns_base.specs.declared.place.Place.{Place as SourcePlace}
use Rattle.ns_code.specs.declared.instruction.Instr.TheVariants as instr
use Rattle.ns_code.specs.declared.program.CodeProgram.{CodeProgram}
use Rattle.ns_facets.specs.declared.row.Grants.{Grants}
use Rattle.ns_world.specs.declared.kernel_parts.KMethod.TheVariants as method
use Rattle.ns_world.specs.declared.value.Value.{Value}
use Rattle.ns_world.specs.declared.value.Value.TheVariants.{Ref}
use Rattle.ns_world.specs.World.{World, WorldView, left as left_world}
use Rattle.ns_moves.specs.Arrivals.{acted_on}
use Rattle.ns_moves.specs.Bodies.{height_in, greatest_of}
use Rattle.ns_moves.specs.Control.{Progress, Waiting, in_world, frame_left}
use Rattle.ns_moves.specs.Lawful.{LiveState}
use Rattle.ns_moves.specs.Move.{move}
use Rattle.ns_moves.specs.Room.{SameRest}
use Rattle.ns_moves.specs.State.{Going}
use Rattle.ns_machine_frames.specs.declared.frame.Frame.{Frame}
use Rattle.ns_machine_frames.specs.declared.frame.Frame.TheVariants.{Looping}
use Rattle.ns_machine_frames.specs.declared.frame.LoopingFrame.{LoopingFrame}
use Rattle.ns_machine_frames.specs.declared.registers.Registers.{Registers}
use Rattle.ns_machine_frames.specs.declared.stack.Stack.{Stack}
use Rattle.ns_machine_frames.specs.Leaving.{answered}
use Rattle.ns_machine_frames.specs.Room.{FramesFitWithin}
use Rattle.ns_machine_frames.specs.Row.{FrameRow, ValueRow}
use Rattle.ns_machine_frames.specs.Stack.{in_use, stood, IsLaid}
use Rattle.ns_machine_frames.specs.Standing.{Stood, Loops, standing, at_next, below, AreLaid}
use Rattle.ns_machine_frames.specs.View.{site_shown, frames_shown}
use Rattle.ns_machine_plan.specs.declared.plan.Plan.{Plan}
use Rattle.ns_machine_core.specs.declared.own.OwnSends.{OwnSends}
use Rattle.ns_machine_core.specs.declared.state.Core.{Core}
use Rattle.ns_machine_core.specs.declared.state.Next.{Next}
use Rattle.ns_machine_core.specs.declared.state.Next.TheVariants.{On, Waits}
use Rattle.ns_machine_core.specs.Framed.{AreFramed}
use Rattle.ns_machine_core.specs.Moving.{IsNextStep}
use Rattle.ns_machine_core.specs.Ready.{MachineIsReady, MakesMove}
use Rattle.ns_machine_core.specs.Shown.{phase_shown, progress_in, shown}
use Rattle.ns_machine_core.specs.Standing.{AreStanding}
use Rattle.ns_machine_returns.specs.Acting.{IsActing, CanAct, ReadyCanAct, awaiting}
use Rattle.ns_machine_turns.specs.declared.acting.Acted.{Acted}
use Rattle.ns_machine_turns.specs.declared.acting.Acted.TheVariants.{Evaluates, Goes}
use Rattle.ns_machine_turns.specs.Looping.{ActsTo, HasActed, LoopsBy}
use Rattle.ns_machine_turns.specs.Turning.{GoesAlong, MovesChargeOne, MovesGoAlong, RunsBy}
use Rattle.ns_machine_turns.proofs.Along.{none_gone}
use Rattle.ns_machine_turns.proofs.Fetched.{operands_at}
use Rattle.ns_machine_turns.proofs.Looped.{acts_along}
use Rattle.ns_machine_turns.proofs.OnTurn.{HasTurn, asks_nothing, both_stand, block_returns, live_loop, others_stand, returned_state, value_of}

-- ---- the block's frame given back

-- The topmost frame was taken off, and its depth given back.
pub record HasLeft (core : Core) (at : Registers) (world : WorldView) (stack : Stack) (here : Registers) : Type 0 where
  pub ended : (rest : Progress) → in_world rest world.world ≡ frame_left (in_world rest core.run.world.world)
  pub rest : SameRest core.run.world world
  pub stood : stood stack here ≡ below (stood core.stack at)
  pub laid : IsLaid stack here
  pub values : stack.values ≡ core.stack.values
  pub frames : stack.frames ≡ record core.stack.frames { items = below core.stack.frames.items }

module _ (code : CodeProgram) (core : Core) (at here : Registers) (world : WorldView) (stack : Stack) (turn : HasTurn core.stack.frames.items)
    (gone : HasLeft core at world stack here) where
  abbrev others_here : List Stood
  others_here = others_stand code core at turn

  -- the machine without the block's frame, and with its answer
  abbrev without : Core
  without = record core { run = record core.run { world = world }; stack = stack }

  abbrev answered_loop : Value → LoopingFrame
  answered_loop value = record turn.looping { state = answered value turn.looping.state }

  abbrev answering : Value → Core
  answering value = record without { stack = record stack { frames = record stack.frames { items = Looping (answered_loop value) ∷ turn.others } } }

  items_left : stack.frames.items ≡ Looping turn.looping ∷ turn.others
  items_left = ap (λ (row : FrameRow). row.items) gone.frames ∙ ap (λ (frames : List Frame). below frames) turn.top

  pub loops_left : LoopsBy method.ToDo stack.frames.items
  loops_left = subst (LoopsBy method.ToDo) (sym items_left) turn.repeats

  loop_stands : stood stack here ≡ Loops turn.looping ∷ others_here
  loop_stands = gone.stood ∙ ap (λ (s : List Stood). below s) (both_stand code core at turn at.next)

  others_still : standing turn.others (take turn.looping.floor (in_use stack here)) ≡ others_here
  others_still =
      ap (λ (s : List Stood). below s)
      (sym (ap (λ (frames : List Frame). standing (at_next here.next frames) (in_use stack here)) items_left) ∙ loop_stands)

  answer_stands : (value : Value) → stood (answering value).stack here ≡ Loops (answered_loop value) ∷ others_here
  answer_stands value = ap (λ (s : List Stood). Loops (answered_loop value) ∷ s) others_still

  same_world : world.world ≡ left_world core.run.world.world
  same_world = ap (λ (p : Progress). p.world) (gone.ended (progress_in core))

  -- ---- the end of the block

  answer_shown : (value : Value) → shown code (answering value) (On here) ≡ returned_state code core at turn value
  answer_shown value =
      ap (λ (s : List Stood). Going (phase_shown core.phase) (frames_shown code core.places s) (in_world (progress_in core) world.world)) (answer_stands value)
      ∙ ap (λ (p : Progress). Going (phase_shown core.phase) (frames_shown code core.places (Loops (answered_loop value) ∷ others_here)) p)
      (gone.ended (progress_in core))

  loop_within : FramesFitWithin (height_in code) (greatest_of code.bodies) (length core.stack.values.items) core.stack.frames.items
      → FramesFitWithin (height_in code) (greatest_of code.bodies) (length stack.values.items) (Looping turn.looping ∷ turn.others)
  loop_within within =
      subst (λ (row : ValueRow). FramesFitWithin (height_in code) (greatest_of code.bodies) (length row.items) (Looping turn.looping ∷ turn.others)) (sym gone.values)
      (subst (FramesFitWithin (height_in code) (greatest_of code.bodies) (length core.stack.values.items)) turn.top within).2

  answer_standing : (value : Value) → AreStanding code core.stack at → AreStanding code (answering value).stack here
  answer_standing value stands =
      let within = loop_within stands.within in
      record {
        laid = record {
          frames = subst (λ (frames : List Frame). AreLaid frames here.top) items_left gone.laid.frames;
          base = tt;
          filled = gone.laid.filled;
          within = gone.laid.within;
          small = gone.laid.small;
        };
        within = (within.0, within.1, within.2);
      }

  without_standing : AreStanding code core.stack at → AreStanding code stack here
  without_standing stands = record {
    laid = gone.laid;
    within = subst (FramesFitWithin (height_in code) (greatest_of code.bodies) (length stack.values.items)) (sym items_left) (loop_within stands.within);
  }

  -- The block has ended with that value: a move.
  block_ends : (grants : Grants) (place : Option SourcePlace) (value : Value) (operands : List Value) → MachineIsReady code grants core (On at)
      → IsNextStep code core at (instr.Return, place) → operands_at core at turn.running ≡ value ∷ operands
      → MakesMove code core (On at) (answering value) (On here)
  block_ends grants place value operands ready step is = record {
    state = answer_shown value ∙ sym (block_returns code core at turn place value operands step is);
    stand = answer_standing value ready.stand;
    stays = record {
      world = gone.rest;
      values = ap (λ (row : ValueRow). row.room) gone.values;
      frames = ap (λ (row : FrameRow). row.room) gone.frames;
      places = refl;
      arguments = refl;
    };
    kept = ready.kept;
  }

  -- ---- the method's next action

  -- What it can do with the answer it can do without.
  can_without : (value : Value) → AreStanding code core.stack at → LiveState world.world.cells code turn.looping.state → CanAct code (answering value) here
      → CanAct code without here
  can_without value stands live can =
      let framed = subst (λ (s : List Stood). AreFramed code s (progress_in without)) (answer_stands value) can.framed in
      record {
        stands = record {
          rooms = record {
            cells = can.stands.rooms.cells;
            out = can.stands.rooms.out;
            frames = can.stands.rooms.frames;
            values = can.stands.rooms.values;
            evaluations = can.stands.rooms.evaluations;
            sends = can.stands.rooms.sends;
          };
          frames = without_standing stands;
        };
        framed = subst (λ (s : List Stood). AreFramed code s (progress_in without)) (sym loop_stands) (record { depth = framed.depth; rooms = framed.rooms });
        acting = subst (IsActing world.world.cells code) (sym items_left) live;
        lawful = can.lawful;
        kept = can.kept;
      }

  moves_the_same : (value : Value) → move code (shown code without (On here)) ≡ move code (shown code (answering value) (On here))
  moves_the_same value =
      ap (λ (s : List Stood). move code (Going (phase_shown core.phase) (frames_shown code core.places s) (progress_in without))) loop_stands
      ∙ (ap (λ (after : Waiting). acted_on code (phase_shown core.phase) turn.looping.method (site_shown core.places turn.looping.site) after
      (frames_shown code core.places others_here))
      (asks_nothing value turn.looping.method turn.looping.state (site_shown core.places turn.looping.site) (progress_in without) turn.repeats)
      ∙ sym (ap (λ (s : List Stood). move code (Going (phase_shown core.phase) (frames_shown code core.places s) (progress_in without))) (answer_stands value)))

  -- What it does without the answer it does with it.
  move_with : (value : Value) (new : Core) (next : Next) → MakesMove code without (On here) new next → MakesMove code (answering value) (On here) new next
  move_with value new next moved = record {
    state = moved.state ∙ moves_the_same value;
    stand = moved.stand;
    stays = record {
      world = moved.stays.world;
      values = moved.stays.values;
      frames = moved.stays.frames;
      places = moved.stays.places;
      arguments = moved.stays.arguments;
    };
    kept = moved.kept;
  }

  acts_with : (value : Value) (left : ℕ) (new : Core) (to : Acted) → ActsTo code left without here new to → ActsTo code left (answering value) here new to
  acts_with value left new (Evaluates next top base cell) waits =
      let above : Registers = record { next = next; top = top; base = base } in
      record {
        looping = waits.looping;
        moves = move_with value (awaiting waits.looping (Ref cell) new) (Waits above) waits.moves;
        some = waits.some;
        top = waits.top;
        place = waits.place;
      }
  acts_with value left new (Goes next) moved = move_with value new next moved

  -- ---- the run

  module _ (plan : Plan) (sends : OwnSends) (runs : RunsBy code plan sends core (On at)) (law : MovesGoAlong code) (one : MovesChargeOne code)
      (can : (grants : Grants) → ReadyCanAct code grants) (place : Option SourcePlace) (step : IsNextStep code core at (instr.Return, place)) (left : ℕ)
      (some : 1 ≤ left) where
    abbrev answer : Value
    answer = (value_of code core at turn place step).value

    ended_along : GoesAlong code plan sends left core (On at) (answering answer) (On here)
    ended_along =
        let moved = block_ends runs.can.grants place answer (value_of code core at turn place step).others runs.can.ready step
        (value_of code core at turn place step).is in
        (law plan sends left core core (answering answer) (On at) (On at) (On here) (none_gone code plan sends left core (On at) runs) refl refl
        (omega (arith, some)) moved).along

    -- The method can act without the answer,
    pub loop_can_act : CanAct code without here
    loop_can_act =
        let live = subst (λ (w : World). LiveState w.cells code turn.looping.state) (sym same_world)
        (live_loop code core at turn runs.can.grants runs.can.ready.valid) in
        can_without answer runs.can.ready.stand live
        (can ended_along.runs.can.grants (answering answer) here (answered_loop answer) ended_along.runs.can.ready refl)

    -- and what it does then is what it does behind the end of the block.
    pub turn_acts : (new : Core) (to : Acted) → ActsTo code left without here new to → HasActed code plan sends left core at new to
    turn_acts new to acts =
        acts_along code law one plan sends left core (answering answer) new at here ended_along (ap (λ (w : World). w.steps) same_world) some to
        (acts_with answer left new to acts)
