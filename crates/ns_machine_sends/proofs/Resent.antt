-- Sends that waited.
use Rattle.std.proofs.Common.{◌≡◌, ◌+◌, ℕ, List, length, ap, sym, ◌∙◌, refl, subst, arith, Option, Some, None, All}
use Rattle.ns_base.specs.declared.selector.Sel.{Sel}
use Rattle.ns_code.specs.declared.program.CodeProgram.{CodeProgram}
use Rattle.ns_code.specs.Soundness.{initialiser_kind}
use Rattle.ns_world.specs.declared.value.Value.{Value}
use Rattle.ns_world.specs.declared.ending.Ending.TheVariants as ending
use Rattle.ns_world.specs.declared.ending.LimitKind.TheVariants.{Steps}
use Rattle.ns_world.specs.Heap.{Heap}
use Rattle.ns_world.specs.Lawful.{IsLawful}
use Rattle.ns_world.specs.Starts.{start_of}
use Rattle.ns_world.specs.World.{World, WorldView, SameRoom, stepped}
use Rattle.ns_facets.specs.declared.board.Board.{Board}
use Rattle.ns_find.specs.declared.found.Found.{Found}
use Rattle.ns_find.specs.declared.found.Sending.TheVariants.{Plain}
use Rattle.ns_find.specs.declared.memo.Kept.{Kept}
use Rattle.ns_find.specs.Find.{found_from}
use Rattle.ns_find.specs.Memo.{PlaceIsRight}
use Rattle.ns_world.specs.declared.kernel_row.Row.{Row}
use Rattle.ns_moves.specs.declared.control.Reached.{Reached}
use Rattle.ns_moves.specs.declared.control.Reached.TheVariants as reached
use Rattle.ns_moves.specs.Control.{Control, halts, charged, in_world}
use Rattle.ns_moves.specs.Bodies.{no_home}
use Rattle.ns_moves.specs.Kernel.{row_reached}
use Rattle.ns_moves.specs.Lawful.{FitsSelector}
use Rattle.ns_moves.specs.Sends.{To, answered_by}
use Rattle.ns_world.specs.KernelTable.{row_at}
use Rattle.ns_moves.specs.Stated.{WaitedIsLawful, WaitedFits, WaitedStays, WaitedSpends}
use Rattle.ns_moves.specs.Suiting.{FoundSuits}
use Rattle.ns_moves.specs.Arrivals.{arrived}
use Rattle.ns_moves.specs.declared.run.Run.{Run}
use Rattle.ns_moves.specs.declared.sends.Answered.{Answered}
use Rattle.ns_moves.specs.declared.sends.Answered.TheVariants as answers
use Rattle.ns_moves.specs.Answered.{answered_shown, answered, IsAnswered}
use Rattle.ns_moves.specs.Run.{progress_of}
use Rattle.ns_moves.specs.Room.{SameRest}
use Rattle.ns_kernel_rows.specs.Asked.{CanBeAsked}
use Rattle.ns_kernel_rows.specs.Reaching.{CallReaches}
use Rattle.ns_machine_frames.specs.declared.frame.Frame.{Frame}
use Rattle.ns_machine_frames.specs.declared.registers.Registers.{Registers}
use Rattle.ns_machine_frames.specs.Stack.{stood, with_top}
use Rattle.ns_machine_frames.specs.View.{site_shown, frames_shown}
use Rattle.ns_machine_core.specs.declared.state.Core.{Core}
use Rattle.ns_machine_core.specs.declared.state.Next.TheVariants as next
use Rattle.ns_machine_core.specs.Shown.{phase_shown, progress_in}
use Rattle.ns_machine_core.specs.laws.Pushed.{stack_stays, ended_stays}
use Rattle.ns_machine_core.specs.laws.Worlds.{in_other}
use Rattle.ns_machine_sends.specs.declared.led.Led.{Led}
use Rattle.ns_machine_sends.specs.declared.led.Led.TheVariants as led
use Rattle.ns_machine_sends.specs.declared.sent.Sent.{Sent}
use Rattle.ns_machine_sends.specs.Going.{ControlGoesOn, ComesToBody, IsLeft}
use Rattle.ns_machine_sends.specs.Kept.{kept_control, kept_answer, CanAskKept, CanAnswerKept}
use Rattle.ns_machine_sends.specs.Waiting.{CanSendOn, sent_on_at, looked_on, SendLeadsTo, LeadsKept}
use Rattle.ns_machine_sends.specs.laws.Goes.{room_above}
use Rattle.ns_machine_sends.specs.laws.Stepped.{no_one}
use Rattle.ns_machine_sends.proofs.Leads.{with_world}
use Rattle.ns_machine_core.specs.laws.Charged.{step_is}
use Rattle.ns_machine_sends.proofs.Stepped.{left_in}

-- ---- where they lead

pub no_value : (r : Reached) (frames : List Frame) → ((value : Value) → r ≡ reached.Gives value → ⊥) → ComesToBody r frames
no_value (reached.Gives value) frames none = absurd (none value refl)
no_value (reached.Fails fault) frames none = tt
no_value (reached.Refused sel) frames none = tt
no_value (reached.Enters exit entered) frames none = tt
no_value (reached.Evaluates block given) frames none = tt
no_value (reached.Begins method state) frames none = tt
no_value (reached.Performs receiver sel array) frames none = tt

pub value_led : (code : CodeProgram) (core : Core) (at : Registers) (sent : Sent) (value : Value)
    → LeadsKept code core at sent.floor (kept_control code core sent (reached.Gives value)) core (led.Gives value)
value_led code core at sent value =
    record { control_is = refl; stack = refl; phase = refl; stays = stack_stays core core.stack refl refl; memo = refl }

pub row_asked : (code : CodeProgram) (core : Core) (at : Registers) (sent : Sent) (receiver : Value) (number : ℕ) → IsLeft code core at sent
    → CanAskKept code core receiver number → CanBeAsked code core.run.world receiver core.arguments.items
row_asked code core at sent receiver number left can = record {
  lawful = can.lawful;
  room = record { cells = left.rooms.cells; out = left.rooms.out };
  live = can.live;
  all_live = can.all_live;
}

row_control : (code : CodeProgram) (core : Core) (sent : Sent) (receiver : Value) (sel : Sel) (number : ℕ) (row : Row) (world : WorldView) (board : Board) (r : Reached)
    → row ≡ row_at number
    → CallReaches code core.arguments.items (row_reached code row sel receiver core.arguments.items) core.run.world core.run.board r world board
    → kept_control code (with_world core world board) sent r ≡ kept_answer code core sent receiver sel (answers.Row number)
row_control code core sent receiver sel number row world board r same reaches =
    reaches (site_shown core.places sent.site) core.run.begun
    ∙ ap (λ (w : Row). row_reached code w sel receiver core.arguments.items (site_shown core.places sent.site) (progress_in core)) same

pub row_goes : (code : CodeProgram) (core : Core) (sent : Sent) (receiver : Value) (sel : Sel) (number : ℕ) (row : Row) (world : WorldView) (board : Board) (r : Reached)
    → row ≡ row_at number
    → CallReaches code core.arguments.items (row_reached code row sel receiver core.arguments.items) core.run.world core.run.board r world board
    → ControlGoesOn code (length core.stack.frames.items) (kept_answer code core sent receiver sel (answers.Row number))
    → ControlGoesOn code (length core.stack.frames.items) (kept_control code (with_world core world board) sent r)
row_goes code core sent receiver sel number row world board r same reaches goes =
    subst (λ (c : Control). ControlGoesOn code (length core.stack.frames.items) c) (sym (row_control code core sent receiver sel number row world board r same reaches)) goes

pub row_led : (code : CodeProgram) (core new : Core) (at : Registers) (sent : Sent) (receiver : Value) (sel : Sel) (number : ℕ) (row : Row) (world : WorldView) (board : Board) (r : Reached)
    (to : Led) → row ≡ row_at number
    → CallReaches code core.arguments.items (row_reached code row sel receiver core.arguments.items) core.run.world core.run.board r world board
    → world.world.limits ≡ core.run.world.world.limits → SameRoom core.run.world world
    → LeadsKept code (with_world core world board) at sent.floor (kept_control code (with_world core world board) sent r) new to
    → LeadsKept code core at sent.floor (kept_answer code core sent receiver sel (answers.Row number)) new to
row_led code core new at sent receiver sel number row world board r (led.Goes n) same reaches limits room is = record {
  state = is.state
      ∙ ap (λ (c : Control). arrived code (phase_shown core.phase) c (frames_shown code core.places (stood core.stack (with_top sent.floor at))))
      (row_control code core sent receiver sel number row world board r same reaches);
  stand = is.stand;
  memo = is.memo;
  stays = record {
    world = record {
      limits = is.stays.world.limits ∙ limits;
      room = (is.stays.world.room.0 ∙ room.0, is.stays.world.room.1 ∙ room.1);
    };
    values = is.stays.values;
    frames = is.stays.frames;
    places = is.stays.places;
    arguments = is.stays.arguments;
  };
}
row_led code core new at sent receiver sel number row world board r (led.Gives value) same reaches limits room is = record {
  control_is = sym (row_control code core sent receiver sel number row world board r same reaches) ∙ is.control_is;
  stack = is.stack;
  phase = is.phase;
  stays = record {
    world = record {
      limits = is.stays.world.limits ∙ limits;
      room = (is.stays.world.room.0 ∙ room.0, is.stays.world.room.1 ∙ room.1);
    };
    values = is.stays.values;
    frames = is.stays.frames;
    places = is.stays.places;
    arguments = is.stays.arguments;
  };
  memo = is.memo;
}

-- ---- the lookup

pub answer_can_on : (code : CodeProgram) (core : Core) (at : Registers) (sent : Sent) (receiver : Value) (sel : Sel) (run : Run) (member : Found) (answer : Answered)
    → CanSendOn code core at sent receiver sel → FoundSuits core.run.world.world.cells receiver member → IsAnswered member core.run.world answer run.world
    → CanAnswerKept code (record core { run = run }) receiver answer
answer_can_on code core at sent receiver sel run member (answers.Comes r) can suits is = is
answer_can_on code core at sent receiver sel run member (answers.Row number) can suits is = record {
  lawful = rw is.1 can.lawful;
  live = rw is.1 can.live;
  all_live = rw is.1 can.selector.live;
  suits = rw is.1 (subst (λ (f : Found). FoundSuits core.run.world.world.cells receiver f) is.0 suits);
}

-- what it came to with the arguments that were handed over, which are those that are kept
pub answer_is : (code : CodeProgram) (core : Core) (sent : Sent) (receiver : Value) (sel : Sel) (run : Run) (answer : Answered) (values : List Value)
    → values ≡ core.arguments.items
    → answered_shown code sel receiver (site_shown core.places sent.site) values answer (progress_of run)
    ≡ answered code no_one (To receiver Plain) sel values (site_shown core.places sent.site) (progress_in core)
    → kept_answer code (record core { run = run }) sent receiver sel answer ≡ looked_on code core sent receiver sel
answer_is code core sent receiver sel run answer values same e =
    subst (λ (vs : List Value). answered_shown code sel receiver (site_shown core.places sent.site) vs answer (progress_of run)
    ≡ answered code no_one (To receiver Plain) sel vs (site_shown core.places sent.site) (progress_in core)) same e

pub answer_goes : (code : CodeProgram) (core : Core) (sent : Sent) (receiver : Value) (sel : Sel) (run : Run) (answer : Answered) (control : Control)
    → kept_answer code (record core { run = run }) sent receiver sel answer ≡ control → ControlGoesOn code (length core.stack.frames.items) control
    → ControlGoesOn code (length core.stack.frames.items) (kept_answer code (record core { run = run }) sent receiver sel answer)
answer_goes code core sent receiver sel run answer control e goes =
    subst (λ (c : Control). ControlGoesOn code (length core.stack.frames.items) c) (sym e) goes

pub answer_led : (code : CodeProgram) (core new : Core) (at : Registers) (sent : Sent) (receiver : Value) (sel : Sel) (run : Run) (answer : Answered) (control : Control) (to : Led)
    → kept_answer code (record core { run = run }) sent receiver sel answer ≡ control → SameRest core.run.world run.world
    → All (PlaceIsRight core.run.world.world.cells code) run.memo
    → LeadsKept code (record core { run = run }) at sent.floor (kept_answer code (record core { run = run }) sent receiver sel answer) new to
    → SendLeadsTo code core at sent.floor control new to
answer_led code core new at sent receiver sel run answer control (led.Goes n) e rest kept is = record {
  state = is.state
      ∙ ap (λ (c : Control). arrived code (phase_shown core.phase) c (frames_shown code core.places (stood core.stack (with_top sent.floor at)))) e;
  stand = is.stand;
  stays = record {
    world = record {
      limits = is.stays.world.limits ∙ rest.limits;
      room = (is.stays.world.room.0 ∙ rest.room.0, is.stays.world.room.1 ∙ rest.room.1);
    };
    values = is.stays.values;
    frames = is.stays.frames;
    places = is.stays.places;
    arguments = is.stays.arguments;
  };
  kept = subst (λ (memo : List (Option Kept)). All (PlaceIsRight core.run.world.world.cells code) memo) (sym is.memo) kept;
}
answer_led code core new at sent receiver sel run answer control (led.Gives value) e rest kept is = record {
  control_is = sym e ∙ is.control_is;
  stack = is.stack;
  phase = is.phase;
  stays = record {
    world = record {
      limits = is.stays.world.limits ∙ rest.limits;
      room = (is.stays.world.room.0 ∙ rest.room.0, is.stays.world.room.1 ∙ rest.room.1);
    };
    values = is.stays.values;
    frames = is.stays.frames;
    places = is.stays.places;
    arguments = is.stays.arguments;
  };
  kept = subst (λ (memo : List (Option Kept)). All (PlaceIsRight core.run.world.world.cells code) memo) (sym is.memo) kept;
}

-- ---- the step

pub step_can_on : ((world after : World) (code : CodeProgram) → IsLawful world code → stepped world ≡ Some after → IsLawful after code)
    → (code : CodeProgram) (core : Core) (at : Registers) (sent : Sent) (receiver : Value) (sel : Sel) (world : WorldView) → stepped core.run.world.world ≡ Some world.world
    → SameRoom core.run.world world → CanSendOn code core at sent receiver sel → CanSendOn code (in_other core world) at sent receiver sel
step_can_on charging code core at sent receiver sel world e room can = record {
  left = left_in code core at sent (record core.run { world = world }) (record { limits = ap (λ (w : World). w.limits) is; room = room }) can.left;
  lawful = charging core.run.world.world world.world code can.lawful e;
  begun = let begun = can.begun in let more = ap (λ (w : World). w.steps) is in omega (arith, begun, more);
  kept = rw (ap (λ (w : World). w.cells) is) can.kept;
  depth = ap (λ (w : World). w.depth) is ∙ can.depth;
  live = rw (ap (λ (w : World). w.cells) is) can.live;
  selector = rw (ap (λ (w : World). w.cells) is) can.selector;
}
  where
    is : world.world ≡ record core.run.world.world { steps = core.run.world.world.steps + 1 }
    is = step_is core.run.world.world world.world e

-- such a send is its step, and what its lookup answers then
pub on_stepped : (code : CodeProgram) (core : Core) (sent : Sent) (receiver : Value) (sel : Sel) (world : WorldView) →
    stepped core.run.world.world ≡ Some world.world
    → sent_on_at code core sent receiver sel ≡ looked_on code (in_other core world) sent receiver sel
on_stepped code core sent receiver sel world e =
    ap (λ (o : Option World). charged halts Steps o (progress_in core)
    (answered_by code (found_from core.run.world.world.cells code (start_of core.run.world.world.cells receiver) sel.0 Plain) sel receiver
    core.arguments.items (site_shown core.places sent.site))) e
    ∙ ap (λ (h : Heap). answered_by code (found_from h code (start_of h receiver) sel.0 Plain) sel receiver core.arguments.items
    (site_shown core.places sent.site) (in_world (progress_in core) world.world))
    (sym (ap (λ (w : World). w.cells) (step_is core.run.world.world world.world e)))

pub on_goes : (code : CodeProgram) → WaitedIsLawful code → WaitedFits code → WaitedStays code → WaitedSpends code →
    (core : Core) (at : Registers) (sent : Sent) (receiver : Value) (sel : Sel)
    (world : WorldView) → stepped core.run.world.world ≡ Some world.world → CanSendOn code core at sent receiver sel
    → ControlGoesOn code (length core.stack.frames.items) (looked_on code (in_other core world) sent receiver sel)
on_goes code lawful fits stays spends core at sent receiver sel world e can =
    let values = core.arguments.items in
    let site = site_shown core.places sent.site in
    let after = lawful receiver sel values site (progress_in core) can.lawful can.live can.selector in
    subst (λ (c : Control). ControlGoesOn code (length core.stack.frames.items) c) (on_stepped code core sent receiver sel world e)
    (record {
      own = initialiser_kind;
      lawful = after;
      fits = fits receiver sel values site (progress_in core) can.lawful can.live can.selector;
      room = room_above code (length core.stack.frames.items) 1 no_home (FitsSelector core.run.world.world.cells code sel values) (progress_in core) site
          (sent_on_at code core sent receiver sel) (spends receiver sel values site (progress_in core)) after
          (stays receiver sel values site (progress_in core)) can.selector can.depth;
    })

pub on_leads : (code : CodeProgram) (core new : Core) (at : Registers) (sent : Sent) (receiver : Value) (sel : Sel) (world : WorldView) (to : Led)
    → stepped core.run.world.world ≡ Some world.world → SameRoom core.run.world world
    → SendLeadsTo code (in_other core world) at sent.floor (looked_on code (in_other core world) sent receiver sel) new to
    → SendLeadsTo code core at sent.floor (sent_on_at code core sent receiver sel) new to
on_leads code core new at sent receiver sel world (led.Goes n) e room is = record {
  state = is.state
      ∙ ap (λ (c : Control). arrived code (phase_shown core.phase) c (frames_shown code core.places (stood core.stack (with_top sent.floor at))))
      (sym (on_stepped code core sent receiver sel world e));
  stand = is.stand;
  stays = record {
    world = record {
      limits = is.stays.world.limits ∙ ap (λ (w : World). w.limits) (step_is core.run.world.world world.world e);
      room = (is.stays.world.room.0 ∙ room.0, is.stays.world.room.1 ∙ room.1);
    };
    values = is.stays.values;
    frames = is.stays.frames;
    places = is.stays.places;
    arguments = is.stays.arguments;
  };
  kept = subst (λ (h : Heap). All (PlaceIsRight h code) new.run.memo) (ap (λ (w : World). w.cells) (step_is core.run.world.world world.world e)) is.kept;
}
on_leads code core new at sent receiver sel world (led.Gives value) e room is = record {
  control_is = on_stepped code core sent receiver sel world e ∙ is.control_is;
  stack = is.stack;
  phase = is.phase;
  stays = record {
    world = record {
      limits = is.stays.world.limits ∙ ap (λ (w : World). w.limits) (step_is core.run.world.world world.world e);
      room = (is.stays.world.room.0 ∙ room.0, is.stays.world.room.1 ∙ room.1);
    };
    values = is.stays.values;
    frames = is.stays.frames;
    places = is.stays.places;
    arguments = is.stays.arguments;
  };
  kept = subst (λ (h : Heap). All (PlaceIsRight h code) new.run.memo) (ap (λ (w : World). w.cells) (step_is core.run.world.world world.world e)) is.kept;
}

pub no_step_leads : (code : CodeProgram) (core : Core) (at : Registers) (sent : Sent) (receiver : Value) (sel : Sel) →
    stepped core.run.world.world ≡ None
    → CanSendOn code core at sent receiver sel
    → SendLeadsTo code core at sent.floor (sent_on_at code core sent receiver sel) (record core { ending = ending.Limit Steps }) (led.Goes next.Ended)
no_step_leads code core at sent receiver sel e can = record {
  state = ap (λ (c : Control). arrived code (phase_shown core.phase) c (frames_shown code core.places (stood core.stack (with_top sent.floor at))))
      (sym (ap (λ (o : Option World). charged halts Steps o (progress_in core)
      (answered_by code (found_from core.run.world.world.cells code (start_of core.run.world.world.cells receiver) sel.0 Plain) sel receiver
      core.arguments.items (site_shown core.places sent.site))) e));
  stand = tt;
  stays = ended_stays core (ending.Limit Steps);
  kept = can.kept;
}
