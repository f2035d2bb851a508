-- What a send finds on the operands of the body that runs.
use Rattle.std.proofs.Common.{◌≡◌, ◌+◌, ◌-◌, ◌≤◌, ℕ, List, [], ◌∷◌, ◌++◌, length, take, reverse, get_or, ap, sym, ◌∙◌, refl, subst, arith, true, All}
use Rattle.std.proofs.lemmas.List.{take_at, drop_at, length-reverse, reverse-reverse, get_or-reverse, length-append}
use Rattle.std.proofs.lemmas.List.Elements.{All-take, All-drop}
use Rattle.ns_code.specs.declared.program.CodeProgram.{CodeProgram}
use Rattle.ns_code.specs.declared.instruction.Instr.{Instr}
use Rattle.ns_code.specs.Table.{takes, leaves, goes_on}
use Rattle.ns_verify.specs.Verify.{IsSound}
use Rattle.ns_world.specs.declared.value.Value.{Value}
use Rattle.ns_world.specs.Lawful.{IsLawful, IsLiveValue}
use Rattle.ns_machine_frames.specs.declared.frame.Frame.{Frame}
use Rattle.ns_machine_frames.specs.declared.frame.Frame.TheVariants.{Running, Looping}
use Rattle.ns_machine_frames.specs.declared.registers.Registers.{Registers}
use Rattle.ns_machine_frames.specs.Room.{FramesFitWithin, bound}
use Rattle.ns_machine_frames.specs.Standing.{Stood, Runs, Loops, standing, at_next, AreLaid, pushed, pushed_all, operands_in}
use Rattle.ns_machine_frames.specs.Stack.{in_use, stood, with_top, IsLaid}
use Rattle.ns_machine_frames.specs.laws.Taking.{taken_laid}
use Rattle.ns_machine_core.specs.declared.state.Core.{Core}
use Rattle.ns_machine_core.specs.Shown.{progress_in}
use Rattle.ns_moves.specs.Bodies.{height_in, greatest_of}
use Rattle.ns_machine_core.specs.Doing.{Finds, CanDo}
use Rattle.ns_machine_core.specs.laws.Pushed.{one_more, operands_count}
use Rattle.ns_machine_core.specs.laws.Taken.{some_operand}
use Rattle.ns_machine_sends.specs.declared.sent.Sent.{Sent}
use Rattle.ns_machine_sends.specs.Going.{IsLeft}
use Rattle.ns_machine_frames.specs.laws.Counts.{many_stand, many_next}

-- ---- lists

all_reversed : {A : Type 0} (P : A → Type 0) (xs : List A) → All P (reverse xs) → All P xs
all_reversed P xs all i d inside =
    let size = length-reverse xs in
    let back : get_or (reverse (reverse xs)) i d ≡ get_or (reverse xs) (length (reverse xs) - 1 - i) d = get_or-reverse (reverse xs) i d (omega (arith, size, inside)) in
    subst P (sym back ∙ ap (λ ys. get_or ys i d) (reverse-reverse xs)) (all (length (reverse xs) - 1 - i) d (omega (arith, size, inside)))

pub all_apart : {A : Type 0} (P : A → Type 0) (xs ys : List A) → All P (reverse xs ++ ys) → All P xs × All P ys
all_apart P xs ys all = (
  all_reversed P xs (subst (All P) (take_at (reverse xs) ys (length (reverse xs)) refl) (All-take P (length (reverse xs)) (reverse xs ++ ys) all)),
  subst (All P) (drop_at (reverse xs) ys (length (reverse xs)) refl) (All-drop P (length (reverse xs)) (reverse xs ++ ys) all),
)

-- ---- what is known of the run

pub record Known (code : CodeProgram) (core : Core) : Type 0 where
  pub sound : IsSound code
  pub lawful : IsLawful core.run.world.world code
  pub begun : core.run.begun ≤ core.run.world.world.steps

pub known : (code : CodeProgram) (core : Core) (at : Registers) (instr : Instr) → CanDo code core at instr → Known code core
known code core at instr can = by_stood (stood core.stack at) can.finds
  where
    by_stood : (s : List Stood) → Finds code core.places instr s (progress_in core) → Known code core
    by_stood [] finds = absurd finds
    by_stood (Loops frame ∷ s) finds = absurd finds
    by_stood (Runs frame locals stack ∷ s) finds = record { sound = finds.sound; lawful = finds.lawful; begun = finds.begun }

pub depth_is : (code : CodeProgram) (core : Core) (at : Registers) (instr : Instr) → CanDo code core at instr
    → core.run.world.world.depth ≡ length core.stack.frames.items
depth_is code core at instr can =
    can.framed.depth ∙ (many_stand (at_next at.next core.stack.frames.items) (in_use core.stack at) ∙ many_next at.next core.stack.frames.items)

-- ---- where the operands stand

-- what an instruction leaves ends within what the frames reach
reach_on : (code : CodeProgram) (core : Core) (at : Registers) (instr : Instr) → CanDo code core at instr → goes_on instr ≡ true
    → at.top - takes instr + leaves instr ≤ bound (greatest_of code.bodies) core.stack.frames.items
reach_on code core at instr can on = by_frames core.stack.frames.items can.stands.frames.laid.frames can.stands.frames.within can.finds
  where
    by_frames : (frames : List Frame) → AreLaid frames at.top
        → FramesFitWithin (height_in code) (greatest_of code.bodies) (length core.stack.values.items) frames
        → Finds code core.places instr (standing (at_next at.next frames) (take at.top core.stack.values.items)) (progress_in core)
        → at.top - takes instr + leaves instr ≤ bound (greatest_of code.bodies) frames
    by_frames [] laid within finds = absurd finds
    by_frames (Looping frame ∷ frames) laid within finds = absurd finds
    by_frames (Running frame ∷ frames) laid within finds =
        let count = operands_count frame.operands at.top core.stack.values.items can.stands.frames.laid.filled in
        let enough = finds.enough in
        let room = finds.room on in
        let low = laid.2 in
        let reach = within.1 in
        omega (arith, count, enough, room, low, reach)

pub laid_below : (code : CodeProgram) (core : Core) (at : Registers) (instr : Instr) (count : ℕ) → CanDo code core at instr →
    count ≤ takes instr
    → IsLaid core.stack (with_top (at.top - count) at)
laid_below code core at instr count can few =
    let some = some_operand code core at instr can in
    taken_laid core.stack at count can.stands.frames.laid (omega (arith, few, some))

-- An instruction that takes its arguments off, and a receiver below them, leaves a caller to which an answer can come.
pub left_behind : (code : CodeProgram) (core : Core) (at : Registers) (instr : Instr) (sent : Sent) → CanDo code core at instr →
    goes_on instr ≡ true → leaves instr ≡ 1
    → sent.floor ≡ at.top - takes instr → sent.floor ≤ sent.first → sent.first ≤ sent.floor + 1 → sent.first ≤ at.top → IsLeft code core at sent
left_behind code core at instr sent can on one floor low high order =
    let all = known code core at instr can in
    let more = one_more code core at instr can on in
    let reach = reach_on code core at instr can on in
    let depth = depth_is code core at instr can in
    let within = all.lawful.within.depth in
    record {
      sound = all.sound;
      rooms = can.stands.rooms;
      depth = omega (arith, depth, within);
      stands = can.stands.frames;
      waits = record {
        order = order;
        low = low;
        reach = omega (arith, one, floor, high, reach);
        stands = record {
          laid = subst (λ (top : ℕ). IsLaid core.stack (with_top top at)) (sym floor) (laid_below code core at instr (takes instr) can (omega arith));
          within = can.stands.frames.within;
        };
      };
      place = let place = more.1 in omega (arith, one, floor, place);
    }

-- ---- what they are

-- the operands that were taken off are live, and so are those below
pub live_apart : (code : CodeProgram) (core : Core) (at : Registers) (instr : Instr) (values : List Value) (under : List Stood) →
    CanDo code core at instr
    → stood core.stack at ≡ pushed_all values under
    → All (IsLiveValue core.run.world.world.cells code) values × All (IsLiveValue core.run.world.world.cells code) (operands_in under)
live_apart code core at instr values under can is =
    by_stood under (subst (λ (s : List Stood). Finds code core.places instr s (progress_in core)) is can.finds)
  where
    by_stood : (s : List Stood) → Finds code core.places instr (pushed_all values s) (progress_in core)
        → All (IsLiveValue core.run.world.world.cells code) values × All (IsLiveValue core.run.world.world.cells code) (operands_in s)
    by_stood [] finds = absurd finds
    by_stood (Loops frame ∷ s) finds = absurd finds
    by_stood (Runs frame locals stack ∷ s) finds = all_apart (IsLiveValue core.run.world.world.cells code) values stack finds.live

-- as many are left as there were, less those
pub left_many : (code : CodeProgram) (core : Core) (at : Registers) (instr : Instr) (values : List Value) (under : List Stood) →
    CanDo code core at instr
    → stood core.stack at ≡ pushed_all values under → takes instr ≤ length values + length (operands_in under)
left_many code core at instr values under can is =
    by_stood under (subst (λ (s : List Stood). Finds code core.places instr s (progress_in core)) is can.finds)
  where
    by_stood : (s : List Stood) → Finds code core.places instr (pushed_all values s) (progress_in core) → takes instr ≤ length values + length (operands_in s)
    by_stood [] finds = absurd finds
    by_stood (Loops frame ∷ s) finds = absurd finds
    by_stood (Runs frame locals stack ∷ s) finds =
        let enough = finds.enough in
        let sum = length-append (reverse values) stack in
        let size = length-reverse values in
        omega (arith, enough, sum, size)

-- the receiver that was pushed is live
pub top_live :
    (code : CodeProgram) (core : Core) (at : Registers) (instr : Instr) (values : List Value) (receiver : Value) (under : List Stood) →
    CanDo code core at instr
    → stood core.stack at ≡ pushed_all values (pushed receiver under) → IsLiveValue core.run.world.world.cells code receiver
top_live code core at instr values receiver under can is =
    by_stood under (subst (λ (s : List Stood). Finds code core.places instr s (progress_in core)) is can.finds)
  where
    by_stood : (s : List Stood) → Finds code core.places instr (pushed_all values (pushed receiver s)) (progress_in core)
        → IsLiveValue core.run.world.world.cells code receiver
    by_stood [] finds = absurd finds
    by_stood (Loops frame ∷ s) finds = absurd finds
    by_stood (Runs frame locals stack ∷ s) finds =
        (all_apart (IsLiveValue core.run.world.world.cells code) values (receiver ∷ stack) finds.live).1 0 receiver (omega arith)
