-- A frame that is put on the others stands on them with its values.
use Rattle.std.proofs.Common.{◌≡◌, ℕ, ◌+◌, ◌-◌, ◌<◌, ◌≤◌, List, [], ◌∷◌, ◌++◌, length, take, drop, reverse, replicate, refl, ap, sym, ◌∙◌, subst, arith, append-nil, length-take-le}
use Rattle.std.proofs.lemmas.List.{take-take, take-append-le, drop-append-le, drop_all}
use Rattle.ns_code.specs.declared.program.CodeProgram.{CodeProgram}
use Rattle.ns_world.specs.declared.value.Value.{Value}
use Rattle.ns_world.specs.declared.value.Value.TheVariants.{Nil}
use Rattle.ns_moves.specs.Bodies.{height_in, greatest_of}
use Rattle.ns_frozen.specs.declared.frame.FrozenFrame.{FrozenFrame}
use Rattle.ns_machine_frames.specs.declared.frame.Frame.{Frame}
use Rattle.ns_machine_frames.specs.declared.frame.Frame.TheVariants.{Running, Looping}
use Rattle.ns_machine_frames.specs.declared.frame.LoopingFrame.{LoopingFrame}
use Rattle.ns_machine_frames.specs.declared.frame.RunningFrame.{RunningFrame}
use Rattle.ns_machine_frames.specs.declared.registers.Registers.{Registers}
use Rattle.ns_machine_frames.specs.declared.stack.Stack.{Stack}
use Rattle.ns_machine_frames.specs.Row.{FrameRow, ValueRow}
use Rattle.ns_machine_frames.specs.Standing.{Stood, Runs, Loops, standing, AreLaid, at_next, pushed_all}
use Rattle.ns_machine_frames.specs.Stack.{in_use, stood, with_top, HasBase, IsLaid, KeepsRoom, FramesCanBegin, FitsLayout, entered_frame, locals_at, IsEntered}
use Rattle.ns_machine_frames.specs.Room.{bound, FramesFitWithin, EnteringKeeps}
use Rattle.ns_machine_frames.specs.laws.Room.{bound_next, within_more, within_next}
use Rattle.ns_machine_frames.specs.laws.Counts.{many_next}
use Rattle.ns_machine_thaw.specs.Frames.{HasFrameRoom, KeepsBody, StandLow, FrameIsPut, at_start}

-- ---- entering

-- there is room for the locals and the operands
pub enough : (code : CodeProgram) (stack : Stack) (at : Registers) (frame : FrozenFrame) (kept : RunningFrame) (height : ℕ) → KeepsBody code at.top frame kept
    → StandLow code stack at → HasFrameRoom code stack → height ≡ height_in code kept.activation.body
    → at.top + length frame.locals + height ≤ stack.values.room
enough code stack at frame kept height keeps stand room is =
    let fits = keeps.locals in
    let low = stand.top in
    let values = room.values in
    omega (arith, fits, low, values, is)

-- frames stay laid where more is filled
laid_more : (old new : Stack) (at : Registers) → IsLaid old at → new.frames ≡ old.frames → length old.values.items ≤ length new.values.items
    → length new.values.items ≤ new.values.room → new.values.room ≤ 4294967295 → IsLaid new at
laid_more old new at laid same filled within small = record {
  frames = subst (λ (row : FrameRow). AreLaid row.items at.top) (sym same) laid.frames;
  base = subst (λ (row : FrameRow). HasBase row.items at.base) (sym same) laid.base;
  filled = let used = laid.filled in omega (arith, used, filled);
  within = within;
  small = small;
}

-- what holds behind the locals that were pushed
module _ (s0 s1 s2 : Stack) (at above : Registers) (locals : List Value) (laid : IsLaid s0 at) (frames1 : s1.frames ≡ s0.frames) (used1 : in_use s1 at ≡ in_use s0 at)
    (room1 : KeepsRoom s0 s1) (frames2 : s2.frames ≡ s1.frames) (used2 : in_use s2 above ≡ in_use s1 at ++ locals) (room2 : KeepsRoom s1 s2) (laid2 : IsLaid s2 above)
    (is : above ≡ with_top (at.top + length locals) at)
  where
    same_frames : s2.frames ≡ s0.frames
    same_frames = frames2 ∙ frames1

    waits : IsLaid s2 at
    waits = laid_more s0 s2 at laid same_frames (let one = room1.filled in let two = room2.filled in omega (arith, one, two)) laid2.within laid2.small

    top_is : above.top ≡ at.top + length locals
    top_is = ap (λ (r : Registers). r.top) is

    at_floor : with_top at.top above ≡ at
    at_floor = ap (λ (r : Registers). with_top at.top r) is

    pub can_begin : length s0.frames.items < s0.frames.room → FramesCanBegin s2 above at.top
    can_begin few = record {
      laid = laid2;
      waits = subst (IsLaid s2) (sym at_floor) waits;
      low = let top = top_is in omega (arith, top);
      frames =
          let count = ap (λ (row : FrameRow). length row.items) same_frames in
          let room = ap (λ (row : FrameRow). row.room) same_frames in
          omega (arith, few, count, room);
    }

    pub fits : (height : ℕ) → at.top + length locals + height ≤ s0.values.room
        → FitsLayout (record { floor = at.top; base = at.top; locals = length locals; height = height }) above.top s2.values.room
    fits height all = record {
      floor = omega arith;
      arguments = let top = top_is in omega (arith, top);
      locals = let top = top_is in omega (arith, top);
      enough = let one = room1.values in let two = room2.values in omega (arith, all, one, two);
    }

    used : in_use s2 above ≡ in_use s0 at ++ locals
    used = used2 ∙ ap (λ (values : List Value). values ++ locals) used1

    size : length (in_use s0 at) ≡ at.top
    size = length-take-le at.top s0.values.items laid.filled

    -- its locals are those that were pushed
    locals_are : (height : ℕ) → locals_at s2 above (record { floor = at.top; base = at.top; locals = length locals; height = height }) ≡ locals
    locals_are height =
        let none : at.top + length locals - above.top ≡ 0 = let top = top_is in omega (arith, top) in
        ap (λ (values : List Value). drop at.top values ++ replicate (at.top + length locals - above.top) Nil) used
        ∙ (ap (λ (n : ℕ). drop at.top (in_use s0 at ++ locals) ++ replicate n Nil) none
        ∙ (append-nil (drop at.top (in_use s0 at ++ locals))
        ∙ (drop-append-le at.top (in_use s0 at) locals (let e = size in omega (arith, e))
        ∙ ap (λ (front : List Value). front ++ locals) (drop_all at.top (in_use s0 at) (let e = size in omega (arith, e))))))

    -- below it stand the frames that stood
    in_use_below : in_use s2 at ≡ in_use s0 at
    in_use_below =
        let more : at.top ≤ above.top = let top = top_is in omega (arith, top) in
        sym (take-take at.top above.top s2.values.items more)
        ∙ (ap (take at.top) used
        ∙ (take-append-le at.top (in_use s0 at) locals (let e = size in omega (arith, e)) ∙ take-take at.top at.top s0.values.items (omega arith)))

    stood_below : stood s2 (with_top at.top above) ≡ stood s0 at
    stood_below =
        ap (stood s2) at_floor
        ∙ (ap (λ (row : FrameRow). standing (at_next at.next row.items) (in_use s2 at)) same_frames ∙ ap (standing (at_next at.next s0.frames.items)) in_use_below)

    pub has_entered : (s3 : Stack) (to : Registers) (kept : RunningFrame) (height : ℕ) → kept.floor ≡ at.top → kept.base ≡ at.top → kept.operands ≡ at.top + length locals
        → IsEntered s2 above s3 to (entered_frame kept.leaving kept.activation (record { floor = at.top; base = at.top; locals = length locals; height = height }))
        (locals_at s2 above (record { floor = at.top; base = at.top; locals = length locals; height = height })) height
        → IsEntered s0 at s3 to (at_start kept) locals height
    has_entered s3 to kept height floor base behind entered =
        let frame_is : (entered_frame kept.leaving kept.activation (record { floor = at.top; base = at.top; locals = length locals; height = height })) ≡ at_start kept =
        ap (λ (n : ℕ). record { leaving = kept.leaving; activation = kept.activation; next = 0; floor = n; base = at.top; operands = at.top + length locals }) (sym floor)
        ∙ (ap (λ (n : ℕ). record { leaving = kept.leaving; activation = kept.activation; next = 0; floor = kept.floor; base = n; operands = at.top + length locals }) (sym base)
        ∙ ap (λ (n : ℕ). record { leaving = kept.leaving; activation = kept.activation; next = 0; floor = kept.floor; base = kept.base; operands = n }) (sym behind)) in
        let given : IsEntered s2 above s3 to (at_start kept) locals height =
        subst (λ (values : List Value). IsEntered s2 above s3 to (at_start kept) values height) (locals_are height)
        (subst (λ (f : RunningFrame). IsEntered s2 above s3 to f (locals_at s2 above (record { floor = at.top; base = at.top; locals = length locals; height = height })) height) frame_is entered) in
        let next_is : above.next ≡ at.next = ap (λ (r : Registers). r.next) is in
        record {
          stands =
              given.stands
              ∙ ap (λ (below : List Stood). Runs (at_start kept) locals [] ∷ below)
              (ap (λ (n : ℕ). stood s2 (with_top n above)) floor ∙ (stood_below ∙ ap (λ (n : ℕ). stood s0 (with_top n at)) (sym floor)));
          laid = given.laid;
          frames =
              given.frames
              ∙ (ap (λ (n : ℕ). Running (at_start kept) ∷ at_next n s2.frames.items) next_is
              ∙ ap (λ (row : FrameRow). Running (at_start kept) ∷ at_next at.next row.items) same_frames);
          filled = given.filled;
          room = record {
            values = given.room.values ∙ (room2.values ∙ room1.values);
            frames = given.room.frames ∙ ap (λ (row : FrameRow). row.room) same_frames;
            filled = let one = room1.filled in let two = room2.filled in let three = given.room.filled in omega (arith, one, two, three);
          };
          registers = given.registers;
        }

-- ---- a body

-- the registers at another next instruction
pub laid_next : (stack : Stack) (at : Registers) (next : ℕ) → IsLaid stack at → IsLaid stack (record at { next = next })
laid_next stack at next laid = record { frames = laid.frames; base = laid.base; filled = laid.filled; within = laid.within; small = laid.small }

-- frames of which the topmost, a body's, has another next instruction
abbrev renext : ℕ → List Stood → List Stood
renext next [] = []
renext next (Runs frame locals stack ∷ stood) = Runs (record frame { next = next }) locals stack ∷ stood
renext next (Loops frame ∷ stood) = Loops frame ∷ stood

stood_next : (stack : Stack) (at : Registers) (next : ℕ) → stood stack (record at { next = next }) ≡ renext next (stood stack at)
stood_next stack at next = by_frames stack.frames.items
  where
    by_frames : (frames : List Frame) → standing (at_next next frames) (in_use stack at) ≡ renext next (standing (at_next at.next frames) (in_use stack at))
    by_frames [] = refl
    by_frames (Running frame ∷ frames) = refl
    by_frames (Looping frame ∷ frames) = refl

-- the operands have their places
pub operands_fit : (code : CodeProgram) (s0 s3 : Stack) (at to : Registers) (frame : FrozenFrame) (kept : RunningFrame) (height : ℕ) → KeepsBody code at.top frame kept
    → height ≡ height_in code kept.activation.body → IsEntered s0 at s3 to (at_start kept) frame.locals height
    → to.top + length frame.operands ≤ length s3.values.items
operands_fit code s0 s3 at to frame kept height keeps is entered =
    let top = ap (λ (r : Registers). r.top) entered.registers in
    let filled = entered.filled in
    let few = keeps.operands in
    omega (arith, top, filled, few, is)

pub body_put : (code : CodeProgram) → EnteringKeeps (height_in code) (greatest_of code.bodies)
    → (s0 s3 s4 : Stack) (at to last : Registers) (frame : FrozenFrame) (kept : RunningFrame) (height : ℕ) → KeepsBody code at.top frame kept
    → StandLow code s0 at → height ≡ height_in code kept.activation.body → IsEntered s0 at s3 to (at_start kept) frame.locals height
    → stood s4 last ≡ pushed_all frame.operands (stood s3 (record to { next = kept.next })) → IsLaid s4 last → s4.frames ≡ s3.frames → KeepsRoom s3 s4
    → last ≡ with_top (to.top + length frame.operands) (record to { next = kept.next })
    → FrameIsPut code (Runs kept frame.locals (reverse frame.operands)) s0 at s4 last
body_put code keeping s0 s3 s4 at to last frame kept height keeps stand is entered stands laid frames room at_last = record {
  stands =
      stands
      ∙ (ap (pushed_all frame.operands) (stood_next s3 to kept.next ∙ ap (renext kept.next) entered.stands)
      ∙ (ap (λ (values : List Value). Runs kept frame.locals values ∷ stood s0 (with_top kept.floor at)) (append-nil (reverse frame.operands))
      ∙ ap (λ (n : ℕ). Runs kept frame.locals (reverse frame.operands) ∷ stood s0 (with_top n at)) keeps.floor));
  stand = record {
    standing = record {
      laid = laid;
      within =
          subst (λ (row : FrameRow). FramesFitWithin (height_in code) (greatest_of code.bodies) (length s4.values.items) row.items) (sym frames)
          (within_more (height_in code) (greatest_of code.bodies) (length s3.values.items) (length s4.values.items) s3.frames.items room.filled within);
    };
    top = low;
  };
  room = record { values = room.values ∙ entered.room.values; frames = room.frames ∙ entered.room.frames };
  count = items_count;
}
  where
    within : FramesFitWithin (height_in code) (greatest_of code.bodies) (length s3.values.items) s3.frames.items
    within =
        keeping s0 s3 at to (at_start kept) frame.locals height entered stand.standing.within (omega (arith, is))
        (let base = keeps.base in let top = stand.top in omega (arith, base, top))
        (let base = keeps.base in let behind = keeps.behind in let locals = keeps.locals in omega (arith, base, behind, locals, is))

    items_are : s4.frames.items ≡ Running (at_start kept) ∷ at_next at.next s0.frames.items
    items_are = ap (λ (row : FrameRow). row.items) frames ∙ entered.frames

    items_count : length s4.frames.items ≡ length s0.frames.items + 1
    items_count =
        let count = ap length items_are in
        let same = many_next at.next s0.frames.items in
        omega (arith, count, same)

    low : last.top ≤ bound (greatest_of code.bodies) s4.frames.items
    low =
        let top = ap (λ (r : Registers). r.top) at_last in
        let entered_top = ap (λ (r : Registers). r.top) entered.registers in
        let all = ap (bound (greatest_of code.bodies)) items_are in
        let same = bound_next (greatest_of code.bodies) at.next s0.frames.items in
        let behind = keeps.behind in
        let locals = keeps.locals in
        let operands = keeps.operands in
        let below = stand.top in
        omega (arith, top, entered_top, all, same, behind, locals, operands, below)

-- ---- a method of the kernel

pub begins_at_top : (code : CodeProgram) (stack : Stack) (at : Registers) (floor : ℕ) → floor ≡ at.top → StandLow code stack at → HasFrameRoom code stack
    → FramesCanBegin stack at floor
begins_at_top code stack at floor is stand room = record {
  laid = stand.standing.laid;
  waits = subst (λ (n : ℕ). IsLaid stack (with_top n at)) (sym is) stand.standing.laid;
  low = omega (arith, is);
  frames = room.frames;
}

pub looping_put : (code : CodeProgram) (s0 s1 : Stack) (at to : Registers) (kept : LoopingFrame) → kept.floor ≡ at.top → StandLow code s0 at
    → stood s1 to ≡ Loops kept ∷ stood s0 (with_top kept.floor at) → IsLaid s1 to → s1.frames.items ≡ Looping kept ∷ at_next at.next s0.frames.items
    → s1.values ≡ s0.values → s1.frames.room ≡ s0.frames.room → to ≡ with_top kept.floor at
    → FrameIsPut code (Loops kept) s0 at s1 to
looping_put code s0 s1 at to kept floor stand stands laid frames values room is = record {
  stands = stands ∙ ap (λ (n : ℕ). Loops kept ∷ stood s0 (with_top n at)) floor;
  stand = record {
    standing = record {
      laid = laid;
      within =
          subst (λ (row : ValueRow). FramesFitWithin (height_in code) (greatest_of code.bodies) (length row.items) s1.frames.items) (sym values)
          (subst (FramesFitWithin (height_in code) (greatest_of code.bodies) (length s0.values.items)) (sym frames)
          (omega (arith, floor, filled), omega (arith, floor, low, same), within_next (height_in code) (greatest_of code.bodies) (length s0.values.items) at.next s0.frames.items stand.standing.within));
    };
    top = let top = ap (λ (r : Registers). r.top) is in let all = ap (bound (greatest_of code.bodies)) frames in omega (arith, top, all, floor, low, same);
  };
  room = record { values = ap (λ (row : ValueRow). row.room) values; frames = room };
  count = let count = ap length frames in let many = many_next at.next s0.frames.items in omega (arith, count, many);
}
  where
    filled : at.top ≤ length s0.values.items
    filled = stand.standing.laid.filled

    low : at.top ≤ bound (greatest_of code.bodies) s0.frames.items
    low = stand.top

    same : bound (greatest_of code.bodies) (at_next at.next s0.frames.items) ≡ bound (greatest_of code.bodies) s0.frames.items
    same = bound_next (greatest_of code.bodies) at.next s0.frames.items
