-- The frames that the machine keeps, one below the other.
use Rattle.std.proofs.Common.{◌≡◌, ℕ, zero, suc, ◌+◌, ◌-◌, ◌<◌, ◌≤◌, List, [], ◌∷◌, ◌++◌, length, take, drop, reverse, refl, ap, sym, ◌∙◌, subst, arith, Bool, true, Option, Some, None, slice_get, length-drop}
use Rattle.std.proofs.lemmas.List.{drop-take, drop_all, reverse-append}
use Rattle.std.specs.Option.{option_map_or}
use Rattle.ns_base.specs.declared.place.Place.{Place as SourcePlace}
use Rattle.ns_code.specs.declared.program.CodeProgram.{CodeProgram}
use Rattle.ns_world.specs.declared.value.Value.{Value}
use Rattle.ns_code.specs.declared.body.BodyCode.{BodyCode}
use Rattle.ns_code.specs.declared.instruction.Instr.TheVariants.{ReturnSelf}
use Rattle.ns_moves.specs.declared.site.Site.{Site}
use Rattle.ns_moves.specs.State as state
use Rattle.ns_moves.specs.Steps.{placed, steps_of, steps_from}
use Rattle.ns_moves.specs.ValidFrames.{next_number}
use Rattle.ns_moves.specs.laws.Steps.{placed_length}
use Rattle.ns_machine_frames.specs.declared.frame.Frame.{Frame}
use Rattle.ns_machine_frames.specs.declared.frame.Frame.TheVariants.{Running, Looping}
use Rattle.ns_machine_frames.specs.declared.frame.RunningFrame.{RunningFrame}
use Rattle.ns_machine_frames.specs.declared.registers.Registers.{Registers}
use Rattle.ns_machine_frames.specs.Leaving.{floor_of}
use Rattle.ns_machine_frames.specs.Standing.{standing, AreLaid, with_next, at_next}
use Rattle.ns_machine_frames.specs.Stack.{stood, in_use, IsLaid}
use Rattle.ns_machine_frames.specs.View.{site_shown, leaving_shown, frame_shown, frames_shown}
use Rattle.ns_machine_frames.specs.laws.Counts.{many_shown, many_stand, many_next}
use Rattle.ns_machine_core.specs.declared.state.Core.{Core}
use Rattle.ns_frozen.specs.declared.frame.FrozenFrame.{FrozenFrame}
use Rattle.ns_frozen.specs.declared.frame.FrameKind.{FrameKind}
use Rattle.ns_frozen.specs.Freezing.{kind_frozen, instr_frozen, frame_frozen, frames_down}
use Rattle.ns_machine_freeze.specs.Down.{count_of, stood_one, IsLaidTo, end_of, down, IsDown}

-- ---- lists

-- what is taken of what was taken
pub take_twice : {A : Type 0} (few many : ℕ) (values : List A) → few ≤ many → take few (take many values) ≡ take few values
take_twice zero many values low = refl
take_twice (suc few) zero values low = absurd (omega (arith, low))
take_twice (suc few) (suc many) [] low = refl
take_twice (suc few) (suc many) (value ∷ values) low = ap (λ rest. value ∷ rest) (take_twice few many values (omega (arith, low)))

-- a part of what was taken
pub own_locals : (values : List Value) (base operands end : ℕ) → base ≤ operands → operands ≤ end
    → drop base (take operands values) ≡ take (operands - base) (drop base (take end values))
own_locals values base operands end first last =
    let whole : base + (operands - base) ≡ operands = omega (arith, first) in
    ap (drop base) (sym (take_twice operands end values last))
    ∙ (ap (λ (n : ℕ). drop base (take n (take end values))) (sym whole) ∙ drop-take base (operands - base) (take end values))

-- a list that begins, from its first on
opens : {A : Type 0} (list rest : List A) (first : A) → list ≡ first ∷ rest → drop 0 list ≡ first ∷ drop (0 + 1) list
opens list rest first e = subst (λ all. drop 0 all ≡ first ∷ drop (0 + 1) all) (sym e) refl

one_less : {A : Type 0} (number : ℕ) (list : List A) → drop number list ≡ drop (suc number - 1) list
one_less number list = let same : number ≡ suc number - 1 = omega arith in ap (λ (n : ℕ). drop n list) same

-- ---- where the values of a frame end

laid_parts : (frame : Frame) (frames : List Frame) (top : ℕ) → AreLaid (frame ∷ frames) top → (floor_of frame ≤ top) × AreLaid frames (floor_of frame)
laid_parts (Running frame) frames top laid =
    let a = laid.0 in let b = laid.1 in let c = laid.2 in (omega (arith, a, b, c), laid.3)
laid_parts (Looping frame) frames top laid = laid

laid_one : (frame : Frame) (frames : List Frame) (top filled : ℕ) → AreLaid (frame ∷ frames) top → top ≤ filled → IsLaidTo frame top filled
laid_one (Running frame) frames top filled laid within = (laid.1, laid.2, within)
laid_one (Looping frame) frames top filled laid within = tt

laid_at : (frames : List Frame) (top filled number : ℕ) (frame : Frame) (rest : List Frame) → AreLaid frames top → top ≤ filled
    → drop number frames ≡ frame ∷ rest → IsLaidTo frame (end_of top frames number) filled
laid_at [] top filled zero frame rest laid within e = absurd (cc)
laid_at [] top filled (suc number) frame rest laid within e = absurd (cc)
laid_at (first ∷ frames) top filled zero frame rest laid within e =
    let same : first ≡ frame = cc in
    subst (λ (f : Frame). IsLaidTo f top filled) same (laid_one first frames top filled laid within)
laid_at (first ∷ frames) top filled (suc number) frame rest laid within e =
    let parts = laid_parts first frames top laid in
    laid_at frames (floor_of first) filled number frame rest parts.1 (let low = parts.0 in omega (arith, low, within)) e

-- the values of a frame end where those of the next one above begin
end_above : (frames : List Frame) (top number : ℕ) (above : Frame) (rest : List Frame) → drop number frames ≡ above ∷ rest
    → end_of top frames (suc number) ≡ floor_of above
end_above [] top zero above rest e = absurd (cc)
end_above [] top (suc number) above rest e = absurd (cc)
end_above (first ∷ frames) top zero above rest e = let same : first ≡ above = cc in ap floor_of same
end_above (first ∷ frames) top (suc number) above rest e = end_above frames (floor_of first) number above rest e

-- ---- one frame among those that are shown

module _ (code : CodeProgram) (places : List SourcePlace) where
  -- frames as plain data with the values that end with them
  abbrev data_down : Bool → List Frame → List Value → List FrozenFrame
  data_down waits frames values = frames_down code waits (frames_shown code places (standing frames values))

  abbrev data_one : Bool → Frame → List Value → FrozenFrame
  data_one waits frame values = frame_frozen code waits (frame_shown code places (stood_one frame values))

  first_down : (waits : Bool) (frame : Frame) (frames : List Frame) (values : List Value)
      → data_down waits (frame ∷ frames) values ≡ data_one waits frame values ∷ data_down true frames (take (floor_of frame) values)
  first_down waits (Running frame) frames values = refl
  first_down waits (Looping frame) frames values = refl

  -- those below the first wait, whether it does or not
  same_below : (waits : Bool) (number : ℕ) (frames : List Frame) (values : List Value)
      → drop (suc number) (data_down waits frames values) ≡ drop (suc number) (data_down true frames values)
  same_below waits number [] values = refl
  same_below waits number (frame ∷ frames) values =
      ap (drop (suc number)) (first_down waits frame frames values) ∙ sym (ap (drop (suc number)) (first_down true frame frames values))

  at_down : (number top : ℕ) (frames : List Frame) (values : List Value) (frame : Frame) (rest : List Frame) → AreLaid frames top
      → drop number frames ≡ frame ∷ rest
      → drop number (data_down true frames (take top values))
      ≡ data_one true frame (take (end_of top frames number) values) ∷ drop (number + 1) (data_down true frames (take top values))
  at_down zero top [] values frame rest laid e = absurd (cc)
  at_down (suc number) top [] values frame rest laid e = absurd (cc)
  at_down zero top (first ∷ frames) values frame rest laid e =
      let same : first ≡ frame = cc in
      opens (data_down true (first ∷ frames) (take top values)) (data_down true frames (take (floor_of first) (take top values)))
      (data_one true frame (take top values))
      (first_down true first frames (take top values)
      ∙ ap (λ (f : Frame). data_one true f (take top values) ∷ data_down true frames (take (floor_of first) (take top values))) same)
  at_down (suc number) top (first ∷ frames) values frame rest laid e =
      let parts = laid_parts first frames top laid in
      let whole : data_down true (first ∷ frames) (take top values)
      ≡ data_one true first (take top values) ∷ data_down true frames (take (floor_of first) values) =
      first_down true first frames (take top values)
      ∙ ap (λ (vs : List Value). data_one true first (take top values) ∷ data_down true frames vs) (take_twice (floor_of first) top values parts.0) in
      let next : suc number + 1 ≡ suc (number + 1) = omega arith in
      ap (drop (suc number)) whole
      ∙ (at_down number (floor_of first) frames values frame rest parts.1 e
      ∙ ap (λ (more : List FrozenFrame). data_one true frame (take (end_of (floor_of first) frames number) values) ∷ more)
      (sym (ap (λ (n : ℕ). drop n (data_down true (first ∷ frames) (take top values))) next ∙ ap (drop (suc (number + 1))) whole)))

-- ---- the next instruction

count_is : (code : CodeProgram) (body : ℕ) → count_of code body ≡ length (steps_of code body)
count_is code body = of (slice_get code.bodies body)
  where
    of : (o : Option BodyCode) → option_map_or (λ (b : BodyCode). length b.instrs) o 1
        ≡ length (option_map_or (λ (b : BodyCode). placed b.places 0 b.instrs) o ((ReturnSelf, None) ∷ []))
    of (Some body) = sym (placed_length body.places 0 body.instrs)
    of None = refl

-- it is behind the last one, or the one of its number
pub next_behind : (code : CodeProgram) (body next : ℕ) → count_of code body ≤ next
    → count_of code body ≡ next_number code body (steps_from code body next)
next_behind code body next past = omega (arith, past, count_is code body, length-drop next (steps_of code body))

pub next_among : (code : CodeProgram) (body next : ℕ) → next < count_of code body → next ≡ next_number code body (steps_from code body next)
next_among code body next within = omega (arith, within, count_is code body, length-drop next (steps_of code body))

-- ---- the frame of a body

pub running_frozen : (code : CodeProgram) (places : List SourcePlace) (frame : RunningFrame) (waits : Bool) (values : List Value)
    (kind : FrameKind) (instr : ℕ) (locals operands : List Value) (site : Site)
    → kind ≡ kind_frozen code (leaving_shown frame.leaving frame.activation) frame.activation.body
    → instr ≡ instr_frozen code waits frame.activation.body (steps_from code frame.activation.body frame.next)
    → locals ≡ take (frame.operands - frame.base) (drop frame.base values) → operands ≡ reverse (reverse (drop frame.operands values))
    → site ≡ site_shown places frame.activation.site
    → record {
      kind = kind;
      instr = instr;
      receiver = frame.activation.me;
      holder = frame.activation.holder;
      home = frame.activation.home;
      env = frame.activation.env;
      locals = locals;
      operands = operands;
      site = site;
    } ≡ frame_frozen code waits (frame_shown code places (stood_one (Running frame) values))
running_frozen code places frame waits values kind instr locals operands site k i l o s = rw (k, i, l, o, s) refl

-- ---- the frames of a stack

-- the first with the number of its next instruction
first_next : (next : ℕ) (items frames : List Frame) (frame : Frame) → items ≡ frame ∷ frames → at_next next items ≡ with_next next frame ∷ frames
first_next next items frames frame e = ap (at_next next) e

laid_next : (next top : ℕ) (items : List Frame) → AreLaid items top → AreLaid (at_next next items) top
laid_next next top [] laid = tt
laid_next next top (Running frame ∷ frames) laid = laid
laid_next next top (Looping frame ∷ frames) laid = laid

below_next : (next number : ℕ) (items : List Frame) → drop (suc number) (at_next next items) ≡ drop (suc number) items
below_next next number [] = refl
below_next next number (frame ∷ frames) = refl

end_next : (next top number : ℕ) (items : List Frame) → end_of top (at_next next items) (suc number) ≡ end_of top items (suc number)
end_next next top number [] = refl
end_next next top number (Running frame ∷ frames) = refl
end_next next top number (Looping frame ∷ frames) = refl

module _ (code : CodeProgram) (core : Core) (at : Registers) (waits : Bool) (laid : IsLaid core.stack at) where
  -- the topmost
  pub topmost_laid : (frame : Frame) (rest : List Frame) → core.stack.frames.items ≡ frame ∷ rest
      → IsLaidTo (with_next at.next frame) at.top (length core.stack.values.items)
  topmost_laid frame rest e =
      laid_one (with_next at.next frame) rest at.top (length core.stack.values.items)
      (subst (λ (items : List Frame). AreLaid items at.top) (first_next at.next core.stack.frames.items rest frame e)
      (laid_next at.next at.top core.stack.frames.items laid.frames)) laid.filled

  pub topmost_down : (frame : Frame) (rest : List Frame) (frozen : FrozenFrame) → core.stack.frames.items ≡ frame ∷ rest
      → frozen ≡ frame_frozen code waits (frame_shown code core.places (stood_one (with_next at.next frame) (take at.top core.stack.values.items)))
      → IsDown code core at waits 0 frozen
  topmost_down frame rest frozen e is =
      let values = in_use core.stack at in
      let below = data_down code core.places true rest (take (floor_of (with_next at.next frame)) values) in
      opens (down code core at waits) below frozen
      (ap (λ (items : List Frame). data_down code core.places waits items values) (first_next at.next core.stack.frames.items rest frame e)
      ∙ (first_down code core.places waits (with_next at.next frame) rest values ∙ ap (λ (f : FrozenFrame). f ∷ below) (sym is)))

  -- one below another
  lower_is : (number : ℕ) (frame : Frame) (rest : List Frame) (frozen : FrozenFrame) → drop (suc number) core.stack.frames.items ≡ frame ∷ rest
      → frozen ≡ frame_frozen code true (frame_shown code core.places
      (stood_one frame (take (end_of at.top core.stack.frames.items (suc number)) core.stack.values.items)))
      → IsDown code core at waits (suc number) frozen
  lower_is number frame rest frozen e is =
      let items = at_next at.next core.stack.frames.items in
      let values = core.stack.values.items in
      let whole = down code core at true in
      same_below code core.places waits number items (take at.top values)
      ∙ (at_down code core.places (suc number) at.top items values frame rest (laid_next at.next at.top core.stack.frames.items laid.frames)
      (below_next at.next number core.stack.frames.items ∙ e)
      ∙ (ap (λ (n : ℕ). data_one code core.places true frame (take n values) ∷ drop (suc number + 1) whole) (end_next at.next at.top number core.stack.frames.items)
      ∙ (ap (λ (f : FrozenFrame). f ∷ drop (suc number + 1) whole) (sym is)
      ∙ ap (λ (more : List FrozenFrame). frozen ∷ more) (sym (same_below_more number)))))
    where
      same_below_more : (n : ℕ) → drop (suc n + 1) (down code core at waits) ≡ drop (suc n + 1) (down code core at true)
      same_below_more n =
          let next : suc n + 1 ≡ suc (n + 1) = omega arith in
          ap (λ (k : ℕ). drop k (down code core at waits)) next
          ∙ (same_below code core.places waits (n + 1) (at_next at.next core.stack.frames.items) (take at.top core.stack.values.items)
          ∙ sym (ap (λ (k : ℕ). drop k (down code core at true)) next))

  pub lower_laid : (number : ℕ) (frame above : Frame) (rest more : List Frame) → 0 < number → drop number core.stack.frames.items ≡ frame ∷ rest
      → drop (number - 1) core.stack.frames.items ≡ above ∷ more → IsLaidTo frame (floor_of above) (length core.stack.values.items)
  lower_laid zero frame above rest more some e f = absurd (omega (arith, some))
  lower_laid (suc number) frame above rest more some e f =
      subst (λ (end : ℕ). IsLaidTo frame end (length core.stack.values.items))
      (end_above core.stack.frames.items at.top number above more (one_less number core.stack.frames.items ∙ f))
      (laid_at core.stack.frames.items at.top (length core.stack.values.items) (suc number) frame rest laid.frames laid.filled e)

  pub lower_down : (number : ℕ) (frame above : Frame) (rest more : List Frame) (frozen : FrozenFrame) → 0 < number
      → drop number core.stack.frames.items ≡ frame ∷ rest → drop (number - 1) core.stack.frames.items ≡ above ∷ more
      → frozen ≡ frame_frozen code true (frame_shown code core.places (stood_one frame (take (floor_of above) core.stack.values.items)))
      → IsDown code core at waits number frozen
  lower_down zero frame above rest more frozen some e f is = absurd (omega (arith, some))
  lower_down (suc number) frame above rest more frozen some e f is =
      let end = end_above core.stack.frames.items at.top number above more (one_less number core.stack.frames.items ∙ f) in
      lower_is number frame rest frozen e
      (is ∙ ap (λ (n : ℕ). frame_frozen code true (frame_shown code core.places (stood_one frame (take n core.stack.values.items)))) (sym end))

  -- ---- all of them

  many_down : length (down code core at waits) ≡ length core.stack.frames.items
  many_down =
      many_frozen waits (frames_shown code core.places (stood core.stack at))
      ∙ (many_shown code core.places (stood core.stack at)
      ∙ (many_stand (at_next at.next core.stack.frames.items) (in_use core.stack at) ∙ many_next at.next core.stack.frames.items))
    where
      many_frozen : (w : Bool) (frames : List state.Frame) → length (frames_down code w frames) ≡ length frames
      many_frozen w [] = refl
      many_frozen w (frame ∷ frames) = ap suc (many_frozen true frames)

  pub all_start : (count : ℕ) → count ≡ length core.stack.frames.items → [] ≡ reverse (drop (count - 0) (down code core at waits))
  all_start count e = ap reverse (sym (drop_all (count - 0) (down code core at waits) (let many = many_down in omega (arith, e, many))))

  pub all_go_on : (frames : List FrozenFrame) (frame : FrozenFrame) (count done : ℕ) → done < count
      → frames ≡ reverse (drop (count - done) (down code core at waits)) → IsDown code core at waits (count - 1 - done) frame
      → frames ++ frame ∷ [] ≡ reverse (drop (count - (done + 1)) (down code core at waits))
  all_go_on frames frame count done more so_far is =
      let whole = down code core at waits in
      let this : count - (done + 1) ≡ count - 1 - done = omega (arith, more) in
      let next : count - 1 - done + 1 ≡ count - done = omega (arith, more) in
      ap (λ (all : List FrozenFrame). all ++ frame ∷ []) (so_far ∙ ap (λ (n : ℕ). reverse (drop n whole)) (sym next))
      ∙ (sym (reverse-append (frame ∷ []) (drop (count - 1 - done + 1) whole))
      ∙ (ap reverse (sym is) ∙ ap (λ (n : ℕ). reverse (drop n whole)) (sym this)))

  pub all_done : (frames : List FrozenFrame) (count done : ℕ) → count ≤ done → frames ≡ reverse (drop (count - done) (down code core at waits))
      → frames ≡ reverse (down code core at waits)
  all_done frames count done past so_far =
      let none : count - done ≡ 0 = omega (arith, past) in
      so_far ∙ ap (λ (n : ℕ). reverse (drop n (down code core at waits))) none
