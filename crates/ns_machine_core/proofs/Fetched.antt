-- The next step of a valid run that goes on with a body.
use Rattle.std.proofs.Common.{◌≡◌, ℕ, zero, suc, ◌+◌, ◌-◌, ◌<◌, ◌≤◌, List, [], ◌∷◌, length, take, drop, get_or, refl, ap, sym, ◌∙◌, subst, arith, Option, Some, None, true, slice_get}
use Rattle.std.specs.Prelude.{IsSome, reverse}
use Rattle.std.specs.Option.{option_map_or, ForSome}
use Rattle.std.proofs.lemmas.List.{length-drop}
use Rattle.std.proofs.lemmas.Option.{get_or_from_slice_get, slice_get-get_or}
use Rattle.ns_base.specs.declared.place.Place.{Place as SourcePlace}
use Rattle.ns_code.specs.declared.program.CodeProgram.{CodeProgram}
use Rattle.ns_code.specs.declared.body.BodyCode.{BodyCode}
use Rattle.ns_code.specs.declared.instruction.Instr.{Instr}
use Rattle.ns_code.specs.declared.instruction.Instr.TheVariants as i
use Rattle.ns_code.specs.Table.{takes, leaves, goes_on}
use Rattle.ns_world.specs.declared.value.Value.{Value}
use Rattle.ns_facets.specs.declared.row.Grants.{Grants}
use Rattle.ns_verify.specs.Heights.{heights}
use Rattle.ns_verify.specs.Verify.{IsSound}
use Rattle.ns_verify.specs.Places.{height_before, HeightsAgree}
use Rattle.ns_verify.specs.Uses.{IsUsable}
use Rattle.ns_moves.specs.Control.{Progress}
use Rattle.ns_moves.specs.State as state
use Rattle.ns_moves.specs.State.{Phase, Going}
use Rattle.ns_moves.specs.Steps.{PlacedInstr, placed, steps_of, steps_from}
use Rattle.ns_moves.specs.Move.{move}
use Rattle.ns_moves.specs.Standing.{ValidFindsAsked}
use Rattle.ns_moves.specs.WorldAsks.{FindsAsked, InstructionRunsOn}
use Rattle.ns_moves.specs.ValidFrames.{Nothing, next_number, height_of, StandsBefore, RunningIsValid}
use Rattle.ns_moves.specs.Valid.{WorldIsValid, Valid}
use Rattle.ns_moves.specs.laws.Steps.{placed_length, placed_at}
use Rattle.ns_moves.specs.Start.{standing_cells}
use Rattle.ns_machine_frames.specs.declared.frame.Frame.{Frame}
use Rattle.ns_machine_frames.specs.declared.frame.Frame.TheVariants.{Running}
use Rattle.ns_machine_frames.specs.declared.frame.RunningFrame.{RunningFrame}
use Rattle.ns_machine_frames.specs.declared.registers.Registers.{Registers}
use Rattle.ns_machine_frames.specs.Standing.{Stood, Runs, standing, at_next, below}
use Rattle.ns_machine_frames.specs.View.{leaving_shown, activation_shown, frames_shown}
use Rattle.ns_machine_core.specs.declared.state.Core.{Core}
use Rattle.ns_machine_core.specs.declared.state.Next.TheVariants.{On}
use Rattle.ns_machine_core.specs.Shown.{phase_shown, progress_in, shown}
use Rattle.ns_moves.specs.Bodies.{height_in}
use Rattle.ns_machine_core.specs.Doing.{done, FindsWhatItTakes, Finds}
use Rattle.ns_machine_core.specs.Moving.{HasNextStep}

-- ---- lists of steps

drop_there : {A : Type 0} (k : ℕ) (xs : List A) (x : A) → slice_get xs k ≡ Some x → drop k xs ≡ x ∷ drop (suc k) xs
drop_there k [] x e = absurd (cc)
drop_there zero (y ∷ ys) x e = let same : y ≡ x = cc in ap (λ z. z ∷ ys) same
drop_there (suc k) (y ∷ ys) x e = drop_there k ys x e

-- ---- a frame that stands before a step

-- what is known of sound code
pub record CodeKnown (code : CodeProgram) : Type 0 where
  pub heights : (body : BodyCode) (at : ℕ) (instr : Instr) → slice_get body.instrs at ≡ Some instr → slice_get (heights body) at ≡ Some (height_before body at)
  pub agree : (number at : ℕ) (body : BodyCode) (instr : Instr) → IsSound code → slice_get code.bodies number ≡ Some body
      → slice_get body.instrs at ≡ Some instr → HeightsAgree body at instr
  pub usable : (number at : ℕ) (body : BodyCode) (instr : Instr) → IsSound code → slice_get code.bodies number ≡ Some body
      → slice_get body.instrs at ≡ Some instr → IsUsable code number body at instr
  pub asks : ValidFindsAsked code

module _ (code : CodeProgram) (known : CodeKnown code) (grants : Grants) (places : List SourcePlace) (phase : Phase) (running : RunningFrame)
    (locals stack : List Value) (others : List Stood) (p : Progress) (next : ℕ) (b : BodyCode)
    (there : slice_get code.bodies running.activation.body ≡ Some b) where
  steps_are : steps_of code running.activation.body ≡ placed b.places 0 b.instrs
  steps_are = ap (λ o. option_map_or (λ (b : BodyCode). placed b.places 0 b.instrs) o ((i.ReturnSelf, None) ∷ [])) there

  many : length (steps_of code running.activation.body) ≡ length b.instrs
  many = ap length steps_are ∙ placed_length b.places 0 b.instrs

  module _ (valid : Valid code grants (Going phase (frames_shown code places (Runs (record running { next = next }) locals stack ∷ others)) p)) where
    here : RunningIsValid code p Nothing (leaving_shown running.leaving running.activation) (activation_shown places running.activation) locals
        (steps_from code running.activation.body next) stack
    here = valid.2.0

    world : WorldIsValid code (standing_cells code grants) p
    world = valid.0.world

    before : StandsBefore b (next_number code running.activation.body (steps_from code running.activation.body next)) (length stack)
    before = here.stands b there

    left : length (steps_from code running.activation.body next) ≡ length (steps_of code running.activation.body) - next
    left = length-drop next (steps_of code running.activation.body)

    inside : next < length b.instrs
    inside = let low = before.0 in let l = left in let m = many in omega (arith, low, l, m)

    is_number : next_number code running.activation.body (steps_from code running.activation.body next) ≡ next
    is_number = let low = before.0 in let l = left in let m = many in omega (arith, low, l, m)

    count : length stack ≡ height_of b next
    count = before.1 ∙ ap (height_of b) is_number

    pub step_there : IsSome (slice_get (steps_of code running.activation.body) next)
    step_there = let m = many in let low = inside in
        let e = slice_get-get_or (steps_of code running.activation.body) next (i.Pop, None) (omega (arith, m, low)) in rw e refl

    module _ (step : PlacedInstr) (is : slice_get (steps_of code running.activation.body) next ≡ Some step) where
      instr_is : slice_get b.instrs next ≡ Some step.0
      instr_is = (placed_at b.places 0 next b.instrs step (ap (λ (l : List PlacedInstr). slice_get l next) (sym steps_are) ∙ is)).0

      on : steps_from code running.activation.body next ≡ step ∷ steps_from code running.activation.body (next + 1)
      on =
          let same : suc next ≡ next + 1 = omega arith in
          drop_there next (steps_of code running.activation.body) step is ∙ ap (λ (k : ℕ). step ∷ steps_from code running.activation.body k) same

      asked : InstructionRunsOn code step (leaving_shown running.leaving running.activation) (activation_shown places running.activation) p
      asked = subst
          (λ (rest : List PlacedInstr). FindsAsked code (Going phase (state.Running (leaving_shown running.leaving running.activation)
          (activation_shown places running.activation) locals rest stack ∷ frames_shown code places others) p))
          on (known.asks grants (Going phase (frames_shown code places (Runs (record running { next = next }) locals stack ∷ others)) p) valid)

      height_is : (at : ℕ) (instr : Instr) → slice_get b.instrs at ≡ Some instr → height_of b at ≡ height_before b at
      height_is at instr e = get_or_from_slice_get (heights b) at (height_before b at) 0 (known.heights b at instr e)

      agrees : (at : ℕ) (instr : Instr) → slice_get b.instrs at ≡ Some instr → HeightsAgree b at instr
      agrees at instr e = known.agree running.activation.body at b instr world.sound there e

      enough : takes step.0 ≤ length stack
      enough = let c = count in let h = height_is next step.0 instr_is in let e = (agrees next step.0 instr_is).enough in omega (arith, c, h, e)

      height_there : b.height ≡ height_in code running.activation.body
      height_there = sym (ap (λ o. option_map_or (λ (body : BodyCode). body.height) o 0) there)

      room : goes_on step.0 ≡ true → length stack - takes step.0 + leaves step.0 ≤ height_in code running.activation.body
      room goes =
          let own = agrees next step.0 instr_is in
          let after = own.next goes in
          let later : slice_get b.instrs (next + 1) ≡ Some (get_or b.instrs (next + 1) i.Pop) = slice_get-get_or b.instrs (next + 1) i.Pop (own.next_there goes) in
          let within = (agrees (next + 1) (get_or b.instrs (next + 1) i.Pop) later).within in
          let c = count in let h = height_is next step.0 instr_is in let t = height_there in
          omega (arith, c, h, t, after, within)

      pub finds : FindsWhatItTakes code places step.0 (record running { next = next + 1 }) locals stack p
      finds = record {
        enough = enough;
        room = room;
        inside = let low = inside in let m = many in (omega arith, omega (arith, low, m));
        lands = λ to e. let low = (agrees next step.0 instr_is).target_there to e in let m = many in omega (arith, low, m);
        asks = asked.asks;
        uses = λ body e.
            let both : Some b ≡ Some body = sym there ∙ e in
            let same : b ≡ body = cc in
            let back : next ≡ next + 1 - 1 = omega arith in
            subst (λ (n : ℕ). IsUsable code running.activation.body body n step.0) back
            (subst (λ (body : BodyCode). IsUsable code running.activation.body body next step.0) same
            (known.usable running.activation.body next b step.0 world.sound there instr_is));
        fits = here.fits;
        object = here.object;
        environment = here.environment;
        beside = here.beside;
        live_locals = here.live_locals;
        live = here.live_stack;
        named = here.named;
        sound = world.sound;
        lawful = world.lawful;
        begun = world.begun;
      }

      pub file : ForSome step.1 (λ (place : SourcePlace). place.file < length code.files)
      file = asked.file

      pub moves : move code (Going phase (frames_shown code places (Runs (record running { next = next }) locals stack ∷ others)) p)
          ≡ done code places phase step.0 step.1 (Runs (record running { next = next + 1 }) locals stack ∷ others) p
      moves = ap
          (λ (rest : List PlacedInstr). move code (Going phase (state.Running (leaving_shown running.leaving running.activation)
          (activation_shown places running.activation) locals rest stack ∷ frames_shown code places others) p)) on

-- ---- the machine

none_there : (o : Option BodyCode) → o ≡ None → IsSome o → ⊥
none_there None e some = absurd (cc)
none_there (Some body) e some = absurd (cc)

pub next_step : (code : CodeProgram) (known : CodeKnown code) (grants : Grants) (core : Core) (at : Registers) (running : RunningFrame)
    → Valid code grants (shown code core (On at)) → core.stack.frames.items ≡ Running running ∷ below core.stack.frames.items
    → HasNextStep code core at running.activation.body
next_step code known grants core at running valid top = by_body (slice_get code.bodies running.activation.body) refl
  where
    others : List Frame
    others = below core.stack.frames.items

    all : List Value
    all = take at.top core.stack.values.items

    locals : List Value
    locals = take (running.operands - running.base) (drop running.base (take at.top core.stack.values.items))

    stack : List Value
    stack = reverse (drop running.operands (take at.top core.stack.values.items))

    rest : List Stood
    rest = standing (below core.stack.frames.items) (take running.floor (take at.top core.stack.values.items))

    stands : (k : ℕ) → standing (at_next k core.stack.frames.items) (take at.top core.stack.values.items) ≡ Runs (record running { next = k }) locals stack ∷ rest
    stands k = ap (λ (frames : List Frame). standing (at_next k frames) (take at.top core.stack.values.items)) top

    valid_here : Valid code grants (Going (phase_shown core.phase) (frames_shown code core.places (Runs (record running { next = at.next }) locals stack ∷ rest)) (progress_in core))
    valid_here = subst (λ (s : List Stood). Valid code grants (Going (phase_shown core.phase) (frames_shown code core.places s) (progress_in core))) (stands at.next) valid

    by_body : (o : Option BodyCode) → slice_get code.bodies running.activation.body ≡ o → HasNextStep code core at running.activation.body
    by_body None e = absurd (none_there (slice_get code.bodies running.activation.body) e valid_here.2.0.fits.there)
    by_body (Some b) e = record {
      there = step_there code known grants core.places (phase_shown core.phase) running locals stack rest (progress_in core) at.next b e valid_here;
      is = λ step is. record {
        finds = subst (λ (s : List Stood). Finds code core.places step.0 s (progress_in core)) (sym (stands (at.next + 1)))
            (finds code known grants core.places (phase_shown core.phase) running locals stack rest (progress_in core) at.next b e valid_here step is);
        file = file code known grants core.places (phase_shown core.phase) running locals stack rest (progress_in core) at.next b e valid_here step is;
        moves = ap (λ (s : List Stood). move code (Going (phase_shown core.phase) (frames_shown code core.places s) (progress_in core))) (stands at.next)
            ∙ (moves code known grants core.places (phase_shown core.phase) running locals stack rest (progress_in core) at.next b e valid_here step is
            ∙ ap (λ (s : List Stood). done code core.places (phase_shown core.phase) step.0 step.1 s (progress_in core)) (sym (stands (at.next + 1))));
      };
    }
