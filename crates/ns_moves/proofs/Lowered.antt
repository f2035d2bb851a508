-- Moves that charge no step lower what can be done without one.
use Rattle.std.proofs.Common.{◌≡◌, ℕ, suc, ◌+◌, ◌*◌, ◌<◌, ◌≤◌, List, [], ◌∷◌, length, refl, arith, eqb, Option, Some, None}
use Rattle.std.proofs.Common.{Bool, true, false, cond, slice_get}
use Rattle.std.specs.Prelude.{IsSome}
use Rattle.std.proofs.lemmas.Bool.{ltb-false}
use Rattle.ns_base.specs.declared.place.Place.{Place as SourcePlace}
use Rattle.ns_code.specs.declared.program.CodeProgram.{CodeProgram}
use Rattle.ns_code.specs.declared.body.BodyCode.{BodyCode}
use Rattle.ns_code.specs.declared.instruction.Instr.{Instr}
use Rattle.ns_code.specs.declared.instruction.Instr.TheVariants as i
use Rattle.ns_world.specs.declared.value.Value.{Value}
use Rattle.ns_world.specs.declared.value.Value.TheVariants as value
use Rattle.ns_world.specs.declared.cell.NewCell.{NewCell}
use Rattle.ns_world.specs.declared.cell.NewCell.TheVariants as new
use Rattle.ns_world.specs.declared.ending.Kind.TheVariants.{DeadReturn, WrongArity}
use Rattle.ns_world.specs.declared.ending.LimitKind.TheVariants.{Steps, Depth}
use Rattle.ns_world.specs.World.{stepped, entered, left}
use Rattle.ns_world.specs.Heap.{is_ordered}
use Rattle.ns_facets.specs.declared.row.Grants.{Grants}
use Rattle.ns_world.specs.declared.kernel_parts.KMethod.{KMethod}
use Rattle.ns_kcode.specs.declared.state.KState.{KState}
use Rattle.ns_kcode.specs.declared.state.KAction.{KAction}
use Rattle.ns_kcode.specs.declared.state.KAction.TheVariants as action
use Rattle.ns_kcode.specs.Next.{next}
use Rattle.ns_kdata.specs.Arguments.{shape_of_value}
use Rattle.ns_moves.specs.declared.site.Site.{Site}
use Rattle.ns_moves.specs.Site.{error}
use Rattle.ns_moves.specs.Control.{Progress, in_world, Activation, FromBody, After, Gives, Halts, Control, Enter, PartControl, Skip, Stop, EnterPart, charged, halts, fails, frame_left}
use Rattle.ns_moves.specs.Bodies.{parameters_of, opened}
use Rattle.ns_moves.specs.Blocks.{block_body_in, block_entered, acted, new_text, new_block, new_array}
use Rattle.ns_moves.specs.Classes.{super_part, body_ended}
use Rattle.ns_moves.specs.State.{Leaving, Loud, Silent, Frame, Running, Looping, Sending, Performing, Evaluating, Phase, Start, First, Second, Hosted}
use Rattle.ns_moves.specs.State.{State, Unbegun, Going, Pends, Ended, Stuck}
use Rattle.ns_moves.specs.Steps.{PlacedInstr, steps_of, steps_from, literal}
use Rattle.ns_moves.specs.Returns.{concluded, delivered, settled, returned, is_home, has_home, unwound, returned_home}
use Rattle.ns_moves.specs.Arrivals.{arrived, part_arrived, acted_on}
use Rattle.ns_moves.specs.Operands.{on_top}
use Rattle.ns_moves.specs.Jumps.{goes_back, jumped, jumped_on}
use Rattle.ns_moves.specs.Instructions.{executed}
use Rattle.ns_moves.specs.Charging.{jump_charges, instr_charges, action_charges}
use Rattle.ns_moves.specs.Left.{longest, weight, frames_left, left_of}
use Rattle.ns_moves.specs.ValidFrames.{Nothing, RunningIsValid}
use Rattle.ns_moves.specs.laws.Operands.{on_top_all, taken_all, picked_all}
use Rattle.ns_moves.specs.Falling.{FreeMovesLower}
use Rattle.ns_moves.proofs.Weights.{weight_some, weighs_more, weigh_less, within_longest, steps_few}
use Rattle.ns_moves.proofs.Earlier.{EntersEarlier, super_earlier}

-- ---- a value that comes to frames

concluded_left : (most : ℕ) (code : CodeProgram) (phase : Phase) (v : Value) (p : Progress) → left_of most (concluded code phase v p) ≤ 2
concluded_left most code Start v p = omega arith
concluded_left most code (First arguments) v p = omega arith
concluded_left most code Second v p = omega arith
concluded_left most code Hosted v p = omega arith

delivered_left : (most : ℕ) (code : CodeProgram) (phase : Phase) (v : Value) (frames : List Frame) (p : Progress)
    → left_of most (delivered code phase v frames p) ≤ 2 + frames_left most frames
delivered_left most code phase v [] p = let c = concluded_left most code phase v p in omega (arith, c)
delivered_left most code phase v (Running leaving a ls rest stack ∷ frames) p = omega arith
delivered_left most code phase v (Looping method state site ∷ frames) p = omega arith

settled_left : (most : ℕ) (code : CodeProgram) (phase : Phase) (after : After) (frames : List Frame)
    → left_of most (settled code phase after frames) ≤ 2 + frames_left most frames
settled_left most code phase (Gives v p) frames = delivered_left most code phase v frames p
settled_left most code phase (Halts ending p) frames = omega arith

returned_left : (most : ℕ) (code : CodeProgram) (phase : Phase) (leaving : Leaving) (a : Activation) (v : Value) (frames : List Frame) (p : Progress)
    → left_of most (returned code phase leaving a v frames p) ≤ 2 + frames_left most frames
returned_left most code phase (Loud exit) a v frames p = settled_left most code phase (body_ended code exit a v p) frames
returned_left most code phase Silent a v frames p = omega arith

unwound_left : (most : ℕ) (code : CodeProgram) (phase : Phase) (home : ℕ) (v : Value) (frames : List Frame) (p : Progress)
    → left_of most (unwound code phase home v frames p) ≤ 2 + frames_left most frames
unwound_left most code phase home v [] p = omega arith
unwound_left most code phase home v (frame ∷ frames) p = tested (is_home home frame)
    (delivered_left most code phase v frames (frame_left p)) (unwound_left most code phase home v frames (frame_left p))
  where
    tested : (b : Bool) → left_of most (delivered code phase v frames (frame_left p)) ≤ 2 + frames_left most frames
        → left_of most (unwound code phase home v frames (frame_left p)) ≤ 2 + frames_left most frames
        → left_of most (cond b (delivered code phase v frames (frame_left p)) (unwound code phase home v frames (frame_left p)))
        ≤ 2 + frames_left most (frame ∷ frames)
    tested true here below = omega (arith, here)
    tested false here below = omega (arith, below)

home_left : (most : ℕ) (code : CodeProgram) (phase : Phase) (a : Activation) (v : Value) (frames : List Frame) (p : Progress)
    → left_of most (returned_home code phase a v frames p) ≤ 2 + frames_left most frames
home_left most code phase a v frames p = tested (has_home a.home frames) (unwound_left most code phase a.home v frames p)
  where
    tested : (b : Bool) → left_of most (unwound code phase a.home v frames p) ≤ 2 + frames_left most frames
        → left_of most (cond b (unwound code phase a.home v frames p) (Ended (error DeadReturn a.site) phase p)) ≤ 2 + frames_left most frames
    tested true lands = lands
    tested false lands = omega arith

-- ---- instructions

module _ (code : CodeProgram) (some : 1 ≤ longest code.bodies) (phase : Phase) (leaving : Leaving) (a : Activation) (ls : List Value) (step : PlacedInstr)
    (rest : List PlacedInstr) (frames : List Frame) (p : Progress) (ordered : is_ordered p.world.cells ≡ true) where
  -- less is left than before the step
  abbrev Lower : State → Type 0
  Lower s =
      left_of (longest code.bodies) s
      < 2 + (1 + length (step ∷ rest) * weight (longest code.bodies) a.holder + frames_left (longest code.bodies) frames)

  stuck : Lower (Stuck p)
  stuck = omega arith

  -- what is behind the step weighs less
  behind : (s : State)
      → left_of (longest code.bodies) s ≤ 2 + (1 + length rest * weight (longest code.bodies) a.holder + frames_left (longest code.bodies) frames) → Lower s
  behind s few =
      let w = weight_some (longest code.bodies) a.holder in
      let less : length rest * weight (longest code.bodies) a.holder < suc (length rest) * weight (longest code.bodies) a.holder =
      weigh_less (weight (longest code.bodies) a.holder) (length rest) (length rest) w (omega arith) in
      omega (arith, few, less)

  on : (locals stack : List Value) (q : Progress) → Lower (Going phase (Running leaving a locals rest stack ∷ frames) q)
  on locals stack q = behind (Going phase (Running leaving a locals rest stack ∷ frames) q) (omega arith)

  gone : (s : State) → left_of (longest code.bodies) s ≤ 2 + frames_left (longest code.bodies) frames → Lower s
  gone s few = omega (arith, few)

  settles : (after : After) (stack : List Value) → Lower (settled code phase after (Running leaving a ls rest stack ∷ frames))
  settles after stack =
      behind (settled code phase after (Running leaving a ls rest stack ∷ frames))
      (settled_left (longest code.bodies) code phase after (Running leaving a ls rest stack ∷ frames))

  -- ---- jumps

  lands : (landing : List PlacedInstr) (stack : List Value) → goes_back rest landing ≡ false
      → Lower (Going phase (Running leaving a ls landing stack ∷ frames) p)
  lands landing stack forward =
      let w = weight_some (longest code.bodies) a.holder in
      let few = ltb-false (length rest) (length landing) forward in
      let less : length landing * weight (longest code.bodies) a.holder < suc (length rest) * weight (longest code.bodies) a.holder =
      weigh_less (weight (longest code.bodies) a.holder) (length landing) (length rest) w few in
      omega (arith, less)

  jumps : (landing : List PlacedInstr) (stack : List Value) → goes_back rest landing ≡ false → Lower (jumped phase leaving a ls rest landing stack frames p)
  jumps landing stack forward = tested (goes_back rest landing) forward (lands landing stack forward)
    where
      tested : (b : Bool) → b ≡ false → Lower (Going phase (Running leaving a ls landing stack ∷ frames) p)
          → Lower (cond b (charged (λ ending q. Ended ending phase q) Steps (stepped p.world) p (Going phase (Running leaving a ls landing stack ∷ frames)))
          (Going phase (Running leaving a ls landing stack ∷ frames) p))
      tested true e low = absurd (cc)
      tested false e low = low

  jumps_on : (wanted : Bool) (v : Value) (landing : List PlacedInstr) (stack : List Value) → jump_charges wanted (v ∷ stack) rest landing ≡ false
      → Lower (jumped_on phase wanted v leaving a ls rest landing stack frames p)
  jumps_on true value.True landing stack e = jumps landing stack e
  jumps_on true value.False landing stack e = on ls stack p
  jumps_on true value.Nil landing stack e = omega arith
  jumps_on true (value.Int number) landing stack e = omega arith
  jumps_on true (value.Sym name) landing stack e = omega arith
  jumps_on true (value.Kernel class) landing stack e = omega arith
  jumps_on true (value.Ref cell) landing stack e = omega arith
  jumps_on false value.False landing stack e = jumps landing stack e
  jumps_on false value.True landing stack e = on ls stack p
  jumps_on false value.Nil landing stack e = omega arith
  jumps_on false (value.Int number) landing stack e = omega arith
  jumps_on false (value.Sym name) landing stack e = omega arith
  jumps_on false (value.Kernel class) landing stack e = omega arith
  jumps_on false (value.Ref cell) landing stack e = omega arith

  jumps_top : (wanted : Bool) (landing : List PlacedInstr) (stack : List Value) → jump_charges wanted stack rest landing ≡ false
      → Lower (on_top (Stuck p) stack λ v below. jumped_on phase wanted v leaving a ls rest landing below frames p)
  jumps_top wanted landing [] e = stuck
  jumps_top wanted landing (v ∷ below) e = jumps_on wanted v landing below e

  -- ---- superclass parts

  parts : (part : PartControl) (stack : List Value) → EntersEarlier a.holder part → Lower (part_arrived code phase part (Running leaving a ls rest stack ∷ frames))
  parts (Skip q) stack earlier = on ls stack q
  parts (Stop ending q) stack earlier = omega arith
  parts (EnterPart inner locals q) stack earlier =
      let few = steps_few code inner.body some in
      let more = weighs_more (longest code.bodies) (length (steps_of code inner.body)) inner.holder a.holder some few earlier in
      omega (arith, more)

  -- ---- all of them

  executed_lower : (instr : Instr) (place : Option SourcePlace) (stack : List Value) → instr_charges code a.body rest stack instr ≡ false
      → Lower (executed code phase instr place leaving a ls rest stack frames p)
  executed_lower i.PushNil place stack e = on ls (value.Nil ∷ stack) p
  executed_lower i.PushTrue place stack e = on ls (value.True ∷ stack) p
  executed_lower i.PushFalse place stack e = on ls (value.False ∷ stack) p
  executed_lower (i.PushInt number) place stack e = on ls (value.Int number ∷ stack) p
  executed_lower (i.PushSym sel) place stack e = on ls (value.Sym sel ∷ stack) p
  executed_lower (i.PushText text) place stack e = settles (new_text (literal code text) p) stack
  executed_lower i.PushSelf place stack e = on ls (a.self ∷ stack) p
  executed_lower (i.PushOuter level) place stack e = on ls stack p
  executed_lower (i.PushLocal hops index) place stack e = on ls stack p
  executed_lower (i.StoreLocal hops index) place stack e = on_top_all Lower (Stuck p) stack _ stuck (λ v below. on ls below p)
  executed_lower (i.PushBlock body) place stack e = settles (new_block a body p) stack
  executed_lower (i.MakeArray count) place stack e =
      taken_all Lower (Stuck p) count [] stack _ stuck (λ items below. settles (new_array items p) below)
  executed_lower i.Pop place stack e = on_top_all Lower (Stuck p) stack _ stuck (λ v below. on ls below p)
  executed_lower (i.Pick number) place stack e = picked_all Lower (Stuck p) number stack _ stuck (λ v. on ls (v ∷ stack) p)
  executed_lower (i.Send sel argc) place stack e = absurd (cc)
  executed_lower (i.SendInner sel argc) place stack e = absurd (cc)
  executed_lower (i.SendPrivate level sel argc) place stack e = absurd (cc)
  executed_lower (i.SendSuper sel argc) place stack e = absurd (cc)
  executed_lower (i.InitSuper argc) place stack e =
      taken_all Lower (Stuck p) argc [] stack _ stuck (λ vs below. parts (super_part code a vs p) below (super_earlier code a vs p ordered))
  executed_lower (i.StoreSlot slot) place stack e = on_top_all Lower (Stuck p) stack _ stuck (λ v below. on ls below p)
  executed_lower i.Return place stack e =
      on_top_all Lower (Stuck p) stack _ stuck
      (λ v below. gone (returned code phase leaving a v frames p) (returned_left (longest code.bodies) code phase leaving a v frames p))
  executed_lower i.ReturnSelf place stack e =
      gone (returned code phase leaving a a.self frames p) (returned_left (longest code.bodies) code phase leaving a a.self frames p)
  executed_lower i.ReturnHome place stack e =
      on_top_all Lower (Stuck p) stack _ stuck
      (λ v below.
      behind (returned_home code phase a v (Running leaving a ls rest below ∷ frames) p)
      (home_left (longest code.bodies) code phase a v (Running leaving a ls rest below ∷ frames) p))
  executed_lower (i.Jump target) place stack e = jumps (steps_from code a.body target) stack e
  executed_lower (i.JumpFalse target) place stack e = jumps_top false (steps_from code a.body target) stack e
  executed_lower (i.JumpTrue target) place stack e = jumps_top true (steps_from code a.body target) stack e

-- ---- methods of the kernel, and what waits

acted_lower : (most : ℕ) (code : CodeProgram) (phase : Phase) (method : KMethod) (k : KAction) (state : KState) (site : Site) (frames : List Frame) (p : Progress)
    → action_charges k ≡ false → left_of most (acted_on code phase method site (acted k state site p) frames) < 2 + (1 + frames_left most frames)
acted_lower most code phase method (action.Evaluate block argument true count) state site frames p e = absurd (cc)
acted_lower most code phase method (action.Evaluate block argument false count) state site frames p e = omega arith
acted_lower most code phase method (action.EvaluateItem block item count) state site frames p e = absurd (cc)
acted_lower most code phase method (action.Answer answer) state site frames p e =
    let d = settled_left most code phase (Gives answer (in_world p (left p.world))) frames in omega (arith, d)
acted_lower most code phase method (action.Fail kind) state site frames p e = omega arith

entered_lower : (most : ℕ) (code : CodeProgram) (phase : Phase) (cell : NewCell) (arguments : List Value) (site : Site) (frames : List Frame) (p : Progress)
    → eqb (length arguments) (parameters_of code (block_body_in cell)) ≡ false
    → left_of most (arrived code phase (block_entered code cell arguments site p) frames) < 1 + frames_left most frames
entered_lower most code phase (new.Block body env home receiver holder) arguments site frames p e =
    tested (eqb (length arguments) (parameters_of code body)) e
  where
    inner : Activation
    inner = record { self = receiver; holder = holder; body = body; home = home; env = env; site = site }

    framed : Progress → Control
    framed q = charged halts Depth (entered q.world) q (opened code halts (Enter FromBody) inner arguments)

    tested : (b : Bool) → b ≡ false
        → left_of most (arrived code phase (cond b (charged halts Steps (stepped p.world) p framed) (fails WrongArity site p)) frames)
        < 1 + frames_left most frames
    tested true e = absurd (cc)
    tested false e = omega arith
entered_lower most code phase (new.Object class words) arguments site frames p e = omega arith
entered_lower most code phase (new.Class decl base encl holder over) arguments site frames p e = omega arith
entered_lower most code phase (new.Environment parent locals) arguments site frames p e = omega arith
entered_lower most code phase (new.Array size) arguments site frames p e = omega arith
entered_lower most code phase (new.Text bytes) arguments site frames p e = omega arith
entered_lower most code phase (new.Facet kind) arguments site frames p e = omega arith
entered_lower most code phase (new.Mirror shown) arguments site frames p e = omega arith
entered_lower most code phase (new.Message sel args) arguments site frames p e = omega arith

-- ---- moves

-- a body that stands before an instruction has one
longest_some : (code : CodeProgram) (p : Progress) (leaving : Leaving) (a : Activation) (ls : List Value) (rest : List PlacedInstr) (stack : List Value)
    → RunningIsValid code p Nothing leaving a ls rest stack → 1 ≤ longest code.bodies
longest_some code p leaving a ls rest stack here = of_body (slice_get code.bodies a.body) refl here.fits.there
  where
    of_body : (o : Option BodyCode) → slice_get code.bodies a.body ≡ o → IsSome o → 1 ≤ longest code.bodies
    of_body None e there = absurd (cc)
    of_body (Some b) e there =
        let inside = (here.stands b e).0 in let few = within_longest code.bodies a.body b e in omega (arith, inside, few)

pub free_moves_lower : (code : CodeProgram) (grants : Grants) → FreeMovesLower code grants
free_moves_lower code grants (Unbegun arguments p) valid still free = absurd (cc)
free_moves_lower code grants (Ended ending phase p) valid still free = absurd (cc)
free_moves_lower code grants (Stuck p) valid still free = absurd (cc)
free_moves_lower code grants (Going phase [] p) valid still free = omega arith
free_moves_lower code grants (Going phase (Running leaving a ls [] stack ∷ frames) p) valid still free = omega arith
free_moves_lower code grants (Going phase (Running leaving a ls (step ∷ rest) stack ∷ frames) p) valid still free =
    executed_lower code (longest_some code p leaving a ls (step ∷ rest) stack valid.2.0) phase leaving a ls step rest frames p valid.0.world.lawful.ordered
    step.0 step.1 stack free
free_moves_lower code grants (Going phase (Looping method state site ∷ frames) p) valid still free =
    acted_lower (longest code.bodies) code phase method (next method state) state site frames p free
free_moves_lower code grants (Pends phase (Sending receiver sel arguments site) frames p) valid still free = absurd (cc)
free_moves_lower code grants (Pends phase (Performing receiver sel array site) frames p) valid still free = absurd (cc)
free_moves_lower code grants (Pends phase (Evaluating block arguments site) frames p) valid still free =
    entered_lower (longest code.bodies) code phase (shape_of_value p.world.cells block) arguments site frames p free
