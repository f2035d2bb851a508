-- Moves keep the count of frames.
use Rattle.std.proofs.Common.{◌≡◌, ℕ, zero, suc, ◌+◌, ◌-◌, ◌<◌, ◌≤◌, List, [], ◌∷◌, length, refl, sym, ap, ◌∙◌, arith, Option}
use Rattle.std.proofs.Common.{Bool, true, false, cond}
use Rattle.std.specs.Prelude.{nat_lt, ◌&&◌}
use Rattle.ns_base.specs.declared.place.Place.{Place as SourcePlace}
use Rattle.ns_base.specs.declared.selector.Sel.{Sel}
use Rattle.ns_code.specs.declared.program.CodeProgram.{CodeProgram}
use Rattle.ns_code.specs.declared.instruction.Instr.{Instr}
use Rattle.ns_code.specs.declared.instruction.Instr.TheVariants as i
use Rattle.ns_world.specs.declared.value.Value.{Value}
use Rattle.ns_world.specs.declared.value.Value.TheVariants as value
use Rattle.ns_world.specs.declared.ending.Kind.TheVariants.{DeadReturn, MustBeBoolean}
use Rattle.ns_world.specs.declared.ending.LimitKind.TheVariants.{Steps, Cells}
use Rattle.ns_world.specs.Cell.{Cell}
use Rattle.ns_world.specs.Heap.{heap_size}
use Rattle.ns_world.specs.World.{made, stepped}
use Rattle.ns_world.specs.Starts.{start_of}
use Rattle.ns_find.specs.declared.found.Found.{Found}
use Rattle.ns_find.specs.declared.found.Sending.TheVariants.{Plain, Inner}
use Rattle.ns_find.specs.Find.{found_from}
use Rattle.ns_kdata.specs.Arguments.{items_of}
use Rattle.ns_world.specs.declared.kernel_parts.KMethod.{KMethod}
use Rattle.ns_kcode.specs.Next.{next}
use Rattle.ns_moves.specs.declared.site.Site.{Site}
use Rattle.ns_moves.specs.Site.{error}
use Rattle.ns_moves.specs.Control.{Progress, in_world, Activation, FromMethod, FromBody, FromClause, After, Gives, Halts, Control, Now, Enter, frame_left}
use Rattle.ns_moves.specs.Control.{Evaluate, Begin, Perform, PartControl, Skip, Stop, EnterPart, Waiting, Waits, Finishes, charged, halts}
use Rattle.ns_moves.specs.Blocks.{evaluated, method_next, new_text, new_block, new_array}
use Rattle.ns_world.specs.Booleans.{is_boolean}
use Rattle.ns_moves.specs.Classes.{super_part, body_ended}
use Rattle.ns_moves.specs.Start.{start_cells, nothing_done, all_made, start_made}
use Rattle.ns_moves.specs.Sends.{Target, To, ToPrivate, ToSuper, to_value, answered_by, sent}
use Rattle.ns_moves.specs.Actions.{Sends, Evaluates, Continues, BeginsPart, EndsBody, MakesBlock, MakesText, MakesArray, FillsSlot, StoresLocal}
use Rattle.ns_moves.specs.Spending.{ControlSpends, PartSpends, WaitingSpends, CellSpends, EndSpends, action_steps}
use Rattle.ns_moves.specs.laws.Onward.{charged_all}
use Rattle.ns_moves.specs.laws.Counting.{made_counts, step_charged}
use Rattle.ns_moves.specs.laws.Spending.{answered_spends, action_spends}
use Rattle.ns_moves.specs.State.{Leaving, Loud, Silent, Frame, Running, Looping, Sending, Performing, Evaluating, Phase, Start, First, Second, Hosted}
use Rattle.ns_moves.specs.State.{State, Unbegun, Going, Pends, Ended, Stuck}
use Rattle.ns_moves.specs.Steps.{PlacedInstr, steps_of, steps_from, literal}
use Rattle.ns_moves.specs.Returns.{concluded, delivered, settled, returned, is_home, has_home, unwound, returned_home}
use Rattle.ns_moves.specs.Arrivals.{arrived, part_arrived, acted_on}
use Rattle.ns_moves.specs.Jumps.{goes_back, jumped, takes_jump, jumped_on}
use Rattle.ns_moves.specs.Instructions.{executed}
use Rattle.ns_moves.specs.Move.{move}
use Rattle.ns_moves.specs.ValidFrames.{homes_fall}
use Rattle.ns_moves.specs.Starts.{unbegun}
use Rattle.ns_moves.specs.Counted.{NewIsCounted, StartKeepsCount, DepthIsCounted, FramesAreCounted, MovesKeepCount}
use Rattle.ns_moves.specs.laws.Operands.{on_top_all, taken_all, picked_all}

-- ---- homes

and_first : (b c : Bool) → (b && c) ≡ true → b ≡ true
and_first true c e = refl
and_first false c e = absurd (cc)

and_second : (b c : Bool) → (b && c) ≡ true → c ≡ true
and_second true c e = e
and_second false c e = absurd (cc)

and_both : (b c : Bool) → b ≡ true → c ≡ true → (b && c) ≡ true
and_both true c e f = f
and_both false c e f = absurd (cc)

below_more : (home low high : ℕ) → low ≤ high → nat_lt home low ≡ true → nat_lt home high ≡ true
below_more home low high h e = grind (arith, h, e)

-- homes that fall from below a number fall from below a greater one
falls_more : (low high : ℕ) (frames : List Frame) → low ≤ high → homes_fall low frames ≡ true → homes_fall high frames ≡ true
falls_more low high [] h f = refl
falls_more low high (Running (Loud FromMethod) a ls rest stack ∷ frames) h f =
    and_both (nat_lt a.home high) (homes_fall a.home frames) (below_more a.home low high h (and_first (nat_lt a.home low) (homes_fall a.home frames) f))
    (and_second (nat_lt a.home low) (homes_fall a.home frames) f)
falls_more low high (Running (Loud FromBody) a ls rest stack ∷ frames) h f = falls_more low high frames h f
falls_more low high (Running (Loud (FromClause object holder class)) a ls rest stack ∷ frames) h f = falls_more low high frames h f
falls_more low high (Running Silent a ls rest stack ∷ frames) h f = falls_more low high frames h f
falls_more low high (Looping method state site ∷ frames) h f = falls_more low high frames h f

falls_below : (bound : ℕ) (frame : Frame) (frames : List Frame) → homes_fall bound (frame ∷ frames) ≡ true → homes_fall bound frames ≡ true
falls_below bound (Running (Loud FromMethod) a ls rest stack) frames f =
    let under : a.home < bound = let e = and_first (nat_lt a.home bound) (homes_fall a.home frames) f in grind (arith, e) in
    falls_more a.home bound frames (omega (arith, under)) (and_second (nat_lt a.home bound) (homes_fall a.home frames) f)
falls_below bound (Running (Loud FromBody) a ls rest stack) frames f = f
falls_below bound (Running (Loud (FromClause object holder class)) a ls rest stack) frames f = f
falls_below bound (Running Silent a ls rest stack) frames f = f
falls_below bound (Looping method state site) frames f = f

-- the locals, the rest and the operands of a frame don't count
falls_same : (bound : ℕ) (leaving : Leaving) (a : Activation) (ls ls' : List Value) (rest rest' : List PlacedInstr) (stack stack' : List Value) (frames : List Frame)
    → homes_fall bound (Running leaving a ls rest stack ∷ frames) ≡ true → homes_fall bound (Running leaving a ls' rest' stack' ∷ frames) ≡ true
falls_same bound (Loud FromMethod) a ls ls' rest rest' stack stack' frames f = f
falls_same bound (Loud FromBody) a ls ls' rest rest' stack stack' frames f = f
falls_same bound (Loud (FromClause object holder class)) a ls ls' rest rest' stack stack' frames f = f
falls_same bound Silent a ls ls' rest rest' stack stack' frames f = f

-- ---- frames

-- the run has done more, but as many frames stand
pub still_counted : (frames : List Frame) (old new : Progress) → new.world.depth ≡ old.world.depth → new.begun ≡ old.begun →
    DepthIsCounted frames old
    → DepthIsCounted frames new
still_counted frames old new d b c = record { depth = d ∙ c.depth; homes = ap (λ bound. homes_fall bound frames) b ∙ c.homes }

less : (frame : Frame) (frames : List Frame) (old new : Progress) → new.world.depth ≡ old.world.depth - 1 → new.begun ≡ old.begun
    → DepthIsCounted (frame ∷ frames) old
    → DepthIsCounted frames new
less frame frames old new d b c =
    let one : length (frame ∷ frames) ≡ length frames + 1 = omega arith in
    record { depth = omega (arith, d, c.depth, one); homes = ap (λ bound. homes_fall bound frames) b ∙ falls_below old.begun frame frames c.homes }

changed : (leaving : Leaving) (a : Activation) (ls ls' : List Value) (rest rest' : List PlacedInstr) (stack stack' : List Value) (frames : List Frame) (p : Progress)
    → DepthIsCounted (Running leaving a ls rest stack ∷ frames) p → DepthIsCounted (Running leaving a ls' rest' stack' ∷ frames) p
changed leaving a ls ls' rest rest' stack stack' frames p c =
    record { depth = c.depth; homes = falls_same p.begun leaving a ls ls' rest rest' stack stack' frames c.homes }

-- ---- a value comes to where it goes

concluded_counted : (code : CodeProgram) (phase : Phase) (v : Value) (p : Progress) → DepthIsCounted [] p →
    FramesAreCounted (concluded code phase v p)
concluded_counted code Start v p c = tt
concluded_counted code (First arguments) v p c = c
concluded_counted code Second v p c = tt
concluded_counted code Hosted v p c = tt

delivered_counted : (code : CodeProgram) (phase : Phase) (v : Value) (frames : List Frame) (p : Progress) → DepthIsCounted frames p
    → FramesAreCounted (delivered code phase v frames p)
delivered_counted code phase v [] p c = concluded_counted code phase v p c
delivered_counted code phase v (Running leaving a ls rest stack ∷ frames) p c =
    changed leaving a ls ls rest rest stack (v ∷ stack) frames p c
delivered_counted code phase v (Looping method state site ∷ frames) p c = record { depth = c.depth; homes = c.homes }

cell_counted : (code : CodeProgram) (phase : Phase) (after : After) (frames : List Frame) (p : Progress) → CellSpends p after →
    DepthIsCounted frames p
    → FramesAreCounted (settled code phase after frames)
cell_counted code phase (Gives v q) frames p s c =
    let d : q.world.depth ≡ p.world.depth = omega (arith, s.depth) in
    let b : q.begun ≡ p.begun = omega (arith, s.begun) in
    delivered_counted code phase v frames q (still_counted frames p q d b c)
cell_counted code phase (Halts ending q) frames p s c = tt

end_counted : (code : CodeProgram) (phase : Phase) (after : After) (frame : Frame) (frames : List Frame) (p : Progress) → EndSpends p after
    → DepthIsCounted (frame ∷ frames) p
    → FramesAreCounted (settled code phase after frames)
end_counted code phase (Gives v q) frame frames p s c = delivered_counted code phase v frames q (less frame frames p q s.depth s.begun c)
end_counted code phase (Halts ending q) frame frames p s c = tt

unwound_counted : (code : CodeProgram) (phase : Phase) (home : ℕ) (v : Value) (frames : List Frame) (p : Progress) → DepthIsCounted frames p
    → FramesAreCounted (unwound code phase home v frames p)
unwound_counted code phase home v [] p c = tt
unwound_counted code phase home v (frame ∷ frames) p c =
    let down : DepthIsCounted frames (frame_left p) = less frame frames p (frame_left p) refl refl c in
    tested (is_home home frame) (delivered_counted code phase v frames (frame_left p) down) (unwound_counted code phase home v frames (frame_left p) down)
  where
    tested : (b : Bool) → FramesAreCounted (delivered code phase v frames (frame_left p)) → FramesAreCounted (unwound code phase home v frames (frame_left p))
        → FramesAreCounted (cond b (delivered code phase v frames (frame_left p)) (unwound code phase home v frames (frame_left p)))
    tested true here below = here
    tested false here below = below

-- ---- where control goes

entered : (frame : Frame) (frames : List Frame) (p q : Progress) → q.world.depth ≡ p.world.depth + 1 →
    homes_fall q.begun (frame ∷ frames) ≡ true
    → DepthIsCounted frames p → DepthIsCounted (frame ∷ frames) q
entered frame frames p q d homes c = record { depth = omega (arith, d, c.depth); homes = homes }

same_homes : (frames : List Frame) (p q : Progress) → q.begun ≡ p.begun + 0 → DepthIsCounted frames p → homes_fall q.begun frames ≡ true
same_homes frames p q b c = let e : q.begun ≡ p.begun = omega (arith, b) in ap (λ bound. homes_fall bound frames) e ∙ c.homes

next_home : (home begun now : ℕ) (frames : List Frame) → now ≡ begun + 1 → home ≡ begun → homes_fall begun frames ≡ true
    → (nat_lt home now && homes_fall home frames) ≡ true
next_home home begun now frames b e f =
    let under : nat_lt home now ≡ true = grind (arith, b, e) in
    and_both (nat_lt home now) (homes_fall home frames) under (ap (λ bound. homes_fall bound frames) e ∙ f)

pub arrived_counted : (code : CodeProgram) (phase : Phase) (steps : ℕ) (c : Control) (frames : List Frame) (p : Progress) →
    ControlSpends steps p c
    → DepthIsCounted frames p
    → FramesAreCounted (arrived code phase c frames)
arrived_counted code phase steps (Now (Gives v q)) frames p s c =
    let d : q.world.depth ≡ p.world.depth = omega (arith, s.depth) in
    let b : q.begun ≡ p.begun = omega (arith, s.begun) in
    delivered_counted code phase v frames q (still_counted frames p q d b c)
arrived_counted code phase steps (Now (Halts ending q)) frames p s c = tt
arrived_counted code phase steps (Enter FromMethod a ls q) frames p s c =
    entered (Running (Loud FromMethod) a ls (steps_of code a.body) []) frames p q s.0.depth (next_home a.home p.begun q.begun frames s.0.begun s.1 c.homes) c
arrived_counted code phase steps (Enter FromBody a ls q) frames p s c =
    entered (Running (Loud FromBody) a ls (steps_of code a.body) []) frames p q s.depth (same_homes frames p q s.begun c) c
arrived_counted code phase steps (Enter (FromClause object holder class) a ls q) frames p s c =
    entered (Running (Loud (FromClause object holder class)) a ls (steps_of code a.body) []) frames p q s.depth (same_homes frames p q s.begun c) c
arrived_counted code phase steps (Evaluate block arguments site q) frames p s c =
    let d : q.world.depth ≡ p.world.depth = omega (arith, s.depth) in
    let b : q.begun ≡ p.begun = omega (arith, s.begun) in
    still_counted frames p q d b c
arrived_counted code phase steps (Begin method state site q) frames p s c =
    entered (Looping method state site) frames p q s.depth (same_homes frames p q s.begun c) c
arrived_counted code phase steps (Perform receiver sel array site q) frames p s c =
    let d : q.world.depth ≡ p.world.depth = omega (arith, s.depth) in
    let b : q.begun ≡ p.begun = omega (arith, s.begun) in
    still_counted frames p q d b c

part_counted : (code : CodeProgram) (phase : Phase) (part : PartControl) (frames : List Frame) (p : Progress) → PartSpends p part →
    DepthIsCounted frames p
    → FramesAreCounted (part_arrived code phase part frames)
part_counted code phase (Skip q) frames p s c =
    let d : q.world.depth ≡ p.world.depth = omega (arith, s.depth) in
    let b : q.begun ≡ p.begun = omega (arith, s.begun) in
    still_counted frames p q d b c
part_counted code phase (Stop ending q) frames p s c = tt
part_counted code phase (EnterPart a ls q) frames p s c =
    entered (Running Silent a ls (steps_of code a.body) []) frames p q s.depth (same_homes frames p q s.begun c) c

waiting_counted : (code : CodeProgram) (phase : Phase) (method : KMethod) (site : Site) (steps : ℕ) (w : Waiting) (frame : Frame) (frames : List Frame)
    (p : Progress)
    → homes_fall p.begun (frame ∷ frames) ≡ homes_fall p.begun frames → WaitingSpends steps p w → DepthIsCounted (frame ∷ frames) p
    → FramesAreCounted (acted_on code phase method site w frames)
waiting_counted code phase method site steps (Waits block arguments state q) frame frames p same s c =
    let d : q.world.depth ≡ p.world.depth = omega (arith, s.depth) in
    let b : q.begun ≡ p.begun = omega (arith, s.begun) in
    record { depth = d ∙ c.depth; homes = ap (λ bound. homes_fall bound frames) b ∙ (sym same ∙ c.homes) }
waiting_counted code phase method site steps (Finishes (Gives v q)) frame frames p same s c =
    delivered_counted code phase v frames q (less frame frames p q s.depth s.begun c)
waiting_counted code phase method site steps (Finishes (Halts ending q)) frame frames p same s c = tt

-- ---- instructions

module _ (code : CodeProgram) (phase : Phase) (leaving : Leaving) (a : Activation) (ls : List Value) (instr : PlacedInstr) (rest : List PlacedInstr) (first : List Value)
    (frames : List Frame)
    (p : Progress) (counted : DepthIsCounted (Running leaving a ls (instr ∷ rest) first ∷ frames) p) where
  -- the frame that runs, with other operands
  with : (stack : List Value) → DepthIsCounted (Running leaving a ls rest stack ∷ frames) p
  with stack = changed leaving a ls ls (instr ∷ rest) rest first stack frames p counted

  sends : (target : Target) (sel : Sel) (vs : List Value) (place : Option SourcePlace) (below : List Value)
      → FramesAreCounted (arrived code phase (sent code a target sel vs place p) (Running leaving a ls rest below ∷ frames))
  sends target sel vs place below =
      arrived_counted code phase 1 (sent code a target sel vs place p) (Running leaving a ls rest below ∷ frames) p
      (action_spends code (Sends a target sel vs place) p) (with below)

  returns_to : (how : Leaving) (v : Value) → FramesAreCounted (returned code phase how a v frames p)
  returns_to (Loud exit) v =
      end_counted code phase (body_ended code exit a v p) (Running leaving a ls (instr ∷ rest) first) frames p
      (action_spends code (EndsBody exit a v) p) counted
  returns_to Silent v = less (Running leaving a ls (instr ∷ rest) first) frames p (frame_left p) refl refl counted

  returns_home : (v : Value) (below : List Value) → FramesAreCounted (returned_home code phase a v (Running leaving a ls rest below ∷ frames) p)
  returns_home v below = tested (has_home a.home (Running leaving a ls rest below ∷ frames))
    where
      tested : (b : Bool)
          → FramesAreCounted (cond b (unwound code phase a.home v (Running leaving a ls rest below ∷ frames) p) (Ended (error DeadReturn a.site) phase p))
      tested true = unwound_counted code phase a.home v (Running leaving a ls rest below ∷ frames) p (with below)
      tested false = tt

  jumps : (landing : List PlacedInstr) (stack : List Value) → FramesAreCounted (jumped phase leaving a ls rest landing stack frames p)
  jumps landing stack = tested (goes_back rest landing)
    where
      go : Progress → State
      go = Going phase (Running leaving a ls landing stack ∷ frames)

      lands : DepthIsCounted (Running leaving a ls landing stack ∷ frames) p
      lands = changed leaving a ls ls (instr ∷ rest) landing first stack frames p counted

      tested : (b : Bool) → FramesAreCounted (cond b (charged (λ ending q. Ended ending phase q) Steps (stepped p.world) p go) (go p))
      tested true =
          charged_all FramesAreCounted (λ ending q. Ended ending phase q) Steps (stepped p.world) p go tt
          (λ world e. let s = step_charged p world e in
          let d : world.depth ≡ p.world.depth = omega (arith, s.depth) in
          still_counted (Running leaving a ls landing stack ∷ frames) p (in_world p world) d refl lands)
      tested false = lands

  jumps_on : (wanted : Bool) (v : Value) (landing : List PlacedInstr) (stack : List Value)
      → FramesAreCounted (jumped_on phase wanted v leaving a ls rest landing stack frames p)
  jumps_on wanted v landing stack = tested (is_boolean v) (takes_jump wanted v)
    where
      tested : (b c : Bool)
          → FramesAreCounted
          (cond b (cond c (jumped phase leaving a ls rest landing stack frames p) (Going phase (Running leaving a ls rest stack ∷ frames) p))
          (Ended (error MustBeBoolean a.site) phase p))
      tested true true = jumps landing stack
      tested true false = with stack
      tested false c = tt

  executed_counted : (which : Instr) (place : Option SourcePlace) (stack : List Value)
      → FramesAreCounted (executed code phase which place leaving a ls rest stack frames p)
  executed_counted i.PushNil place stack = with (value.Nil ∷ stack)
  executed_counted i.PushTrue place stack = with (value.True ∷ stack)
  executed_counted i.PushFalse place stack = with (value.False ∷ stack)
  executed_counted (i.PushInt number) place stack = with (value.Int number ∷ stack)
  executed_counted (i.PushSym sel) place stack = with (value.Sym sel ∷ stack)
  executed_counted (i.PushText text) place stack =
      cell_counted code phase (new_text (literal code text) p) (Running leaving a ls rest stack ∷ frames) p
      (action_spends code (MakesText (literal code text)) p) (with stack)
  executed_counted i.PushSelf place stack = with (a.self ∷ stack)
  executed_counted (i.PushOuter level) place stack = with _
  executed_counted (i.PushLocal hops index) place stack = with _
  executed_counted (i.StoreLocal hops index) place stack =
      on_top_all FramesAreCounted (Stuck p) stack _ tt
      (λ v below. let s = action_spends code (StoresLocal a hops index v) p in
      still_counted _ p _ (omega (arith, s.depth)) (omega (arith, s.begun)) (changed leaving a ls _ (instr ∷ rest) rest first (v ∷ below) frames p counted))
  executed_counted (i.PushBlock body) place stack =
      cell_counted code phase (new_block a body p) (Running leaving a ls rest stack ∷ frames) p (action_spends code (MakesBlock a body) p) (with stack)
  executed_counted (i.MakeArray count) place stack =
      taken_all FramesAreCounted (Stuck p) count [] stack _ tt
      (λ items below.
      cell_counted code phase (new_array items p) (Running leaving a ls rest below ∷ frames) p (action_spends code (MakesArray items) p) (with below))
  executed_counted i.Pop place stack = on_top_all FramesAreCounted (Stuck p) stack _ tt (λ v below. with below)
  executed_counted (i.Pick number) place stack = picked_all FramesAreCounted (Stuck p) number stack _ tt (λ v. with (v ∷ stack))
  executed_counted (i.Send sel argc) place stack =
      taken_all FramesAreCounted (Stuck p) argc [] stack _ tt
      (λ vs below. on_top_all FramesAreCounted (Stuck p) below _ tt (λ v below. sends (to_value v) sel vs place below))
  executed_counted (i.SendInner sel argc) place stack =
      taken_all FramesAreCounted (Stuck p) argc [] stack _ tt
      (λ vs below. on_top_all FramesAreCounted (Stuck p) below _ tt (λ v below. sends (To v Inner) sel vs place below))
  executed_counted (i.SendPrivate level sel argc) place stack =
      taken_all FramesAreCounted (Stuck p) argc [] stack _ tt (λ vs below. sends (ToPrivate level) sel vs place below)
  executed_counted (i.SendSuper sel argc) place stack =
      taken_all FramesAreCounted (Stuck p) argc [] stack _ tt (λ vs below. sends ToSuper sel vs place below)
  executed_counted (i.InitSuper argc) place stack =
      taken_all FramesAreCounted (Stuck p) argc [] stack _ tt
      (λ vs below.
      part_counted code phase (super_part code a vs p) (Running leaving a ls rest below ∷ frames) p (action_spends code (BeginsPart a vs) p) (with below))
  executed_counted (i.StoreSlot slot) place stack =
      on_top_all FramesAreCounted (Stuck p) stack _ tt
      (λ v below. let s = action_spends code (FillsSlot a slot v) p in
      still_counted (Running leaving a ls rest below ∷ frames) p _ (omega (arith, s.depth)) (omega (arith, s.begun)) (with below))
  executed_counted i.Return place stack = on_top_all FramesAreCounted (Stuck p) stack _ tt (λ v below. returns_to leaving v)
  executed_counted i.ReturnSelf place stack = returns_to leaving a.self
  executed_counted i.ReturnHome place stack = on_top_all FramesAreCounted (Stuck p) stack _ tt (λ v below. returns_home v below)
  executed_counted (i.Jump target) place stack = jumps (steps_from code a.body target) stack
  executed_counted (i.JumpFalse target) place stack =
      on_top_all FramesAreCounted (Stuck p) stack _ tt (λ v below. jumps_on false v (steps_from code a.body target) below)
  executed_counted (i.JumpTrue target) place stack =
      on_top_all FramesAreCounted (Stuck p) stack _ tt (λ v below. jumps_on true v (steps_from code a.body target) below)

-- ---- moves

answer_counted : (code : CodeProgram) (phase : Phase) (member : Found) (sel : Sel) (receiver : Value) (vs : List Value) (site : Site) (frames : List Frame)
    (p : Progress)
    → DepthIsCounted frames p → FramesAreCounted
    (arrived code phase (charged halts Steps (stepped p.world) p (answered_by code member sel receiver vs site)) frames)
answer_counted code phase member sel receiver vs site frames p c =
    charged_all (λ k. FramesAreCounted (arrived code phase k frames)) halts Steps (stepped p.world) p (answered_by code member sel receiver vs site) tt
    (λ world e. arrived_counted code phase 1 (answered_by code member sel receiver vs site (in_world p world)) frames p
    (answered_spends 1 p code member sel receiver vs site (in_world p world) (step_charged p world e)) c)

move_counted : (code : CodeProgram) (s : State) → FramesAreCounted s → FramesAreCounted (move code s)
move_counted code (Unbegun arguments p) c = c
move_counted code (Ended ending phase p) c = c
move_counted code (Stuck p) c = c
move_counted code (Going phase [] p) c = tt
move_counted code (Going phase (Running leaving a ls [] stack ∷ frames) p) c = tt
move_counted code (Going phase (Running leaving a ls (step ∷ rest) stack ∷ frames) p) c =
    executed_counted code phase leaving a ls step rest stack frames p c step.0 step.1 stack
move_counted code (Going phase (Looping method state site ∷ frames) p) c =
    waiting_counted code phase method site (action_steps (next method state)) (method_next method state site p) (Looping method state site) frames p refl
    (action_spends code (Continues method state site) p) c
move_counted code (Pends phase (Sending receiver sel arguments site) frames p) c =
    answer_counted code phase (found_from p.world.cells code (start_of p.world.cells receiver) sel.0 Plain) sel receiver arguments site frames p c
move_counted code (Pends phase (Performing receiver sel array site) frames p) c =
    answer_counted code phase (found_from p.world.cells code (start_of p.world.cells receiver) sel.0 Plain) sel receiver
    (items_of p.world.cells (value.Ref array)) site frames p c
move_counted code (Pends phase (Evaluating block arguments site) frames p) c =
    arrived_counted code phase 1 (evaluated code block arguments site p) frames p (action_spends code (Evaluates block arguments site) p) c

pub moves_counted : (code : CodeProgram) → MovesKeepCount code
moves_counted code zero s c = c
moves_counted code (suc count) s c = moves_counted code count (move code s) (move_counted code s c)

-- ---- the start

-- nothing is running after a start
abbrev IsEmpty : After → Type 0
IsEmpty (Gives v p) = p.world.depth ≡ 0
IsEmpty (Halts ending p) = Unit {0}

made_empty : (cells : List Cell) (last : Value) (p : Progress) → p.world.depth ≡ 0 → IsEmpty (all_made cells last p)
made_empty [] last p e = e
made_empty (cell ∷ cells) last p e =
    charged_all IsEmpty Halts Cells (made p.world cell) p (all_made cells (value.Ref (heap_size p.world.cells))) tt
    (λ world f. made_empty cells (value.Ref (heap_size p.world.cells)) (in_world p world) ((made_counts p.world world cell f).depth ∙ e))

unbegun_counted : (after : After) → IsEmpty after → FramesAreCounted (unbegun after)
unbegun_counted (Gives v p) e = e
unbegun_counted (Halts ending p) e = tt

pub new_counted : (code : CodeProgram) → NewIsCounted code
new_counted code limits grants arguments =
    unbegun_counted (start_made code grants arguments limits) (made_empty (start_cells code grants arguments) value.Nil (nothing_done limits) refl)

pub started_counted : (code : CodeProgram) → StartKeepsCount code
started_counted code (Unbegun arguments p) c = record { depth = c; homes = refl }
started_counted code (Going phase frames p) c = c
started_counted code (Pends phase pending frames p) c = c
started_counted code (Ended ending phase p) c = c
started_counted code (Stuck p) c = c
