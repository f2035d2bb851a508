-- Each move goes onward.
use Rattle.std.proofs.Common.{◌≡◌, ℕ, zero, suc, List, [], ◌∷◌, refl, sym, subst, arith, Option, Bool, true, false, cond}
use Rattle.ns_base.specs.declared.place.Place.{Place as SourcePlace}
use Rattle.ns_base.specs.declared.selector.Sel.{Sel}
use Rattle.ns_code.specs.declared.program.CodeProgram.{CodeProgram}
use Rattle.ns_code.specs.declared.instruction.Instr.{Instr}
use Rattle.ns_code.specs.declared.instruction.Instr.TheVariants as i
use Rattle.ns_world.specs.declared.value.Value.{Value}
use Rattle.ns_world.specs.declared.value.Value.TheVariants as value
use Rattle.ns_world.specs.declared.ending.Kind.TheVariants.{DeadReturn, MustBeBoolean}
use Rattle.ns_world.specs.declared.ending.LimitKind.TheVariants.{Steps}
use Rattle.ns_world.specs.Cell.{Cell, BlockCell, TextCell, ArrayCell}
use Rattle.ns_world.specs.World.{stepped}
use Rattle.ns_world.specs.Later.{MayCome}
use Rattle.ns_world.specs.Starts.{start_of}
use Rattle.ns_world.specs.laws.Leading.{later_same, later_on, later_left, later_stepped}
use Rattle.ns_find.specs.declared.found.Sending.TheVariants.{Plain, Inner}
use Rattle.ns_find.specs.Find.{found_from}
use Rattle.ns_kdata.specs.Arguments.{items_of}
use Rattle.ns_moves.specs.declared.site.Site.{Site}
use Rattle.ns_moves.specs.Site.{error}
use Rattle.ns_moves.specs.Control.{Progress, Activation, After, Control, PartControl, charged, frame_left}
use Rattle.ns_moves.specs.Blocks.{new_cell, evaluated, method_next}
use Rattle.ns_world.specs.Booleans.{is_boolean}
use Rattle.ns_moves.specs.Classes.{super_part, body_ended, kept_by}
use Rattle.ns_moves.specs.Sends.{Target, To, ToPrivate, ToSuper, to_value, receiver_of, sent}
use Rattle.ns_moves.specs.Onward.{reached, after_reached, part_reached, touched}
use Rattle.ns_moves.specs.laws.Onward.{Going, charged_all, may_come}
use Rattle.ns_moves.specs.laws.BlocksOnward.{any_cell_onward, any_cell_later, evaluated_onward, next_onward}
use Rattle.ns_moves.specs.laws.ClassesOnward.{super_onward, ended_onward, filled_onward}
use Rattle.ns_moves.specs.laws.LawfulValues.{local_onward}
use Rattle.ns_moves.specs.laws.SendsOnward.{sent_onward, stepped_onward}
use Rattle.ns_moves.specs.State.{Leaving, Loud, Silent, Frame, Running, Looping, Sending, Performing, Evaluating, Phase, State, Unbegun}
use Rattle.ns_moves.specs.State.{Going as Goes, Pends, Ended, Stuck, progress_of}
use Rattle.ns_moves.specs.Steps.{PlacedInstr, steps_from, literal}
use Rattle.ns_moves.specs.Returns.{delivered, settled, returned, is_home, has_home, unwound, returned_home}
use Rattle.ns_moves.specs.Arrivals.{arrived, part_arrived, acted_on}
use Rattle.ns_moves.specs.Jumps.{goes_back, jumped, takes_jump, jumped_on}
use Rattle.ns_moves.specs.Instructions.{executed}
use Rattle.ns_moves.specs.Move.{sent_on, move}
use Rattle.ns_moves.specs.MovesOnward.{GoesOnward, MovesGoOnward}
use Rattle.ns_moves.specs.laws.Operands.{on_top_all, taken_all, picked_all}
use Rattle.ns_moves.proofs.Walking.{delivered_at, settled_at, arrived_at, part_arrived_at, acted_at}

pub stays : (p : Progress) → GoesOnward p p
stays p = record { later = later_same p.world; begun = omega arith }

then : (first second third : Progress) → GoesOnward first second → GoesOnward second third → GoesOnward first third
then first second third one two = record {
  later = later_on first.world second.world third.world one.later two.later;
  begun = omega (arith, one.begun, two.begun);
}

of_going : (named : List Value) (old new : Progress) → Going named old new → GoesOnward old new
of_going named old new g = record { later = g.world.later; begun = g.begun }

-- where a state has done so much
at_state : (old : Progress) (s : State) (q : Progress) → progress_of s ≡ q → GoesOnward old q → GoesOnward old (progress_of s)
at_state old s q e g = subst (λ (r : Progress). GoesOnward old r) (sym e) g

left_onward : (p : Progress) → GoesOnward p (frame_left p)
left_onward p = record { later = later_left p.world; begun = omega arith }

unwound_onward : (code : CodeProgram) (phase : Phase) (home : ℕ) (answer : Value) (frames : List Frame) (p : Progress)
    → GoesOnward p (progress_of (unwound code phase home answer frames p))
unwound_onward code phase home answer [] p = stays p
unwound_onward code phase home answer (frame ∷ frames) p =
    tested (is_home home frame)
    (at_state p (delivered code phase answer frames (frame_left p)) (frame_left p) (delivered_at code phase answer frames (frame_left p)) (left_onward p))
    (then p (frame_left p) _ (left_onward p) (unwound_onward code phase home answer frames (frame_left p)))
  where
    tested : (b : Bool) → GoesOnward p (progress_of (delivered code phase answer frames (frame_left p)))
        → GoesOnward p (progress_of (unwound code phase home answer frames (frame_left p)))
        → GoesOnward p (progress_of (cond b (delivered code phase answer frames (frame_left p)) (unwound code phase home answer frames (frame_left p))))
    tested true here below = here
    tested false here below = below

-- ---- instructions

module _ (code : CodeProgram) (phase : Phase) (leaving : Leaving) (a : Activation) (ls : List Value) (rest : List PlacedInstr) (frames : List Frame)
    (p : Progress) where
  abbrev Onward : State → Type 0
  Onward s = GoesOnward p (progress_of s)

  settles : (after : After) (named : List Value) (others : List Frame) → Going named p (after_reached after) → Onward (settled code phase after others)
  settles after named others g =
      at_state p (settled code phase after others) (after_reached after) (settled_at code phase after others) (of_going named p (after_reached after) g)

  cell_made : (cell : Cell) (others : List Frame) → MayCome p.world.cells cell → Onward (settled code phase (new_cell cell p) others)
  cell_made cell others may =
      let after : After = new_cell cell p in
      at_state p (settled code phase after others) (after_reached after) (settled_at code phase after others)
      (record { later = any_cell_later cell p may; begun = (any_cell_onward [] cell p).begun })

  sends : (target : Target) (sel : Sel) (vs : List Value) (place : Option SourcePlace) (others : List Frame)
      → Onward (arrived code phase (sent code a target sel vs place p) others)
  sends target sel vs place others =
      let c : Control = sent code a target sel vs place p in
      at_state p (arrived code phase c others) (reached c) (arrived_at code phase c others)
      (of_going (touched p.world.cells (receiver_of p.world.cells a target)) p (reached c) (sent_onward code a target sel vs place p))

  begins_part : (vs : List Value) (others : List Frame) → Onward (part_arrived code phase (super_part code a vs p) others)
  begins_part vs others =
      let part : PartControl = super_part code a vs p in
      at_state p (part_arrived code phase part others) (part_reached part) (part_arrived_at code phase part others)
      (of_going [] p (part_reached part) (super_onward [] code a vs p))

  returns : (how : Leaving) (answer : Value) → Onward (returned code phase how a answer frames p)
  returns (Loud exit) answer = settles (body_ended code exit a answer p) (kept_by exit) frames (ended_onward code exit a answer p)
  returns Silent answer = left_onward p

  returns_home : (answer : Value) (others : List Frame) → Onward (returned_home code phase a answer others p)
  returns_home answer others = tested (has_home a.home others)
    where
      tested : (b : Bool) → Onward (cond b (unwound code phase a.home answer others p) (Ended (error DeadReturn a.site) phase p))
      tested true = unwound_onward code phase a.home answer others p
      tested false = stays p

  jumps : (landing : List PlacedInstr) (stack : List Value) → Onward (jumped phase leaving a ls rest landing stack frames p)
  jumps landing stack = tested (goes_back rest landing)
    where
      go : Progress → State
      go = Goes phase (Running leaving a ls landing stack ∷ frames)

      tested : (b : Bool) → Onward (cond b (charged (λ ending q. Ended ending phase q) Steps (stepped p.world) p go) (go p))
      tested true =
          charged_all Onward (λ ending q. Ended ending phase q) Steps (stepped p.world) p go (stays p)
          (λ world e. record { later = later_stepped p.world world e; begun = omega arith })
      tested false = stays p

  jumps_on : (wanted : Bool) (v : Value) (landing : List PlacedInstr) (stack : List Value) → Onward (jumped_on phase wanted v leaving a ls rest landing stack frames p)
  jumps_on wanted v landing stack = tested (is_boolean v) (takes_jump wanted v)
    where
      tested : (b c : Bool)
          → Onward (cond b (cond c (jumped phase leaving a ls rest landing stack frames p) (Goes phase (Running leaving a ls rest stack ∷ frames) p))
          (Ended (error MustBeBoolean a.site) phase p))
      tested true true = jumps landing stack
      tested true false = stays p
      tested false c = stays p

  executes : (instr : Instr) (place : Option SourcePlace) (stack : List Value) → Onward (executed code phase instr place leaving a ls rest stack frames p)
  executes i.PushNil place stack = stays p
  executes i.PushTrue place stack = stays p
  executes i.PushFalse place stack = stays p
  executes (i.PushInt number) place stack = stays p
  executes (i.PushSym sel) place stack = stays p
  executes (i.PushText text) place stack =
      let cell : Cell = TextCell (literal code text) in cell_made cell (Running leaving a ls rest stack ∷ frames)
      (may_come p.world.cells cell refl refl)
  executes i.PushSelf place stack = stays p
  executes (i.PushOuter level) place stack = stays p
  executes (i.PushLocal hops index) place stack = stays p
  executes (i.StoreLocal hops index) place stack =
      on_top_all Onward (Stuck p) stack _ (stays p) (λ v below. of_going _ p _ (local_onward code a hops index v p))
  executes (i.PushBlock body) place stack =
      let cell : Cell = BlockCell body a.env a.home a.self a.holder in
      cell_made cell (Running leaving a ls rest stack ∷ frames) (may_come p.world.cells cell refl refl)
  executes (i.MakeArray count) place stack =
      taken_all Onward (Stuck p) count [] stack _ (stays p)
      (λ items below. cell_made (ArrayCell items) (Running leaving a ls rest below ∷ frames)
      (may_come p.world.cells (ArrayCell items) refl refl))
  executes i.Pop place stack = on_top_all Onward (Stuck p) stack _ (stays p) (λ v below. stays p)
  executes (i.Pick number) place stack = picked_all Onward (Stuck p) number stack _ (stays p) (λ v. stays p)
  executes (i.Send sel argc) place stack =
      taken_all Onward (Stuck p) argc [] stack _ (stays p)
      (λ vs below. on_top_all Onward (Stuck p) below _ (stays p) (λ v below. sends (to_value v) sel vs place (Running leaving a ls rest below ∷ frames)))
  executes (i.SendInner sel argc) place stack =
      taken_all Onward (Stuck p) argc [] stack _ (stays p)
      (λ vs below. on_top_all Onward (Stuck p) below _ (stays p) (λ v below. sends (To v Inner) sel vs place (Running leaving a ls rest below ∷ frames)))
  executes (i.SendPrivate level sel argc) place stack =
      taken_all Onward (Stuck p) argc [] stack _ (stays p) (λ vs below. sends (ToPrivate level) sel vs place (Running leaving a ls rest below ∷ frames))
  executes (i.SendSuper sel argc) place stack =
      taken_all Onward (Stuck p) argc [] stack _ (stays p) (λ vs below. sends ToSuper sel vs place (Running leaving a ls rest below ∷ frames))
  executes (i.InitSuper argc) place stack =
      taken_all Onward (Stuck p) argc [] stack _ (stays p) (λ vs below. begins_part vs (Running leaving a ls rest below ∷ frames))
  executes (i.StoreSlot slot) place stack =
      on_top_all Onward (Stuck p) stack _ (stays p) (λ v below. of_going _ p _ (filled_onward code a slot v p))
  executes i.Return place stack = on_top_all Onward (Stuck p) stack _ (stays p) (λ v below. returns leaving v)
  executes i.ReturnSelf place stack = returns leaving a.self
  executes i.ReturnHome place stack = on_top_all Onward (Stuck p) stack _ (stays p) (λ v below. returns_home v (Running leaving a ls rest below ∷ frames))
  executes (i.Jump target) place stack = jumps (steps_from code a.body target) stack
  executes (i.JumpFalse target) place stack =
      on_top_all Onward (Stuck p) stack _ (stays p) (λ v below. jumps_on false v (steps_from code a.body target) below)
  executes (i.JumpTrue target) place stack =
      on_top_all Onward (Stuck p) stack _ (stays p) (λ v below. jumps_on true v (steps_from code a.body target) below)

-- ---- moves

sends_on : (code : CodeProgram) (phase : Phase) (receiver : Value) (sel : Sel) (vs : List Value) (site : Site) (frames : List Frame) (p : Progress)
    → GoesOnward p (progress_of (arrived code phase (sent_on code receiver sel vs site p) frames))
sends_on code phase receiver sel vs site frames p =
    let c : Control = sent_on code receiver sel vs site p in
    at_state p (arrived code phase c frames) (reached c) (arrived_at code phase c frames)
    (of_going (touched p.world.cells receiver) p (reached c)
    (stepped_onward code (λ cells. found_from cells code (start_of cells receiver) sel.0 Plain) sel (λ cells. receiver) vs (λ cells. site) p))

move_onward : (code : CodeProgram) (s : State) → GoesOnward (progress_of s) (progress_of (move code s))
move_onward code (Unbegun arguments p) = stays p
move_onward code (Ended ending phase p) = stays p
move_onward code (Stuck p) = stays p
move_onward code (Goes phase [] p) = stays p
move_onward code (Goes phase (Running leaving a ls [] stack ∷ frames) p) = stays p
move_onward code (Goes phase (Running leaving a ls (step ∷ rest) stack ∷ frames) p) =
    executes code phase leaving a ls rest frames p step.0 step.1 stack
move_onward code (Goes phase (Looping method state site ∷ frames) p) =
    let w = method_next method state site p in
    at_state p (acted_on code phase method site w frames) _ (acted_at code phase method site w frames) (of_going [] p _ (next_onward [] method state site p))
move_onward code (Pends phase (Sending receiver sel arguments site) frames p) = sends_on code phase receiver sel arguments site frames p
move_onward code (Pends phase (Performing receiver sel array site) frames p) =
    sends_on code phase receiver sel (items_of p.world.cells (value.Ref array)) site frames p
move_onward code (Pends phase (Evaluating block arguments site) frames p) =
    let c : Control = evaluated code block arguments site p in
    at_state p (arrived code phase c frames) (reached c) (arrived_at code phase c frames)
    (of_going [] p (reached c) (evaluated_onward [] code block arguments site p))

pub moves_onward : (code : CodeProgram) → MovesGoOnward code
moves_onward code zero s = stays (progress_of s)
moves_onward code (suc count) s =
    then (progress_of s) (progress_of (move code s)) _ (move_onward code s) (moves_onward code count (move code s))
