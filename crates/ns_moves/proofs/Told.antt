-- A move takes a step exactly where that is told before it.
use Rattle.std.proofs.Common.{◌≡◌, inl, inr, ℕ, ◌+◌, List, [], ◌∷◌, refl, ap, ◌∙◌, arith, Option, Bool, true, false}
use Rattle.std.specs.Prelude.{nat_lt, ◌||◌}
use Rattle.ns_base.specs.declared.place.Place.{Place as SourcePlace}
use Rattle.ns_base.specs.declared.selector.Sel.{Sel}
use Rattle.ns_code.specs.declared.program.CodeProgram.{CodeProgram}
use Rattle.ns_code.specs.declared.instruction.Instr.{Instr}
use Rattle.ns_code.specs.declared.instruction.Instr.TheVariants as i
use Rattle.ns_world.specs.declared.value.Value.{Value}
use Rattle.ns_world.specs.declared.value.Value.TheVariants as value
use Rattle.ns_world.specs.Cell.{BlockCell, TextCell, ArrayCell}
use Rattle.ns_world.specs.Starts.{start_of}
use Rattle.ns_find.specs.declared.found.Sending.TheVariants.{Plain, Inner}
use Rattle.ns_find.specs.Find.{found_from}
use Rattle.ns_kdata.specs.Arguments.{items_of, shape_of_value}
use Rattle.ns_kcode.specs.Next.{next}
use Rattle.ns_moves.specs.Control.{Progress, Activation}
use Rattle.ns_moves.specs.declared.site.Site.{Site}
use Rattle.ns_moves.specs.Sends.{Target, To, ToPrivate, ToSuper, to_value, receiver_of, found_at, site_at, sent}
use Rattle.ns_moves.specs.Actions.{FillsSlot, StoresLocal}
use Rattle.ns_moves.specs.laws.Spending.{action_spends}
use Rattle.ns_moves.specs.State.{Leaving, Frame, Running, Looping, Sending, Performing, Evaluating, Phase, State, Unbegun, Going, Pends, Ended, Stuck}
use Rattle.ns_moves.specs.State.{progress_of, world_of}
use Rattle.ns_moves.specs.Steps.{PlacedInstr, steps_from, literal}
use Rattle.ns_moves.specs.Operands.{on_top}
use Rattle.ns_moves.specs.Jumps.{jumped_on}
use Rattle.ns_moves.specs.Instructions.{executed}
use Rattle.ns_moves.specs.Arrivals.{arrived}
use Rattle.ns_moves.specs.Move.{sent_on, move}
use Rattle.ns_moves.specs.Turn.{ends_with_steps, was_charged}
use Rattle.ns_moves.specs.Charging.{jump_charges, instr_charges, will_charge}
use Rattle.ns_moves.specs.Charges.{is_stuck, TookStep, TookNone, MoveTook, TakesAsTold, ChargesAsTold}
use Rattle.ns_moves.specs.laws.Operands.{on_top_all, taken_all, picked_all}
use Rattle.ns_moves.proofs.TakingNone.{settled_none, cell_none, returned_none, home_none, part_none}
use Rattle.ns_moves.proofs.TakingSteps.{send_took, evaluation_took, action_took, jump_took}

-- ---- operands

stuck_none : (p : Progress) → TookNone p (Stuck p)
stuck_none p = record { steps = refl; going = refl }

-- ---- sends

sent_took : (code : CodeProgram) (phase : Phase) (a : Activation) (target : Target) (sel : Sel) (vs : List Value) (place : Option SourcePlace)
    (frames : List Frame)
    (p : Progress) → TookStep p (arrived code phase (sent code a target sel vs place p) frames)
sent_took code phase a target sel vs place frames p =
    let to : Value = receiver_of p.world.cells a target in
    send_took code phase (found_at p.world.cells code a target sel.0) sel to vs (site_at p.world.cells place to sel) frames p

plain_took : (code : CodeProgram) (phase : Phase) (receiver : Value) (sel : Sel) (vs : List Value) (site : Site) (frames : List Frame) (p : Progress)
    → TookStep p (arrived code phase (sent_on code receiver sel vs site p) frames)
plain_took code phase receiver sel vs site frames p =
    send_took code phase (found_from p.world.cells code (start_of p.world.cells receiver) sel.0 Plain) sel receiver vs site frames p

-- ---- instructions

module _ (code : CodeProgram) (phase : Phase) (leaving : Leaving) (a : Activation) (ls : List Value) (rest : List PlacedInstr) (frames : List Frame)
    (p : Progress) where
  jumped_took : (wanted : Bool) (v : Value) (landing : List PlacedInstr) (below : List Value)
      → MoveTook (jump_charges wanted (v ∷ below) rest landing) p (jumped_on phase wanted v leaving a ls rest landing below frames p)
  jumped_took true value.True landing below = jump_took phase leaving a ls rest landing below frames p
  jumped_took true value.False landing below = record { steps = refl; going = refl }
  jumped_took true value.Nil landing below = record { steps = refl; going = refl }
  jumped_took true (value.Int number) landing below = record { steps = refl; going = refl }
  jumped_took true (value.Sym name) landing below = record { steps = refl; going = refl }
  jumped_took true (value.Kernel class) landing below = record { steps = refl; going = refl }
  jumped_took true (value.Ref cell) landing below = record { steps = refl; going = refl }
  jumped_took false value.False landing below = jump_took phase leaving a ls rest landing below frames p
  jumped_took false value.True landing below = record { steps = refl; going = refl }
  jumped_took false value.Nil landing below = record { steps = refl; going = refl }
  jumped_took false (value.Int number) landing below = record { steps = refl; going = refl }
  jumped_took false (value.Sym name) landing below = record { steps = refl; going = refl }
  jumped_took false (value.Kernel class) landing below = record { steps = refl; going = refl }
  jumped_took false (value.Ref cell) landing below = record { steps = refl; going = refl }

  on_took : (wanted : Bool) (stack : List Value) (landing : List PlacedInstr)
      → MoveTook (jump_charges wanted stack rest landing) p (on_top (Stuck p) stack λ v below. jumped_on phase wanted v leaving a ls rest landing below frames p)
  on_took wanted [] landing = stuck_none p
  on_took wanted (v ∷ below) landing = jumped_took wanted v landing below

  -- a state that isn't at a loss took a step
  abbrev Steps : State → Type 0
  Steps s = is_stuck s ≡ false → TookStep p s

  abbrev None_taken : State → Type 0
  None_taken s = TookNone p s

  stuck_steps : Steps (Stuck p)
  stuck_steps e = absurd (cc)

  executed_took : (instr : Instr) (place : Option SourcePlace) (stack : List Value)
      → is_stuck (executed code phase instr place leaving a ls rest stack frames p) ≡ false
      → MoveTook (instr_charges code a.body rest stack instr) p (executed code phase instr place leaving a ls rest stack frames p)
  executed_took i.PushNil place stack e = record { steps = refl; going = refl }
  executed_took i.PushTrue place stack e = record { steps = refl; going = refl }
  executed_took i.PushFalse place stack e = record { steps = refl; going = refl }
  executed_took (i.PushInt number) place stack e = record { steps = refl; going = refl }
  executed_took (i.PushSym sel) place stack e = record { steps = refl; going = refl }
  executed_took (i.PushText text) place stack e =
      settled_none code phase _ (Running leaving a ls rest stack ∷ frames) p (cell_none (TextCell (literal code text)) p)
  executed_took i.PushSelf place stack e = record { steps = refl; going = refl }
  executed_took (i.PushOuter level) place stack e = record { steps = refl; going = refl }
  executed_took (i.PushLocal hops index) place stack e = record { steps = refl; going = refl }
  executed_took (i.StoreLocal hops index) place stack e =
      on_top_all None_taken (Stuck p) stack _ (stuck_none p)
      (λ v below. let s = (action_spends code (StoresLocal a hops index v) p).steps in record { steps = omega (arith, s); going = refl })
  executed_took (i.PushBlock body) place stack e =
      settled_none code phase _ (Running leaving a ls rest stack ∷ frames) p (cell_none (BlockCell body a.env a.home a.self a.holder) p)
  executed_took (i.MakeArray count) place stack e =
      taken_all None_taken (Stuck p) count [] stack _ (stuck_none p)
      (λ items below. settled_none code phase _ (Running leaving a ls rest below ∷ frames) p (cell_none (ArrayCell items) p))
  executed_took i.Pop place stack e = on_top_all None_taken (Stuck p) stack _ (stuck_none p) (λ v below. record { steps = refl; going = refl })
  executed_took (i.Pick number) place stack e = picked_all None_taken (Stuck p) number stack _ (stuck_none p) (λ v. record { steps = refl; going = refl })
  executed_took (i.Send sel argc) place stack e =
      taken_all Steps (Stuck p) argc [] stack _ stuck_steps
      (λ vs below.
      on_top_all Steps (Stuck p) below _ stuck_steps
      (λ v below f. sent_took code phase a (to_value v) sel vs place (Running leaving a ls rest below ∷ frames) p)) e
  executed_took (i.SendInner sel argc) place stack e =
      taken_all Steps (Stuck p) argc [] stack _ stuck_steps
      (λ vs below.
      on_top_all Steps (Stuck p) below _ stuck_steps
      (λ v below f. sent_took code phase a (To v Inner) sel vs place (Running leaving a ls rest below ∷ frames) p)) e
  executed_took (i.SendPrivate level sel argc) place stack e =
      taken_all Steps (Stuck p) argc [] stack _ stuck_steps
      (λ vs below f. sent_took code phase a (ToPrivate level) sel vs place (Running leaving a ls rest below ∷ frames) p) e
  executed_took (i.SendSuper sel argc) place stack e =
      taken_all Steps (Stuck p) argc [] stack _ stuck_steps
      (λ vs below f. sent_took code phase a ToSuper sel vs place (Running leaving a ls rest below ∷ frames) p) e
  executed_took (i.InitSuper argc) place stack e =
      taken_all None_taken (Stuck p) argc [] stack _ (stuck_none p) (λ vs below. part_none code phase a vs (Running leaving a ls rest below ∷ frames) p)
  executed_took (i.StoreSlot slot) place stack e =
      on_top_all None_taken (Stuck p) stack _ (stuck_none p)
      (λ v below. let s = (action_spends code (FillsSlot a slot v) p).steps in record { steps = omega (arith, s); going = refl })
  executed_took i.Return place stack e =
      on_top_all None_taken (Stuck p) stack _ (stuck_none p) (λ v below. returned_none code phase leaving a v frames p)
  executed_took i.ReturnSelf place stack e = returned_none code phase leaving a a.self frames p
  executed_took i.ReturnHome place stack e =
      on_top_all None_taken (Stuck p) stack _ (stuck_none p) (λ v below. home_none code phase a v (Running leaving a ls rest below ∷ frames) p)
  executed_took (i.Jump target) place stack e = jump_took phase leaving a ls rest (steps_from code a.body target) stack frames p
  executed_took (i.JumpFalse target) place stack e = on_took false stack (steps_from code a.body target)
  executed_took (i.JumpTrue target) place stack e = on_took true stack (steps_from code a.body target)

-- ---- moves

pub takes_as_told : (code : CodeProgram) → TakesAsTold code
takes_as_told code (Unbegun arguments p) still can = absurd (cc)
takes_as_told code (Ended ending phase p) still can = absurd (cc)
takes_as_told code (Stuck p) still can = absurd (cc)
takes_as_told code (Going phase [] p) still can = let f = can.finds in absurd (cc)
takes_as_told code (Going phase (Running leaving a ls [] stack ∷ frames) p) still can = let f = can.finds in absurd (cc)
takes_as_told code (Going phase (Running leaving a ls (step ∷ rest) stack ∷ frames) p) still can =
    executed_took code phase leaving a ls rest frames p step.0 step.1 stack can.finds
takes_as_told code (Going phase (Looping method state site ∷ frames) p) still can =
    action_took code phase method (next method state) state site frames p
takes_as_told code (Pends phase (Sending receiver sel arguments site) frames p) still can =
    plain_took code phase receiver sel arguments site frames p
takes_as_told code (Pends phase (Performing receiver sel array site) frames p) still can =
    plain_took code phase receiver sel (items_of p.world.cells (value.Ref array)) site frames p
takes_as_told code (Pends phase (Evaluating block arguments site) frames p) still can =
    evaluation_took code phase (shape_of_value p.world.cells block) arguments site frames p can.block

-- ---- the test before a move

less : (m n : ℕ) → n ≡ m + 1 → nat_lt m n ≡ true
less m n e = grind (arith, e)

not_less : (m n : ℕ) → n ≡ m → nat_lt m n ≡ false
not_less m n e = grind (arith, e)

or_true : (b : Bool) → (b || true) ≡ true
or_true true = refl
or_true false = refl

told : (b : Bool) (before after : State) → MoveTook b (progress_of before) after → was_charged before after ≡ b
told true before after (inl e) = ap (λ b. b || ends_with_steps after) (less (world_of before).steps (world_of after).steps e)
told true before after (inr n) =
    ap (λ b. nat_lt (world_of before).steps (world_of after).steps || b) n.ended ∙ or_true (nat_lt (world_of before).steps (world_of after).steps)
told false before after t =
    ap (λ b. b || ends_with_steps after) (not_less (world_of before).steps (world_of after).steps t.steps) ∙ t.going

pub charges_as_told : (code : CodeProgram) → ChargesAsTold code
charges_as_told code (Unbegun arguments p) can = refl
charges_as_told code (Ended ending phase p) can = refl
charges_as_told code (Stuck p) can = refl
charges_as_told code (Going phase frames p) can =
    told (will_charge code (Going phase frames p)) (Going phase frames p) (move code (Going phase frames p))
    (takes_as_told code (Going phase frames p) refl can)
charges_as_told code (Pends phase pending frames p) can =
    told (will_charge code (Pends phase pending frames p)) (Pends phase pending frames p) (move code (Pends phase pending frames p))
    (takes_as_told code (Pends phase pending frames p) refl can)
