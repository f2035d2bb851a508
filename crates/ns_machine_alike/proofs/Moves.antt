-- Moves keep two runs paired.
use Rattle.std.proofs.Common.{◌≡◌, ℕ, ◌≤◌, List, [], ◌∷◌, Option, Bool, true, false, cond, refl, ap, ◌∙◌, subst, arith}
use Rattle.ns_base.specs.declared.place.Place.{Place as SourcePlace}
use Rattle.ns_base.specs.declared.selector.Sel.{Sel}
use Rattle.ns_code.specs.declared.program.CodeProgram.{CodeProgram}
use Rattle.ns_code.specs.declared.instruction.Instr.{Instr}
use Rattle.ns_code.specs.declared.instruction.Instr.TheVariants as instr
use Rattle.ns_world.specs.declared.value.Value.{Value}
use Rattle.ns_world.specs.declared.value.Value.TheVariants.{Nil, True, False, Int, Sym, Ref}
use Rattle.ns_world.specs.declared.ending.Kind.TheVariants.{MustBeBoolean}
use Rattle.ns_world.specs.declared.ending.LimitKind.TheVariants.{Steps}
use Rattle.ns_world.specs.Heap.{find_cell, is_class}
use Rattle.ns_world.specs.World.{stepped}
use Rattle.ns_world.specs.Booleans.{is_boolean}
use Rattle.ns_facets.specs.declared.row.Grants.{Grants}
use Rattle.ns_world.specs.declared.kernel_parts.KMethod.{KMethod}
use Rattle.ns_kdata.specs.Arguments.{items_of}
use Rattle.ns_find.specs.declared.found.Sending.TheVariants.{Inner}
use Rattle.ns_moves.specs.declared.site.Site.{Site}
use Rattle.ns_moves.specs.Site.{error}
use Rattle.ns_moves.specs.Control.{Progress, Activation, Control, Now, Enter, Evaluate, Begin, Perform, PartControl, Skip, Stop, EnterPart, Waiting, Waits, Finishes, charged}
use Rattle.ns_moves.specs.Bodies.{no_home, enclosing, local_at}
use Rattle.ns_moves.specs.Blocks.{new_text, new_block, new_array, evaluated, method_next}
use Rattle.ns_moves.specs.Classes.{super_part, slot_filled}
use Rattle.ns_moves.specs.Sends.{Target, To, ToPrivate, ToSuper, to_value, sent, site_at}
use Rattle.ns_moves.specs.State.{Leaving, Frame, Running, Looping, Pending, Sending, Performing, Evaluating, Phase, Hosted, State, Going, Pends, Ended, Stuck}
use Rattle.ns_moves.specs.Steps.{PlacedInstr, steps_of, steps_from, literal}
use Rattle.ns_moves.specs.Operands.{on_top}
use Rattle.ns_moves.specs.Returns.{settled, returned, returned_home}
use Rattle.ns_moves.specs.Arrivals.{arrived, part_arrived, acted_on}
use Rattle.ns_moves.specs.Jumps.{goes_back, jumped, takes_jump, jumped_on}
use Rattle.ns_moves.specs.Instructions.{on_with, stored_local, executed}
use Rattle.ns_moves.specs.Move.{sent_on, resumed, move}
use Rattle.ns_moves.specs.Valid.{WorldIsValid, Valid}
use Rattle.ns_moves.specs.Start.{standing_cells}
use Rattle.ns_machine_alike.specs.Paired.{IsPairing, Paired, Partners, Same, AllPaired, Abreast, ActivationPaired, ControlPaired, PartPaired, WaitingPaired, LeavingPaired, LeavingHome, FramesPaired, PendingPaired, PhasePaired, StatePaired}
use Rattle.ns_machine_alike.proofs.Values.{cond_so}
use Rattle.ns_machine_alike.proofs.Charging.{step_charged}
use Rattle.ns_machine_alike.proofs.Reading.{items_paired}
use Rattle.ns_machine_alike.proofs.Finding.{same_site}
use Rattle.ns_machine_alike.proofs.Actions.{same_error, super_part_paired, slot_filled_abreast}
use Rattle.ns_machine_alike.proofs.Blocks.{new_text_paired, new_block_paired, new_array_paired, evaluated_paired, method_next_paired}
use Rattle.ns_machine_alike.proofs.Sends.{Known, TargetPaired, sent_paired, sent_from_paired}
use Rattle.ns_machine_alike.proofs.Places.{top_paired, taken_off_paired, picked_paired, enclosing_paired, class_paired, local_paired, locals_with_paired, local_stored_abreast}
use Rattle.ns_machine_alike.proofs.Returns.{SmallHome, SmallHomes, small_homes, settled_paired, returned_paired, returned_home_paired}

-- a private member is sent in the declaration of a class
abbrev pub InstrFinds : Progress → Activation → Instr → Type 0
InstrFinds now activation (instr.SendPrivate level sel argc) =
    is_class (find_cell now.world.cells (enclosing now.world.cells activation level).holder) ≡ true
InstrFinds now activation other = Unit {0}

-- Where the next step sends to a private member, the declaration in which it is sent is a class.
abbrev pub StepFinds : State → Type 0
StepFinds (Going phase (Running leaving activation locals (step ∷ rest) stack ∷ frames) now) = InstrFinds now activation step.0
StepFinds state = Unit {0}

module _ (Pair : ℕ → ℕ → Type 0) (first second : Progress) (pairing : IsPairing Pair first.world second.world) (known : Known) where
  module _ (code : CodeProgram) where
    -- ---- where actions lead

    arrived_paired : (control control' : Control) (frames frames' : List Frame) → ControlPaired Pair first second control control' → FramesPaired Pair first second frames frames'
        → StatePaired Pair first second (arrived code Hosted control frames) (arrived code Hosted control' frames')
    arrived_paired (Now after) (Now after') frames frames' c all = settled_paired Pair first second pairing code after after' frames frames' c all
    arrived_paired (Enter exit activation locals one) (Enter exit' activation' locals' two) frames frames' c all = (tt, ((c.0, c.1, c.2, c.3, ap (steps_of code) c.2.body, tt), all), c.4)
    arrived_paired (Evaluate block arguments site one) (Evaluate block' arguments' site' two) frames frames' c all = (tt, (c.0, c.1, c.2), all, c.3)
    arrived_paired (Begin method state site one) (Begin method' state' site' two) frames frames' c all = (tt, ((c.0, c.1, c.2), all), c.3)
    arrived_paired (Perform receiver sel array site one) (Perform receiver' sel' array' site' two) frames frames' c all = (
      tt,
      (
        c.0,
        c.1,
        c.2,
        same_site Pair first second pairing one.world.cells two.world.cells c.4.heaps site.place receiver receiver' sel c.0
            ∙ (ap (λ (s : Site). site_at two.world.cells s.place receiver' sel) c.3 ∙ ap (λ s. site_at two.world.cells site'.place receiver' s) c.1),
      ),
      all,
      c.4,
    )
    arrived_paired control control' frames frames' c all = absurd c

    part_arrived_paired : (part part' : PartControl) (frames frames' : List Frame) → PartPaired Pair first second part part' → FramesPaired Pair first second frames frames' → StatePaired Pair first second (part_arrived code Hosted part frames) (part_arrived code Hosted part' frames')
    part_arrived_paired (Skip one) (Skip two) frames frames' p all = (tt, all, p)
    part_arrived_paired (Stop ending one) (Stop ending' two) frames frames' p all = (p.0, tt, p.1)
    part_arrived_paired (EnterPart activation locals one) (EnterPart activation' locals' two) frames frames' p all = (tt, ((tt, tt, p.0, p.1, ap (steps_of code) p.0.body, tt), all), p.2)
    part_arrived_paired part part' frames frames' p all = absurd p

    acted_on_paired : (method method' : KMethod) (site site' : Site) (waiting waiting' : Waiting) (frames frames' : List Frame) → method ≡ method' → site ≡ site' → WaitingPaired Pair first second waiting waiting' → FramesPaired Pair first second frames frames'
        → StatePaired Pair first second (acted_on code Hosted method site waiting frames) (acted_on code Hosted method' site' waiting' frames')
    acted_on_paired method method' site site' (Waits block arguments state one) (Waits block' arguments' state' two) frames frames' m e w all = (tt, (w.0, w.1, e), ((m, w.2, e), all), w.3)
    acted_on_paired method method' site site' (Finishes after) (Finishes after') frames frames' m e w all = settled_paired Pair first second pairing code after after' frames frames' w all
    acted_on_paired method method' site site' (Waits block arguments state one) (Finishes after') frames frames' m e w all = absurd w
    acted_on_paired method method' site site' (Finishes after) (Waits block' arguments' state' two) frames frames' m e w all = absurd w

    -- ---- what waits

    resumed_paired : (pending pending' : Pending) (frames frames' : List Frame) (one two : Progress) → Abreast Pair first second one two → PendingPaired Pair first second pending pending' → FramesPaired Pair first second frames frames'
        → StatePaired Pair first second (resumed code Hosted pending frames one) (resumed code Hosted pending' frames' two)
    resumed_paired (Sending receiver sel arguments site) (Sending receiver' sel' arguments' site') frames frames' one two a p all =
        subst (λ s. StatePaired Pair first second (resumed code Hosted (Sending receiver sel arguments site) frames one) (resumed code Hosted (Sending receiver' s arguments' site') frames' two)) p.1
        (arrived_paired (sent_on code receiver sel arguments site one) (sent_on code receiver' sel arguments' site' two) frames frames' (sent_from_paired Pair first second pairing known code receiver receiver' sel arguments arguments' site site' one two a p.0 p.2 p.3) all)
    resumed_paired (Performing receiver sel array site) (Performing receiver' sel' array' site') frames frames' one two a p all =
        subst (λ s. StatePaired Pair first second (resumed code Hosted (Performing receiver sel array site) frames one) (resumed code Hosted (Performing receiver' s array' site') frames' two)) p.1
        (arrived_paired (sent_on code receiver sel (items_of one.world.cells (Ref array)) site one) (sent_on code receiver' sel (items_of two.world.cells (Ref array')) site' two) frames frames'
        (sent_from_paired Pair first second pairing known code receiver receiver' sel (items_of one.world.cells (Ref array)) (items_of two.world.cells (Ref array')) site site' one two a p.0
        (items_paired Pair first second pairing one.world.cells two.world.cells a.heaps (Ref array) (Ref array') (Partners array array' p.2)) p.3) all)
    resumed_paired (Evaluating block arguments site) (Evaluating block' arguments' site') frames frames' one two a p all =
        arrived_paired (evaluated code block arguments site one) (evaluated code block' arguments' site' two) frames frames' (evaluated_paired Pair first second pairing code block block' arguments arguments' site site' one two a p.0 p.1 p.2) all
    resumed_paired pending pending' frames frames' one two a p all = absurd p

    -- ---- instructions

    module _ (leaving leaving' : Leaving) (activation activation' : Activation) (locals locals' : List Value) (rest : List PlacedInstr) (frames frames' : List Frame) (one two : Progress) (a : Abreast Pair first second one two)
        (l : LeavingPaired Pair first second leaving leaving') (b : LeavingHome Pair first second leaving activation.home activation'.home) (p : ActivationPaired Pair first second activation activation') (own : AllPaired Pair locals locals')
        (below_paired : FramesPaired Pair first second frames frames') (small : SmallHome leaving activation.home × SmallHomes frames) (small' : SmallHome leaving' activation'.home × SmallHomes frames') where
      -- the frames with these operands
      frame_paired : (stack stack' : List Value) → AllPaired Pair stack stack' → FramesPaired Pair first second (Running leaving activation locals rest stack ∷ frames) (Running leaving' activation' locals' rest stack' ∷ frames')
      frame_paired stack stack' all = ((l, b, p, own, refl, all), below_paired)

      on_paired : (stack stack' : List Value) → AllPaired Pair stack stack' → StatePaired Pair first second (on_with Hosted leaving activation locals rest stack frames one) (on_with Hosted leaving' activation' locals' rest stack' frames' two)
      on_paired stack stack' all = (tt, frame_paired stack stack' all, a)

      jumped_paired : (landing : List PlacedInstr) (stack stack' : List Value) → AllPaired Pair stack stack' → StatePaired Pair first second (jumped Hosted leaving activation locals rest landing stack frames one) (jumped Hosted leaving' activation' locals' rest landing stack' frames' two)
      jumped_paired landing stack stack' all =
          cond_so (StatePaired Pair first second) (goes_back rest landing) (goes_back rest landing)
          (charged (λ ending progress. Ended ending Hosted progress) Steps (stepped one.world) one (Going Hosted (Running leaving activation locals landing stack ∷ frames))) (Going Hosted (Running leaving activation locals landing stack ∷ frames) one)
          (charged (λ ending progress. Ended ending Hosted progress) Steps (stepped two.world) two (Going Hosted (Running leaving' activation' locals' landing stack' ∷ frames'))) (Going Hosted (Running leaving' activation' locals' landing stack' ∷ frames') two) refl
          (λ t. step_charged Pair first second pairing (StatePaired Pair first second) (λ ending progress. Ended ending Hosted progress) (λ ending progress. Ended ending Hosted progress) one two (Going Hosted (Running leaving activation locals landing stack ∷ frames))
          (Going Hosted (Running leaving' activation' locals' landing stack' ∷ frames')) a (refl, tt, a) (λ next next' same same' k. (tt, ((l, b, p, own, refl, all), below_paired), k)))
          (λ t. (tt, ((l, b, p, own, refl, all), below_paired), a))

      same_test : (wanted : Bool) (value value' : Value) → Paired Pair value value' → (is_boolean value ≡ is_boolean value') × (takes_jump wanted value ≡ takes_jump wanted value')
      same_test wanted value value' (Same same e) = (refl, refl)
      same_test true value value' (Partners n m q) = (refl, refl)
      same_test false value value' (Partners n m q) = (refl, refl)

      jumped_on_paired : (wanted : Bool) (value value' : Value) (landing : List PlacedInstr) (stack stack' : List Value) → Paired Pair value value' → AllPaired Pair stack stack'
          → StatePaired Pair first second (jumped_on Hosted wanted value leaving activation locals rest landing stack frames one) (jumped_on Hosted wanted value' leaving' activation' locals' rest landing stack' frames' two)
      jumped_on_paired wanted value value' landing stack stack' v all =
          let tests = same_test wanted value value' v in
          cond_so (StatePaired Pair first second) (is_boolean value) (is_boolean value')
          (cond (takes_jump wanted value) (jumped Hosted leaving activation locals rest landing stack frames one) (Going Hosted (Running leaving activation locals rest stack ∷ frames) one)) (Ended (error MustBeBoolean activation.site) Hosted one)
          (cond (takes_jump wanted value') (jumped Hosted leaving' activation' locals' rest landing stack' frames' two) (Going Hosted (Running leaving' activation' locals' rest stack' ∷ frames') two)) (Ended (error MustBeBoolean activation'.site) Hosted two) tests.0
          (λ t. cond_so (StatePaired Pair first second) (takes_jump wanted value) (takes_jump wanted value') (jumped Hosted leaving activation locals rest landing stack frames one) (Going Hosted (Running leaving activation locals rest stack ∷ frames) one)
          (jumped Hosted leaving' activation' locals' rest landing stack' frames' two) (Going Hosted (Running leaving' activation' locals' rest stack' ∷ frames') two) tests.1 (λ u. jumped_paired landing stack stack' all) (λ u. on_paired stack stack' all))
          (λ t. (same_error Pair MustBeBoolean activation.site activation'.site p.site, tt, a))

      -- the target of a jump
      same_landing : (target : ℕ) → steps_from code activation.body target ≡ steps_from code activation'.body target
      same_landing target = ap (λ k. steps_from code k target) p.body

      sent_arrived : (target target' : Target) (sel : Sel) (arguments arguments' : List Value) (place : Option SourcePlace) (stack stack' : List Value) → TargetPaired Pair first second pairing known one.world.cells two.world.cells activation activation' target target'
          → AllPaired Pair arguments arguments' → AllPaired Pair stack stack'
          → StatePaired Pair first second (arrived code Hosted (sent code activation target sel arguments place one) (Running leaving activation locals rest stack ∷ frames))
          (arrived code Hosted (sent code activation' target' sel arguments' place two) (Running leaving' activation' locals' rest stack' ∷ frames'))
      sent_arrived target target' sel arguments arguments' place stack stack' t s all =
          arrived_paired (sent code activation target sel arguments place one) (sent code activation' target' sel arguments' place two) (Running leaving activation locals rest stack ∷ frames) (Running leaving' activation' locals' rest stack' ∷ frames')
          (sent_paired Pair first second pairing known code activation activation' target target' sel arguments arguments' place one two a p t s) (frame_paired stack stack' all)

      pub executed_paired : (asked : Instr) (place : Option SourcePlace) (stack stack' : List Value) → AllPaired Pair stack stack' → InstrFinds one activation asked
          → StatePaired Pair first second (executed code Hosted asked place leaving activation locals rest stack frames one) (executed code Hosted asked place leaving' activation' locals' rest stack' frames' two)
      executed_paired instr.PushNil place stack stack' all f = on_paired (Nil ∷ stack) (Nil ∷ stack') (Same Nil refl, all)
      executed_paired instr.PushTrue place stack stack' all f = on_paired (True ∷ stack) (True ∷ stack') (Same True refl, all)
      executed_paired instr.PushFalse place stack stack' all f = on_paired (False ∷ stack) (False ∷ stack') (Same False refl, all)
      executed_paired (instr.PushInt number) place stack stack' all f = on_paired (Int number ∷ stack) (Int number ∷ stack') (Same (Int number) refl, all)
      executed_paired (instr.PushSym sel) place stack stack' all f = on_paired (Sym sel ∷ stack) (Sym sel ∷ stack') (Same (Sym sel) refl, all)
      executed_paired (instr.PushText text) place stack stack' all f =
          settled_paired Pair first second pairing code (new_text (literal code text) one) (new_text (literal code text) two) (Running leaving activation locals rest stack ∷ frames) (Running leaving' activation' locals' rest stack' ∷ frames')
          (new_text_paired Pair first second pairing (literal code text) one two a) (frame_paired stack stack' all)
      executed_paired instr.PushSelf place stack stack' all f = on_paired (activation.self ∷ stack) (activation'.self ∷ stack') (p.self, all)
      executed_paired (instr.PushOuter level) place stack stack' all f =
          on_paired ((enclosing one.world.cells activation level).object ∷ stack) ((enclosing two.world.cells activation' level).object ∷ stack') ((enclosing_paired Pair first second pairing one two activation activation' level a p).0, all)
      executed_paired (instr.PushLocal hops index) place stack stack' all f =
          on_paired (local_at one.world.cells code activation locals hops index ∷ stack) (local_at two.world.cells code activation' locals' hops index ∷ stack') (local_paired Pair first second pairing code one two activation activation' locals locals' hops index a p own, all)
      executed_paired (instr.StoreLocal hops index) place stack stack' all f =
          top_paired Pair first second pairing (StatePaired Pair first second) (Stuck one) (Stuck two) stack stack' (λ value below. stored_local code Hosted hops index value leaving activation locals rest below frames one)
          (λ value below. stored_local code Hosted hops index value leaving' activation' locals' rest below frames' two) all a
          (λ value value' below below' v s. (tt, ((l, b, p, locals_with_paired Pair first second pairing code activation activation' locals locals' hops index value value' p own v, refl, (v, s)), below_paired), local_stored_abreast Pair first second pairing code activation activation' hops index value value' one two a p v))
      executed_paired (instr.PushBlock body) place stack stack' all f =
          settled_paired Pair first second pairing code (new_block activation body one) (new_block activation' body two) (Running leaving activation locals rest stack ∷ frames) (Running leaving' activation' locals' rest stack' ∷ frames')
          (new_block_paired Pair first second pairing activation activation' body one two a p) (frame_paired stack stack' all)
      executed_paired (instr.MakeArray count) place stack stack' all f =
          taken_off_paired Pair first second pairing (StatePaired Pair first second) (Stuck one) (Stuck two) count [] [] stack stack' (λ items below. settled code Hosted (new_array items one) (Running leaving activation locals rest below ∷ frames))
          (λ items below. settled code Hosted (new_array items two) (Running leaving' activation' locals' rest below ∷ frames')) tt all a
          (λ items items' below below' i s. settled_paired Pair first second pairing code (new_array items one) (new_array items' two) (Running leaving activation locals rest below ∷ frames) (Running leaving' activation' locals' rest below' ∷ frames')
          (new_array_paired Pair first second pairing items items' one two a i) (frame_paired below below' s))
      executed_paired instr.Pop place stack stack' all f =
          top_paired Pair first second pairing (StatePaired Pair first second) (Stuck one) (Stuck two) stack stack' (λ value below. on_with Hosted leaving activation locals rest below frames one) (λ value below. on_with Hosted leaving' activation' locals' rest below frames' two) all a
          (λ value value' below below' v s. on_paired below below' s)
      executed_paired (instr.Pick number) place stack stack' all f =
          picked_paired Pair first second pairing (StatePaired Pair first second) (Stuck one) (Stuck two) number stack stack' (λ value. on_with Hosted leaving activation locals rest (value ∷ stack) frames one) (λ value. on_with Hosted leaving' activation' locals' rest (value ∷ stack') frames' two) all a
          (λ value value' v. on_paired (value ∷ stack) (value' ∷ stack') (v, all))
      executed_paired (instr.Send sel argc) place stack stack' all f =
          taken_off_paired Pair first second pairing (StatePaired Pair first second) (Stuck one) (Stuck two) argc [] [] stack stack'
          (λ arguments below. on_top (Stuck one) below λ receiver below. arrived code Hosted (sent code activation (to_value receiver) sel arguments place one) (Running leaving activation locals rest below ∷ frames))
          (λ arguments below. on_top (Stuck two) below λ receiver below. arrived code Hosted (sent code activation' (to_value receiver) sel arguments place two) (Running leaving' activation' locals' rest below ∷ frames')) tt all a
          (λ arguments arguments' below below' s z. top_paired Pair first second pairing (StatePaired Pair first second) (Stuck one) (Stuck two) below below'
          (λ receiver below. arrived code Hosted (sent code activation (to_value receiver) sel arguments place one) (Running leaving activation locals rest below ∷ frames))
          (λ receiver below. arrived code Hosted (sent code activation' (to_value receiver) sel arguments' place two) (Running leaving' activation' locals' rest below ∷ frames')) z a
          (λ receiver receiver' last last' r y. sent_arrived (to_value receiver) (to_value receiver') sel arguments arguments' place last last' (r, refl) s y))
      executed_paired (instr.SendInner sel argc) place stack stack' all f =
          taken_off_paired Pair first second pairing (StatePaired Pair first second) (Stuck one) (Stuck two) argc [] [] stack stack'
          (λ arguments below. on_top (Stuck one) below λ receiver below. arrived code Hosted (sent code activation (To receiver Inner) sel arguments place one) (Running leaving activation locals rest below ∷ frames))
          (λ arguments below. on_top (Stuck two) below λ receiver below. arrived code Hosted (sent code activation' (To receiver Inner) sel arguments place two) (Running leaving' activation' locals' rest below ∷ frames')) tt all a
          (λ arguments arguments' below below' s z. top_paired Pair first second pairing (StatePaired Pair first second) (Stuck one) (Stuck two) below below'
          (λ receiver below. arrived code Hosted (sent code activation (To receiver Inner) sel arguments place one) (Running leaving activation locals rest below ∷ frames))
          (λ receiver below. arrived code Hosted (sent code activation' (To receiver Inner) sel arguments' place two) (Running leaving' activation' locals' rest below ∷ frames')) z a
          (λ receiver receiver' last last' r y. sent_arrived (To receiver Inner) (To receiver' Inner) sel arguments arguments' place last last' (r, refl) s y))
      executed_paired (instr.SendPrivate level sel argc) place stack stack' all f =
          let around = enclosing_paired Pair first second pairing one two activation activation' level a p in
          taken_off_paired Pair first second pairing (StatePaired Pair first second) (Stuck one) (Stuck two) argc [] [] stack stack'
          (λ arguments below. arrived code Hosted (sent code activation (ToPrivate level) sel arguments place one) (Running leaving activation locals rest below ∷ frames))
          (λ arguments below. arrived code Hosted (sent code activation' (ToPrivate level) sel arguments place two) (Running leaving' activation' locals' rest below ∷ frames')) tt all a
          (λ arguments arguments' below below' s z. sent_arrived (ToPrivate level) (ToPrivate level) sel arguments arguments' place below below'
          (refl, around.0, class_paired Pair first second pairing one two (enclosing one.world.cells activation level).holder (enclosing two.world.cells activation' level).holder a f around.1) s z)
      executed_paired (instr.SendSuper sel argc) place stack stack' all f =
          taken_off_paired Pair first second pairing (StatePaired Pair first second) (Stuck one) (Stuck two) argc [] [] stack stack'
          (λ arguments below. arrived code Hosted (sent code activation ToSuper sel arguments place one) (Running leaving activation locals rest below ∷ frames))
          (λ arguments below. arrived code Hosted (sent code activation' ToSuper sel arguments place two) (Running leaving' activation' locals' rest below ∷ frames')) tt all a
          (λ arguments arguments' below below' s z. sent_arrived ToSuper ToSuper sel arguments arguments' place below below' tt s z)
      executed_paired (instr.InitSuper argc) place stack stack' all f =
          taken_off_paired Pair first second pairing (StatePaired Pair first second) (Stuck one) (Stuck two) argc [] [] stack stack'
          (λ arguments below. part_arrived code Hosted (super_part code activation arguments one) (Running leaving activation locals rest below ∷ frames))
          (λ arguments below. part_arrived code Hosted (super_part code activation' arguments two) (Running leaving' activation' locals' rest below ∷ frames')) tt all a
          (λ arguments arguments' below below' s z. part_arrived_paired (super_part code activation arguments one) (super_part code activation' arguments' two) (Running leaving activation locals rest below ∷ frames)
          (Running leaving' activation' locals' rest below' ∷ frames') (super_part_paired Pair first second pairing code activation activation' arguments arguments' one two a p s) (frame_paired below below' z))
      executed_paired (instr.StoreSlot slot) place stack stack' all f =
          top_paired Pair first second pairing (StatePaired Pair first second) (Stuck one) (Stuck two) stack stack' (λ value below. on_with Hosted leaving activation locals rest below frames (slot_filled code activation slot value one))
          (λ value below. on_with Hosted leaving' activation' locals' rest below frames' (slot_filled code activation' slot value two)) all a
          (λ value value' below below' v s. (tt, frame_paired below below' s, slot_filled_abreast Pair first second pairing code activation activation' slot value value' one two a p v))
      executed_paired instr.Return place stack stack' all f =
          top_paired Pair first second pairing (StatePaired Pair first second) (Stuck one) (Stuck two) stack stack' (λ value below. returned code Hosted leaving activation value frames one) (λ value below. returned code Hosted leaving' activation' value frames' two) all a
          (λ value value' below below' v s. returned_paired Pair first second pairing code leaving leaving' activation activation' value value' frames frames' one two a l p v below_paired)
      executed_paired instr.ReturnSelf place stack stack' all f = returned_paired Pair first second pairing code leaving leaving' activation activation' activation.self activation'.self frames frames' one two a l p p.self below_paired
      executed_paired instr.ReturnHome place stack stack' all f =
          top_paired Pair first second pairing (StatePaired Pair first second) (Stuck one) (Stuck two) stack stack' (λ value below. returned_home code Hosted activation value (Running leaving activation locals rest below ∷ frames) one)
          (λ value below. returned_home code Hosted activation' value (Running leaving' activation' locals' rest below ∷ frames') two) all a
          (λ value value' below below' v s. returned_home_paired Pair first second pairing code activation activation' value value' (Running leaving activation locals rest below ∷ frames) (Running leaving' activation' locals' rest below' ∷ frames') one two a p v (frame_paired below below' s) small small')
      executed_paired (instr.Jump target) place stack stack' all f =
          subst (λ landing. StatePaired Pair first second (jumped Hosted leaving activation locals rest (steps_from code activation.body target) stack frames one) (jumped Hosted leaving' activation' locals' rest landing stack' frames' two)) (same_landing target)
          (jumped_paired (steps_from code activation.body target) stack stack' all)
      executed_paired (instr.JumpFalse target) place stack stack' all f =
          subst (λ landing. StatePaired Pair first second (executed code Hosted (instr.JumpFalse target) place leaving activation locals rest stack frames one)
          (on_top (Stuck two) stack' λ value below. jumped_on Hosted false value leaving' activation' locals' rest landing below frames' two)) (same_landing target)
          (top_paired Pair first second pairing (StatePaired Pair first second) (Stuck one) (Stuck two) stack stack' (λ value below. jumped_on Hosted false value leaving activation locals rest (steps_from code activation.body target) below frames one)
          (λ value below. jumped_on Hosted false value leaving' activation' locals' rest (steps_from code activation.body target) below frames' two) all a
          (λ value value' below below' v s. jumped_on_paired false value value' (steps_from code activation.body target) below below' v s))
      executed_paired (instr.JumpTrue target) place stack stack' all f =
          subst (λ landing. StatePaired Pair first second (executed code Hosted (instr.JumpTrue target) place leaving activation locals rest stack frames one)
          (on_top (Stuck two) stack' λ value below. jumped_on Hosted true value leaving' activation' locals' rest landing below frames' two)) (same_landing target)
          (top_paired Pair first second pairing (StatePaired Pair first second) (Stuck one) (Stuck two) stack stack' (λ value below. jumped_on Hosted true value leaving activation locals rest (steps_from code activation.body target) below frames one)
          (λ value below. jumped_on Hosted true value leaving' activation' locals' rest (steps_from code activation.body target) below frames' two) all a
          (λ value value' below below' v s. jumped_on_paired true value value' (steps_from code activation.body target) below below' v s))

    -- ---- a move

    -- the topmost frame goes on
    going_paired : (frames frames' : List Frame) (one two : Progress) → StepFinds (Going Hosted frames one) → Abreast Pair first second one two → FramesPaired Pair first second frames frames' → SmallHomes frames → SmallHomes frames'
        → StatePaired Pair first second (move code (Going Hosted frames one)) (move code (Going Hosted frames' two))
    going_paired [] [] one two f a all small small' = a
    going_paired (Running leaving activation locals rest stack ∷ frames) (Running leaving' activation' locals' rest' stack' ∷ frames') one two f a all small small' =
        subst (λ r. StatePaired Pair first second (move code (Going Hosted (Running leaving activation locals rest stack ∷ frames) one)) (move code (Going Hosted (Running leaving' activation' locals' r stack' ∷ frames') two))) all.0.4 (by rest f)
      where
        by : (r : List PlacedInstr) → StepFinds (Going Hosted (Running leaving activation locals r stack ∷ frames) one)
            → StatePaired Pair first second (move code (Going Hosted (Running leaving activation locals r stack ∷ frames) one)) (move code (Going Hosted (Running leaving' activation' locals' r stack' ∷ frames') two))
        by [] g = a
        by (step ∷ r) g =
            executed_paired leaving leaving' activation activation' locals locals' r frames frames' one two a all.0.0 all.0.1 all.0.2 all.0.3 all.1 small small' step.0 step.1 stack stack' all.0.5 g
    going_paired (Looping method state site ∷ frames) (Looping method' state' site' ∷ frames') one two f a all small small' =
        acted_on_paired method method' site site' (method_next method state site one) (method_next method' state' site' two) frames frames' all.0.0 all.0.2
        (subst (λ m. WaitingPaired Pair first second (method_next method state site one) (method_next m state' site' two)) all.0.0 (method_next_paired Pair first second pairing method state state' site site' one two a all.0.1 all.0.2)) all.1
    going_paired [] (frame' ∷ frames') one two f a all small small' = absurd all
    going_paired (Running leaving activation locals rest stack ∷ frames) [] one two f a all small small' = absurd all
    going_paired (Looping method state site ∷ frames) [] one two f a all small small' = absurd all
    going_paired (Running leaving activation locals rest stack ∷ frames) (Looping method' state' site' ∷ frames') one two f a all small small' = absurd all.0
    going_paired (Looping method state site ∷ frames) (Running leaving' activation' locals' rest' stack' ∷ frames') one two f a all small small' = absurd all.0

  -- the homes of a valid world are small
  small_begun : (code : CodeProgram) (grants : Grants) (now : Progress) → WorldIsValid code (standing_cells code grants) now → now.begun ≤ no_home
  small_begun code grants now world = omega (arith, world.begun, world.lawful.within.steps, world.lawful.within.limits.0.1)

  hosted : (P : Phase → Phase → Type 0) (phase phase' : Phase) → PhasePaired Pair first second phase phase' → P Hosted Hosted → P phase phase'
  hosted P Hosted Hosted h x = x
  hosted P phase phase' h x = absurd h

  -- Two valid states that are paired lead to paired states. A private member is sent in the declaration of a class.
  pub move_paired : (code : CodeProgram) (grants grants' : Grants) (one two : State) → Valid code grants one → Valid code grants' two → StepFinds one → StatePaired Pair first second one two
      → StatePaired Pair first second (move code one) (move code two)
  move_paired code grants grants' (Going phase frames one) (Going phase' frames' two) valid valid' finds p =
      hosted (λ f f'. StepFinds (Going f frames one) → StatePaired Pair first second (move code (Going f frames one)) (move code (Going f' frames' two))) phase phase' p.0
      (λ g. going_paired code frames frames' one two g p.2 p.1 (small_homes one.begun frames (small_begun code grants one valid.0.world) valid.0.homes) (small_homes two.begun frames' (small_begun code grants' two valid'.0.world) valid'.0.homes)) finds
  move_paired code grants grants' (Pends phase pending frames one) (Pends phase' pending' frames' two) valid valid' finds p =
      hosted (λ f f'. StatePaired Pair first second (move code (Pends f pending frames one)) (move code (Pends f' pending' frames' two))) phase phase' p.0 (resumed_paired code pending pending' frames frames' one two p.3 p.1 p.2)
  move_paired code grants grants' (Ended ending phase one) (Ended ending' phase' two) valid valid' finds p = p
  move_paired code grants grants' (Stuck one) (Stuck two) valid valid' finds p = p
  move_paired code grants grants' one two valid valid' finds p = absurd p
