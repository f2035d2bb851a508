-- Moves stay within a set of cells.
use Rattle.std.proofs.Common.{◌≡◌, ◌⊎◌, inl, inr, ℕ, zero, suc, List, [], ◌∷◌, Option, Some, Bool, true, false, cond, refl, sym, ap, ◌∙◌, subst}
use Rattle.std.specs.Prelude.{slice_set, if◌then◌else◌, ◌-◌}
use Rattle.std.specs.List.{slice_index_or}
use Rattle.ns_base.specs.declared.place.Place.{Place as SourcePlace}
use Rattle.ns_code.specs.declared.program.CodeProgram.{CodeProgram}
use Rattle.ns_code.specs.declared.instruction.Instr.{Instr}
use Rattle.ns_code.specs.declared.instruction.Instr.TheVariants as instr
use Rattle.ns_world.specs.declared.value.Value.{Value}
use Rattle.ns_world.specs.declared.value.Value.TheVariants.{Nil, True, False, Int, Sym, Kernel, Ref}
use Rattle.ns_world.specs.declared.ending.Kind.TheVariants.{DeadReturn, MustBeBoolean}
use Rattle.ns_world.specs.declared.ending.LimitKind.TheVariants.{Steps}
use Rattle.ns_world.specs.declared.cell.NewCell.{NewCell}
use Rattle.ns_world.specs.declared.cell.NewCell.TheVariants as new
use Rattle.ns_world.specs.declared.cell.FacetKind.TheVariants.{Manifest}
use Rattle.ns_world.specs.Cell.{FacetCell}
use Rattle.ns_world.specs.Heap.{Heap, find_cell, shape_at, is_class, word_at, cell_number}
use Rattle.ns_world.specs.World.{stepped, written}
use Rattle.ns_world.specs.declared.kernel_parts.KMethod.{KMethod}
use Rattle.ns_kdata.specs.Arguments.{items_of}
use Rattle.ns_find.specs.declared.found.Sending.TheVariants.{Inner}
use Rattle.ns_moves.specs.declared.site.Site.{Site}
use Rattle.ns_moves.specs.Site.{error}
use Rattle.ns_moves.specs.Control.{Progress, in_world, Activation, After, Gives, Halts, Control, Now, Enter, Evaluate, Begin, Perform, PartControl, Skip, Stop, EnterPart, Waiting, Waits, Finishes, charged, frame_left}
use Rattle.ns_moves.specs.Bodies.{Place, enclosing_place, lexical, enclosing, parent_in, environment_out, is_beside, has_environment, environment_at, local_at, locals_with, local_stored}
use Rattle.ns_moves.specs.Blocks.{new_text, new_block, new_array, evaluated, method_next}
use Rattle.ns_world.specs.Booleans.{is_boolean}
use Rattle.ns_moves.specs.Classes.{super_part, slot_filled, body_ended}
use Rattle.ns_moves.specs.Sends.{To, ToPrivate, ToSuper, to_value, sent}
use Rattle.ns_moves.specs.State.{Leaving, Loud, Silent, Frame, Running, Looping, Pending, Sending, Performing, Evaluating, Phase, Start, First, Second, Hosted, State, Unbegun, Going, Pends, Ended, Stuck}
use Rattle.ns_moves.specs.Steps.{PlacedInstr, steps_from, literal}
use Rattle.ns_moves.specs.Operands.{on_top, taken_off, picked}
use Rattle.ns_moves.specs.Returns.{concluded, delivered, settled, returned, is_home, has_home, unwound, returned_home}
use Rattle.ns_moves.specs.Arrivals.{arrived, part_arrived, acted_on}
use Rattle.ns_moves.specs.Jumps.{goes_back, jumped, takes_jump, jumped_on}
use Rattle.ns_moves.specs.Instructions.{on_with, stored_local, executed}
use Rattle.ns_moves.specs.Move.{sent_on, resumed, move}
use Rattle.ns_machine_reach.specs.Within.{HasLater, In, AllIn, Kept, ActivationIn, AfterIn, ControlIn, PartIn, WaitingIn, LeavingIn, FramesIn, PendingIn, PhaseIn, StateIn}
use Rattle.ns_machine_reach.proofs.Cells.{at_index, all_set}
use Rattle.ns_machine_reach.proofs.Keeping.{written_kept, manifest_unwritten}
use Rattle.ns_machine_reach.proofs.Reading.{Closed, ShapeIn, shape_in, word_at_in, items_in}
use Rattle.ns_machine_reach.proofs.Actions.{step_charged, super_part_in, slot_filled_in, body_ended_in, part_ended_in}
use Rattle.ns_machine_reach.proofs.Blocks.{new_text_in, new_block_in, new_array_in, evaluated_in, method_next_in, taken_in}
use Rattle.ns_machine_reach.proofs.Sends.{Known, sent_in, sent_from_in}

-- a private member is sent in the declaration of a class
abbrev pub InstrFinds : Progress → Activation → Instr → Type 0
InstrFinds now activation (instr.SendPrivate level sel argc) =
    is_class (find_cell now.world.cells (enclosing now.world.cells activation level).holder) ≡ true
InstrFinds now activation other = Unit {0}

-- Where the next step sends to a private member, the declaration in which it is sent is a class.
abbrev pub StepFinds : State → Type 0
StepFinds (Going phase (Running leaving activation locals (step ∷ rest) stack ∷ frames) now) = InstrFinds now activation step.0
StepFinds state = Unit {0}

module _ (Has : ℕ → Type 0) (first : Progress) where
  -- ---- operands

  top_in : {A : Type 0} (P : A → Type 0) (missing : A) (stack : List Value) (go : Value → List Value → A) → AllIn Has stack → P missing → ((value : Value) (below : List Value) → In Has value → AllIn Has below → P (go value below)) → P (on_top missing stack go)
  top_in P missing [] go all none goes = none
  top_in P missing (value ∷ stack) go all none goes = goes value stack all.0 all.1

  taken_off_in : {A : Type 0} (P : A → Type 0) (missing : A) (count : ℕ) (values stack : List Value) (go : List Value → List Value → A) → AllIn Has values → AllIn Has stack → P missing
      → ((taken below : List Value) → AllIn Has taken → AllIn Has below → P (go taken below)) → P (taken_off missing count values stack go)
  taken_off_in P missing zero values stack go some all none goes = goes values stack some all
  taken_off_in P missing (suc count) values [] go some all none goes = none
  taken_off_in P missing (suc count) values (value ∷ stack) go some all none goes = taken_off_in P missing count (value ∷ values) stack go (all.0, some) all.1 none goes

  picked_in : {A : Type 0} (P : A → Type 0) (missing : A) (place : ℕ) (stack : List Value) (go : Value → A) → AllIn Has stack → P missing → ((value : Value) → In Has value → P (go value)) → P (picked missing place stack go)
  picked_in P missing place [] go all none goes = none
  picked_in P missing zero (value ∷ stack) go all none goes = goes value all.0
  picked_in P missing (suc place) (value ∷ stack) go all none goes = picked_in P missing place stack go all.1 none goes

  -- ---- enclosing objects

  -- a class in the set; or there was none further out, and the number is that of Manifest
  abbrev HolderIn : ℕ → Type 0
  HolderIn n = Has n ⊎ (n ≡ 0)

  shape_of_manifest : (heap : Heap) → find_cell heap 0 ≡ Some (FacetCell Manifest) → shape_at heap 0 ≡ new.Facet Manifest
  shape_of_manifest heap e = rw e refl

  number_in : (value : Value) → In Has value → HolderIn (cell_number value)
  number_in (Ref at) i = inl i
  number_in Nil i = inr refl
  number_in True i = inr refl
  number_in False i = inr refl
  number_in (Int number) i = inr refl
  number_in (Sym sel) i = inr refl
  number_in (Kernel class) i = inr refl

  abbrev PlaceIn : Place → Type 0
  PlaceIn place = In Has place.object × HolderIn place.holder

  place_in_set : (shape : NewCell) → ShapeIn Has shape → PlaceIn (enclosing_place shape)
  place_in_set (new.Class decl base encl holder over) s = (s.0, number_in holder s.1)
  place_in_set (new.Object class words) s = (tt, inr refl)
  place_in_set (new.Block body env home receiver holder) s = (tt, inr refl)
  place_in_set (new.Environment parent locals) s = (tt, inr refl)
  place_in_set (new.Array size) s = (tt, inr refl)
  place_in_set (new.Text bytes) s = (tt, inr refl)
  place_in_set (new.Facet facet) s = (tt, inr refl)
  place_in_set (new.Mirror mirrored) s = (tt, inr refl)
  place_in_set (new.Message sel args) s = (tt, inr refl)

  -- the shape of a class in the set, or of Manifest
  holder_shape : (heap : Heap) (holder : ℕ) → Closed Has heap → find_cell heap 0 ≡ Some (FacetCell Manifest) → HolderIn holder → ShapeIn Has (shape_at heap holder)
  holder_shape heap holder closed manifest (inl has) = shape_in Has heap holder closed has
  holder_shape heap holder closed manifest (inr is) = subst (λ n. ShapeIn Has (shape_at heap n)) (sym is) (subst (ShapeIn Has) (sym (shape_of_manifest heap manifest)) tt)

  lexical_in : (heap : Heap) (self : Value) (holder level : ℕ) → Closed Has heap → find_cell heap 0 ≡ Some (FacetCell Manifest) → In Has self → Has holder → PlaceIn (lexical heap self holder level)
  lexical_in heap self holder zero closed manifest i h = (i, inl h)
  lexical_in heap self holder (suc level) closed manifest i h =
      let out = lexical_in heap self holder level closed manifest i h in
      place_in_set (shape_at heap (lexical heap self holder level).holder) (holder_shape heap (lexical heap self holder level).holder closed manifest out.1)

  enclosing_in : (now : Progress) (activation : Activation) (level : ℕ) → Kept Has first now → ActivationIn Has activation → PlaceIn (enclosing now.world.cells activation level)
  enclosing_in now activation level kept a = lexical_in now.world.cells activation.self activation.holder level kept.closed kept.manifest a.0 a.1

  -- a holder that is a class isn't Manifest
  class_in : (now : Progress) (holder : ℕ) → Kept Has first now → is_class (find_cell now.world.cells holder) ≡ true → HolderIn holder → Has holder
  class_in now holder kept t (inl has) = has
  class_in now holder kept t (inr is) =
      let facet : is_class (find_cell now.world.cells holder) ≡ false = ap (λ n. is_class (find_cell now.world.cells n)) is ∙ ap is_class kept.manifest in
      absurd (cc)

  -- ---- locals

  parent_in_set : (shape : NewCell) → ShapeIn Has shape → In Has (parent_in shape)
  parent_in_set (new.Environment parent locals) s = s
  parent_in_set (new.Object class words) s = tt
  parent_in_set (new.Class decl base encl holder over) s = tt
  parent_in_set (new.Block body env home receiver holder) s = tt
  parent_in_set (new.Array size) s = tt
  parent_in_set (new.Text bytes) s = tt
  parent_in_set (new.Facet facet) s = tt
  parent_in_set (new.Mirror mirrored) s = tt
  parent_in_set (new.Message sel args) s = tt

  environment_in : (now : Progress) (env : Value) (hops : ℕ) → Kept Has first now → In Has env → In Has (environment_out now.world.cells env hops)
  environment_in now env zero kept i = i
  environment_in now env (suc hops) kept i =
      let out = environment_in now env hops kept i in
      parent_in_set (shape_at now.world.cells (cell_number (environment_out now.world.cells env hops)))
      (holder_shape now.world.cells (cell_number (environment_out now.world.cells env hops)) kept.closed kept.manifest (number_in (environment_out now.world.cells env hops) out))

  place_at : (code : CodeProgram) (now : Progress) (activation : Activation) (hops : ℕ) → Kept Has first now → ActivationIn Has activation → HolderIn (environment_at now.world.cells code activation hops)
  place_at code now activation hops kept a =
      let out = if has_environment code activation.body then hops else hops - 1 in
      number_in (environment_out now.world.cells activation.env out) (environment_in now activation.env out kept a.2)

  word_of_holder : (now : Progress) (at word : ℕ) → Kept Has first now → HolderIn at → In Has (word_at now.world.cells at word)
  word_of_holder now at word kept (inl has) = word_at_in Has now.world.cells at word kept.closed has
  word_of_holder now at word kept (inr is) =
      subst (λ n. In Has (word_at now.world.cells n word)) (sym is) (let nothing : word_at now.world.cells 0 word ≡ Nil = manifest_word now.world.cells word kept.manifest in subst (In Has) (sym nothing) tt)
    where
      manifest_word : (heap : Heap) (k : ℕ) → find_cell heap 0 ≡ Some (FacetCell Manifest) → word_at heap 0 k ≡ Nil
      manifest_word heap k e = rw e refl

  local_in : (code : CodeProgram) (now : Progress) (activation : Activation) (locals : List Value) (hops place : ℕ) → Kept Has first now → ActivationIn Has activation → AllIn Has locals → In Has (local_at now.world.cells code activation locals hops place)
  local_in code now activation locals hops place kept a all = by (is_beside code activation hops)
    where
      by : (b : Bool) → In Has (cond b (slice_index_or locals place Nil) (word_at now.world.cells (environment_at now.world.cells code activation hops) place))
      by true = at_index Has locals place all
      by false = word_of_holder now (environment_at now.world.cells code activation hops) place kept (place_at code now activation hops kept a)

  locals_with_in : (code : CodeProgram) (activation : Activation) (locals : List Value) (hops place : ℕ) (value : Value) → AllIn Has locals → In Has value → AllIn Has (locals_with code activation locals hops place value)
  locals_with_in code activation locals hops place value all i = by (is_beside code activation hops)
    where
      by : (b : Bool) → AllIn Has (cond b (slice_set locals place value) locals)
      by true = all_set Has locals place value all i
      by false = all

  -- a word of Manifest that is written changes nothing
  holder_written : (now : Progress) (at word : ℕ) (value : Value) → Kept Has first now → HolderIn at → In Has value → Kept Has first (in_world now (written now.world at word value))
  holder_written now at word value kept (inl has) i = written_kept Has first now at word value kept has i
  holder_written now at word value kept (inr is) i =
      let same : now.world ≡ written now.world at word value = sym (ap (λ heap. record now.world { cells = heap }) (manifest_unwritten now.world.cells at word value is kept.manifest)) in
      subst (λ w. Kept Has first (in_world now w)) same kept

  local_stored_in : (code : CodeProgram) (activation : Activation) (hops place : ℕ) (value : Value) (now : Progress) → Kept Has first now → ActivationIn Has activation → In Has value → Kept Has first (local_stored code activation hops place value now)
  local_stored_in code activation hops place value now kept a i = by (is_beside code activation hops)
    where
      by : (b : Bool) → Kept Has first (in_world now (cond b now.world (written now.world (environment_at now.world.cells code activation hops) place value)))
      by true = kept
      by false = holder_written now (environment_at now.world.cells code activation hops) place value kept (place_at code now activation hops kept a) i

  module _ (code : CodeProgram) (later : HasLater Has first.world.cells) (known : Known) (phase : Phase) (phased : PhaseIn Has phase) where
    -- ---- where values go

    concluded_in : (value : Value) (now : Progress) → Kept Has first now → In Has value → StateIn Has first (concluded code phase value now)
    concluded_in value now kept i = by phase phased
      where
        by : (p : Phase) → PhaseIn Has p → StateIn Has first (concluded code p value now)
        by Start h = (i, kept)
        by (First arguments) h = (tt, (i, (h.0, (h.1, tt))), tt, kept)
        by Second h = (i, kept)
        by Hosted h = (i, kept)

    delivered_in : (value : Value) (frames : List Frame) (now : Progress) → Kept Has first now → In Has value → FramesIn Has frames → StateIn Has first (delivered code phase value frames now)
    delivered_in value [] now kept i all = concluded_in value now kept i
    delivered_in value (Running leaving activation locals rest stack ∷ frames) now kept i all = (phased, ((all.0.0, all.0.1, all.0.2, (i, all.0.3)), all.1), kept)
    delivered_in value (Looping method state site ∷ frames) now kept i all = (phased, (taken_in Has first state value all.0 i, all.1), kept)

    settled_in : (after : After) (frames : List Frame) → AfterIn Has first after → FramesIn Has frames → StateIn Has first (settled code phase after frames)
    settled_in (Gives value now) frames a all = delivered_in value frames now a.1 a.0 all
    settled_in (Halts ending now) frames a all = a

    returned_in : (leaving : Leaving) (activation : Activation) (value : Value) (frames : List Frame) (now : Progress) → Kept Has first now → LeavingIn Has leaving → In Has value → FramesIn Has frames
        → StateIn Has first (returned code phase leaving activation value frames now)
    returned_in (Loud exit) activation value frames now kept x i all = settled_in (body_ended code exit activation value now) frames (body_ended_in Has first code exit activation value now later kept x i) all
    returned_in Silent activation value frames now kept x i all = (phased, all, part_ended_in Has first now kept)

    unwound_in : (home : ℕ) (value : Value) (frames : List Frame) (now : Progress) → Kept Has first now → In Has value → FramesIn Has frames → StateIn Has first (unwound code phase home value frames now)
    unwound_in home value [] now kept i all = kept
    unwound_in home value (frame ∷ frames) now kept i all =
        by (is_home home frame) (delivered_in value frames (frame_left now) (part_ended_in Has first now kept) i all.1) (unwound_in home value frames (frame_left now) (part_ended_in Has first now kept) i all.1)
      where
        by : (b : Bool) → StateIn Has first (delivered code phase value frames (frame_left now)) → StateIn Has first (unwound code phase home value frames (frame_left now))
            → StateIn Has first (cond b (delivered code phase value frames (frame_left now)) (unwound code phase home value frames (frame_left now)))
        by true one two = one
        by false one two = two

    returned_home_in : (activation : Activation) (value : Value) (frames : List Frame) (now : Progress) → Kept Has first now → In Has value → FramesIn Has frames → StateIn Has first (returned_home code phase activation value frames now)
    returned_home_in activation value frames now kept i all = by (has_home activation.home frames)
      where
        by : (b : Bool) → StateIn Has first (cond b (unwound code phase activation.home value frames now) (Ended (error DeadReturn activation.site) phase now))
        by true = unwound_in activation.home value frames now kept i all
        by false = (tt, kept)

    -- ---- where actions lead

    arrived_in : (control : Control) (frames : List Frame) → ControlIn Has first control → FramesIn Has frames → StateIn Has first (arrived code phase control frames)
    arrived_in (Now after) frames c all = settled_in after frames c all
    arrived_in (Enter exit activation locals now) frames c all = (phased, ((c.0, c.1, c.2, tt), all), c.3)
    arrived_in (Evaluate block arguments site now) frames c all = (phased, (c.0, c.1), all, c.2)
    arrived_in (Begin method state site now) frames c all = (phased, (c.0, all), c.1)
    arrived_in (Perform receiver sel array site now) frames c all = (phased, (c.0, c.1), all, c.2)

    part_arrived_in : (part : PartControl) (frames : List Frame) → PartIn Has first part → FramesIn Has frames → StateIn Has first (part_arrived code phase part frames)
    part_arrived_in (Skip now) frames p all = (phased, all, p)
    part_arrived_in (Stop ending now) frames p all = p
    part_arrived_in (EnterPart activation locals now) frames p all = (phased, ((tt, p.0, p.1, tt), all), p.2)

    acted_on_in : (method : KMethod) (site : Site) (waiting : Waiting) (frames : List Frame) → WaitingIn Has first waiting → FramesIn Has frames → StateIn Has first (acted_on code phase method site waiting frames)
    acted_on_in method site (Waits block arguments state now) frames w all = (phased, (w.0, w.1), (w.2, all), w.3)
    acted_on_in method site (Finishes after) frames w all = settled_in after frames w all

    -- ---- what waits

    resumed_in : (pending : Pending) (frames : List Frame) (now : Progress) → Kept Has first now → PendingIn Has pending → FramesIn Has frames → StateIn Has first (resumed code phase pending frames now)
    resumed_in (Sending receiver sel arguments site) frames now kept p all =
        arrived_in (sent_on code receiver sel arguments site now) frames (sent_from_in Has first known code receiver sel arguments site now later kept p.0 p.1) all
    resumed_in (Performing receiver sel array site) frames now kept p all =
        arrived_in (sent_on code receiver sel (items_of now.world.cells (Ref array)) site now) frames
        (sent_from_in Has first known code receiver sel (items_of now.world.cells (Ref array)) site now later kept p.0 (items_in Has now.world.cells (Ref array) kept.closed p.1)) all
    resumed_in (Evaluating block arguments site) frames now kept p all =
        arrived_in (evaluated code block arguments site now) frames (evaluated_in Has first code block arguments site now later kept p.0 p.1) all

    -- ---- instructions

    module _ (leaving : Leaving) (activation : Activation) (locals : List Value) (rest : List PlacedInstr) (frames : List Frame) (now : Progress) (kept : Kept Has first now)
        (l : LeavingIn Has leaving) (a : ActivationIn Has activation) (own : AllIn Has locals) (below_in : FramesIn Has frames) where
      -- the frame with these operands
      frame_in : (stack : List Value) → AllIn Has stack → FramesIn Has (Running leaving activation locals rest stack ∷ frames)
      frame_in stack all = ((l, a, own, all), below_in)

      on_in : (stack : List Value) → AllIn Has stack → StateIn Has first (on_with phase leaving activation locals rest stack frames now)
      on_in stack all = (phased, frame_in stack all, kept)

      jumped_in : (landing : List PlacedInstr) (stack : List Value) → AllIn Has stack → StateIn Has first (jumped phase leaving activation locals rest landing stack frames now)
      jumped_in landing stack all = by (goes_back rest landing)
        where
          by : (b : Bool) → StateIn Has first (cond b (charged (λ ending progress. Ended ending phase progress) Steps (stepped now.world) now (Going phase (Running leaving activation locals landing stack ∷ frames)))
              (Going phase (Running leaving activation locals landing stack ∷ frames) now))
          by true =
              step_charged Has first (StateIn Has first) (λ ending progress. Ended ending phase progress) now (Going phase (Running leaving activation locals landing stack ∷ frames)) kept (tt, kept)
              (λ next same k. (phased, ((l, a, own, all), below_in), k))
          by false = (phased, ((l, a, own, all), below_in), kept)

      jumped_on_in : (wanted : Bool) (value : Value) (landing : List PlacedInstr) (stack : List Value) → AllIn Has stack → StateIn Has first (jumped_on phase wanted value leaving activation locals rest landing stack frames now)
      jumped_on_in wanted value landing stack all = by (is_boolean value) (takes_jump wanted value)
        where
          by : (b c : Bool) → StateIn Has first (cond b (cond c (jumped phase leaving activation locals rest landing stack frames now) (Going phase (Running leaving activation locals rest stack ∷ frames) now)) (Ended (error MustBeBoolean activation.site) phase now))
          by true true = jumped_in landing stack all
          by true false = (phased, frame_in stack all, kept)
          by false c = (tt, kept)

      pub executed_in : (asked : Instr) (place : Option SourcePlace) (stack : List Value) → AllIn Has stack → InstrFinds now activation asked → StateIn Has first (executed code phase asked place leaving activation locals rest stack frames now)
      executed_in instr.PushNil place stack all f = on_in (Nil ∷ stack) (tt, all)
      executed_in instr.PushTrue place stack all f = on_in (True ∷ stack) (tt, all)
      executed_in instr.PushFalse place stack all f = on_in (False ∷ stack) (tt, all)
      executed_in (instr.PushInt number) place stack all f = on_in (Int number ∷ stack) (tt, all)
      executed_in (instr.PushSym sel) place stack all f = on_in (Sym sel ∷ stack) (tt, all)
      executed_in (instr.PushText text) place stack all f =
          settled_in (new_text (literal code text) now) (Running leaving activation locals rest stack ∷ frames) (new_text_in Has first (literal code text) now later kept) (frame_in stack all)
      executed_in instr.PushSelf place stack all f = on_in (activation.self ∷ stack) (a.0, all)
      executed_in (instr.PushOuter level) place stack all f = on_in ((enclosing now.world.cells activation level).object ∷ stack) ((enclosing_in now activation level kept a).0, all)
      executed_in (instr.PushLocal hops index) place stack all f =
          on_in (local_at now.world.cells code activation locals hops index ∷ stack) (local_in code now activation locals hops index kept a own, all)
      executed_in (instr.StoreLocal hops index) place stack all f =
          top_in (StateIn Has first) (Stuck now) stack (λ value below. stored_local code phase hops index value leaving activation locals rest below frames now) all kept
          (λ value below i b. (phased, ((l, a, locals_with_in code activation locals hops index value own i, (i, b)), below_in), local_stored_in code activation hops index value now kept a i))
      executed_in (instr.PushBlock body) place stack all f =
          settled_in (new_block activation body now) (Running leaving activation locals rest stack ∷ frames) (new_block_in Has first activation body now later kept a) (frame_in stack all)
      executed_in (instr.MakeArray count) place stack all f =
          taken_off_in (StateIn Has first) (Stuck now) count [] stack (λ items below. settled code phase (new_array items now) (Running leaving activation locals rest below ∷ frames)) tt all kept
          (λ items below i b. settled_in (new_array items now) (Running leaving activation locals rest below ∷ frames) (new_array_in Has first items now later kept i) (frame_in below b))
      executed_in instr.Pop place stack all f = top_in (StateIn Has first) (Stuck now) stack (λ value below. on_with phase leaving activation locals rest below frames now) all kept (λ value below i b. on_in below b)
      executed_in (instr.Pick number) place stack all f =
          picked_in (StateIn Has first) (Stuck now) number stack (λ value. on_with phase leaving activation locals rest (value ∷ stack) frames now) all kept (λ value i. on_in (value ∷ stack) (i, all))
      executed_in (instr.Send sel argc) place stack all f =
          taken_off_in (StateIn Has first) (Stuck now) argc [] stack
          (λ arguments below. on_top (Stuck now) below λ receiver below. arrived code phase (sent code activation (to_value receiver) sel arguments place now) (Running leaving activation locals rest below ∷ frames)) tt all kept
          (λ arguments below s b. top_in (StateIn Has first) (Stuck now) below (λ receiver below. arrived code phase (sent code activation (to_value receiver) sel arguments place now) (Running leaving activation locals rest below ∷ frames)) b kept
          (λ receiver last i z. arrived_in (sent code activation (to_value receiver) sel arguments place now) (Running leaving activation locals rest last ∷ frames)
          (sent_in Has first known code activation (to_value receiver) sel arguments place now later kept a i s) (frame_in last z)))
      executed_in (instr.SendInner sel argc) place stack all f =
          taken_off_in (StateIn Has first) (Stuck now) argc [] stack
          (λ arguments below. on_top (Stuck now) below λ receiver below. arrived code phase (sent code activation (To receiver Inner) sel arguments place now) (Running leaving activation locals rest below ∷ frames)) tt all kept
          (λ arguments below s b. top_in (StateIn Has first) (Stuck now) below (λ receiver below. arrived code phase (sent code activation (To receiver Inner) sel arguments place now) (Running leaving activation locals rest below ∷ frames)) b kept
          (λ receiver last i z. arrived_in (sent code activation (To receiver Inner) sel arguments place now) (Running leaving activation locals rest last ∷ frames)
          (sent_in Has first known code activation (To receiver Inner) sel arguments place now later kept a i s) (frame_in last z)))
      executed_in (instr.SendPrivate level sel argc) place stack all f =
          let around = enclosing_in now activation level kept a in
          taken_off_in (StateIn Has first) (Stuck now) argc [] stack (λ arguments below. arrived code phase (sent code activation (ToPrivate level) sel arguments place now) (Running leaving activation locals rest below ∷ frames)) tt all kept
          (λ arguments below s b. arrived_in (sent code activation (ToPrivate level) sel arguments place now) (Running leaving activation locals rest below ∷ frames)
          (sent_in Has first known code activation (ToPrivate level) sel arguments place now later kept a (around.0, class_in now (enclosing now.world.cells activation level).holder kept f around.1) s) (frame_in below b))
      executed_in (instr.SendSuper sel argc) place stack all f =
          taken_off_in (StateIn Has first) (Stuck now) argc [] stack (λ arguments below. arrived code phase (sent code activation ToSuper sel arguments place now) (Running leaving activation locals rest below ∷ frames)) tt all kept
          (λ arguments below s b. arrived_in (sent code activation ToSuper sel arguments place now) (Running leaving activation locals rest below ∷ frames)
          (sent_in Has first known code activation ToSuper sel arguments place now later kept a tt s) (frame_in below b))
      executed_in (instr.InitSuper argc) place stack all f =
          taken_off_in (StateIn Has first) (Stuck now) argc [] stack (λ arguments below. part_arrived code phase (super_part code activation arguments now) (Running leaving activation locals rest below ∷ frames)) tt all kept
          (λ arguments below s b. part_arrived_in (super_part code activation arguments now) (Running leaving activation locals rest below ∷ frames) (super_part_in Has first code activation arguments now later kept a s) (frame_in below b))
      executed_in (instr.StoreSlot slot) place stack all f =
          top_in (StateIn Has first) (Stuck now) stack (λ value below. on_with phase leaving activation locals rest below frames (slot_filled code activation slot value now)) all kept
          (λ value below i b. (phased, frame_in below b, slot_filled_in Has first code activation slot value now kept a i))
      executed_in instr.Return place stack all f =
          top_in (StateIn Has first) (Stuck now) stack (λ value below. returned code phase leaving activation value frames now) all kept (λ value below i b. returned_in leaving activation value frames now kept l i below_in)
      executed_in instr.ReturnSelf place stack all f = returned_in leaving activation activation.self frames now kept l a.0 below_in
      executed_in instr.ReturnHome place stack all f =
          top_in (StateIn Has first) (Stuck now) stack (λ value below. returned_home code phase activation value (Running leaving activation locals rest below ∷ frames) now) all kept
          (λ value below i b. returned_home_in activation value (Running leaving activation locals rest below ∷ frames) now kept i (frame_in below b))
      executed_in (instr.Jump target) place stack all f = jumped_in (steps_from code activation.body target) stack all
      executed_in (instr.JumpFalse target) place stack all f =
          top_in (StateIn Has first) (Stuck now) stack (λ value below. jumped_on phase false value leaving activation locals rest (steps_from code activation.body target) below frames now) all kept
          (λ value below i b. jumped_on_in false value (steps_from code activation.body target) below b)
      executed_in (instr.JumpTrue target) place stack all f =
          top_in (StateIn Has first) (Stuck now) stack (λ value below. jumped_on phase true value leaving activation locals rest (steps_from code activation.body target) below frames now) all kept
          (λ value below i b. jumped_on_in true value (steps_from code activation.body target) below b)

  -- ---- a move

  pub move_in : (code : CodeProgram) (state : State) → HasLater Has first.world.cells → Known → StepFinds state → StateIn Has first state → StateIn Has first (move code state)
  move_in code (Unbegun arguments now) later known f s = s
  move_in code (Going phase [] now) later known f s = s.2
  move_in code (Going phase (Running leaving activation locals [] stack ∷ frames) now) later known f s = s.2
  move_in code (Going phase (Running leaving activation locals (step ∷ rest) stack ∷ frames) now) later known f s =
      executed_in code later known phase s.0 leaving activation locals rest frames now s.2 s.1.0.0 s.1.0.1 s.1.0.2 s.1.1 step.0 step.1 stack s.1.0.3 f
  move_in code (Going phase (Looping method state site ∷ frames) now) later known f s =
      acted_on_in code later known phase s.0 method site (method_next method state site now) frames (method_next_in Has first method state site now s.2 s.1.0) s.1.1
  move_in code (Pends phase pending frames now) later known f s = resumed_in code later known phase s.0 pending frames now s.3 s.1 s.2
  move_in code (Ended ending phase now) later known f s = s
  move_in code (Stuck now) later known f s = s
