-- Moves with a smaller limit on steps are the same moves, up to the one that finds no step left.
use Rattle.std.proofs.Common.{◌≡◌, ◌≤◌, ℕ, zero, suc, List, [], ◌∷◌, refl, sym, ap, ◌∙◌, subst, inl, inr, Option, Bool, true, false, cond}
use Rattle.std.specs.Prelude.{◌⊎◌}
use Rattle.ns_base.specs.declared.limits.Limits.{Limits}
use Rattle.ns_base.specs.declared.place.Place.{Place as SourcePlace}
use Rattle.ns_base.specs.declared.selector.Sel.{Sel}
use Rattle.ns_code.specs.declared.program.CodeProgram.{CodeProgram}
use Rattle.ns_code.specs.declared.instruction.Instr.{Instr}
use Rattle.ns_code.specs.declared.instruction.Instr.TheVariants as i
use Rattle.ns_world.specs.declared.value.Value.{Value}
use Rattle.ns_world.specs.declared.value.Value.TheVariants.{Nil, Ref}
use Rattle.ns_world.specs.declared.ending.Ending.{Ending}
use Rattle.ns_world.specs.declared.ending.Ending.TheVariants.{Limit}
use Rattle.ns_world.specs.declared.ending.LimitKind.TheVariants.{Steps, Cells}
use Rattle.ns_world.specs.Cell.{Cell, TextCell, ArrayCell, BlockCell}
use Rattle.ns_world.specs.Heap.{heap_size}
use Rattle.ns_world.specs.World.{made}
use Rattle.ns_find.specs.declared.found.Sending.TheVariants.{Inner}
use Rattle.ns_kdata.specs.Arguments.{items_of}
use Rattle.ns_facets.specs.declared.row.Grants.{Grants}
use Rattle.ns_moves.specs.Control.{Progress, Activation, After, Gives, Halts, Control, Now, Enter, Evaluate, Begin, Perform, frame_left}
use Rattle.ns_moves.specs.Control.{PartControl, Skip, Stop, EnterPart, Waiting, Waits, Finishes, halts}
use Rattle.ns_moves.specs.Bodies.{locals_with}
use Rattle.ns_moves.specs.Blocks.{new_cell, method_next}
use Rattle.ns_world.specs.Booleans.{is_boolean}
use Rattle.ns_moves.specs.Classes.{super_part}
use Rattle.ns_moves.specs.Sends.{Target, To, ToPrivate, ToSuper, to_value, sent}
use Rattle.ns_moves.specs.Start.{start_cells, nothing_done, all_made, start_made}
use Rattle.ns_world.specs.declared.kernel_parts.KMethod.{KMethod}
use Rattle.ns_moves.specs.declared.site.Site.{Site}
use Rattle.ns_moves.specs.Steps.{PlacedInstr, literal, steps_from}
use Rattle.ns_moves.specs.State.{Leaving, Loud, Silent, Frame, Running, Looping, Sending, Performing, Evaluating}
use Rattle.ns_moves.specs.State.{Phase, Start, First, Second, Hosted, State, Unbegun, Going, Pends, Ended, Stuck, progress_of, world_of}
use Rattle.ns_moves.specs.Returns.{delivered, settled, returned, is_home, has_home, unwound, returned_home}
use Rattle.ns_moves.specs.Arrivals.{arrived, part_arrived, acted_on}
use Rattle.ns_moves.specs.Operands.{on_top, taken_off, picked}
use Rattle.ns_moves.specs.Jumps.{goes_back, takes_jump, jumped, jumped_on}
use Rattle.ns_moves.specs.Instructions.{executed}
use Rattle.ns_moves.specs.Move.{move, moves}
use Rattle.ns_moves.specs.Starts.{unbegun, new_machine, started}
use Rattle.ns_link.specs.Fewer.{limits_to, to_steps, world_to, after_to, control_to, part_to, waiting_to, state_to}
use Rattle.ns_link.proofs.OnTheWay.{MovesKnown}
use Rattle.ns_link.proofs.FewerRows.{made_to, charged_to}
use Rattle.ns_link.proofs.FewerActions.{Follows, follows_on, steps_follow, new_cell_to, local_to, slot_to, super_to, ended_to}
use Rattle.ns_link.proofs.FewerActions.{sends_follow, from_follows, evaluated_follows, ends_waiting, next_follows}

module _ (k : ℕ) (code : CodeProgram) where
  -- ---- where values go

  delivered_to : (phase : Phase) (value : Value) (frames : List Frame) (p : Progress)
      → delivered code phase value frames (to_steps k p) ≡ state_to k (delivered code phase value frames p)
  delivered_to Start value [] p = refl
  delivered_to (First number) value [] p = refl
  delivered_to Second value [] p = refl
  delivered_to Hosted value [] p = refl
  delivered_to phase value (Running leaving a ls rest stack ∷ frames) p = refl
  delivered_to phase value (Looping method state site ∷ frames) p = refl

  settled_to : (phase : Phase) (after : After) (frames : List Frame) → settled code phase (after_to k after) frames ≡ state_to k (settled code phase after frames)
  settled_to phase (Gives value p) frames = delivered_to phase value frames p
  settled_to phase (Halts ending p) frames = refl

  arrived_to : (phase : Phase) (control : Control) (frames : List Frame)
      → arrived code phase (control_to k control) frames ≡ state_to k (arrived code phase control frames)
  arrived_to phase (Now after) frames = settled_to phase after frames
  arrived_to phase (Enter exit a ls p) frames = refl
  arrived_to phase (Evaluate block arguments site p) frames = refl
  arrived_to phase (Begin method state site p) frames = refl
  arrived_to phase (Perform receiver sel array site p) frames = refl

  part_arrived_to : (phase : Phase) (part : PartControl) (frames : List Frame)
      → part_arrived code phase (part_to k part) frames ≡ state_to k (part_arrived code phase part frames)
  part_arrived_to phase (Skip p) frames = refl
  part_arrived_to phase (Stop ending p) frames = refl
  part_arrived_to phase (EnterPart a ls p) frames = refl

  acted_on_to : (phase : Phase) (named : KMethod) (site : Site) (w : Waiting) (frames : List Frame)
      → acted_on code phase named site (waiting_to k w) frames ≡ state_to k (acted_on code phase named site w frames)
  acted_on_to phase named site (Waits block arguments state p) frames = refl
  acted_on_to phase named site (Finishes after) frames = settled_to phase after frames

  returned_to : (phase : Phase) (leaving : Leaving) (a : Activation) (value : Value) (frames : List Frame) (p : Progress)
      → returned code phase leaving a value frames (to_steps k p) ≡ state_to k (returned code phase leaving a value frames p)
  returned_to phase (Loud exit) a value frames p =
      ap (λ after. settled code phase after frames) (ended_to k code exit a value p) ∙ settled_to phase _ frames
  returned_to phase Silent a value frames p = refl

  either_to : (b : Bool) (x' y' x y : State) → x' ≡ state_to k x → y' ≡ state_to k y → cond b x' y' ≡ state_to k (cond b x y)
  either_to true x' y' x y e f = e
  either_to false x' y' x y e f = f

  unwound_to : (phase : Phase) (home : ℕ) (value : Value) (frames : List Frame) (p : Progress)
      → unwound code phase home value frames (to_steps k p) ≡ state_to k (unwound code phase home value frames p)
  unwound_to phase home value [] p = refl
  unwound_to phase home value (frame ∷ frames) p =
      either_to (is_home home frame) _ _ _ _ (delivered_to phase value frames (frame_left p)) (unwound_to phase home value frames (frame_left p))

  home_to : (phase : Phase) (a : Activation) (value : Value) (frames : List Frame) (p : Progress)
      → returned_home code phase a value frames (to_steps k p) ≡ state_to k (returned_home code phase a value frames p)
  home_to phase a value frames p = either_to (has_home a.home frames) _ _ _ (Ended _ phase p) (unwound_to phase a.home value frames p) refl

  -- ---- instructions

  abbrev ends_in : Phase → Ending → Progress → State
  ends_in phase ending p = Ended ending phase p

  abbrev Keeps : Phase → Progress → State → State → Type 0
  Keeps phase p s' s = Follows k (state_to k) (ends_in phase) p s' s

  top_follows : (phase : Phase) (p : Progress) (stack : List Value) (go' go : Value → List Value → State)
      → ((value : Value) (below : List Value) → Keeps phase p (go' value below) (go value below))
      → Keeps phase p (on_top (Stuck (to_steps k p)) stack go') (on_top (Stuck p) stack go)
  top_follows phase p [] go' go goes = inl refl
  top_follows phase p (value ∷ stack) go' go goes = goes value stack

  taken_follows : (phase : Phase) (p : Progress) (count : ℕ) (values stack : List Value) (go' go : List Value → List Value → State)
      → ((values below : List Value) → Keeps phase p (go' values below) (go values below))
      → Keeps phase p (taken_off (Stuck (to_steps k p)) count values stack go') (taken_off (Stuck p) count values stack go)
  taken_follows phase p zero values stack go' go goes = goes values stack
  taken_follows phase p (suc count) values [] go' go goes = inl refl
  taken_follows phase p (suc count) values (value ∷ stack) go' go goes = taken_follows phase p count (value ∷ values) stack go' go goes

  picked_follows : (phase : Phase) (p : Progress) (place : ℕ) (stack : List Value) (go' go : Value → State)
      → ((value : Value) → Keeps phase p (go' value) (go value))
      → Keeps phase p (picked (Stuck (to_steps k p)) place stack go') (picked (Stuck p) place stack go)
  picked_follows phase p place [] go' go goes = inl refl
  picked_follows phase p zero (value ∷ stack) go' go goes = goes value
  picked_follows phase p (suc place) (value ∷ stack) go' go goes = picked_follows phase p place stack go' go goes

  arrives : (phase : Phase) (p : Progress) (frames : List Frame) (c' c : Control) → Follows k (control_to k) halts p c' c
      → Keeps phase p (arrived code phase c' frames) (arrived code phase c frames)
  arrives phase p frames c' c f =
      follows_on k (control_to k) halts (state_to k) (ends_in phase) p (λ c. arrived code phase c frames) c' c (arrived_to phase c frames) refl f

  either_keeps : (b : Bool) (phase : Phase) (p : Progress) (x' y' x y : State) → Keeps phase p x' x → Keeps phase p y' y → Keeps phase p (cond b x' y') (cond b x y)
  either_keeps true phase p x' y' x y e f = e
  either_keeps false phase p x' y' x y e f = f

  module _ (phase : Phase) (place : Option SourcePlace) (leaving : Leaving) (a : Activation) (ls : List Value) (rest : List PlacedInstr) (frames : List Frame)
      (p : Progress) (le : k ≤ p.world.limits.steps) where
    abbrev frame : List Value → List Frame
    frame stack = Running leaving a ls rest stack ∷ frames

    jumps : (landing : List PlacedInstr) (stack : List Value)
        → Keeps phase p (jumped phase leaving a ls rest landing stack frames (to_steps k p)) (jumped phase leaving a ls rest landing stack frames p)
    jumps landing stack =
        either_keeps (goes_back rest landing) phase p _ _ _ _ (steps_follow k (state_to k) (ends_in phase) p _ _ le (λ q. refl)) (inl refl)

    jumps_on : (wanted : Bool) (value : Value) (landing : List PlacedInstr) (stack : List Value)
        → Keeps phase p (jumped_on phase wanted value leaving a ls rest landing stack frames (to_steps k p))
        (jumped_on phase wanted value leaving a ls rest landing stack frames p)
    jumps_on wanted value landing stack =
        either_keeps (is_boolean value) phase p _ _ _ _
        (either_keeps (takes_jump wanted value) phase p _ _ _ _ (jumps landing stack) (inl refl)) (inl refl)

    sends : (target : Target) (sel : Sel) (values below : List Value)
        → Keeps phase p (arrived code phase (sent code a target sel values place (to_steps k p)) (frame below))
        (arrived code phase (sent code a target sel values place p) (frame below))
    sends target sel values below = arrives phase p (frame below) _ _ (sends_follow k code a target sel values place p le)

    new_cells : (cell : Cell) (below : List Value)
        → settled code phase (new_cell cell (to_steps k p)) (frame below) ≡ state_to k (settled code phase (new_cell cell p) (frame below))
    new_cells cell below = ap (λ after. settled code phase after (frame below)) (new_cell_to k code cell p) ∙ settled_to phase (new_cell cell p) (frame below)

    executes : (instr : Instr) (stack : List Value)
        → Keeps phase p (executed code phase instr place leaving a ls rest stack frames (to_steps k p)) (executed code phase instr place leaving a ls rest stack frames p)
    executes i.PushNil stack = inl refl
    executes i.PushTrue stack = inl refl
    executes i.PushFalse stack = inl refl
    executes (i.PushInt number) stack = inl refl
    executes (i.PushSym sel) stack = inl refl
    executes (i.PushText text) stack = inl (new_cells (TextCell (literal code text)) stack)
    executes i.PushSelf stack = inl refl
    executes (i.PushOuter level) stack = inl refl
    executes (i.PushLocal hops index) stack = inl refl
    executes (i.StoreLocal hops index) stack =
        top_follows phase p stack _ _ λ value below.
        inl (ap (Going phase (Running leaving a (locals_with code a ls hops index value) rest (value ∷ below) ∷ frames)) (local_to k code a hops index value p))
    executes (i.PushBlock body) stack = inl (new_cells (BlockCell body a.env a.home a.self a.holder) stack)
    executes (i.MakeArray count) stack = taken_follows phase p count [] stack _ _ λ items below. inl (new_cells (ArrayCell items) below)
    executes i.Pop stack = top_follows phase p stack _ _ λ value below. inl refl
    executes (i.Pick number) stack = picked_follows phase p number stack _ _ λ value. inl refl
    executes (i.Send sel argc) stack =
        taken_follows phase p argc [] stack _ _ λ values below. top_follows phase p below _ _ λ receiver below. sends (to_value receiver) sel values below
    executes (i.SendInner sel argc) stack =
        taken_follows phase p argc [] stack _ _ λ values below. top_follows phase p below _ _ λ receiver below. sends (To receiver Inner) sel values below
    executes (i.SendPrivate level sel argc) stack = taken_follows phase p argc [] stack _ _ λ values below. sends (ToPrivate level) sel values below
    executes (i.SendSuper sel argc) stack = taken_follows phase p argc [] stack _ _ λ values below. sends ToSuper sel values below
    executes (i.InitSuper argc) stack =
        taken_follows phase p argc [] stack _ _ λ values below.
        inl (ap (λ part. part_arrived code phase part (frame below)) (super_to k code a values p) ∙ part_arrived_to phase (super_part code a values p) (frame below))
    executes (i.StoreSlot slot) stack =
        top_follows phase p stack _ _ λ value below. inl (ap (Going phase (Running leaving a ls rest below ∷ frames)) (slot_to k code a slot value p))
    executes i.Return stack = top_follows phase p stack _ _ λ value below. inl (returned_to phase leaving a value frames p)
    executes i.ReturnSelf stack = inl (returned_to phase leaving a a.self frames p)
    executes i.ReturnHome stack = top_follows phase p stack _ _ λ value below. inl (home_to phase a value (frame below) p)
    executes (i.Jump target) stack = jumps (steps_from code a.body target) stack
    executes (i.JumpFalse target) stack = top_follows phase p stack _ _ λ value below. jumps_on false value (steps_from code a.body target) below
    executes (i.JumpTrue target) stack = top_follows phase p stack _ _ λ value below. jumps_on true value (steps_from code a.body target) below

  -- ---- moves

  -- so many moves with that limit have found no step left, where the run stood after some
  pub record SpentAfter (count : ℕ) (s : State) : Type 0 where
    pub done : ℕ
    pub phase : Phase
    pub is : moves code count (state_to k s) ≡ Ended (Limit Steps) phase (to_steps k (progress_of (moves code done s)))

  spent_at : (phase : Phase) (p : Progress) (s : State) → progress_of s ≡ p
      → Keeps phase p (move code (state_to k s)) (move code s) → (move code (state_to k s) ≡ state_to k (move code s)) ⊎ SpentAfter 1 s
  spent_at phase p s e (inl same) = inl same
  spent_at phase p s e (inr spent) =
      inr (record { done = 0; phase = phase; is = spent ∙ ap (λ p. Ended (Limit Steps) phase (to_steps k p)) (sym e) })

  move_follows : (s : State) → k ≤ (world_of s).limits.steps → (move code (state_to k s) ≡ state_to k (move code s)) ⊎ SpentAfter 1 s
  move_follows (Unbegun number p) le = inl refl
  move_follows (Going phase [] p) le = inl refl
  move_follows (Going phase (Running leaving a ls [] stack ∷ frames) p) le = inl refl
  move_follows (Going phase (Running leaving a ls (step ∷ rest) stack ∷ frames) p) le =
      spent_at phase p _ refl (executes phase step.1 leaving a ls rest frames p le step.0 stack)
  move_follows (Going phase (Looping named state site ∷ frames) p) le =
      spent_at phase p _ refl
      (follows_on k (waiting_to k) (ends_waiting k code) (state_to k) (ends_in phase) p (λ w. acted_on code phase named site w frames) _ _
      (acted_on_to phase named site (method_next named state site p) frames) refl (next_follows k code named state site p le))
  move_follows (Pends phase (Sending receiver sel values site) frames p) le =
      spent_at phase p _ refl (arrives phase p frames _ _ (from_follows k code receiver sel values site p le))
  move_follows (Pends phase (Performing receiver sel array site) frames p) le =
      spent_at phase p _ refl (arrives phase p frames _ _ (from_follows k code receiver sel (items_of p.world.cells (Ref array)) site p le))
  move_follows (Pends phase (Evaluating block values site) frames p) le =
      spent_at phase p _ refl (arrives phase p frames _ _ (evaluated_follows k code block values site p le))
  move_follows (Ended ending phase p) le = inl refl
  move_follows (Stuck p) le = inl refl

  module _ (known : MovesKnown code) where
    limit_stays : (s : State) → k ≤ (world_of s).limits.steps → k ≤ (world_of (move code s)).limits.steps
    limit_stays s le = subst (λ (l : Limits). k ≤ l.steps) (sym (known.onward 1 s).later.limits) le

    pub moves_follow : (count : ℕ) (s : State) → k ≤ (world_of s).limits.steps
        → (moves code count (state_to k s) ≡ state_to k (moves code count s)) ⊎ SpentAfter count s
    moves_follow zero s le = inl refl
    moves_follow (suc count) s le = by_first (moves_follow count (move code s) (limit_stays s le)) (move_follows s le)
      where
        by_rest : move code (state_to k s) ≡ state_to k (move code s)
            → (moves code count (state_to k (move code s)) ≡ state_to k (moves code count (move code s))) ⊎ SpentAfter count (move code s)
            → (moves code (suc count) (state_to k s) ≡ state_to k (moves code (suc count) s)) ⊎ SpentAfter (suc count) s
        by_rest e (inl same) = inl (ap (moves code count) e ∙ same)
        by_rest e (inr spent) = inr (record { done = suc spent.done; phase = spent.phase; is = ap (moves code count) e ∙ spent.is })

        by_first : (moves code count (state_to k (move code s)) ≡ state_to k (moves code count (move code s))) ⊎ SpentAfter count (move code s)
            → (move code (state_to k s) ≡ state_to k (move code s)) ⊎ SpentAfter 1 s
            → (moves code (suc count) (state_to k s) ≡ state_to k (moves code (suc count) s)) ⊎ SpentAfter (suc count) s
        by_first rest (inl e) = by_rest e rest
        by_first rest (inr spent) =
            inr (record { done = spent.done; phase = spent.phase; is = ap (moves code count) spent.is ∙ known.stay _ count refl })

  -- ---- starts

  all_to : (cells : List Cell) (last : Value) (p : Progress) → all_made cells last (to_steps k p) ≡ after_to k (all_made cells last p)
  all_to [] last p = refl
  all_to (cell ∷ cells) last p =
      charged_to k (after_to k) Halts Cells (made (world_to k p.world) cell) (made p.world cell) p (all_made cells (Ref (heap_size p.world.cells)))
      (all_made cells (Ref (heap_size p.world.cells))) (made_to k p.world cell) refl (all_to cells (Ref (heap_size p.world.cells)))

  unbegun_to : (after : After) → unbegun (after_to k after) ≡ state_to k (unbegun after)
  unbegun_to (Gives array p) = refl
  unbegun_to (Halts ending p) = refl

  started_to : (s : State) → started code (state_to k s) ≡ state_to k (started code s)
  started_to (Unbegun number p) = refl
  started_to (Going phase frames p) = refl
  started_to (Pends phase pending frames p) = refl
  started_to (Ended ending phase p) = refl
  started_to (Stuck p) = refl

  pub begins_to : (limits : Limits) (grants : Grants) (arguments : List (List ℕ))
      → started code (new_machine code (limits_to k limits) grants arguments) ≡ state_to k (started code (new_machine code limits grants arguments))
  begins_to limits grants arguments =
      ap (λ after. started code (unbegun after)) (all_to (start_cells code grants arguments) Nil (nothing_done limits))
      ∙ (ap (started code) (unbegun_to (start_made code grants arguments limits)) ∙ started_to (new_machine code limits grants arguments))
