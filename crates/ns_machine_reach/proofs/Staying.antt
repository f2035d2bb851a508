-- Moves and turns stay in reach.
use Rattle.std.proofs.Common.{◌≡◌, inl, inr, ℕ, zero, suc, ◌≤◌, List, [], ◌∷◌, ◌++◌, length, drop, reverse, Some, false, refl, sym, ap, ◌∙◌, subst, arith}
use Rattle.std.specs.Prelude.{IsSome, is_some}
use Rattle.std.proofs.lemmas.List.{reverse-append, reverse-reverse, take-append-drop}
use Rattle.ns_base.specs.declared.selector.Sel.{Sel}
use Rattle.ns_code.specs.declared.program.CodeProgram.{CodeProgram}
use Rattle.ns_code.specs.declared.instruction.Instr.{Instr}
use Rattle.ns_code.specs.declared.instruction.Instr.TheVariants as instr
use Rattle.ns_facets.specs.declared.row.Grants.{Grants}
use Rattle.ns_world.specs.declared.value.Value.{Value}
use Rattle.ns_world.specs.declared.cell.FacetKind.TheVariants.{Manifest}
use Rattle.ns_world.specs.Cell.{Cell, FacetCell}
use Rattle.ns_world.specs.Heap.{Heap, heap_size, find_cell, no_class}
use Rattle.ns_world.specs.Reach.{IsInReach, IsRoot, IsHeld, held}
use Rattle.ns_world.specs.World.{World}
use Rattle.ns_world.specs.Lawful.{IsLawful}
use Rattle.ns_world.specs.laws.Firsts.{found_past}
use Rattle.ns_moves.specs.Control.{Progress, Activation}
use Rattle.ns_moves.specs.Bodies.{enclosing}
use Rattle.ns_moves.specs.Lawful.{FitsActivation, declaration_at}
use Rattle.ns_moves.specs.Suits.{IsEnclosingPlace}
use Rattle.ns_moves.specs.Start.{standing_cells}
use Rattle.ns_moves.specs.State.{Leaving, Running, Looping, State, Unbegun, Going, Pends, Ended, Stuck, progress_of, world_of}
use Rattle.ns_moves.specs.Move.{move, moves}
use Rattle.ns_moves.specs.Starts.{begun}
use Rattle.ns_moves.specs.Turn.{is_still}
use Rattle.ns_moves.specs.Valid.{BeginsWith, WorldIsValid, Valid}
use Rattle.ns_moves.specs.Beginning.{MayBegin, HostKeepsValid}
use Rattle.ns_moves.specs.Standing.{ValidFindsAsked, MovesKeepValid}
use Rattle.ns_moves.specs.WorldAsks.{InstrAsks, FindsAsked}
use Rattle.ns_machine_reach.specs.Within.{HasLater, Kept, StateIn}
use Rattle.ns_machine_reach.specs.Reached.{roots_of, InReach, StaysInReach, MovesStayInReach, TurnsStayInReach, SendsStayInReach}
use Rattle.ns_machine_reach.proofs.Keeping.{start_kept, found_more}
use Rattle.ns_machine_reach.proofs.Reading.{Closed}
use Rattle.ns_machine_reach.proofs.Sends.{Known}
use Rattle.ns_machine_reach.proofs.Moves.{InstrFinds, StepFinds, move_in}
use Rattle.ns_machine_reach.specs.laws.Holding.{AllHave, has_each, each_has, both_have, cell_from, from_cell}
use Rattle.ns_machine_reach.proofs.Reaching.{from_state, state_from, kept_of, reached_in}

-- ---- the set of cells in reach

module _ (heap : Heap) (roots : List ℕ) where
  reach_has_later : heap_size heap ≤ no_class → HasLater (InReach heap roots) heap
  reach_has_later small = record { later = past; none = past no_class small }
    where
      past : (n : ℕ) → heap_size heap ≤ n → InReach heap roots n
      past n beyond some = let nothing : is_some (find_cell heap n) ≡ false = ap is_some (found_past heap n beyond) in absurd (cc)

  reach_is_closed : InReach heap roots no_class → Closed (InReach heap roots) heap
  reach_is_closed none n cell has e =
      let reached : IsInReach heap roots n = has (rw e refl) in
      cell_from (InReach heap roots) heap cell none (each_has (InReach heap roots) (held heap cell) (λ m among some. IsHeld n m cell reached e among some))

  roots_are_reached : AllHave (InReach heap roots) roots
  roots_are_reached = each_has (InReach heap roots) roots (λ m among some. IsRoot m among some)

-- ---- a valid state

last_found : (newer : Heap) (cell : Cell) → find_cell (newer ++ cell ∷ []) 0 ≡ Some cell
last_found [] cell = refl
last_found (next ∷ newer) cell = found_more (newer ++ cell ∷ []) next 0 cell (last_found newer cell)

first_found : (heap : Heap) (cell : Cell) (rest : List Cell) → reverse heap ≡ cell ∷ rest → find_cell heap 0 ≡ Some cell
first_found heap cell rest e =
    let whole : heap ≡ reverse rest ++ cell ∷ [] = sym (reverse-reverse heap) ∙ (ap reverse e ∙ reverse-append (cell ∷ []) rest) in
    ap (λ h. find_cell h 0) whole ∙ last_found (reverse rest) cell

-- the first cell of a run is Manifest
manifest_is : (code : CodeProgram) (grants : Grants) (heap : Heap) → BeginsWith (standing_cells code grants) heap →
    find_cell heap 0 ≡ Some (FacetCell Manifest)
manifest_is code grants heap begins =
    let n : ℕ = length (standing_cells code grants) in
    let whole : reverse heap ≡ standing_cells code grants ++ drop n (reverse heap) = sym (take-append-drop n (reverse heap)) ∙ ap (λ cells. cells ++ drop n (reverse heap)) begins.start in
    first_found heap (FacetCell Manifest) _ whole

valid_world : (code : CodeProgram) (grants : Grants) (state : State) → Valid code grants state → is_still state ≡ false →
    WorldIsValid code (standing_cells code grants) (progress_of state)
valid_world code grants (Going phase frames now) valid goes = valid.0.world
valid_world code grants (Pends phase pending frames now) valid goes = valid.0.world
valid_world code grants (Unbegun arguments now) valid goes = absurd (cc (goes))
valid_world code grants (Ended ending phase now) valid goes = absurd (cc (goes))
valid_world code grants (Stuck now) valid goes = absurd (cc (goes))

-- ---- what the laws of a run give

pub record Laws (code : CodeProgram) (grants : Grants) : Type 0 where
  pub known : Known
  pub levels : (world : World) (activation : Activation) (level : ℕ) → IsLawful world code → FitsActivation world.cells code activation → IsSome (declaration_at code activation.body level)
      → IsEnclosingPlace world.cells code (enclosing world.cells activation level)
  pub asks : ValidFindsAsked code
  pub keeps : MovesKeepValid code grants

module _ (code : CodeProgram) (grants : Grants) (laws : Laws code grants) where
  instr_finds : (asked : Instr) (leaving : Leaving) (activation : Activation) (now : Progress) → IsLawful now.world code → InstrAsks code asked leaving activation now → InstrFinds now activation asked
  instr_finds (instr.SendPrivate level sel argc) leaving activation now lawful asks = (laws.levels now.world activation level lawful asks.1.0 asks.1.1).class
  instr_finds instr.PushNil leaving activation now lawful asks = tt
  instr_finds instr.PushTrue leaving activation now lawful asks = tt
  instr_finds instr.PushFalse leaving activation now lawful asks = tt
  instr_finds (instr.PushInt number) leaving activation now lawful asks = tt
  instr_finds (instr.PushSym sel) leaving activation now lawful asks = tt
  instr_finds (instr.PushText text) leaving activation now lawful asks = tt
  instr_finds instr.PushSelf leaving activation now lawful asks = tt
  instr_finds (instr.PushOuter level) leaving activation now lawful asks = tt
  instr_finds (instr.PushLocal hops index) leaving activation now lawful asks = tt
  instr_finds (instr.StoreLocal hops index) leaving activation now lawful asks = tt
  instr_finds (instr.PushBlock body) leaving activation now lawful asks = tt
  instr_finds (instr.MakeArray count) leaving activation now lawful asks = tt
  instr_finds instr.Pop leaving activation now lawful asks = tt
  instr_finds (instr.Pick number) leaving activation now lawful asks = tt
  instr_finds (instr.Send sel argc) leaving activation now lawful asks = tt
  instr_finds (instr.SendInner sel argc) leaving activation now lawful asks = tt
  instr_finds (instr.SendSuper sel argc) leaving activation now lawful asks = tt
  instr_finds (instr.InitSuper argc) leaving activation now lawful asks = tt
  instr_finds (instr.StoreSlot slot) leaving activation now lawful asks = tt
  instr_finds instr.Return leaving activation now lawful asks = tt
  instr_finds instr.ReturnSelf leaving activation now lawful asks = tt
  instr_finds instr.ReturnHome leaving activation now lawful asks = tt
  instr_finds (instr.Jump target) leaving activation now lawful asks = tt
  instr_finds (instr.JumpFalse target) leaving activation now lawful asks = tt
  instr_finds (instr.JumpTrue target) leaving activation now lawful asks = tt

  step_finds : (state : State) → Valid code grants state → FindsAsked code state → StepFinds state
  step_finds (Going phase (Running leaving activation locals (step ∷ rest) stack ∷ frames) now) valid asked = instr_finds step.0 leaving activation now valid.0.world.lawful asked.asks
  step_finds (Going phase (Running leaving activation locals [] stack ∷ frames) now) valid asked = tt
  step_finds (Going phase (Looping method state site ∷ frames) now) valid asked = tt
  step_finds (Going phase [] now) valid asked = tt
  step_finds (Unbegun arguments now) valid asked = tt
  step_finds (Pends phase pending frames now) valid asked = tt
  step_finds (Ended ending phase now) valid asked = tt
  step_finds (Stuck now) valid asked = tt

  moves_in : (Has : ℕ → Type 0) (first : Progress) (count : ℕ) (state : State) → HasLater Has first.world.cells → Valid code grants state → StateIn Has first state → StateIn Has first (moves code count state)
  moves_in Has first zero state later valid inside = inside
  moves_in Has first (suc count) state later valid inside =
      moves_in Has first count (move code state) later (laws.keeps 1 state valid) (move_in Has first code state later laws.known (step_finds state valid (laws.asks grants state valid)) inside)

  -- ---- what was reached

  module _ (before : State) (valid : Valid code grants before) (goes : is_still before ≡ false) where
    abbrev heap : Heap
    heap = (world_of before).cells

    abbrev Has : ℕ → Type 0
    Has = InReach (world_of before).cells (roots_of before)

    later : HasLater Has heap
    later =
        let within = (valid_world code grants before valid goes).lawful.within in
        reach_has_later heap (roots_of before) (omega (arith, within.cells, within.limits.1.1))

    at_first : StateIn Has (progress_of before) before
    at_first =
        state_from Has (progress_of before) before goes (roots_are_reached heap (roots_of before))
        (start_kept Has (progress_of before) (reach_is_closed heap (roots_of before) later.none) (manifest_is code grants heap (valid_world code grants before valid goes).begins))

    stays : (after : State) → StateIn Has (progress_of before) after → StaysInReach before after
    stays after inside =
        let kept : Kept Has (progress_of before) (progress_of after) = kept_of Has (progress_of before) after inside in
        record {
          untouched = λ number cell out e. kept.outside number cell (λ has. out (has (rw e refl))) e;
          silent = λ lacks. kept.quiet (λ number has e. lacks number (has (rw e refl)) e);
          board = λ lacks. kept.board (λ number has e. lacks number (has (rw e refl)) e);
          reached = λ number is. reached_in Has (world_of after).cells (roots_of before ++ roots_of after) number kept.closed
              (both_have Has (roots_of before) (roots_of after) (roots_are_reached heap (roots_of before)) (from_state Has (progress_of before) after inside)) is;
          holds = λ number other cell has e among. has_each Has (held (world_of after).cells cell) other (from_cell Has (world_of after).cells cell (kept.closed number cell has e)) among;
        }

    moved : (count : ℕ) → StaysInReach before (moves code count before)
    moved count = stays (moves code count before) (moves_in Has (progress_of before) count before later valid at_first)

  pub moves_stay : MovesStayInReach code grants
  moves_stay count state valid goes = moved state valid goes count

pub turns_stay : (code : CodeProgram) (grants : Grants) → MovesStayInReach code grants → TurnsStayInReach code grants
turns_stay code grants stay steps before after valid goes (inl turned) =
    subst (StaysInReach before) turned.is (stay turned.count before valid goes)
turns_stay code grants stay steps before after valid goes (inr turned) =
    subst (StaysInReach before) turned.is (stay turned.count before valid goes)

-- a send that is begun goes on
goes_on : (code : CodeProgram) (receiver : Value) (sel : Sel) (arguments : List Value) (idle : State) →
    MayBegin code receiver sel arguments idle → is_still (begun receiver sel arguments idle) ≡ false
goes_on code receiver sel arguments idle may = rw may.idle refl

pub sends_stay : (code : CodeProgram) (grants : Grants) → HostKeepsValid code grants → MovesStayInReach code grants →
    SendsStayInReach code grants
sends_stay code grants host stay receiver sel arguments count idle valid may =
    stay count (begun receiver sel arguments idle) (host receiver sel arguments idle valid may) (goes_on code receiver sel arguments idle may)
