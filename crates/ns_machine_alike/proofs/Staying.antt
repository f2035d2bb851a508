-- Two sends of a host from alike states are paired as they begin, stay so, and so come to alike states.
use Rattle.std.proofs.Common.{◌≡◌, ◌≢◌, inl, inr, ℕ, zero, suc, ◌+◌, ◌-◌, ◌≤◌, List, [], ◌∷◌, ◌++◌, Option, Some, None, Bool, true, false, refl, sym, ap, ◌∙◌, subst, arith}
use Rattle.std.specs.Prelude.{Contains, IsSome}
use Rattle.ns_base.specs.declared.limits.Limits.{Limits}
use Rattle.ns_code.specs.declared.program.CodeProgram.{CodeProgram}
use Rattle.ns_code.specs.declared.instruction.Instr.{Instr}
use Rattle.ns_code.specs.declared.instruction.Instr.TheVariants as instr
use Rattle.ns_facets.specs.declared.row.Grants.{Grants}
use Rattle.ns_world.specs.declared.value.Value.{Value}
use Rattle.ns_world.specs.declared.value.Value.TheVariants.{Nil, True, False, Int, Sym, Kernel, Ref}
use Rattle.ns_world.specs.declared.cell.FacetKind.{FacetKind}
use Rattle.ns_world.specs.declared.cell.FacetKind.TheVariants.{Manifest, Platform, Console, Mirrors, Kernel as KernelFacet, Board}
use Rattle.ns_world.specs.declared.ending.Ending.{Ending}
use Rattle.ns_world.specs.declared.ending.Ending.TheVariants.{Done, Error, Limit}
use Rattle.ns_world.specs.declared.ending.LimitKind.TheVariants.{Steps, Cells, Depth, Out}
use Rattle.ns_world.specs.Cell.{Cell, ObjectCell, ClassCell, BlockCell, EnvironmentCell, ArrayCell, TextCell, FacetCell, MirrorCell, MessageCell}
use Rattle.ns_world.specs.Heap.{Heap, heap_size, find_cell, no_class}
use Rattle.ns_world.specs.Seek.{first_such, is_facet, is_top}
use Rattle.ns_world.specs.Reach.{IsInReach, all_referred}
use Rattle.ns_world.specs.World.{World}
use Rattle.ns_world.specs.Lawful.{IsLawful}
use Rattle.ns_world.specs.Alike.{Renaming, AlikeValue, AlikeValues, AlikeClass, AlikeNumber, AlikeCell, AlikeHeld, AlikePairs, Alike}
use Rattle.ns_kdata.specs.Arguments.{CellIsThere}
use Rattle.ns_moves.specs.Suiting.{is_reference}
use Rattle.ns_moves.specs.Control.{Progress, Activation}
use Rattle.ns_moves.specs.Bodies.{enclosing}
use Rattle.ns_moves.specs.Lawful.{FitsActivation, declaration_at}
use Rattle.ns_moves.specs.Suits.{IsEnclosingPlace}
use Rattle.ns_moves.specs.Start.{standing_cells}
use Rattle.ns_moves.specs.State.{Leaving, Running, Looping, Phase, Hosted, State, Unbegun, Going, Pends, Ended, Stuck, progress_of, world_of, ending_of}
use Rattle.ns_moves.specs.Move.{move, moves}
use Rattle.ns_moves.specs.Turn.{is_still}
use Rattle.ns_moves.specs.Starts.{begun}
use Rattle.ns_moves.specs.Standing.{ValidFindsAsked, MovesKeepValid}
use Rattle.ns_moves.specs.StatedMoves.{MovesAdd, StaysStill}
use Rattle.ns_moves.specs.WorldAsks.{InstrAsks, FindsAsked}
use Rattle.ns_moves.specs.Beginning.{HostKeepsValid}
use Rattle.ns_moves.specs.Valid.{WorldIsValid, EndingIsValid, EndIsValid, Valid}
use Rattle.ns_machine_reach.specs.Within.{IsGranted, In, AllIn}
use Rattle.ns_machine_reach.specs.Reached.{InReach}
use Rattle.ns_machine_alike.specs.Paired.{IsPairing, Paired, Partners, Same, AllPaired, NumberPaired, FacetPaired, CellPaired, EndingPaired, PhasePaired, Abreast, StatePaired}
use Rattle.ns_machine_alike.specs.Isolated.{SendPair, Earlier, Made, NoClass, RenamesOn, BoardsAlike, EndingAlike, MaybeEndingAlike, ended_with, done_values, RunsAlike, SendsAreAlike, SendsComeToTheSame, EndedSendsAreAlike}
use Rattle.ns_machine_alike.proofs.Values.{all_append}
use Rattle.ns_machine_alike.proofs.Sends.{Known}
use Rattle.ns_machine_alike.proofs.Moves.{InstrFinds, StepFinds, move_paired}
use Rattle.ns_machine_alike.proofs.There.{reach_there, there_below, AllThere, ClassThere, CellThere, cell_there, first_there, all_live_there, live_there}
use Rattle.ns_machine_alike.proofs.Matching.{first_once}
use Rattle.ns_machine_alike.proofs.Starting.{idle_world, send_pairing, begun_paired, received, given, reached, reached'}
use Rattle.ns_machine_alike.proofs.Beginning.{may_begin_too}
use Rattle.ns_machine_alike.proofs.Reaching.{both_cells, reach_forth, reach_back}

-- what the laws of a run give
pub record Laws (code : CodeProgram) (grants : Grants) : Type 0 where
  pub known : Known
  pub levels : (world : World) (activation : Activation) (level : ℕ) → IsLawful world code → FitsActivation world.cells code activation → IsSome (declaration_at code activation.body level)
      → IsEnclosingPlace world.cells code (enclosing world.cells activation level)
  pub asks : ValidFindsAsked code
  pub keeps : MovesKeepValid code grants
  pub host : HostKeepsValid code grants

module _ (code : CodeProgram) (grants : Grants) (laws : Laws code grants) where
  instr_finds : (asked : Instr) (leaving : Leaving) (activation : Activation) (now : Progress) → IsLawful now.world code → InstrAsks code asked leaving activation now → InstrFinds now activation asked
  instr_finds (instr.SendPrivate level sel argc) leaving activation now lawful asks = (laws.levels now.world activation level lawful asks.1.0 asks.1.1).class
  instr_finds instr.PushNil leaving activation now lawful asks = tt
  instr_finds instr.PushTrue leaving activation now lawful asks = tt
  instr_finds instr.PushFalse leaving activation now lawful asks = tt
  instr_finds (instr.PushInt number) leaving activation now lawful asks = tt
  instr_finds (instr.PushSym sel) leaving activation now lawful asks = tt
  instr_finds (instr.PushText text) leaving activation now lawful asks = tt
  instr_finds instr.PushSelf leaving activation now lawful asks = tt
  instr_finds (instr.PushOuter level) leaving activation now lawful asks = tt
  instr_finds (instr.PushLocal hops index) leaving activation now lawful asks = tt
  instr_finds (instr.StoreLocal hops index) leaving activation now lawful asks = tt
  instr_finds (instr.PushBlock body) leaving activation now lawful asks = tt
  instr_finds (instr.MakeArray count) leaving activation now lawful asks = tt
  instr_finds instr.Pop leaving activation now lawful asks = tt
  instr_finds (instr.Pick number) leaving activation now lawful asks = tt
  instr_finds (instr.Send sel argc) leaving activation now lawful asks = tt
  instr_finds (instr.SendInner sel argc) leaving activation now lawful asks = tt
  instr_finds (instr.SendSuper sel argc) leaving activation now lawful asks = tt
  instr_finds (instr.InitSuper argc) leaving activation now lawful asks = tt
  instr_finds (instr.StoreSlot slot) leaving activation now lawful asks = tt
  instr_finds instr.Return leaving activation now lawful asks = tt
  instr_finds instr.ReturnSelf leaving activation now lawful asks = tt
  instr_finds instr.ReturnHome leaving activation now lawful asks = tt
  instr_finds (instr.Jump target) leaving activation now lawful asks = tt
  instr_finds (instr.JumpFalse target) leaving activation now lawful asks = tt
  instr_finds (instr.JumpTrue target) leaving activation now lawful asks = tt

  step_finds : (state : State) → Valid code grants state → FindsAsked code state → StepFinds state
  step_finds (Going phase (Running leaving activation locals (step ∷ rest) stack ∷ frames) now) valid asked = instr_finds step.0 leaving activation now valid.0.world.lawful asked.asks
  step_finds (Going phase (Running leaving activation locals [] stack ∷ frames) now) valid asked = tt
  step_finds (Going phase (Looping method state site ∷ frames) now) valid asked = tt
  step_finds (Going phase [] now) valid asked = tt
  step_finds (Unbegun arguments now) valid asked = tt
  step_finds (Pends phase pending frames now) valid asked = tt
  step_finds (Ended ending phase now) valid asked = tt
  step_finds (Stuck now) valid asked = tt

module _ (Pair : ℕ → ℕ → Type 0) (first second : Progress) (pairing : IsPairing Pair first.world second.world) (code : CodeProgram) (grants grants' : Grants) (laws : Laws code grants) (laws' : Laws code grants') where
  -- so many moves
  moves_paired : (count : ℕ) (one two : State) → Valid code grants one → Valid code grants' two → StatePaired Pair first second one two → StatePaired Pair first second (moves code count one) (moves code count two)
  moves_paired zero one two valid valid' p = p
  moves_paired (suc count) one two valid valid' p =
      moves_paired count (move code one) (move code two) (laws.keeps 1 one valid) (laws'.keeps 1 two valid')
      (move_paired Pair first second pairing laws.known code grants grants' one two valid valid' (step_finds code grants laws one valid (laws.asks grants one valid)) p)

  -- what paired states have done
  abreast_of : (one two : State) → StatePaired Pair first second one two → Abreast Pair first second (progress_of one) (progress_of two)
  abreast_of (Going phase frames one) (Going phase' frames' two) p = p.2
  abreast_of (Pends phase pending frames one) (Pends phase' pending' frames' two) p = p.3
  abreast_of (Ended ending phase one) (Ended ending' phase' two) p = p.2
  abreast_of (Stuck one) (Stuck two) p = p
  abreast_of one two p = absurd p

  same_still : (one two : State) → StatePaired Pair first second one two → is_still one ≡ is_still two
  same_still (Going phase frames one) (Going phase' frames' two) p = refl
  same_still (Pends phase pending frames one) (Pends phase' pending' frames' two) p = refl
  same_still (Ended ending phase one) (Ended ending' phase' two) p = refl
  same_still (Stuck one) (Stuck two) p = refl
  same_still one two p = absurd p

-- ---- valid states that a send of a host leads to

-- its world is valid
hosted_end : (code : CodeProgram) (grants : Grants) (ending : Ending) (now : Progress) → EndIsValid code grants ending Hosted now →
    WorldIsValid code (standing_cells code grants) now × EndingIsValid code ending now
hosted_end code grants (Done value) now v = v
hosted_end code grants (Error error) now v = v
hosted_end code grants (Limit Steps) now v = v
hosted_end code grants (Limit Cells) now v = v
hosted_end code grants (Limit Depth) now v = v
hosted_end code grants (Limit Out) now v = v

-- the values with which it ended are live
abbrev DoneLive : CodeProgram → State → Type 0
DoneLive code state = AllThere (world_of state).cells (done_values state)

pub record HostedWorld (code : CodeProgram) (grants : Grants) (state : State) : Type 0 where
  pub world : WorldIsValid code (standing_cells code grants) (progress_of state)
  pub done : DoneLive code state

done_there : (code : CodeProgram) (ending : Ending) (now : Progress) → EndingIsValid code ending now →
    AllThere now.world.cells (ended_with ending)
done_there code (Done value) now v = (live_there now.world.cells code value v.0.0, tt)
done_there code (Error error) now v = tt
done_there code (Limit limit) now v = tt

hosted_ended : (code : CodeProgram) (grants : Grants) (ending : Ending) (phase : Phase) (now : Progress) → phase ≡ Hosted →
    EndIsValid code grants ending phase now → HostedWorld code grants (Ended ending phase now)
hosted_ended code grants ending phase now e v =
    let both = hosted_end code grants ending now (subst (λ f. EndIsValid code grants ending f now) e v) in
    record { world = both.0; done = done_there code ending now both.1 }

phase_is : (Pair : ℕ → ℕ → Type 0) (first second : Progress) (phase phase' : Phase) → PhasePaired Pair first second phase phase' →
    (phase ≡ Hosted) × (phase' ≡ Hosted)
phase_is Pair first second Hosted Hosted p = (refl, refl)
phase_is Pair first second phase phase' p = absurd p

hosted_worlds : (Pair : ℕ → ℕ → Type 0) (first second : Progress) (code : CodeProgram) (grants grants' : Grants) (one two : State) →
    Valid code grants one → Valid code grants' two → StatePaired Pair first second one two
    → HostedWorld code grants one × HostedWorld code grants' two
hosted_worlds Pair first second code grants grants' (Going phase frames one) (Going phase' frames' two) valid valid' p =
    (record { world = valid.0.world; done = tt }, record { world = valid'.0.world; done = tt })
hosted_worlds Pair first second code grants grants' (Pends phase pending frames one) (Pends phase' pending' frames' two) valid valid' p =
    (record { world = valid.0.world; done = tt }, record { world = valid'.0.world; done = tt })
hosted_worlds Pair first second code grants grants' (Ended ending phase one) (Ended ending' phase' two) valid valid' p =
    let both = phase_is Pair first second phase phase' p.1 in
    (hosted_ended code grants ending phase one both.0 valid, hosted_ended code grants' ending' phase' two both.1 valid')
hosted_worlds Pair first second code grants grants' (Stuck one) (Stuck two) valid valid' p = absurd valid
hosted_worlds Pair first second code grants grants' one two valid valid' p = absurd p

-- ---- the two states afterwards

module _ (code : CodeProgram) (grants grants' : Grants) (pairs : Renaming) (firsts seconds : List Value) (first second : State) (starts : Alike pairs (world_of first) (world_of second) firsts seconds) where
  abbrev P : ℕ → ℕ → Type 0
  P = SendPair pairs (world_of first) (world_of second) (all_referred firsts) (all_referred seconds)

  module _ (pairing : IsPairing P (world_of first) (world_of second)) (roots_start : AllPaired P firsts seconds) (one two : State) (p : StatePaired P (progress_of first) (progress_of second) one two) (world : HostedWorld code grants one)
      (world' : HostedWorld code grants' two) (a : Abreast P (progress_of first) (progress_of second) (progress_of one) (progress_of two)) (after : Renaming)
      (on : RenamesOn pairs after (world_of first) (world_of second) (all_referred firsts) (all_referred seconds) (world_of one).cells) where
    abbrev heap : Heap
    heap = (world_of one).cells

    abbrev other : Heap
    other = (world_of two).cells

    small : heap_size (world_of one).cells ≤ no_class
    small = omega (arith, world.world.lawful.within.cells, world.world.lawful.within.limits.1.1)

    small' : heap_size (world_of two).cells ≤ no_class
    small' = omega (arith, world'.world.lawful.within.cells, world'.world.lawful.within.limits.1.1)

    -- partners that are there are renamed
    renamed : (n m : ℕ) → P n m → IsSome (find_cell heap n) → Contains after (n, m)
    renamed n m (Earlier c r r') s = on.earlier n m c r r'
    renamed n m (Made k e e' less) s =
        let c = on.made k (subst (λ j. IsSome (find_cell heap j)) e s) in
        subst (λ j. Contains after (j, m)) (sym e) (subst (λ j. Contains after (heap_size (world_of first).cells + k, j)) (sym e') c)
    renamed n m (NoClass e e') s = absurd (let t = there_below heap n s in omega (arith, t, e, small))

    value_alike : (value value' : Value) → Paired P value value' → CellIsThere heap value → AlikeValue after value value'
    value_alike value value' (Partners n m q) t = renamed n m q t
    value_alike value value' (Same same e) t = by same e
      where
        by : (v : Value) → is_reference v ≡ false → AlikeValue after v v
        by Nil e = refl
        by True e = refl
        by False e = refl
        by (Int number) e = refl
        by (Sym sel) e = refl
        by (Kernel class) e = refl
        by (Ref at) e = absurd (cc (e))

    values_alike : (values values' : List Value) → AllPaired P values values' → AllThere heap values → AlikeValues after values values'
    values_alike [] [] q t = tt
    values_alike (value ∷ values) (value' ∷ values') q t = (value_alike value value' q.0 t.0, values_alike values values' q.1 t.1)
    values_alike [] (value' ∷ values') q t = absurd q
    values_alike (value ∷ values) [] q t = absurd q

    class_alike : (n m : ℕ) → P n m → ClassThere heap n → AlikeClass after n m
    class_alike n m q (inl s) = inl (renamed n m q s)
    class_alike n m q (inr e) = inr (e, pairing.forth no_class m no_class (subst (λ k. P k m) e q) pairing.none)

    -- ---- cells

    cell_alike : (cell cell' : Cell) → CellPaired P (progress_of first) (progress_of second) heap other cell cell' → CellThere heap cell → AlikeCell after cell cell'
    cell_alike (ObjectCell class entries) (ObjectCell class' entries') q t = (class_alike class class' q.0 t.0, values_alike entries entries' q.1 t.1)
    cell_alike (ClassCell decl base encl holder over) (ClassCell decl' base' encl' holder' over') q t = (q.0, (value_alike encl encl' q.1 t.0, (value_alike holder holder' q.2 t.1, (value_alike over over' q.3 t.2, tt))))
    cell_alike (BlockCell body env home receiver holder) (BlockCell body' env' home' receiver' holder') q t = (q.0, (value_alike env env' q.1 t.0, (value_alike receiver receiver' q.3 t.1, tt)), class_alike holder holder' q.4 t.2)
    cell_alike (EnvironmentCell parent locals) (EnvironmentCell parent' locals') q t = (value_alike parent parent' q.0 t.0, values_alike locals locals' q.1 t.1)
    cell_alike (ArrayCell items) (ArrayCell items') q t = values_alike items items' q t
    cell_alike (TextCell bytes) (TextCell bytes') q t = q
    cell_alike (FacetCell kind) (FacetCell kind') q t = q.0
    cell_alike (MirrorCell mirrored) (MirrorCell mirrored') q t = value_alike mirrored mirrored' q t
    cell_alike (MessageCell sel args) (MessageCell sel' args') q t = (q.0, value_alike args args' q.1 t)
    cell_alike cell cell' q t = absurd q

    number_alike : (o o' : Option ℕ) → NumberPaired P o o' → ((n : ℕ) → o ≡ Some n → IsSome (find_cell heap n)) → AlikeNumber after o o'
    number_alike None None q t = tt
    number_alike (Some n) (Some m) q t = renamed n m q (t n refl)
    number_alike None (Some m) q t = absurd q
    number_alike (Some n) None q t = absurd q

    first_alike : (test : Cell → Bool) → NumberPaired P (first_such test heap) (first_such test other) → AlikeNumber after (first_such test heap) (first_such test other)
    first_alike test q = number_alike (first_such test heap) (first_such test other) q (λ n e. first_there test heap n e)

    is_granted : (kind : FacetKind) → kind ≢ Manifest → kind ≢ Platform → IsGranted kind
    is_granted Manifest m q = absurd (m refl)
    is_granted Platform m q = absurd (q refl)
    is_granted Console m q = tt
    is_granted Mirrors m q = tt
    is_granted KernelFacet m q = tt
    is_granted Board m q = tt

    facet_alike : (kind : FacetKind) → FacetPaired P heap other kind → AlikeHeld after heap other (FacetCell kind)
    facet_alike Manifest q = λ decl. first_alike (is_top decl) (q decl)
    facet_alike Platform q = λ kind m f. first_alike (is_facet kind) (q kind (is_granted kind m f))
    facet_alike Console q = tt
    facet_alike Mirrors q = tt
    facet_alike KernelFacet q = tt
    facet_alike Board q = tt

    held_alike : (cell cell' : Cell) → CellPaired P (progress_of first) (progress_of second) heap other cell cell' → AlikeHeld after heap other cell
    held_alike (FacetCell kind) (FacetCell kind') q = facet_alike kind q.1
    held_alike (ObjectCell class entries) cell' q = tt
    held_alike (ClassCell decl base encl holder over) cell' q = tt
    held_alike (BlockCell body env home receiver holder) cell' q = tt
    held_alike (EnvironmentCell parent locals) cell' q = tt
    held_alike (ArrayCell items) cell' q = tt
    held_alike (TextCell bytes) cell' q = tt
    held_alike (MirrorCell mirrored) cell' q = tt
    held_alike (MessageCell sel args) cell' q = tt
    held_alike (FacetCell kind) cell' q = absurd q

    pairs_alike : (n m : ℕ) → P n m → IsSome (find_cell heap n) → AlikePairs after heap other n m
    pairs_alike n m q s = by (find_cell heap n) refl s
      where
        by : (o : Option Cell) → find_cell heap n ≡ o → IsSome o → AlikePairs after heap other n m
        by None e some = absurd (cc (some))
        by (Some cell) e some =
            let both = both_cells P (progress_of first) (progress_of second) pairing heap other a.heaps small small' n m cell q e in
            record {
              one = cell;
              two = both.cell';
              one_is = e;
              two_is = both.is;
              cells = cell_alike cell both.cell' both.paired (cell_there (world_of one) code n cell world.world.lawful e);
              holds = held_alike cell both.cell' both.paired;
            }

    -- ---- roots

    -- the roots at the start are renamed by what was reached then
    start_value : (value value' : Value) → AlikeValue pairs value value' → In (InReach (world_of first).cells (all_referred firsts)) value → In (InReach (world_of second).cells (all_referred seconds)) value' → CellIsThere (world_of first).cells value
        → CellIsThere (world_of second).cells value' → AlikeValue after value value'
    start_value (Ref n) (Ref m) c i j t t' = on.earlier n m c (i t) (j t')
    start_value (Ref n) value' c i j t t' = absurd c
    start_value Nil value' c i j t t' = c
    start_value True value' c i j t t' = c
    start_value False value' c i j t t' = c
    start_value (Int number) value' c i j t t' = c
    start_value (Sym sel) value' c i j t t' = c
    start_value (Kernel class) value' c i j t t' = c

    start_values : (values values' : List Value) → AlikeValues pairs values values' → AllIn (InReach (world_of first).cells (all_referred firsts)) values → AllIn (InReach (world_of second).cells (all_referred seconds)) values' → AllThere (world_of first).cells values
        → AllThere (world_of second).cells values' → AlikeValues after values values'
    start_values [] [] c i j t t' = tt
    start_values (value ∷ values) (value' ∷ values') c i j t t' = (start_value value value' c.0 i.0 j.0 t.0 t'.0, start_values values values' c.1 i.1 j.1 t.1 t'.1)
    start_values [] (value' ∷ values') c i j t t' = absurd c
    start_values (value ∷ values) [] c i j t t' = absurd c

    values_append : (xs ys xs' ys' : List Value) → AlikeValues after xs xs' → AlikeValues after ys ys' → AlikeValues after (xs ++ ys) (xs' ++ ys')
    values_append [] ys [] ys' c d = d
    values_append (x ∷ xs) ys (x' ∷ xs') ys' c d = (c.0, values_append xs ys xs' ys' c.1 d)
    values_append [] ys (x' ∷ xs') ys' c d = absurd c
    values_append (x ∷ xs) ys [] ys' c d = absurd c

    ended_paired : (ending ending' : Ending) → EndingPaired P ending ending' → AllPaired P (ended_with ending) (ended_with ending')
    ended_paired (Done value) (Done value') q = (q, tt)
    ended_paired (Error error) (Error error') q = tt
    ended_paired (Limit limit) (Limit limit') q = tt
    ended_paired ending ending' q = absurd q

    done_paired : (s z : State) → StatePaired P (progress_of first) (progress_of second) s z → AllPaired P (done_values s) (done_values z)
    done_paired (Going phase frames s) (Going phase' frames' z) q = tt
    done_paired (Pends phase pending frames s) (Pends phase' pending' frames' z) q = tt
    done_paired (Ended ending phase s) (Ended ending' phase' z) q = ended_paired ending ending' q.0
    done_paired (Stuck s) (Stuck z) q = tt
    done_paired s z q = absurd q

    roots_paired : AllPaired P (firsts ++ done_values one) (seconds ++ done_values two)
    roots_paired = all_append P firsts (done_values one) seconds (done_values two) roots_start (done_paired one two p)

    forth : (n : ℕ) → IsInReach heap (all_referred (firsts ++ done_values one)) n → (m : ℕ) × P n m × IsInReach other (all_referred (seconds ++ done_values two)) m
    forth n r = reach_forth P (progress_of first) (progress_of second) pairing heap other a.heaps small small' (firsts ++ done_values one) (seconds ++ done_values two) roots_paired n r

    back : (m : ℕ) → IsInReach other (all_referred (seconds ++ done_values two)) m → (n : ℕ) × P n m × IsInReach heap (all_referred (firsts ++ done_values one)) n
    back m r = reach_back P (progress_of first) (progress_of second) pairing heap other a.heaps small small' (firsts ++ done_values one) (seconds ++ done_values two) roots_paired m r

    -- a cell that is reached and its partner
    onto : (n : ℕ) → IsInReach heap (all_referred (firsts ++ done_values one)) n → (m : ℕ) × Contains after (n, m) × IsInReach other (all_referred (seconds ++ done_values two)) m
    onto n r = let f = forth n r in (f.0, renamed n f.0 f.1 (reach_there heap (all_referred (firsts ++ done_values one)) n r), f.2)

    backed : (m : ℕ) → IsInReach other (all_referred (seconds ++ done_values two)) m → (n : ℕ) × Contains after (n, m) × IsInReach heap (all_referred (firsts ++ done_values one)) n
    backed m r = let f = back m r in (f.0, renamed f.0 m f.1 (reach_there heap (all_referred (firsts ++ done_values one)) f.0 f.2), f.2)

    cells : (n m : ℕ) → Contains after (n, m) → IsInReach heap (all_referred (firsts ++ done_values one)) n → AlikePairs after heap other n m
    cells n m c r =
        let f = forth n r in
        let s = reach_there heap (all_referred (firsts ++ done_values one)) n r in
        let same : f.0 ≡ m = first_once after n f.0 m on.once_first (renamed n f.0 f.1 s) c in
        subst (AlikePairs after heap other n) same (pairs_alike n f.0 f.1 s)

    module _ (root_values : AlikeValues after firsts seconds) where
      pub worlds_alike : Alike after (world_of one) (world_of two) (firsts ++ done_values one) (seconds ++ done_values two)
      worlds_alike = record {
        once_first = on.once_first;
        once_second = on.once_second;
        onto = onto;
        back = backed;
        cells = cells;
        roots = values_append firsts (done_values one) seconds (done_values two) root_values (values_alike (done_values one) (done_values two) (done_paired one two p) world.done);
        steps = a.steps;
        room = a.room;
        depth = omega (arith, a.depth, a.deepest);
        out = a.out;
      }

    pub boards_alike : BoardsAlike (firsts ++ done_values one) one two
    boards_alike n r e = let f = forth n r in a.board n f.0 f.1 e

    ending_alike : (ending ending' : Ending) → EndingPaired P ending ending' → AllThere heap (ended_with ending) → EndingAlike after ending ending'
    ending_alike (Done value) (Done value') q t = value_alike value value' q t.0
    ending_alike (Error error) (Error error') q t = q
    ending_alike (Limit limit) (Limit limit') q t = q
    ending_alike ending ending' q t = absurd q

    pub endings_alike : (s z : State) → StatePaired P (progress_of first) (progress_of second) s z → AllThere heap (done_values s) → MaybeEndingAlike after (ending_of s) (ending_of z)
    endings_alike (Going phase frames s) (Going phase' frames' z) q t = tt
    endings_alike (Pends phase pending frames s) (Pends phase' pending' frames' z) q t = tt
    endings_alike (Ended ending phase s) (Ended ending' phase' z) q t = ending_alike ending ending' q.0 t
    endings_alike (Stuck s) (Stuck z) q t = tt
    endings_alike s z q t = absurd q

-- ---- the law

-- as many steps were charged
same_use : (Pair : ℕ → ℕ → Type 0) (first second one two : Progress) → Abreast Pair first second one two →
    first.world.limits.steps - first.world.steps ≡ second.world.limits.steps - second.world.steps
    → first.world.steps ≤ first.world.limits.steps → second.world.steps ≤ second.world.limits.steps → one.world.steps ≤ one.world.limits.steps → two.world.steps ≤ two.world.limits.steps
    → one.world.steps + second.world.steps ≡ two.world.steps + first.world.steps
same_use Pair first second one two a left within within' now now' =
    let limit : one.world.limits.steps ≡ first.world.limits.steps = ap (λ (l : Limits). l.steps) a.limits in
    let limit' : two.world.limits.steps ≡ second.world.limits.steps = ap (λ (l : Limits). l.steps) a.other_limits in
    omega (arith, left, within, within', now, now', limit, limit', a.steps)

pub sends_alike : (code : CodeProgram) (grants grants' : Grants) → Laws code grants → Laws code grants' → SendsAreAlike code grants grants'
sends_alike code grants grants' laws laws' pairs receiver other sel arguments others count first second valid valid' may idle alike =
    let may' = may_begin_too code pairs receiver other sel arguments others first second may idle alike.0 in
    let pairing = send_pairing code grants grants' pairs (receiver ∷ arguments) (other ∷ others) first second valid valid' may.idle may'.idle alike.0 in
    let start = begun_paired code grants grants' pairs receiver other sel arguments others first second valid valid' may may' alike in
    let begins = laws.host receiver sel arguments first valid may in
    let begins' = laws'.host other sel others second valid' may' in
    let R = SendPair pairs (world_of first) (world_of second) (all_referred (receiver ∷ arguments)) (all_referred (other ∷ others)) in
    let one = moves code count (begun receiver sel arguments first) in
    let two = moves code count (begun other sel others second) in
    let p = moves_paired R (progress_of first) (progress_of second) pairing code grants grants' laws laws' count (begun receiver sel arguments first) (begun other sel others second) begins begins' start in
    let a = abreast_of R (progress_of first) (progress_of second) pairing code grants grants' laws laws' one two p in
    let worlds = hosted_worlds R (progress_of first) (progress_of second) code grants grants' one two (laws.keeps count (begun receiver sel arguments first) begins) (laws'.keeps count (begun other sel others second) begins') p in
    let r = received code grants grants' pairs receiver other sel arguments others first second valid valid' may may' alike in
    let g = given code grants grants' pairs receiver other sel arguments others first second valid valid' may may' alike in
    let h = reached code grants grants' pairs receiver other sel arguments others first second valid valid' may may' alike in
    let h' = reached' code grants grants' pairs receiver other sel arguments others first second valid valid' may may' alike in
    let used = same_use R (progress_of first) (progress_of second) (progress_of one) (progress_of two) a alike.0.steps (idle_world code grants first valid may.idle).world.lawful.within.steps
    (idle_world code grants' second valid' may'.idle).world.lawful.within.steps worlds.0.world.lawful.within.steps worlds.1.world.lawful.within.steps in
    record {
      prints = record { bytes = a.printed; one_is = a.prints; two_is = a.other_prints };
      uses = record { steps = used; cells = omega (arith, a.size, a.other_size); depth = a.depth };
      grows = omega (arith, a.size);
      still = same_still R (progress_of first) (progress_of second) pairing code grants grants' laws laws' one two p;
      ends = λ after on. endings_alike code grants grants' pairs (receiver ∷ arguments) (other ∷ others) first second alike.0 pairing (r, g) one two p worlds.0 worlds.1 a after on one two p worlds.0.done;
      alike = λ after on. (
        worlds_alike code grants grants' pairs (receiver ∷ arguments) (other ∷ others) first second alike.0 pairing (r, g) one two p worlds.0 worlds.1 a after on
            (start_values code grants grants' pairs (receiver ∷ arguments) (other ∷ others) first second alike.0 pairing (r, g) one two p worlds.0 worlds.1 a after on (receiver ∷ arguments) (other ∷ others) alike.0.roots
            h h'
            (live_there (world_of first).cells code receiver may.live.0, all_live_there (world_of first).cells code arguments may.fits.live)
            (live_there (world_of second).cells code other may'.live.0, all_live_there (world_of second).cells code others may'.fits.live)),
        boards_alike code grants grants' pairs (receiver ∷ arguments) (other ∷ others) first second alike.0 pairing (r, g) one two p worlds.0 worlds.1 a after on,
      );
    }

-- what a send leads to, it leads to in each alike state
pub come_to_the_same : (code : CodeProgram) (grants grants' : Grants) → SendsAreAlike code grants grants' →
    SendsComeToTheSame code grants grants'
come_to_the_same code grants grants' alike receiver sel arguments count first valid may pairs other others second valid' idle states =
    (moves code count (begun other sel others second), record { count = count; is = refl }, alike pairs receiver other sel arguments others count first second valid valid' may idle states)

-- two runs from one state that move no more have come to one state
still_one : (code : CodeProgram) (start : State) → MovesAdd code start → ((state : State) → StaysStill code state) → (a b : ℕ) →
    is_still (moves code a start) ≡ true → is_still (moves code b start) ≡ true
    → moves code a start ≡ moves code b start
still_one code start adds stays a b still still' =
    let same : a + b ≡ b + a = omega arith in
    sym (stays (moves code a start) b still) ∙ (sym (adds a b) ∙ (ap (λ k. moves code k start) same ∙ (adds b a ∙ stays (moves code b start) a still')))

pub ended_alike : (code : CodeProgram) (grants grants' : Grants) → SendsAreAlike code grants grants' →
    ((state : State) → MovesAdd code state) → ((state : State) → StaysStill code state) → EndedSendsAreAlike code grants grants'
ended_alike code grants grants' alike adds stays pairs receiver other sel arguments others first second one two valid valid' may idle states leads leads' still still' =
    let start = begun receiver sel arguments first in
    let start' = begun other sel others second in
    let runs = alike pairs receiver other sel arguments others leads.count first second valid valid' may idle states in
    let here : is_still (moves code leads.count start) ≡ true = ap is_still leads.is ∙ still in
    let there : is_still (moves code leads'.count start') ≡ true = ap is_still leads'.is ∙ still' in
    let same : moves code leads.count start' ≡ two = still_one code start' (adds start') stays leads.count leads'.count (sym runs.still ∙ here) there ∙ leads'.is in
    subst (λ s. RunsAlike pairs (receiver ∷ arguments) (other ∷ others) first second s two) leads.is
    (subst (λ s. RunsAlike pairs (receiver ∷ arguments) (other ∷ others) first second (moves code leads.count start) s) same runs)
