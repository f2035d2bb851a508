-- Two sends of a host from alike states are paired as they begin.
use Rattle.std.proofs.Common.{◌≡◌, ℕ, List, [], ◌∷◌, ◌++◌, length, drop, reverse, Some, None, true, refl, sym, ap, ◌∙◌, subst, arith}
use Rattle.std.specs.Prelude.{All}
use Rattle.std.proofs.lemmas.List.{reverse-append, reverse-reverse, take-append-drop, append-nil}
use Rattle.ns_base.specs.declared.selector.Sel.{Sel}
use Rattle.ns_code.specs.declared.program.CodeProgram.{CodeProgram}
use Rattle.ns_facets.specs.declared.row.Grants.{Grants}
use Rattle.ns_world.specs.declared.value.Value.{Value}
use Rattle.ns_world.specs.declared.cell.FacetKind.TheVariants.{Manifest, Board}
use Rattle.ns_world.specs.declared.ending.Ending.TheVariants.{Done, Error, Limit}
use Rattle.ns_world.specs.Cell.{Cell, FacetCell}
use Rattle.ns_world.specs.Heap.{Heap, find_cell}
use Rattle.ns_world.specs.Reach.{all_referred}
use Rattle.ns_world.specs.Lawful.{IsLiveValue}
use Rattle.ns_world.specs.Alike.{Renaming, AlikeValue, AlikeValues, Alike}
use Rattle.ns_world.specs.laws.Chains.{found_below}
use Rattle.ns_moves.specs.Control.{Progress}
use Rattle.ns_moves.specs.Start.{standing_cells}
use Rattle.ns_moves.specs.Sends.{site_at}
use Rattle.ns_moves.specs.State.{Sending, Start, First, Second, Hosted, State, Unbegun, Going, Pends, Ended, Stuck, is_idle, progress_of, world_of}
use Rattle.ns_moves.specs.Starts.{begun}
use Rattle.ns_moves.specs.Valid.{BeginsWith, WorldIsValid, Valid}
use Rattle.ns_moves.specs.Beginning.{MayBegin}
use Rattle.ns_machine_reach.specs.Within.{In, AllIn}
use Rattle.ns_machine_reach.specs.Reached.{InReach}
use Rattle.ns_machine_reach.specs.laws.Holding.{all_in_from}
use Rattle.ns_machine_alike.specs.Paired.{IsPairing, Paired, AllPaired, HeapPaired, Abreast, StatePaired}
use Rattle.ns_machine_alike.specs.Isolated.{SendPair, Earlier, Made, NoClass, StatesAlike}
use Rattle.ns_machine_alike.proofs.Keeping.{found_more}
use Rattle.ns_machine_alike.proofs.Finding.{same_site}
use Rattle.ns_machine_alike.proofs.There.{roots_reached, live_there, all_live_there}
use Rattle.ns_machine_alike.proofs.Matching.{alike_pairing, value_paired, values_paired, alike_heaps}

-- ---- idle states

-- An idle state has a valid world, and no frame.
pub record IdleWorld (code : CodeProgram) (grants : Grants) (progress : Progress) : Type 0 where
  pub world : WorldIsValid code (standing_cells code grants) progress
  pub depth : progress.world.depth ≡ 0

pub idle_world : (code : CodeProgram) (grants : Grants) (state : State) → Valid code grants state → is_idle state ≡ true →
    IdleWorld code grants (progress_of state)
idle_world code grants (Unbegun arguments progress) valid e = record { world = valid.0; depth = valid.2 }
idle_world code grants (Ended (Done value) Start progress) valid e = absurd valid
idle_world code grants (Ended (Done value) (First arguments) progress) valid e = absurd valid
idle_world code grants (Ended (Done value) Second progress) valid e = record { world = valid.0; depth = valid.1.1 }
idle_world code grants (Ended (Done value) Hosted progress) valid e = record { world = valid.0; depth = valid.1.1 }
idle_world code grants (Ended (Error error) phase progress) valid e = absurd (cc (e))
idle_world code grants (Ended (Limit limit) phase progress) valid e = absurd (cc (e))
idle_world code grants (Going phase frames progress) valid e = absurd (cc (e))
idle_world code grants (Pends phase pending frames progress) valid e = absurd (cc (e))
idle_world code grants (Stuck progress) valid e = absurd (cc (e))

last_found : (newer : Heap) (cell : Cell) → find_cell (newer ++ cell ∷ []) 0 ≡ Some cell
last_found [] cell = refl
last_found (next ∷ newer) cell = found_more (newer ++ cell ∷ []) next 0 cell (last_found newer cell)

manifest_first : (heap : Heap) (cell : Cell) (rest : List Cell) → reverse heap ≡ cell ∷ rest → find_cell heap 0 ≡ Some cell
manifest_first heap cell rest e =
    let whole : heap ≡ reverse rest ++ cell ∷ [] = sym (reverse-reverse heap) ∙ (ap reverse e ∙ reverse-append (cell ∷ []) rest) in
    ap (λ h. find_cell h 0) whole ∙ last_found (reverse rest) cell

-- the first cell of a run is Manifest
pub manifest_is : (code : CodeProgram) (grants : Grants) (heap : Heap) → BeginsWith (standing_cells code grants) heap →
    find_cell heap 0 ≡ Some (FacetCell Manifest)
manifest_is code grants heap begins =
    let n : ℕ = length (standing_cells code grants) in
    let whole : reverse heap ≡ standing_cells code grants ++ drop n (reverse heap) = sym (take-append-drop n (reverse heap)) ∙ ap (λ cells. cells ++ drop n (reverse heap)) begins.start in
    manifest_first heap (FacetCell Manifest) _ whole

pub send_pairing : (code : CodeProgram) (grants grants' : Grants) (pairs : Renaming) (firsts seconds : List Value) (first second : State) →
    Valid code grants first → Valid code grants' second → is_idle first ≡ true → is_idle second ≡ true
    → Alike pairs (world_of first) (world_of second) firsts seconds
    → IsPairing (SendPair pairs (world_of first) (world_of second) (all_referred firsts) (all_referred seconds)) (world_of first) (world_of second)
send_pairing code grants grants' pairs firsts seconds first second valid valid' idle idle' alike =
    alike_pairing pairs code (world_of first) (world_of second) firsts seconds alike (idle_world code grants first valid idle).world.lawful (idle_world code grants' second valid' idle').world.lawful

-- ---- the start

module _ (code : CodeProgram) (grants grants' : Grants) (pairs : Renaming) (firsts seconds : List Value) (first second : State) (idle : IdleWorld code grants (progress_of first)) (idle' : IdleWorld code grants' (progress_of second))
    (alike : StatesAlike pairs firsts seconds first second) where
  abbrev Q : ℕ → ℕ → Type 0
  Q = SendPair pairs (world_of first) (world_of second) (all_referred firsts) (all_referred seconds)

  pub heaps_start : HeapPaired Q (progress_of first) (progress_of second) (world_of first).cells (world_of second).cells
  heaps_start =
      alike_heaps pairs code (world_of first) (world_of second) firsts seconds alike.0 idle.world.lawful idle'.world.lawful (progress_of first) (progress_of second) refl refl idle.world.homes idle'.world.homes
      (manifest_is code grants (world_of first).cells idle.world.begins) (manifest_is code grants' (world_of second).cells idle'.world.begins)

  board_start : (n m : ℕ) → Q n m → find_cell (world_of first).cells n ≡ Some (FacetCell Board) → (progress_of first).board ≡ (progress_of second).board
  board_start n m (Earlier c r r') e = alike.1 n r e
  board_start n m (Made k q q' less) e = absurd (let b = found_below (world_of first).cells n (FacetCell Board) e in omega (arith, b, q))
  board_start n m (NoClass q q') e = absurd (let b = found_below (world_of first).cells n (FacetCell Board) e in omega (arith, b, q, idle.world.lawful.within.cells, idle.world.lawful.within.limits.1.1))

  pub abreast_start : Abreast Q (progress_of first) (progress_of second) (progress_of first) (progress_of second)
  abreast_start = record {
    heaps = heaps_start;
    made = 0;
    size = omega arith;
    other_size = omega arith;
    begun = 0;
    begins = omega arith;
    other_begins = omega arith;
    printed = [];
    prints = sym (append-nil (world_of first).output);
    other_prints = sym (append-nil (world_of second).output);
    limits = refl;
    other_limits = refl;
    steps = alike.0.steps;
    room = alike.0.room;
    depth = idle.depth ∙ sym idle'.depth;
    deepest = omega (arith, alike.0.depth, idle.depth, idle'.depth);
    out = alike.0.out;
    within = idle.world.lawful.within.out;
    other_within = idle'.world.lawful.within.out;
    board = board_start;
  }

  -- a root and its partner
  root_paired : (value other : Value) → AlikeValue pairs value other → In (InReach (world_of first).cells (all_referred firsts)) value → In (InReach (world_of second).cells (all_referred seconds)) other
      → IsLiveValue (world_of first).cells code value → IsLiveValue (world_of second).cells code other → Paired Q value other
  root_paired value other c i j l l' =
      value_paired pairs code (world_of first) (world_of second) firsts seconds alike.0 idle.world.lawful idle'.world.lawful value other c i j (live_there (world_of first).cells code value l.0) (live_there (world_of second).cells code other l'.0)

  roots_paired : (values others : List Value) → AlikeValues pairs values others → AllIn (InReach (world_of first).cells (all_referred firsts)) values → AllIn (InReach (world_of second).cells (all_referred seconds)) others
      → All (IsLiveValue (world_of first).cells code) values → All (IsLiveValue (world_of second).cells code) others → AllPaired Q values others
  roots_paired values others c i j l l' =
      values_paired pairs code (world_of first) (world_of second) firsts seconds alike.0 idle.world.lawful idle'.world.lawful values others c i j (all_live_there (world_of first).cells code values l) (all_live_there (world_of second).cells code others l')

begun_is : (receiver : Value) (sel : Sel) (arguments : List Value) (state : State) → is_idle state ≡ true
    → begun receiver sel arguments state ≡ Pends Hosted (Sending receiver sel arguments (site_at (world_of state).cells None receiver sel)) [] (progress_of state)
begun_is receiver sel arguments state e = rw e refl

-- two sends of a host as they begin
module _ (code : CodeProgram) (grants grants' : Grants) (pairs : Renaming) (receiver other : Value) (sel : Sel) (arguments others : List Value) (first second : State) (valid : Valid code grants first) (valid' : Valid code grants' second)
    (may : MayBegin code receiver sel arguments first) (may' : MayBegin code other sel others second) (alike : StatesAlike pairs (receiver ∷ arguments) (other ∷ others) first second) where
  abbrev R : ℕ → ℕ → Type 0
  R = SendPair pairs (world_of first) (world_of second) (all_referred (receiver ∷ arguments)) (all_referred (other ∷ others))

  pub idle : IdleWorld code grants (progress_of first)
  idle = idle_world code grants first valid may.idle

  pub idle' : IdleWorld code grants' (progress_of second)
  idle' = idle_world code grants' second valid' may'.idle

  level : Abreast R (progress_of first) (progress_of second) (progress_of first) (progress_of second)
  level = abreast_start code grants grants' pairs (receiver ∷ arguments) (other ∷ others) first second idle idle' alike

  pub reached : AllIn (InReach (world_of first).cells (all_referred (receiver ∷ arguments))) (receiver ∷ arguments)
  reached = all_in_from (InReach (world_of first).cells (all_referred (receiver ∷ arguments))) (receiver ∷ arguments) (roots_reached (world_of first).cells (all_referred (receiver ∷ arguments)))

  pub reached' : AllIn (InReach (world_of second).cells (all_referred (other ∷ others))) (other ∷ others)
  reached' = all_in_from (InReach (world_of second).cells (all_referred (other ∷ others))) (other ∷ others) (roots_reached (world_of second).cells (all_referred (other ∷ others)))

  pub received : Paired R receiver other
  received = root_paired code grants grants' pairs (receiver ∷ arguments) (other ∷ others) first second idle idle' alike receiver other alike.0.roots.0 reached.0 reached'.0 may.live may'.live

  pub given : AllPaired R arguments others
  given =
      roots_paired code grants grants' pairs (receiver ∷ arguments) (other ∷ others) first second idle idle' alike arguments others alike.0.roots.1 reached.1
      reached'.1 may.fits.live may'.fits.live

  site : site_at (world_of first).cells None receiver sel ≡ site_at (world_of second).cells None other sel
  site =
      same_site R (progress_of first) (progress_of second) (send_pairing code grants grants' pairs (receiver ∷ arguments) (other ∷ others) first second valid valid' may.idle may'.idle alike.0) (world_of first).cells (world_of second).cells level.heaps None receiver other sel received

  pub begun_paired : StatePaired R (progress_of first) (progress_of second) (begun receiver sel arguments first) (begun other sel others second)
  begun_paired =
      subst (λ s. StatePaired R (progress_of first) (progress_of second) s (begun other sel others second)) (sym (begun_is receiver sel arguments first may.idle))
      (subst (λ s. StatePaired R (progress_of first) (progress_of second) (Pends Hosted (Sending receiver sel arguments (site_at (world_of first).cells None receiver sel)) [] (progress_of first)) s) (sym (begun_is other sel others second may'.idle))
      (tt, (received, refl, given, site), tt, level))
