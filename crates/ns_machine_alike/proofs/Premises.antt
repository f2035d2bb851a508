-- What makes states alike from the roots of a send on: plain arguments add nothing, boards out of reach may differ, and what alike
-- roots reach is alike.
use Rattle.std.proofs.Common.{◌≡◌, ℕ, ◌≤◌, List, [], ◌∷◌, ◌++◌, true, false, refl, sym, ap, subst, arith}
use Rattle.std.specs.Prelude.{Contains, IsSome}
use Rattle.ns_code.specs.declared.program.CodeProgram.{CodeProgram}
use Rattle.ns_facets.specs.declared.row.Grants.{Grants}
use Rattle.ns_world.specs.declared.value.Value.{Value}
use Rattle.ns_world.specs.declared.value.Value.TheVariants.{Nil, True, False, Int, Sym, Kernel, Ref}
use Rattle.ns_world.specs.Heap.{Heap, heap_size, find_cell, no_class}
use Rattle.ns_world.specs.Reach.{IsInReach, referred, all_referred}
use Rattle.ns_world.specs.Alike.{Renaming, AlikeValue, AlikeValues}
use Rattle.ns_moves.specs.Suiting.{is_reference}
use Rattle.ns_moves.specs.State.{State, is_idle, progress_of, world_of}
use Rattle.ns_moves.specs.Valid.{Valid}
use Rattle.ns_machine_reach.specs.Within.{In, AllIn}
use Rattle.ns_machine_reach.specs.laws.Holding.{each_has, all_in_from}
use Rattle.ns_machine_alike.specs.Paired.{IsPairing, Paired, Partners, Same, AllPaired, HeapPaired}
use Rattle.ns_machine_alike.specs.Isolated.{SendPair, Earlier, Made, NoClass, StatesAlike}
use Rattle.ns_machine_alike.specs.Premises.{ArePlain, PlainArgumentsAddNothing, UnreachedBoardsMayDiffer, ReachedValuesAreAlike}
use Rattle.ns_machine_alike.proofs.There.{reach_there, there_below}
use Rattle.ns_machine_alike.proofs.Matching.{first_once}
use Rattle.ns_machine_alike.proofs.Starting.{IdleWorld, idle_world, send_pairing, heaps_start}
use Rattle.ns_machine_alike.proofs.Reaching.{reach_forth, reach_back}

-- ---- plain arguments

plain_first : (value : Value) (ns : List ℕ) → is_reference value ≡ false → ns ≡ [] → referred value ++ ns ≡ []
plain_first Nil ns plain e = e
plain_first True ns plain e = e
plain_first False ns plain e = e
plain_first (Int number) ns plain e = e
plain_first (Sym sel) ns plain e = e
plain_first (Kernel class) ns plain e = e
plain_first (Ref at) ns plain e = absurd (cc (plain))

pub plain_referred : (arguments : List Value) → ArePlain arguments → all_referred arguments ≡ []
plain_referred [] plain = refl
plain_referred (value ∷ arguments) plain = plain_first value (all_referred arguments) plain.0 (plain_referred arguments plain.1)

plain_value : (pairs : Renaming) (value : Value) → is_reference value ≡ false → AlikeValue pairs value value
plain_value pairs Nil plain = refl
plain_value pairs True plain = refl
plain_value pairs False plain = refl
plain_value pairs (Int number) plain = refl
plain_value pairs (Sym sel) plain = refl
plain_value pairs (Kernel class) plain = refl
plain_value pairs (Ref at) plain = absurd (cc (plain))

plain_values : (pairs : Renaming) (values : List Value) → ArePlain values → AlikeValues pairs values values
plain_values pairs [] plain = tt
plain_values pairs (value ∷ values) plain = (plain_value pairs value plain.0, plain_values pairs values plain.1)

-- states are alike from roots that name the same cells
module _ (pairs : Renaming) (firsts seconds values others : List Value) (first second : State) (alike : StatesAlike pairs firsts seconds first second) (e : all_referred firsts ≡ all_referred values) (f : all_referred seconds ≡ all_referred others) where
  abbrev one : Heap
  one = (world_of first).cells

  abbrev two : Heap
  two = (world_of second).cells

  into : (number : ℕ) → IsInReach one (all_referred values) number → IsInReach one (all_referred firsts) number
  into number r = subst (λ ns. IsInReach one ns number) (sym e) r

  same_cells : AlikeValues pairs values others → StatesAlike pairs values others first second
  same_cells roots = (
    record {
      once_first = alike.0.once_first;
      once_second = alike.0.once_second;
      onto = λ number r. let on = alike.0.onto number (into number r) in (on.0, on.1, subst (λ ns. IsInReach two ns on.0) f on.2);
      back = λ other r. let on = alike.0.back other (subst (λ ns. IsInReach two ns other) (sym f) r) in (on.0, on.1, subst (λ ns. IsInReach one ns on.0) e on.2);
      cells = λ number other c r. alike.0.cells number other c (into number r);
      roots = roots;
      steps = alike.0.steps;
      room = alike.0.room;
      depth = alike.0.depth;
      out = alike.0.out;
    },
    λ number r b. alike.1 number (into number r) b,
  )

pub plain_alike : PlainArgumentsAddNothing
plain_alike pairs receiver other arguments first second plain alike =
    let none = sym (plain_referred arguments plain) in
    same_cells pairs (receiver ∷ []) (other ∷ []) (receiver ∷ arguments) (other ∷ arguments) first second alike (ap (λ ns. referred receiver ++ ns) none) (ap (λ ns. referred other ++ ns) none)
    (alike.0.roots.0, plain_values pairs arguments plain)

-- ---- the board

pub boards_differ : UnreachedBoardsMayDiffer
boards_differ pairs firsts seconds first second lacks alike = (alike, λ number reached board. absurd (lacks number reached board))

-- ---- what alike roots reach

module _ (code : CodeProgram) (grants grants' : Grants) (pairs : Renaming) (firsts seconds values others : List Value) (first second : State) (valid : Valid code grants first) (valid' : Valid code grants' second) (idle : is_idle first ≡ true)
    (idle' : is_idle second ≡ true) (alike : StatesAlike pairs firsts seconds first second) (roots : AlikeValues pairs values others) (reached : (number : ℕ) → Contains (all_referred values) number → IsInReach (world_of first).cells (all_referred firsts) number)
  where
    abbrev Q : ℕ → ℕ → Type 0
    Q = SendPair pairs (world_of first) (world_of second) (all_referred firsts) (all_referred seconds)

    abbrev Reached : ℕ → Type 0
    Reached = IsInReach (world_of first).cells (all_referred firsts)

    idle_first : IdleWorld code grants (progress_of first)
    idle_first = idle_world code grants first valid idle

    idle_second : IdleWorld code grants' (progress_of second)
    idle_second = idle_world code grants' second valid' idle'

    small : heap_size (world_of first).cells ≤ no_class
    small = omega (arith, idle_first.world.lawful.within.cells, idle_first.world.lawful.within.limits.1.1)

    small' : heap_size (world_of second).cells ≤ no_class
    small' = omega (arith, idle_second.world.lawful.within.cells, idle_second.world.lawful.within.limits.1.1)

    pairing : IsPairing Q (world_of first) (world_of second)
    pairing = send_pairing code grants grants' pairs firsts seconds first second valid valid' idle idle' alike.0

    heaps : HeapPaired Q (progress_of first) (progress_of second) (world_of first).cells (world_of second).cells
    heaps = heaps_start code grants grants' pairs firsts seconds first second idle_first idle_second alike

    value_on : (value other : Value) → AlikeValue pairs value other → In Reached value → Paired Q value other
    value_on (Ref n) (Ref m) c r =
        let on = alike.0.onto n r in
        let same : on.0 ≡ m = first_once pairs n on.0 m alike.0.once_first on.1 c in
        Partners n m (Earlier c r (subst (IsInReach (world_of second).cells (all_referred seconds)) same on.2))
    value_on (Ref n) other c r = absurd c
    value_on Nil other c r = subst (Paired Q Nil) c (Same Nil refl)
    value_on True other c r = subst (Paired Q True) c (Same True refl)
    value_on False other c r = subst (Paired Q False) c (Same False refl)
    value_on (Int number) other c r = subst (Paired Q (Int number)) c (Same (Int number) refl)
    value_on (Sym sel) other c r = subst (Paired Q (Sym sel)) c (Same (Sym sel) refl)
    value_on (Kernel class) other c r = subst (Paired Q (Kernel class)) c (Same (Kernel class) refl)

    values_on : (some partners : List Value) → AlikeValues pairs some partners → AllIn Reached some → AllPaired Q some partners
    values_on [] [] c r = tt
    values_on (value ∷ some) (other ∷ partners) c r = (value_on value other c.0 r.0, values_on some partners c.1 r.1)
    values_on [] (other ∷ partners) c r = absurd c
    values_on (value ∷ some) [] c r = absurd c

    paired : AllPaired Q values others
    paired = values_on values others roots (all_in_from Reached values (each_has Reached (all_referred values) reached))

    -- partners of which one is there are those of the renaming
    earlier : (n m : ℕ) → Q n m → IsSome (find_cell (world_of first).cells n) → Contains pairs (n, m) × Reached n
    earlier n m (Earlier c r r') some = (c, r)
    earlier n m (Made k e e' less) some = absurd (let b = there_below (world_of first).cells n some in omega (arith, b, e))
    earlier n m (NoClass e e') some = absurd (let b = there_below (world_of first).cells n some in omega (arith, b, e, small))

    forth : (n : ℕ) → IsInReach (world_of first).cells (all_referred values) n → (m : ℕ) × Q n m × IsInReach (world_of second).cells (all_referred others) m
    forth n r = reach_forth Q (progress_of first) (progress_of second) pairing (world_of first).cells (world_of second).cells heaps small small' values others paired n r

    back : (m : ℕ) → IsInReach (world_of second).cells (all_referred others) m → (n : ℕ) × Q n m × IsInReach (world_of first).cells (all_referred values) n
    back m r = reach_back Q (progress_of first) (progress_of second) pairing (world_of first).cells (world_of second).cells heaps small small' values others paired m r

    known : (n : ℕ) → IsInReach (world_of first).cells (all_referred values) n → Reached n
    known n r = let f = forth n r in (earlier n f.0 f.1 (reach_there (world_of first).cells (all_referred values) n r)).1

    from_reached : StatesAlike pairs values others first second
    from_reached = (
      record {
        once_first = alike.0.once_first;
        once_second = alike.0.once_second;
        onto = λ n r. let f = forth n r in (f.0, (earlier n f.0 f.1 (reach_there (world_of first).cells (all_referred values) n r)).0, f.2);
        back = λ m r. let f = back m r in (f.0, (earlier f.0 m f.1 (reach_there (world_of first).cells (all_referred values) f.0 f.2)).0, f.2);
        cells = λ n m c r. alike.0.cells n m c (known n r);
        roots = roots;
        steps = alike.0.steps;
        room = alike.0.room;
        depth = alike.0.depth;
        out = alike.0.out;
      },
      λ n r b. alike.1 n (known n r) b,
    )

pub reached_alike : (code : CodeProgram) (grants grants' : Grants) → ReachedValuesAreAlike code grants grants'
reached_alike code grants grants' pairs firsts seconds values others first second valid valid' idle idle' alike roots reached =
    from_reached code grants grants' pairs firsts seconds values others first second valid valid' idle idle' alike roots reached
