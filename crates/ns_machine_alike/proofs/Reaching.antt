-- From paired roots on, each cell that is reached in one world has a partner that is reached in the other.
use Rattle.std.proofs.Common.{◌≡◌, ◌⊎◌, inl, inr, ℕ, ◌≤◌, List, [], ◌∷◌, Option, Some, None, false, refl, sym, subst, arith}
use Rattle.std.specs.Prelude.{Contains, IsSome}
use Rattle.ns_world.specs.declared.value.Value.{Value}
use Rattle.ns_world.specs.declared.value.Value.TheVariants.{Nil, True, False, Int, Sym, Kernel, Ref}
use Rattle.ns_world.specs.declared.cell.FacetKind.{FacetKind}
use Rattle.ns_world.specs.declared.cell.FacetKind.TheVariants.{Manifest, Platform, Console, Mirrors, Kernel as KernelFacet, Board}
use Rattle.ns_world.specs.Cell.{Cell, ObjectCell, ClassCell, BlockCell, EnvironmentCell, ArrayCell, TextCell, FacetCell, MirrorCell, MessageCell}
use Rattle.ns_world.specs.Heap.{Heap, heap_size, find_cell, no_class}
use Rattle.ns_world.specs.Seek.{first_such, is_facet, is_top}
use Rattle.ns_world.specs.Reach.{IsInReach, IsRoot, IsHeld, held, all_referred}
use Rattle.ns_moves.specs.Suiting.{is_reference}
use Rattle.ns_moves.specs.Control.{Progress}
use Rattle.ns_machine_reach.specs.Within.{In, AllIn, NumberIn, CellIn}
use Rattle.ns_machine_reach.specs.laws.Holding.{each_has, has_each, all_in_from, from_all_in, cell_from, from_cell}
use Rattle.ns_machine_alike.specs.Paired.{IsPairing, Paired, Partners, Same, AllPaired, NumberPaired, FacetPaired, CellPaired, MaybeCellPaired, HeapPaired}
use Rattle.ns_machine_alike.proofs.There.{there_below}

-- ---- what a cell holds has partners that the other holds

module _ (Pair : ℕ → ℕ → Type 0) (first second : Progress) where
  -- values of the first side have partners in a set
  module _ (Has : ℕ → Type 0) where
    abbrev Forth : ℕ → Type 0
    Forth n = (m : ℕ) × Pair n m × Has m

    forth_value : (value value' : Value) → Paired Pair value value' → In Has value' → In Forth value
    forth_value value value' (Partners n m p) i = (m, p, i)
    forth_value value value' (Same same e) i = by same e
      where
        by : (v : Value) → is_reference v ≡ false → In Forth v
        by Nil e = tt
        by True e = tt
        by False e = tt
        by (Int number) e = tt
        by (Sym sel) e = tt
        by (Kernel class) e = tt
        by (Ref at) e = absurd (cc (e))

    forth_values : (values values' : List Value) → AllPaired Pair values values' → AllIn Has values' → AllIn Forth values
    forth_values [] [] p i = tt
    forth_values (value ∷ values) (value' ∷ values') p i = (forth_value value value' p.0 i.0, forth_values values values' p.1 i.1)
    forth_values [] (value' ∷ values') p i = absurd p
    forth_values (value ∷ values) [] p i = absurd p

    forth_number : (o o' : Option ℕ) → NumberPaired Pair o o' → NumberIn Has o' → NumberIn Forth o
    forth_number (Some n) (Some m) p i = (m, p, i)
    forth_number None None p i = tt
    forth_number (Some n) None p i = absurd p
    forth_number None (Some m) p i = absurd p

    forth_facet : (heap other : Heap) (kind : FacetKind) → FacetPaired Pair heap other kind → CellIn Has other (FacetCell kind) → CellIn Forth heap (FacetCell kind)
    forth_facet heap other Manifest p i = λ decl. forth_number (first_such (is_top decl) heap) (first_such (is_top decl) other) (p decl) (i decl)
    forth_facet heap other Platform p i = λ kind g. forth_number (first_such (is_facet kind) heap) (first_such (is_facet kind) other) (p kind g) (i kind g)
    forth_facet heap other Console p i = tt
    forth_facet heap other Mirrors p i = tt
    forth_facet heap other KernelFacet p i = tt
    forth_facet heap other Board p i = tt

    forth_cell : (heap other : Heap) (cell cell' : Cell) → CellPaired Pair first second heap other cell cell' → CellIn Has other cell' → CellIn Forth heap cell
    forth_cell heap other (ObjectCell class entries) (ObjectCell class' entries') p i = ((class', p.0, i.0), forth_values entries entries' p.1 i.1)
    forth_cell heap other (ClassCell decl base encl holder over) (ClassCell decl' base' encl' holder' over') p i = (forth_value encl encl' p.1 i.0, forth_value holder holder' p.2 i.1, forth_value over over' p.3 i.2)
    forth_cell heap other (BlockCell body env home receiver holder) (BlockCell body' env' home' receiver' holder') p i = (forth_value env env' p.1 i.0, forth_value receiver receiver' p.3 i.1, (holder', p.4, i.2))
    forth_cell heap other (EnvironmentCell parent locals) (EnvironmentCell parent' locals') p i = (forth_value parent parent' p.0 i.0, forth_values locals locals' p.1 i.1)
    forth_cell heap other (ArrayCell items) (ArrayCell items') p i = forth_values items items' p i
    forth_cell heap other (TextCell bytes) (TextCell bytes') p i = tt
    forth_cell heap other (FacetCell kind) (FacetCell kind') p i = forth_facet heap other kind p.1 (subst (λ k. CellIn Has other (FacetCell k)) (sym p.0) i)
    forth_cell heap other (MirrorCell mirrored) (MirrorCell mirrored') p i = forth_value mirrored mirrored' p i
    forth_cell heap other (MessageCell sel args) (MessageCell sel' args') p i = forth_value args args' p.1 i
    forth_cell heap other cell cell' p i = absurd p

    -- and so have those of the second side
    abbrev Back : ℕ → Type 0
    Back m = (n : ℕ) × Pair n m × Has n

    back_value : (value value' : Value) → Paired Pair value value' → In Has value → In Back value'
    back_value value value' (Partners n m p) i = (n, p, i)
    back_value value value' (Same same e) i = by same e
      where
        by : (v : Value) → is_reference v ≡ false → In Back v
        by Nil e = tt
        by True e = tt
        by False e = tt
        by (Int number) e = tt
        by (Sym sel) e = tt
        by (Kernel class) e = tt
        by (Ref at) e = absurd (cc (e))

    back_values : (values values' : List Value) → AllPaired Pair values values' → AllIn Has values → AllIn Back values'
    back_values [] [] p i = tt
    back_values (value ∷ values) (value' ∷ values') p i = (back_value value value' p.0 i.0, back_values values values' p.1 i.1)
    back_values [] (value' ∷ values') p i = absurd p
    back_values (value ∷ values) [] p i = absurd p

    back_number : (o o' : Option ℕ) → NumberPaired Pair o o' → NumberIn Has o → NumberIn Back o'
    back_number (Some n) (Some m) p i = (n, p, i)
    back_number None None p i = tt
    back_number (Some n) None p i = absurd p
    back_number None (Some m) p i = absurd p

    back_facet : (heap other : Heap) (kind : FacetKind) → FacetPaired Pair heap other kind → CellIn Has heap (FacetCell kind) → CellIn Back other (FacetCell kind)
    back_facet heap other Manifest p i = λ decl. back_number (first_such (is_top decl) heap) (first_such (is_top decl) other) (p decl) (i decl)
    back_facet heap other Platform p i = λ kind g. back_number (first_such (is_facet kind) heap) (first_such (is_facet kind) other) (p kind g) (i kind g)
    back_facet heap other Console p i = tt
    back_facet heap other Mirrors p i = tt
    back_facet heap other KernelFacet p i = tt
    back_facet heap other Board p i = tt

    back_cell : (heap other : Heap) (cell cell' : Cell) → CellPaired Pair first second heap other cell cell' → CellIn Has heap cell → CellIn Back other cell'
    back_cell heap other (ObjectCell class entries) (ObjectCell class' entries') p i = ((class, p.0, i.0), back_values entries entries' p.1 i.1)
    back_cell heap other (ClassCell decl base encl holder over) (ClassCell decl' base' encl' holder' over') p i = (back_value encl encl' p.1 i.0, back_value holder holder' p.2 i.1, back_value over over' p.3 i.2)
    back_cell heap other (BlockCell body env home receiver holder) (BlockCell body' env' home' receiver' holder') p i = (back_value env env' p.1 i.0, back_value receiver receiver' p.3 i.1, (holder, p.4, i.2))
    back_cell heap other (EnvironmentCell parent locals) (EnvironmentCell parent' locals') p i = (back_value parent parent' p.0 i.0, back_values locals locals' p.1 i.1)
    back_cell heap other (ArrayCell items) (ArrayCell items') p i = back_values items items' p i
    back_cell heap other (TextCell bytes) (TextCell bytes') p i = tt
    back_cell heap other (FacetCell kind) (FacetCell kind') p i = subst (λ k. CellIn Back other (FacetCell k)) p.0 (back_facet heap other kind p.1 i)
    back_cell heap other (MirrorCell mirrored) (MirrorCell mirrored') p i = back_value mirrored mirrored' p i
    back_cell heap other (MessageCell sel args) (MessageCell sel' args') p i = back_value args args' p.1 i
    back_cell heap other cell cell' p i = absurd p

-- ---- reaches

-- a set with what a list has, and the number of no class
abbrev Among : List ℕ → ℕ → Type 0
Among ns n = Contains ns n ⊎ (n ≡ no_class)

module _ (Pair : ℕ → ℕ → Type 0) (first second : Progress) (pairing : IsPairing Pair first.world second.world) (heap other : Heap) (h : HeapPaired Pair first second heap other) (small : heap_size heap ≤ no_class) (small' : heap_size other ≤ no_class) where
  -- partners are there both
  there_forth : (n m : ℕ) → Pair n m → IsSome (find_cell heap n) → IsSome (find_cell other m)
  there_forth n m p s = by (find_cell heap n) (find_cell other m) (h.cells n m p) s
    where
      by : (o o' : Option Cell) → MaybeCellPaired Pair first second heap other o o' → IsSome o → IsSome o'
      by (Some cell) (Some cell') q s = refl
      by (Some cell) None q s = absurd q
      by None o' q s = absurd (cc (s))

  there_back : (n m : ℕ) → Pair n m → IsSome (find_cell other m) → IsSome (find_cell heap n)
  there_back n m p s = by (find_cell heap n) (find_cell other m) (h.cells n m p) s
    where
      by : (o o' : Option Cell) → MaybeCellPaired Pair first second heap other o o' → IsSome o' → IsSome o
      by (Some cell) (Some cell') q s = refl
      by None (Some cell') q s = absurd q
      by o None q s = absurd (cc (s))

  -- the cells of partners
  pub record BothCells (n m : ℕ) (cell : Cell) : Type 0 where
    pub cell' : Cell
    pub is : find_cell other m ≡ Some cell'
    pub paired : CellPaired Pair first second heap other cell cell'

  pub both_cells : (n m : ℕ) (cell : Cell) → Pair n m → find_cell heap n ≡ Some cell → BothCells n m cell
  both_cells n m cell p e = by (find_cell other m) refl (subst (λ o. MaybeCellPaired Pair first second heap other o (find_cell other m)) e (h.cells n m p))
    where
      by : (o' : Option Cell) → find_cell other m ≡ o' → MaybeCellPaired Pair first second heap other (Some cell) o' → BothCells n m cell
      by (Some cell') f q = record { cell' = cell'; is = f; paired = q }
      by None f q = absurd q

  pub record OtherCell (n m : ℕ) (cell' : Cell) : Type 0 where
    pub cell : Cell
    pub is : find_cell heap n ≡ Some cell
    pub paired : CellPaired Pair first second heap other cell cell'

  pub other_cell : (n m : ℕ) (cell' : Cell) → Pair n m → find_cell other m ≡ Some cell' → OtherCell n m cell'
  other_cell n m cell' p e = by (find_cell heap n) refl (subst (MaybeCellPaired Pair first second heap other (find_cell heap n)) e (h.cells n m p))
    where
      by : (o : Option Cell) → find_cell heap n ≡ o → MaybeCellPaired Pair first second heap other o (Some cell') → OtherCell n m cell'
      by (Some cell) f q = record { cell = cell; is = f; paired = q }
      by None f q = absurd q

  -- a partner among what the other holds
  among_held : (ms : List ℕ) (n : ℕ) → IsSome (find_cell heap n) → Forth Pair first second (Among ms) n → (m : ℕ) × Pair n m × Contains ms m
  among_held ms n s (m, p, inl c) = (m, p, c)
  among_held ms n s (m, p, inr e) = absurd (let t = there_below other m (there_forth n m p s) in omega (arith, t, e, small'))

  among_held_back : (ns : List ℕ) (m : ℕ) → IsSome (find_cell other m) → Back Pair first second (Among ns) m → (n : ℕ) × Pair n m × Contains ns n
  among_held_back ns m s (n, p, inl c) = (n, p, c)
  among_held_back ns m s (n, p, inr e) = absurd (let t = there_below heap n (there_back n m p s) in omega (arith, t, e, small))

  held_forth : (cell cell' : Cell) (n : ℕ) → CellPaired Pair first second heap other cell cell' → Contains (held heap cell) n → IsSome (find_cell heap n) → (m : ℕ) × Pair n m × Contains (held other cell') m
  held_forth cell cell' n p c s =
      among_held (held other cell') n s
      (has_each (Forth Pair first second (Among (held other cell'))) (held heap cell) n
      (from_cell (Forth Pair first second (Among (held other cell'))) heap cell
      (forth_cell Pair first second (Among (held other cell')) heap other cell cell' p (cell_from (Among (held other cell')) other cell' (inr refl) (each_has (Among (held other cell')) (held other cell') (λ m d. inl d))))) c)

  held_back : (cell cell' : Cell) (m : ℕ) → CellPaired Pair first second heap other cell cell' → Contains (held other cell') m → IsSome (find_cell other m) → (n : ℕ) × Pair n m × Contains (held heap cell) n
  held_back cell cell' m p c s =
      among_held_back (held heap cell) m s
      (has_each (Back Pair first second (Among (held heap cell))) (held other cell') m
      (from_cell (Back Pair first second (Among (held heap cell))) other cell'
      (back_cell Pair first second (Among (held heap cell)) heap other cell cell' p (cell_from (Among (held heap cell)) heap cell (inr refl) (each_has (Among (held heap cell)) (held heap cell) (λ n d. inl d))))) c)

  module _ (roots others : List Value) (paired : AllPaired Pair roots others) where
    root_forth : (n : ℕ) → Contains (all_referred roots) n → IsSome (find_cell heap n) → (m : ℕ) × Pair n m × Contains (all_referred others) m
    root_forth n c s =
        among_held (all_referred others) n s
        (has_each (Forth Pair first second (Among (all_referred others))) (all_referred roots) n
        (from_all_in (Forth Pair first second (Among (all_referred others))) roots
        (forth_values Pair first second (Among (all_referred others)) roots others paired (all_in_from (Among (all_referred others)) others (each_has (Among (all_referred others)) (all_referred others) (λ m d. inl d))))) c)

    root_back : (m : ℕ) → Contains (all_referred others) m → IsSome (find_cell other m) → (n : ℕ) × Pair n m × Contains (all_referred roots) n
    root_back m c s =
        among_held_back (all_referred roots) m s
        (has_each (Back Pair first second (Among (all_referred roots))) (all_referred others) m
        (from_all_in (Back Pair first second (Among (all_referred roots))) others
        (back_values Pair first second (Among (all_referred roots)) roots others paired (all_in_from (Among (all_referred roots)) roots (each_has (Among (all_referred roots)) (all_referred roots) (λ n d. inl d))))) c)

    -- each cell that is reached has a partner that is
    pub reach_forth : (n : ℕ) → IsInReach heap (all_referred roots) n → (m : ℕ) × Pair n m × IsInReach other (all_referred others) m
    reach_forth n (IsRoot number among some) =
        let r = root_forth number among some in (r.0, r.1, IsRoot r.0 r.2 (there_forth number r.0 r.1 some))
    reach_forth n (IsHeld from number cell before is among some) =
        let below = reach_forth from before in
        let both = both_cells from below.0 cell below.1 is in
        let r = held_forth cell both.cell' number both.paired among some in
        (r.0, r.1, IsHeld below.0 r.0 both.cell' below.2 both.is r.2 (there_forth number r.0 r.1 some))

    pub reach_back : (m : ℕ) → IsInReach other (all_referred others) m → (n : ℕ) × Pair n m × IsInReach heap (all_referred roots) n
    reach_back m (IsRoot number among some) =
        let r = root_back number among some in (r.0, r.1, IsRoot r.0 r.2 (there_back r.0 number r.1 some))
    reach_back m (IsHeld from number cell' before is among some) =
        let below = reach_back from before in
        let both = other_cell below.0 from cell' below.1 is in
        let r = held_back both.cell cell' number both.paired among some in
        (r.0, r.1, IsHeld below.0 r.0 both.cell below.2 both.is r.2 (there_back r.0 number r.1 some))
