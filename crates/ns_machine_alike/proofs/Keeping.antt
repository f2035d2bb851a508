-- Two runs stay abreast where both make paired cells, or write paired words in partners.
use Rattle.std.proofs.Common.{◌≡◌, ◌≢◌, ℕ, ◌+◌, ◌≤◌, [], ◌∷◌, Option, Some, None, Bool, true, false, cond, eqb, refl, sym, ap, ◌∙◌, subst, arith}
use Rattle.std.specs.Prelude.{nat_le, ◌==◌, is_some}
use Rattle.std.specs.Option.{option_map}
use Rattle.std.proofs.lemmas.Bool.{eqb-true, eq-eqb, leb-true}
use Rattle.ns_base.specs.declared.limits.Limits.{Limits}
use Rattle.ns_world.specs.declared.value.Value.{Value}
use Rattle.ns_world.specs.declared.value.Value.TheVariants.{Nil, True, False, Int, Sym, Kernel, Ref}
use Rattle.ns_world.specs.declared.cell.FacetKind.{FacetKind}
use Rattle.ns_world.specs.declared.cell.FacetKind.TheVariants.{Manifest, Platform, Console, Mirrors, Kernel as KernelFacet, Board}
use Rattle.ns_world.specs.declared.ending.LimitKind.TheVariants.{Cells}
use Rattle.ns_world.specs.declared.ending.Ending.{Ending}
use Rattle.ns_world.specs.declared.ending.Ending.TheVariants.{Limit}
use Rattle.ns_world.specs.Cell.{Cell, ObjectCell, ClassCell, BlockCell, EnvironmentCell, ArrayCell, TextCell, FacetCell, MirrorCell, MessageCell, cell_size, with_word}
use Rattle.ns_world.specs.Heap.{Heap, heap_size, find_cell, set_cell, write_word, chain_of, chain_at, chain_above}
use Rattle.ns_world.specs.Seek.{first_such, earlier_or, is_facet, is_top}
use Rattle.ns_world.specs.World.{World, made, written}
use Rattle.ns_world.specs.laws.Changing.{found_old, set_here, word_plainly, writing_leaves}
use Rattle.ns_world.specs.laws.Chains.{found_below, size_above}
use Rattle.ns_world.specs.laws.Firsts.{facets_after_word, tops_after_word}
use Rattle.ns_moves.specs.Suiting.{is_reference}
use Rattle.ns_moves.specs.Control.{Progress, in_world, charged}
use Rattle.ns_machine_alike.specs.Paired.{IsPairing, Paired, Partners, Same, NumberPaired, NumbersPaired, FacetPaired, CellPaired, MaybeCellPaired, HeapPaired, Abreast}
use Rattle.ns_machine_alike.proofs.Values.{cond_so, same_size, same_top, same_facet, word_paired}
use Rattle.ns_machine_alike.proofs.Charging.{charged_so, some_if, made_is, made_fits, same_bool, same_le}

-- ---- cells that are found after others were made or written

-- a cell is found when more are made
pub found_more : (heap : Heap) (more : Cell) (n : ℕ) (cell : Cell) → find_cell heap n ≡ Some cell → find_cell (more ∷ heap) n ≡ Some cell
found_more heap more n cell e = found_old heap more n (λ q. let below = found_below heap n cell e in absurd (omega (arith, below, q))) ∙ e

-- the cell that is found after a word was written
pub found_written : (heap : Heap) (at word : ℕ) (value : Value) (n : ℕ)
    → find_cell (write_word heap at word value) n ≡ cond (n == at) (option_map (λ cell. with_word cell word value) (find_cell heap at)) (find_cell heap n)
found_written heap at word value n = by (n == at) refl (find_cell heap at) refl
  where
    after : Heap
    after = write_word heap at word value

    by : (b : Bool) → (n == at) ≡ b → (o : Option Cell) → find_cell heap at ≡ o → find_cell after n ≡ cond b (option_map (λ cell. with_word cell word value) o) (find_cell heap n)
    by true t None f =
        let same : after ≡ heap = rw f refl in
        ap (λ h. find_cell h n) same ∙ (ap (find_cell heap) (eqb-true n at t) ∙ f)
    by true t (Some old) f =
        let is : after ≡ set_cell heap at (with_word old word value) = rw f refl in
        ap (find_cell after) (eqb-true n at t) ∙ (ap (λ h. find_cell h at) is ∙ set_here heap at old (with_word old word value) f ((word_plainly word value).size old))
    by false t o f = (writing_leaves heap at word value).others n (λ q. let x : (n == at) ≡ true = eq-eqb n at q in absurd (cc))

-- a facet is no other cell's written form
pub facet_word : (cell : Cell) (word : ℕ) (value : Value) (kind : FacetKind) → with_word cell word value ≡ FacetCell kind →
    cell ≡ FacetCell kind
facet_word (ObjectCell class entries) word value kind e = absurd (cc (e))
facet_word (ClassCell decl base encl holder over) word value kind e = e
facet_word (BlockCell body env home receiver holder) word value kind e = e
facet_word (EnvironmentCell parent locals) word value kind e = absurd (cc (e))
facet_word (ArrayCell items) word value kind e = absurd (cc (e))
facet_word (TextCell bytes) word value kind e = e
facet_word (FacetCell other) word value kind e = e
facet_word (MirrorCell mirrored) word value kind e = e
facet_word (MessageCell sel args) word value kind e = e

set_itself : (heap : Heap) (at : ℕ) (cell : Cell) → find_cell heap at ≡ Some cell → set_cell heap at cell ≡ heap
set_itself [] at cell e = refl
set_itself (newest ∷ earlier) at cell e = by (eqb at (heap_size earlier)) e (set_itself earlier at cell)
  where
    by : (b : Bool) → cond b (Some newest) (find_cell earlier at) ≡ Some cell → (find_cell earlier at ≡ Some cell → set_cell earlier at cell ≡ earlier) → cond b (cell ∷ earlier) (newest ∷ set_cell earlier at cell) ≡ newest ∷ earlier
    by true f below = ap (λ c. c ∷ earlier) (let is : cell ≡ newest = cc in is)
    by false f below = ap (λ cs. newest ∷ cs) (below f)

-- a word of Manifest that is written changes no cell
pub manifest_unwritten : (heap : Heap) (word : ℕ) (value : Value) → find_cell heap 0 ≡ Some (FacetCell Manifest) →
    write_word heap 0 word value ≡ heap
manifest_unwritten heap word value e =
    let after : write_word heap 0 word value ≡ set_cell heap 0 (FacetCell Manifest) = rw e refl in
    after ∙ set_itself heap 0 (FacetCell Manifest) e

manifest_written : (heap : Heap) (at word : ℕ) (value : Value) → find_cell heap 0 ≡ Some (FacetCell Manifest) →
    find_cell (write_word heap at word value) 0 ≡ Some (FacetCell Manifest)
manifest_written heap at word value e = by (eqb 0 at) refl
  where
    by : (b : Bool) → eqb 0 at ≡ b → find_cell (write_word heap at word value) 0 ≡ Some (FacetCell Manifest)
    by true t =
        let is : at ≡ 0 = sym (eqb-true 0 at t) in
        ap (λ k. find_cell (write_word heap k word value) 0) is ∙ (ap (λ h. find_cell h 0) (manifest_unwritten heap word value e) ∙ e)
    by false t = (writing_leaves heap at word value).others 0 (λ q. let x : eqb 0 at ≡ true = eq-eqb 0 at q in absurd (cc)) ∙ e

-- the cell is no Board
abbrev pub NoBoard : Cell → Type 0
NoBoard cell = cell ≢ FacetCell Board

module _ (Pair : ℕ → ℕ → Type 0) (first second : Progress) (pairing : IsPairing Pair first.world second.world) where
  -- ---- the same partner

  pub same_number : (n m n' m' : ℕ) → Pair n m → Pair n' m' → (n == n') ≡ (m == m')
  same_number n m n' m' p q =
      same_bool (n == n') (m == m') (λ t. eq-eqb m m' (pairing.forth n m m' p (subst (λ k. Pair k m') (sym (eqb-true n n' t)) q)))
      (λ t. eq-eqb n n' (pairing.back n n' m p (subst (λ k. Pair n' k) (sym (eqb-true m m' t)) q)))

  -- ---- a cell more in both

  -- the next two numbers are partners, where the next cell fits
  next_partners : (one two : Progress) (cell : Cell) (world : World) → made one.world cell ≡ Some world → Abreast Pair first second one two → Pair (heap_size one.world.cells) (heap_size two.world.cells)
  next_partners one two cell world e a =
      let fits : heap_size one.world.cells + cell_size cell ≤ one.world.limits.cells = leb-true (heap_size one.world.cells + cell_size cell) one.world.limits.cells (made_fits one.world cell world e) in
      let same : one.world.limits.cells ≡ first.world.limits.cells = ap (λ (l : Limits). l.cells) a.limits in
      subst (λ n. Pair n (heap_size two.world.cells)) (sym a.size) (subst (λ m. Pair (heap_size first.world.cells + a.made) m) (sym a.other_size)
      (pairing.later a.made (omega (arith, fits, same, a.size, size_above cell))))

  first_more : (test : Cell → Bool) (heap other : Heap) (cell cell' : Cell) → test cell ≡ test cell' → Pair (heap_size heap) (heap_size other) → NumberPaired Pair (first_such test heap) (first_such test other)
      → NumberPaired Pair (first_such test (cell ∷ heap)) (first_such test (cell' ∷ other))
  first_more test heap other cell cell' e new p = by (first_such test heap) (first_such test other) (test cell) (test cell') e p
    where
      by : (o o' : Option ℕ) (b c : Bool) → b ≡ c → NumberPaired Pair o o' → NumberPaired Pair (earlier_or o (cond b (Some (heap_size heap)) None)) (earlier_or o' (cond c (Some (heap_size other)) None))
      by (Some n) (Some m) b c e q = q
      by None (Some m) b c e q = absurd q
      by (Some n) None b c e q = absurd q
      by None None true true e q = new
      by None None false false e q = tt
      by None None true false e q = absurd (cc (e))
      by None None false true e q = absurd (cc (e))

  -- firsts that are paired in some heaps and in others
  abbrev FirstsMove : Heap → Heap → Heap → Heap → Type 0
  FirstsMove heap other heap' other' =
      ((decl : ℕ) → NumberPaired Pair (first_such (is_top decl) heap) (first_such (is_top decl) other) → NumberPaired Pair (first_such (is_top decl) heap') (first_such (is_top decl) other'))
      × ((kind : FacetKind) → NumberPaired Pair (first_such (is_facet kind) heap) (first_such (is_facet kind) other) → NumberPaired Pair (first_such (is_facet kind) heap') (first_such (is_facet kind) other'))

  facet_moves : (heap other heap' other' : Heap) (kind : FacetKind) → FirstsMove heap other heap' other' → FacetPaired Pair heap other kind → FacetPaired Pair heap' other' kind
  facet_moves heap other heap' other' Manifest f p = λ decl. f.0 decl (p decl)
  facet_moves heap other heap' other' Platform f p = λ kind granted. f.1 kind (p kind granted)
  facet_moves heap other heap' other' Console f p = tt
  facet_moves heap other heap' other' Mirrors f p = tt
  facet_moves heap other heap' other' KernelFacet f p = tt
  facet_moves heap other heap' other' Board f p = tt

  cell_moves : (heap other heap' other' : Heap) (cell cell' : Cell) → FirstsMove heap other heap' other' → CellPaired Pair first second heap other cell cell' → CellPaired Pair first second heap' other' cell cell'
  cell_moves heap other heap' other' (ObjectCell class entries) (ObjectCell class' entries') f p = p
  cell_moves heap other heap' other' (ClassCell decl base encl holder over) (ClassCell decl' base' encl' holder' over') f p = p
  cell_moves heap other heap' other' (BlockCell body env home receiver holder) (BlockCell body' env' home' receiver' holder') f p = p
  cell_moves heap other heap' other' (EnvironmentCell parent locals) (EnvironmentCell parent' locals') f p = p
  cell_moves heap other heap' other' (ArrayCell items) (ArrayCell items') f p = p
  cell_moves heap other heap' other' (TextCell bytes) (TextCell bytes') f p = p
  cell_moves heap other heap' other' (FacetCell kind) (FacetCell kind') f p = (p.0, facet_moves heap other heap' other' kind f p.1)
  cell_moves heap other heap' other' (MirrorCell mirrored) (MirrorCell mirrored') f p = p
  cell_moves heap other heap' other' (MessageCell sel args) (MessageCell sel' args') f p = p
  cell_moves heap other heap' other' cell cell' f p = absurd p

  maybe_moves : (heap other heap' other' : Heap) (o o' : Option Cell) → FirstsMove heap other heap' other' → MaybeCellPaired Pair first second heap other o o' → MaybeCellPaired Pair first second heap' other' o o'
  maybe_moves heap other heap' other' None None f p = tt
  maybe_moves heap other heap' other' None (Some cell') f p = absurd p
  maybe_moves heap other heap' other' (Some cell) None f p = absurd p
  maybe_moves heap other heap' other' (Some cell) (Some cell') f p = cell_moves heap other heap' other' cell cell' f p

  -- the chains of a class and its partner that are made
  above_paired : (heap other : Heap) (over over' : Value) → HeapPaired Pair first second heap other → Paired Pair over over' → NumbersPaired Pair (chain_above over (chain_of heap)) (chain_above over' (chain_of other))
  above_paired heap other over over' h (Partners n m p) = h.chains n m p
  above_paired heap other over over' h (Same value e) = none value e
    where
      none : (v : Value) → is_reference v ≡ false → NumbersPaired Pair (chain_above v (chain_of heap)) (chain_above v (chain_of other))
      none Nil e = tt
      none True e = tt
      none False e = tt
      none (Int number) e = tt
      none (Sym sel) e = tt
      none (Kernel class) e = tt
      none (Ref at) e = absurd (cc (e))

  chain_paired : (heap other : Heap) (cell cell' : Cell) (n m : ℕ) → HeapPaired Pair first second heap other → Pair n m → CellPaired Pair first second heap other cell cell'
      → NumbersPaired Pair (chain_at cell n (chain_of heap)) (chain_at cell' m (chain_of other))
  chain_paired heap other (ClassCell decl base encl holder over) (ClassCell decl' base' encl' holder' over') n m h new p = (new, above_paired heap other over over' h p.3)
  chain_paired heap other (ObjectCell class entries) (ObjectCell class' entries') n m h new p = tt
  chain_paired heap other (BlockCell body env home receiver holder) (BlockCell body' env' home' receiver' holder') n m h new p = tt
  chain_paired heap other (EnvironmentCell parent locals) (EnvironmentCell parent' locals') n m h new p = tt
  chain_paired heap other (ArrayCell items) (ArrayCell items') n m h new p = tt
  chain_paired heap other (TextCell bytes) (TextCell bytes') n m h new p = tt
  chain_paired heap other (FacetCell kind) (FacetCell kind') n m h new p = tt
  chain_paired heap other (MirrorCell mirrored) (MirrorCell mirrored') n m h new p = tt
  chain_paired heap other (MessageCell sel args) (MessageCell sel' args') n m h new p = tt
  chain_paired heap other cell cell' n m h new p = absurd p

  heap_more : (heap other : Heap) (cell cell' : Cell) → Pair (heap_size heap) (heap_size other) → CellPaired Pair first second heap other cell cell' → HeapPaired Pair first second heap other
      → HeapPaired Pair first second (cell ∷ heap) (cell' ∷ other)
  heap_more heap other cell cell' new p h = record {
    cells = λ n m q. cond_so (MaybeCellPaired Pair first second (cell ∷ heap) (cell' ∷ other)) (n == heap_size heap) (m == heap_size other) (Some cell) (find_cell heap n) (Some cell') (find_cell other m)
        (same_number n m (heap_size heap) (heap_size other) q new) (λ t. cell_moves heap other (cell ∷ heap) (cell' ∷ other) cell cell' moves p)
        (λ t. maybe_moves heap other (cell ∷ heap) (cell' ∷ other) (find_cell heap n) (find_cell other m) moves (h.cells n m q));
    chains = λ n m q. cond_so (NumbersPaired Pair) (n == heap_size heap) (m == heap_size other) (chain_at cell n (chain_of heap)) (chain_of heap n) (chain_at cell' m (chain_of other)) (chain_of other m)
        (same_number n m (heap_size heap) (heap_size other) q new) (λ t. chain_paired heap other cell cell' n m h q p) (λ t. h.chains n m q);
    manifest = found_more heap cell 0 (FacetCell Manifest) h.manifest;
    other_manifest = found_more other cell' 0 (FacetCell Manifest) h.other_manifest;
  }
    where
      moves : FirstsMove heap other (cell ∷ heap) (cell' ∷ other)
      moves = (
        λ decl q. first_more (is_top decl) heap other cell cell' (same_top Pair first second heap other decl cell cell' p) new q,
        λ kind q. first_more (is_facet kind) heap other cell cell' (same_facet Pair first second heap other kind cell cell' p) new q,
      )

  more_abreast : (one two : Progress) (cell cell' : Cell) → Pair (heap_size one.world.cells) (heap_size two.world.cells) → CellPaired Pair first second one.world.cells two.world.cells cell cell' → NoBoard cell
      → Abreast Pair first second one two → Abreast Pair first second (in_world one (record one.world { cells = cell ∷ one.world.cells })) (in_world two (record two.world { cells = cell' ∷ two.world.cells }))
  more_abreast one two cell cell' new p plain a = record {
    heaps = heap_more one.world.cells two.world.cells cell cell' new p a.heaps;
    made = a.made + cell_size cell;
    size = omega (arith, a.size);
    other_size = omega (arith, a.other_size, same_size Pair first second one.world.cells two.world.cells cell cell' p);
    begun = a.begun;
    begins = a.begins;
    other_begins = a.other_begins;
    printed = a.printed;
    prints = a.prints;
    other_prints = a.other_prints;
    limits = a.limits;
    other_limits = a.other_limits;
    steps = a.steps;
    room = omega (arith, a.room, same_size Pair first second one.world.cells two.world.cells cell cell' p);
    depth = a.depth;
    deepest = a.deepest;
    out = a.out;
    within = a.within;
    other_within = a.other_within;
    board = λ n m q e. by (n == heap_size one.world.cells) n m q e;
  }
    where
      by : (b : Bool) (n m : ℕ) → Pair n m → cond b (Some cell) (find_cell one.world.cells n) ≡ Some (FacetCell Board) → one.board ≡ two.board
      by true n m q e = absurd (plain (cc (e)))
      by false n m q e = a.board n m q e

  -- whether a cell can be made in both
  pub same_made : (one two : Progress) (cell cell' : Cell) → Abreast Pair first second one two → CellPaired Pair first second one.world.cells two.world.cells cell cell' → is_some (made one.world cell) ≡ is_some (made two.world cell')
  same_made one two cell cell' a p =
      some_if (nat_le (heap_size one.world.cells + cell_size cell) one.world.limits.cells) (nat_le (heap_size two.world.cells + cell_size cell') two.world.limits.cells) (record one.world { cells = cell ∷ one.world.cells }) (record two.world { cells = cell' ∷ two.world.cells })
      (same_le (heap_size one.world.cells) (cell_size cell) one.world.limits.cells (heap_size two.world.cells) two.world.limits.cells a.room (size_above cell)
      ∙ ap (λ z. nat_le (heap_size two.world.cells + z) two.world.limits.cells) (same_size Pair first second one.world.cells two.world.cells cell cell' p))

  -- two cells that are made, and their numbers
  pub made_abreast : (one two : Progress) (cell cell' : Cell) (world world' : World) → made one.world cell ≡ Some world → made two.world cell' ≡ Some world' → Abreast Pair first second one two
      → CellPaired Pair first second one.world.cells two.world.cells cell cell' → NoBoard cell → Pair (heap_size one.world.cells) (heap_size two.world.cells) × Abreast Pair first second (in_world one world) (in_world two world')
  made_abreast one two cell cell' world world' e e' a p plain =
      let new = next_partners one two cell world e a in (
        new,
        subst (λ w. Abreast Pair first second (in_world one w) (in_world two world')) (sym (made_is one.world cell world e)) (subst (λ w. Abreast Pair first second (in_world one (record one.world { cells = cell ∷ one.world.cells })) (in_world two w))
            (sym (made_is two.world cell' world' e')) (more_abreast one two cell cell' new p plain a)),
      )

  -- Both make a cell, or neither has room for it.
  pub cell_charged : {A : Type 0} {B : Type 0} (P : A → B → Type 0) (stop : Ending → Progress → A) (stop' : Ending → Progress → B) (one two : Progress) (cell cell' : Cell) (go : Progress → A) (go' : Progress → B)
      → Abreast Pair first second one two → CellPaired Pair first second one.world.cells two.world.cells cell cell' → NoBoard cell → P (stop (Limit Cells) one) (stop' (Limit Cells) two)
      → ((next next' : Progress) → Pair (heap_size one.world.cells) (heap_size two.world.cells) → Abreast Pair first second next next' → P (go next) (go' next'))
      → P (charged stop Cells (made one.world cell) one go) (charged stop' Cells (made two.world cell') two go')
  cell_charged P stop stop' one two cell cell' go go' a p plain stopped goes =
      charged_so P stop stop' Cells (made one.world cell) (made two.world cell') one two go go' (same_made one two cell cell' a p) stopped
      (λ world world' e e'. let m = made_abreast one two cell cell' world world' e e' a p plain in goes (in_world one world) (in_world two world') m.0 m.1)

  -- ---- a word written in both

  module _ (one two : Progress) (at at' word : ℕ) (value value' : Value) (a : Abreast Pair first second one two) (p : Pair at at') (v : Paired Pair value value') where
    abbrev heap : Heap
    heap = one.world.cells

    abbrev other : Heap
    other = two.world.cells

    abbrev after : Heap
    after = write_word one.world.cells at word value

    abbrev after' : Heap
    after' = write_word two.world.cells at' word value'

    moves : FirstsMove heap other after after'
    moves = (
      λ decl q. subst (λ o. NumberPaired Pair o (first_such (is_top decl) after')) (sym (tops_after_word heap at word value decl))
          (subst (λ o. NumberPaired Pair (first_such (is_top decl) heap) o) (sym (tops_after_word other at' word value' decl)) q),
      λ kind q. subst (λ o. NumberPaired Pair o (first_such (is_facet kind) after')) (sym (facets_after_word heap at word value kind))
          (subst (λ o. NumberPaired Pair (first_such (is_facet kind) heap) o) (sym (facets_after_word other at' word value' kind)) q),
    )

    word_moves : (o o' : Option Cell) → MaybeCellPaired Pair first second heap other o o'
        → MaybeCellPaired Pair first second after after' (option_map (λ cell. with_word cell word value) o) (option_map (λ cell. with_word cell word value') o')
    word_moves None None q = tt
    word_moves None (Some cell') q = absurd q
    word_moves (Some cell) None q = absurd q
    word_moves (Some cell) (Some cell') q =
        cell_moves heap other after after' (with_word cell word value) (with_word cell' word value') moves (word_paired Pair first second heap other cell cell' word value value' v q)

    cells_written : (n m : ℕ) → Pair n m → MaybeCellPaired Pair first second after after' (find_cell after n) (find_cell after' m)
    cells_written n m q =
        subst (λ o. MaybeCellPaired Pair first second after after' o (find_cell after' m)) (sym (found_written heap at word value n))
        (subst (λ o. MaybeCellPaired Pair first second after after' (cond (n == at) (option_map (λ cell. with_word cell word value) (find_cell heap at)) (find_cell heap n)) o) (sym (found_written other at' word value' m))
        (cond_so (MaybeCellPaired Pair first second after after') (n == at) (m == at') (option_map (λ cell. with_word cell word value) (find_cell heap at)) (find_cell heap n)
        (option_map (λ cell. with_word cell word value') (find_cell other at')) (find_cell other m) (same_number n m at at' q p)
        (λ t. word_moves (find_cell heap at) (find_cell other at') (a.heaps.cells at at' p)) (λ t. maybe_moves heap other after after' (find_cell heap n) (find_cell other m) moves (a.heaps.cells n m q))))

    board_before : (n : ℕ) → find_cell after n ≡ Some (FacetCell Board) → find_cell heap n ≡ Some (FacetCell Board)
    board_before n e = by (n == at) refl (find_cell heap at) refl (sym (found_written heap at word value n) ∙ e)
      where
        by : (b : Bool) → (n == at) ≡ b → (o : Option Cell) → find_cell heap at ≡ o → cond b (option_map (λ cell. with_word cell word value) o) (find_cell heap n) ≡ Some (FacetCell Board) → find_cell heap n ≡ Some (FacetCell Board)
        by true t None f g = absurd (cc (g))
        by true t (Some old) f g =
            let is : old ≡ FacetCell Board = facet_word old word value Board (cc (g)) in
            ap (find_cell heap) (eqb-true n at t) ∙ (f ∙ ap Some is)
        by false t o f g = g

    pub written_abreast : Abreast Pair first second (in_world one (written one.world at word value)) (in_world two (written two.world at' word value'))
    written_abreast = record {
      heaps = record {
        cells = cells_written;
        chains = λ n m q. subst (λ ns. NumbersPaired Pair ns (chain_of after' m)) (sym ((writing_leaves heap at word value).chains n))
            (subst (λ ms. NumbersPaired Pair (chain_of heap n) ms) (sym ((writing_leaves other at' word value').chains m)) (a.heaps.chains n m q));
        manifest = manifest_written heap at word value a.heaps.manifest;
        other_manifest = manifest_written other at' word value' a.heaps.other_manifest;
      };
      made = a.made;
      size = (writing_leaves heap at word value).size ∙ a.size;
      other_size = (writing_leaves other at' word value').size ∙ a.other_size;
      begun = a.begun;
      begins = a.begins;
      other_begins = a.other_begins;
      printed = a.printed;
      prints = a.prints;
      other_prints = a.other_prints;
      limits = a.limits;
      other_limits = a.other_limits;
      steps = a.steps;
      room = omega (arith, a.room, (writing_leaves heap at word value).size, (writing_leaves other at' word value').size);
      depth = a.depth;
      deepest = a.deepest;
      out = a.out;
      within = a.within;
      other_within = a.other_within;
      board = λ n m q e. a.board n m q (board_before n e);
    }
