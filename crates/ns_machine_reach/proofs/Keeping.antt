-- What a run has done stays within a set of cells when it charges, makes a cell in it or writes a word of one.
use Rattle.std.proofs.Common.{◌≡◌, ◌≢◌, ℕ, ◌+◌, [], ◌∷◌, Option, Some, None, Bool, true, false, cond, eqb, refl, sym, ap, ◌∙◌, subst, arith}
use Rattle.std.specs.Prelude.{nat_le, nat_lt, ◌==◌}
use Rattle.std.proofs.lemmas.Bool.{eqb-true}
use Rattle.ns_world.specs.declared.value.Value.{Value}
use Rattle.ns_world.specs.declared.cell.FacetKind.{FacetKind}
use Rattle.ns_world.specs.declared.cell.FacetKind.TheVariants.{Manifest}
use Rattle.ns_world.specs.declared.ending.LimitKind.{LimitKind}
use Rattle.ns_world.specs.declared.ending.Fault.{Fault}
use Rattle.ns_world.specs.declared.ending.Fault.TheVariants as fault
use Rattle.ns_world.specs.declared.ending.Ending.{Ending}
use Rattle.ns_world.specs.declared.ending.Ending.TheVariants.{Limit}
use Rattle.ns_world.specs.Cell.{Cell, FacetCell, cell_size, with_word}
use Rattle.ns_world.specs.Heap.{Heap, heap_size, find_cell, set_cell, write_word}
use Rattle.ns_world.specs.World.{World, made, stepped, entered, left, written}
use Rattle.ns_world.specs.laws.Changing.{found_old, writing_leaves}
use Rattle.ns_world.specs.laws.Chains.{found_below}
use Rattle.ns_world.specs.laws.Firsts.{facets_after_word, tops_after_word}
use Rattle.ns_moves.specs.declared.site.Site.{Site}
use Rattle.ns_moves.specs.Site.{fault_ending}
use Rattle.ns_moves.specs.Control.{Progress, in_world, charged}
use Rattle.ns_machine_reach.specs.Within.{HasLater, In, CellIn, Kept, EndingIn}
use Rattle.ns_machine_reach.proofs.Cells.{cell_in_more, cell_in_other, word_in_cell, facet_word, Written, Here, There, written_at}

-- A charge comes to what it stops with, or to what it goes on to.
pub charged_so :
    {A : Type 0} (P : A → Type 0) (stop : Ending → Progress → A) (limit : LimitKind) (o : Option World) (progress : Progress) (go : Progress → A) →
    P (stop (Limit limit) progress) → ((world : World) → o ≡ Some world → P (go (in_world progress world)))
    → P (charged stop limit o progress go)
charged_so P stop limit None progress go stopped goes = stopped
charged_so P stop limit (Some world) progress go stopped goes = goes world refl

-- ---- what a charge leaves

one_world : {A : Type 0} (b : Bool) (x y : A) → cond b (Some x) None ≡ Some y → y ≡ x
one_world true x y e = cc
one_world false x y e = absurd (cc (e))

pub made_is : (world : World) (cell : Cell) (new : World) → made world cell ≡ Some new → new ≡ record world { cells = cell ∷ world.cells }
made_is world cell new e =
    one_world (nat_le (heap_size world.cells + cell_size cell) world.limits.cells) (record world { cells = cell ∷ world.cells }) new e

pub stepped_is : (world new : World) → stepped world ≡ Some new → new ≡ record world { steps = world.steps + 1 }
stepped_is world new e = one_world (nat_lt world.steps world.limits.steps) (record world { steps = world.steps + 1 }) new e

pub entered_is : (world new : World) → entered world ≡ Some new → new ≡ record world { depth = world.depth + 1 }
entered_is world new e = one_world (nat_lt world.depth world.limits.depth) (record world { depth = world.depth + 1 }) new e

-- a word of Manifest that is written changes no cell
set_itself : (heap : Heap) (at : ℕ) (cell : Cell) → find_cell heap at ≡ Some cell → set_cell heap at cell ≡ heap
set_itself [] at cell e = refl
set_itself (newest ∷ earlier) at cell e = by (eqb at (heap_size earlier)) e (set_itself earlier at cell)
  where
    by : (b : Bool) → cond b (Some newest) (find_cell earlier at) ≡ Some cell → (find_cell earlier at ≡ Some cell → set_cell earlier at cell ≡ earlier) → cond b (cell ∷ earlier) (newest ∷ set_cell earlier at cell) ≡ newest ∷ earlier
    by true f below = ap (λ c. c ∷ earlier) (let is : cell ≡ newest = cc in is)
    by false f below = ap (λ cs. newest ∷ cs) (below f)

pub manifest_unwritten : (heap : Heap) (at word : ℕ) (value : Value) → at ≡ 0 → find_cell heap 0 ≡ Some (FacetCell Manifest) →
    write_word heap at word value ≡ heap
manifest_unwritten heap at word value is e =
    let here : find_cell heap at ≡ Some (FacetCell Manifest) = ap (find_cell heap) is ∙ e in
    let after : write_word heap at word value ≡ set_cell heap at (FacetCell Manifest) = rw here refl in
    after ∙ set_itself heap at (FacetCell Manifest) here

manifest_stays : (heap : Heap) (at word : ℕ) (value : Value) → 0 ≡ at → find_cell heap 0 ≡ Some (FacetCell Manifest) →
    find_cell (write_word heap at word value) 0 ≡ Some (FacetCell Manifest)
manifest_stays heap at word value is e = ap (λ h. find_cell h 0) (manifest_unwritten heap at word value (sym is) e) ∙ e

-- a cell is found when more are made
pub found_more : (heap : Heap) (more : Cell) (n : ℕ) (cell : Cell) → find_cell heap n ≡ Some cell → find_cell (more ∷ heap) n ≡ Some cell
found_more heap more n cell e = found_old heap more n (λ q. let below = found_below heap n cell e in absurd (omega (arith, below, q))) ∙ e

-- the cell is no facet
abbrev pub NoFacet : Cell → Type 0
NoFacet cell = (kind : FacetKind) → cell ≢ FacetCell kind

module _ (Has : ℕ → Type 0) (first : Progress) where
  pub start_kept : ((n : ℕ) (cell : Cell) → Has n → find_cell first.world.cells n ≡ Some cell → CellIn Has first.world.cells cell) → find_cell first.world.cells 0 ≡ Some (FacetCell Manifest) → Kept Has first first
  start_kept closed manifest = record {
    size = omega arith;
    closed = closed;
    outside = λ n cell out e. e;
    facets = λ n kind e. e;
    manifest = manifest;
    quiet = λ lacks. refl;
    board = λ lacks. refl;
  }

  -- the same cells and the same output
  pub same_kept : (now : Progress) (world : World) → world.cells ≡ now.world.cells → world.output ≡ now.world.output → Kept Has first now → Kept Has first (in_world now world)
  same_kept now world cells output kept = record {
    size = omega (arith, kept.size, ap heap_size cells);
    closed = λ n cell has e. subst (λ heap. CellIn Has heap cell) (sym cells) (kept.closed n cell has (ap (λ heap. find_cell heap n) (sym cells) ∙ e));
    outside = λ n cell out e. ap (λ heap. find_cell heap n) cells ∙ kept.outside n cell out e;
    facets = λ n kind e. kept.facets n kind (ap (λ heap. find_cell heap n) (sym cells) ∙ e);
    manifest = ap (λ heap. find_cell heap 0) cells ∙ kept.manifest;
    quiet = λ lacks. output ∙ kept.quiet lacks;
    board = λ lacks. kept.board lacks;
  }

  pub stepped_kept : (now : Progress) (world : World) → stepped now.world ≡ Some world → Kept Has first now → Kept Has first (in_world now world)
  stepped_kept now world e kept = let is = stepped_is now.world world e in same_kept now world (ap (λ (w : World). w.cells) is) (ap (λ (w : World). w.output) is) kept

  pub entered_kept : (now : Progress) (world : World) → entered now.world ≡ Some world → Kept Has first now → Kept Has first (in_world now world)
  entered_kept now world e kept = let is = entered_is now.world world e in same_kept now world (ap (λ (w : World). w.cells) is) (ap (λ (w : World). w.output) is) kept

  pub left_kept : (now : Progress) → Kept Has first now → Kept Has first (in_world now (left now.world))
  left_kept now kept = same_kept now (left now.world) refl refl kept

  pub begun_kept : (now : Progress) (begun : ℕ) → Kept Has first now → Kept Has first (record now { begun = begun })
  begun_kept now begun kept = record {
    size = kept.size;
    closed = kept.closed;
    outside = kept.outside;
    facets = kept.facets;
    manifest = kept.manifest;
    quiet = kept.quiet;
    board = kept.board;
  }

  -- ---- a cell more

  next_in : (now : Progress) → HasLater Has first.world.cells → Kept Has first now → Has (heap_size now.world.cells)
  next_in now later kept = later.later (heap_size now.world.cells) kept.size

  more_closed : (now : Progress) (cell : Cell) → HasLater Has first.world.cells → Kept Has first now → CellIn Has now.world.cells cell
      → (n : ℕ) (other : Cell) → Has n → find_cell (cell ∷ now.world.cells) n ≡ Some other → CellIn Has (cell ∷ now.world.cells) other
  more_closed now cell later kept inside n other has e = by (n == heap_size now.world.cells) refl e
    where
      new : Has (heap_size now.world.cells)
      new = next_in now later kept

      by : (b : Bool) → (n == heap_size now.world.cells) ≡ b → cond b (Some cell) (find_cell now.world.cells n) ≡ Some other → CellIn Has (cell ∷ now.world.cells) other
      by true t f = let is : cell ≡ other = cc (f) in subst (CellIn Has (cell ∷ now.world.cells)) is (cell_in_more Has now.world.cells cell cell new inside)
      by false t f = cell_in_more Has now.world.cells cell other new (kept.closed n other has f)

  more_facets : (now : Progress) (cell : Cell) → NoFacet cell → Kept Has first now
      → (n : ℕ) (kind : FacetKind) → find_cell (cell ∷ now.world.cells) n ≡ Some (FacetCell kind) → find_cell first.world.cells n ≡ Some (FacetCell kind)
  more_facets now cell plain kept n kind e = by (n == heap_size now.world.cells) e
    where
      by : (b : Bool) → cond b (Some cell) (find_cell now.world.cells n) ≡ Some (FacetCell kind) → find_cell first.world.cells n ≡ Some (FacetCell kind)
      by true f = absurd (plain kind (cc (f)))
      by false f = kept.facets n kind f

  more_kept : (now : Progress) (cell : Cell) → HasLater Has first.world.cells → CellIn Has now.world.cells cell → NoFacet cell → Kept Has first now
      → Kept Has first (in_world now (record now.world { cells = cell ∷ now.world.cells }))
  more_kept now cell later inside plain kept = record {
    size = omega (arith, kept.size);
    closed = more_closed now cell later kept inside;
    outside = λ n other out e. found_more now.world.cells cell n other (kept.outside n other out e);
    facets = more_facets now cell plain kept;
    manifest = found_more now.world.cells cell 0 (FacetCell Manifest) kept.manifest;
    quiet = kept.quiet;
    board = kept.board;
  }

  -- a cell that is made in the set, and its number
  pub made_kept : (now : Progress) (cell : Cell) (world : World) → HasLater Has first.world.cells → made now.world cell ≡ Some world → CellIn Has now.world.cells cell → NoFacet cell → Kept Has first now
      → Has (heap_size now.world.cells) × Kept Has first (in_world now world)
  made_kept now cell world later e inside plain kept =
      (next_in now later kept, subst (λ w. Kept Has first (in_world now w)) (sym (made_is now.world cell world e)) (more_kept now cell later inside plain kept))

  -- ---- a word written

  module _ (now : Progress) (at word : ℕ) (value : Value) (kept : Kept Has first now) (has : Has at) (inside : In Has value) where
    abbrev before : Heap
    before = now.world.cells

    abbrev after : Heap
    after = write_word now.world.cells at word value

    moved : (cell : Cell) → CellIn Has before cell → CellIn Has after cell
    moved cell h = cell_in_other Has before after cell (tops_after_word before at word value) (facets_after_word before at word value) h

    written_closed : (n : ℕ) (cell : Cell) → Has n → find_cell after n ≡ Some cell → CellIn Has after cell
    written_closed n cell n_in e = by (written_at before at word value n cell e)
      where
        by : Written before at word value n cell → CellIn Has after cell
        by (Here old is f c) = subst (CellIn Has after) (sym c) (moved (with_word old word value) (word_in_cell Has before old word value inside (kept.closed at old has f)))
        by (There f) = moved cell (kept.closed n cell n_in f)

    written_facets : (n : ℕ) (kind : FacetKind) → find_cell after n ≡ Some (FacetCell kind) → find_cell first.world.cells n ≡ Some (FacetCell kind)
    written_facets n kind e = by (written_at before at word value n (FacetCell kind) e)
      where
        by : Written before at word value n (FacetCell kind) → find_cell first.world.cells n ≡ Some (FacetCell kind)
        by (Here old is f c) = kept.facets n kind (ap (find_cell before) is ∙ (f ∙ ap Some (facet_word old word value kind (sym c))))
        by (There f) = kept.facets n kind f

    written_manifest : find_cell after 0 ≡ Some (FacetCell Manifest)
    written_manifest = by (eqb 0 at) refl
      where
        old_is : (o : Option Cell) → find_cell before at ≡ o → 0 ≡ at → find_cell after 0 ≡ Some (FacetCell Manifest)
        old_is o f is = manifest_stays before at word value is kept.manifest

        by : (b : Bool) → eqb 0 at ≡ b → find_cell after 0 ≡ Some (FacetCell Manifest)
        by true t = old_is (find_cell before at) refl (eqb-true 0 at t)
        by false t = (writing_leaves before at word value).others 0 (λ q. other q t) ∙ kept.manifest
          where
            other : 0 ≡ at → eqb 0 at ≡ false → ⊥
            other q t = let x : eqb 0 at ≡ true = ap (λ k. eqb 0 k) (sym q) in absurd (cc)

    pub written_kept : Kept Has first (in_world now (written now.world at word value))
    written_kept = record {
      size = omega (arith, kept.size, (writing_leaves before at word value).size);
      closed = written_closed;
      outside = λ n cell out e. (writing_leaves before at word value).others n (λ q. out (subst Has (sym q) has)) ∙ kept.outside n cell out e;
      facets = written_facets;
      manifest = written_manifest;
      quiet = kept.quiet;
      board = kept.board;
    }

-- a fault ends a run with no value
pub faulted : (Has : ℕ → Type 0) (fault : Fault) (site : Site) → EndingIn Has (fault_ending fault site)
faulted Has (fault.Kind kind) site = tt
faulted Has (fault.Limit limit) site = tt
