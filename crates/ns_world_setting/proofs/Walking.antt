-- The cells of a world stand one behind the other.
use Rattle.std.proofs.Common.{◌≡◌, ℕ, ◌+◌, ◌<◌, [], ◌∷◌, refl, ap, sym, ◌∙◌, subst, arith, Option, Some, None, IsSome, is_some, Bool, true, false, eqb}
use Rattle.std.proofs.lemmas.Bool.{eqb-true, eqb-false}
use Rattle.std.specs.Prelude.{IfSome}
use Rattle.std.specs.Option.{option_map_or}
use Rattle.ns_world.specs.declared.value.Value.TheVariants.{Nil}
use Rattle.ns_world.specs.declared.cell.NewCell.{NewCell}
use Rattle.ns_world.specs.declared.cell.NewCell.TheVariants.{Mirror}
use Rattle.ns_world.specs.Cell.{Cell, cell_size, shape_of, ObjectCell, ClassCell, BlockCell, EnvironmentCell, ArrayCell, TextCell, FacetCell, MirrorCell, MessageCell}
use Rattle.ns_world.specs.Heap.{Heap, heap_size, find_cell, shape_at}
use Rattle.ns_world.specs.laws.Changing.{found_new}
use Rattle.ns_world.specs.laws.Chains.{found_in_more}
use Rattle.ns_world.specs.laws.Standing.{stands-within}
use Rattle.ns_world_setting.specs.Looking.{size_of_shape, HasCell}

size_told : (cell : Cell) → size_of_shape (shape_of cell) ≡ cell_size cell
size_told (ObjectCell class entries) = refl
size_told (ClassCell decl base encl holder over) = refl
size_told (BlockCell body env home receiver holder) = refl
size_told (EnvironmentCell parent locals) = refl
size_told (ArrayCell items) = refl
size_told (TextCell bytes) = refl
size_told (FacetCell kind) = refl
size_told (MirrorCell mirrored) = refl
size_told (MessageCell sel args) = refl

-- behind a cell the next one stands, up to the cells used
behind : (heap : Heap) (at : ℕ) (cell : Cell) → find_cell heap at ≡ Some cell → HasCell heap (at + cell_size cell)
behind [] at cell e below = absurd (cc)
behind (newest ∷ earlier) at cell e below = tested (λ f. behind earlier at cell f) (eqb at (heap_size earlier)) refl
  where
    newest_found : at + cell_size cell ≡ heap_size earlier → IsSome (find_cell (newest ∷ earlier) (at + cell_size cell))
    newest_found e = subst (λ n. IsSome (find_cell (newest ∷ earlier) n)) (sym e) (ap is_some (found_new earlier newest))

    older_found : HasCell earlier (at + cell_size cell) → find_cell earlier at ≡ Some cell → (b : Bool) → eqb (at + cell_size cell) (heap_size earlier) ≡ b → IsSome (find_cell (newest ∷ earlier) (at + cell_size cell))
    older_found next f true t = newest_found (eqb-true (at + cell_size cell) (heap_size earlier) t)
    older_found next f false t =
        let short : at + cell_size cell < heap_size earlier = omega (arith, stands-within earlier at cell f, eqb-false (at + cell_size cell) (heap_size earlier) t) in
        ap is_some (found_in_more newest earlier (at + cell_size cell) short) ∙ next short

    tested : (find_cell earlier at ≡ Some cell → HasCell earlier (at + cell_size cell)) → (b : Bool) → eqb at (heap_size earlier) ≡ b → IsSome (find_cell (newest ∷ earlier) (at + cell_size cell))
    tested next true t =
        let is : at ≡ heap_size earlier = eqb-true at (heap_size earlier) t in
        let both : Some newest ≡ Some cell = sym (ap (find_cell (newest ∷ earlier)) is ∙ found_new earlier newest) ∙ e in
        let same : newest ≡ cell = cc in
        let size : cell_size newest ≡ cell_size cell = ap cell_size same in
        absurd (omega (arith, is, size, below))
    tested next false t = let older : find_cell earlier at ≡ Some cell = rw t at e in older_found (next older) older (eqb (at + cell_size cell) (heap_size earlier)) refl

-- the first cell has the number 0
pub walk_starts : (heap : Heap) → HasCell heap 0
walk_starts [] below = absurd (omega (arith, below))
walk_starts (cell ∷ earlier) below = tested (walk_starts earlier) (eqb 0 (heap_size earlier)) refl
  where
    tested : HasCell earlier 0 → (b : Bool) → eqb 0 (heap_size earlier) ≡ b → IsSome (find_cell (cell ∷ earlier) 0)
    tested next true t =
        let is : 0 ≡ heap_size earlier = eqb-true 0 (heap_size earlier) t in
        subst (λ n. IsSome (find_cell (cell ∷ earlier) n)) (sym is) (ap is_some (found_new earlier cell))
    tested next false t =
        let some : 0 < heap_size earlier = omega (arith, eqb-false 0 (heap_size earlier) t) in
        ap is_some (found_in_more cell earlier 0 some) ∙ next some

-- behind a cell of a shape the next one stands
pub walk_goes_on : (heap : Heap) (at : ℕ) (shape : NewCell) → IsSome (find_cell heap at) → shape ≡ shape_at heap at →
    HasCell heap (at + size_of_shape shape)
walk_goes_on heap at shape there is = found (find_cell heap at) refl there
  where
    found : (o : Option Cell) → find_cell heap at ≡ o → IsSome o → HasCell heap (at + size_of_shape shape)
    found None e some = absurd (cc)
    found (Some cell) e some =
        let told : shape ≡ shape_of cell = is ∙ ap (λ o. option_map_or shape_of o (Mirror Nil)) e in
        let size : size_of_shape shape ≡ cell_size cell = ap size_of_shape told ∙ size_told cell in
        subst (λ n. HasCell heap (at + n)) (sym size) (behind heap at cell e)

-- and so does the number of it, where it is one
pub walk_to : (heap : Heap) (at : ℕ) (shape : NewCell) (number : ℕ) (result : Option ℕ) → IsSome (find_cell heap at) →
    shape ≡ shape_at heap at → number ≡ at + size_of_shape shape → IfSome result (λ next. next ≡ number) →
    IfSome result (λ next. HasCell heap next)
walk_to heap at shape number None there is sum e = tt
walk_to heap at shape number (Some next) there is sum e = subst (HasCell heap) (sym (e ∙ sum)) (walk_goes_on heap at shape there is)
