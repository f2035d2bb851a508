-- The world in which the rows are tried is lawful, cell by cell.
use Rattle.std.proofs.Common.{◌≡◌, ℕ, ◌+◌, ◌∷◌, [], replicate, refl, ap, sym, ◌∙◌, subst, arith, Option, Some, None, is_some, Contains, true, cond}
use Rattle.std.specs.Prelude.{nat_le, pos, slice_get}
use Rattle.std.specs.Option.{ForSome}
use Rattle.std.proofs.lemmas.Bool.{ltb-true}
use Rattle.ns_code.specs.declared.class.ClassCode.{ClassCode}
use Rattle.ns_code.specs.declared.body.BodyCode.{BodyCode}
use Rattle.ns_world.specs.declared.value.Value.{Value}
use Rattle.ns_world.specs.declared.value.Value.TheVariants.{Nil, Int, Kernel, Ref}
use Rattle.ns_world.specs.declared.value.KClass.TheVariants as kernel
use Rattle.ns_world.specs.declared.cell.NewCell.{NewCell}
use Rattle.ns_world.specs.declared.cell.NewCell.TheVariants.{Object, Class, Block, Array, Facet, Message}
use Rattle.ns_world.specs.declared.cell.FacetKind.TheVariants as facet
use Rattle.ns_world.specs.Cell.{cell_size, fresh, ObjectCell, ClassCell, FacetCell, ArrayCell, MessageCell}
use Rattle.ns_world.specs.Heap.{Heap, heap_size, find_cell, has_superclass, chain_of, no_class}
use Rattle.ns_world.specs.World.{made}
use Rattle.ns_world.specs.Lawful.{HasHolder, HasEnclosing, FitsBody, FitsEnvironment, BlockIsLawful, IsLawful, class_of_object}
use Rattle.ns_world.specs.Keeping.{IsEnclosed, MayBeMade}
use Rattle.ns_world.specs.laws.Making.{making_keeps}
use Rattle.ns_world.specs.laws.Charging.{empty_is_lawful}
use Rattle.ns_classes.specs.laws.Lawfully.{slot_filled}
use Rattle.ns_code.specs.Sample.{sel}
use Rattle.ns_world_setting.specs.Program.{body_of, program_code, program_classes, program_bodies, class_base, class_part, class_sub, class_other}
use Rattle.ns_world_setting.specs.Cells.{tried_limits, tried_with, facet_cells, class_cells, empty_objects, filled_objects, part_cells, tried_cells}
use Rattle.ns_world_setting.proofs.Fitting.{program_fits}

for_some : {X : Type 0} (P : X → Type 0) (o : Option X) (x : X) → o ≡ Some x → P x → ForSome o P
for_some P o x e p = λ y f. let both : Some x ≡ Some y = sym e ∙ f in let is : x ≡ y = cc in subst P is p

with_cell : (cells : Heap) (new : NewCell) → IsLawful (tried_with cells) program_code → has_superclass cells (fresh new) ≡ true →
    MayBeMade cells program_code new → nat_le (heap_size cells + cell_size (fresh new)) 200 ≡ true →
    IsLawful (tried_with (fresh new ∷ cells)) program_code
with_cell cells new lawful s m fits =
    let is : made (tried_with cells) (fresh new) ≡ Some (tried_with (fresh new ∷ cells)) = ap (λ b. cond b (Some (tried_with (fresh new ∷ cells))) None) fits in
    making_keeps (tried_with cells) (tried_with (fresh new ∷ cells)) program_code new lawful s m is

-- an object has a class in its chain
holds : (heap : Heap) (object class holder : ℕ) → class_of_object (find_cell heap object) ≡ Some class →
    Contains (chain_of heap class) holder → HasHolder heap (Ref object) holder
holds heap object class holder e c =
    (for_some (λ n. Contains (chain_of heap n) holder) (class_of_object (find_cell heap object)) class e c, ap is_some e)

-- a class of a top-level declaration has no enclosing two
pub at_top : (heap : Heap) (decl : ℕ) (class : ClassCode) → slice_get program_classes decl ≡ Some class → class.outer ≡ None →
    IsEnclosed heap program_code decl Nil Nil
at_top heap decl class e none =
    (ap is_some e, for_some (λ (other : ClassCode). HasEnclosing heap program_code other.outer Nil Nil) (slice_get program_classes decl) class e (subst (λ o. HasEnclosing heap program_code o Nil Nil) (sym none) (refl, refl)))

pub lawful_empty : IsLawful (tried_with []) program_code
lawful_empty =
    empty_is_lawful tried_limits program_code ((omega arith, omega arith), (omega arith, omega arith), (omega arith, omega arith), (omega arith, omega arith)) program_fits refl refl

lawful_facets : IsLawful (tried_with facet_cells) program_code
lawful_facets =
    let h1 : Heap = FacetCell facet.Manifest ∷ [] in
    let h2 : Heap = FacetCell facet.Platform ∷ h1 in
    let h3 : Heap = FacetCell facet.Console ∷ h2 in
    let h4 : Heap = FacetCell facet.Mirrors ∷ h3 in
    let h5 : Heap = FacetCell facet.Kernel ∷ h4 in
    let l1 = with_cell [] (Facet facet.Manifest) lawful_empty refl tt refl in
    let l2 = with_cell h1 (Facet facet.Platform) l1 refl tt refl in
    let l3 = with_cell h2 (Facet facet.Console) l2 refl tt refl in
    let l4 = with_cell h3 (Facet facet.Mirrors) l3 refl tt refl in
    let l5 = with_cell h4 (Facet facet.Kernel) l4 refl tt refl in
    with_cell h5 (Facet facet.Board) l5 refl tt refl

lawful_classes : IsLawful (tried_with class_cells) program_code
lawful_classes =
    let h1 : Heap = ClassCell 0 0 Nil Nil (Kernel kernel.Object) ∷ facet_cells in
    let h2 : Heap = ClassCell 2 3 Nil Nil (Ref 6) ∷ h1 in
    let l1 = with_cell facet_cells (Class 0 0 Nil Nil (Kernel kernel.Object)) lawful_facets refl (at_top facet_cells 0 class_base refl refl, refl, omega arith) refl in
    let l2 = with_cell h1 (Class 2 3 Nil Nil (Ref 6)) l1 refl (at_top h1 2 class_sub refl refl, refl, omega arith) refl in
    with_cell h2 (Class 3 0 Nil Nil (Kernel kernel.Object)) l2 refl (at_top h2 3 class_other refl refl, refl, omega arith) refl

lawful_objects : IsLawful (tried_with empty_objects) program_code
lawful_objects =
    let h1 : Heap = ObjectCell 6 (replicate 3 Nil) ∷ class_cells in
    let l1 = with_cell class_cells (Object 6 3) lawful_classes refl (refl, refl) refl in
    with_cell h1 (Object 10 5) l1 refl (refl, refl) refl

abbrev filled_to : Value → Value → Value → Heap
filled_to y x z = ObjectCell 10 (Int (pos 1) ∷ y ∷ Nil ∷ x ∷ z ∷ []) ∷ ObjectCell 6 (replicate 3 Nil) ∷ class_cells

lawful_filled : IsLawful (tried_with filled_objects) program_code
lawful_filled =
    let h1 : Heap = filled_to Nil Nil Nil in
    let h2 : Heap = filled_to (Int (pos 2)) Nil Nil in
    let h3 : Heap = filled_to (Int (pos 2)) (Int (pos 3)) Nil in
    let l1 : IsLawful (tried_with h1) program_code =
    slot_filled (tried_with empty_objects) program_code 22 6 0 class_base (Int (pos 1)) lawful_objects (holds empty_objects 22 10 6 refl (1, omega arith, refl)) refl (ltb-true 0 2 refl) (tt, refl) in
    let l2 : IsLawful (tried_with h2) program_code =
    slot_filled (tried_with h1) program_code 22 6 1 class_base (Int (pos 2)) l1 (holds h1 22 10 6 refl (1, omega arith, refl)) refl (ltb-true 1 2 refl) (tt, refl) in
    let l3 : IsLawful (tried_with h3) program_code =
    slot_filled (tried_with h2) program_code 22 10 0 class_sub (Int (pos 3)) l2 (holds h2 22 10 10 refl (0, omega arith, refl)) refl (ltb-true 0 2 refl) (tt, refl) in
    slot_filled (tried_with h3) program_code 22 10 1 class_sub (Int (pos 4)) l3 (holds h3 22 10 10 refl (0, omega arith, refl)) refl (ltb-true 1 2 refl) (tt, refl)

-- the object of Base encloses Part
enclosed : HasEnclosing filled_objects program_code class_part.outer (Ref 18) (Ref 6)
enclosed = (holds filled_objects 18 6 6 refl (0, omega arith, refl), refl, refl)

lawful_parts : IsLawful (tried_with part_cells) program_code
lawful_parts =
    let h1 : Heap = ClassCell 1 0 (Ref 18) (Ref 6) (Kernel kernel.Object) ∷ filled_objects in
    let h2 : Heap = ObjectCell 28 [] ∷ h1 in
    let within : IsEnclosed filled_objects program_code 1 (Ref 18) (Ref 6) =
    (refl, for_some (λ (other : ClassCode). HasEnclosing filled_objects program_code other.outer (Ref 18) (Ref 6)) (slice_get program_classes 1) class_part refl enclosed) in
    let l1 = with_cell filled_objects (Class 1 0 (Ref 18) (Ref 6) (Kernel kernel.Object)) lawful_filled refl (within, refl, omega arith) refl in
    let l2 = with_cell h1 (Object 28 0) l1 refl (refl, refl) refl in
    with_cell h2 (Object no_class 0) l2 refl (refl, refl) refl

abbrev before_block : Heap
before_block = MessageCell (sel 14) (Ref 34) ∷ ArrayCell (replicate 2 Nil) ∷ part_cells

block_lawful : BlockIsLawful before_block program_code 11 Nil (Ref 18) 6
block_lawful =
    let is_there : slice_get program_bodies 11 ≡ Some (body_of 1 0 0) = refl in
    record {
      declared = refl;
      is_block = for_some (λ (body : BodyCode). body.kind ≡ 1) (slice_get program_bodies 11) (body_of 1 0 0) is_there refl;
      fits = for_some (λ (body : BodyCode). FitsBody before_block program_code body (Ref 18) 6) (slice_get program_bodies 11) (body_of 1 0 0) is_there
          (refl, refl, λ e. holds before_block 18 6 6 refl (0, omega arith, refl), λ e. absurd (cc));
      environment = for_some (λ (body : BodyCode). FitsEnvironment 12 before_block program_code body.parent Nil) (slice_get program_bodies 11) (body_of 1 0 0) is_there refl;
    }

pub lawful_tried : IsLawful (tried_with tried_cells) program_code
lawful_tried =
    let h1 : Heap = ArrayCell (replicate 2 Nil) ∷ part_cells in
    let l1 = with_cell part_cells (Array 2) lawful_parts refl tt refl in
    let l2 = with_cell h1 (Message (sel 14) (Ref 34)) l1 refl (refl, refl) refl in
    with_cell before_block (Block 11 Nil 0 (Ref 18) 6) l2 refl block_lawful refl
