-- A world in which a cell was made with what it holds is lawful.
use Rattle.std.proofs.Common.{◌≡◌, ℕ, ◌+◌, ◌≤◌, List, [], ◌∷◌, length, replicate, refl, ap, sym, subst, arith, Some, None, All, Bool, true, false, cond, eqb}
use Rattle.std.specs.Prelude.{nat_le}
use Rattle.std.proofs.lemmas.Bool.{eqb-true, leb-true}
use Rattle.std.proofs.lemmas.List.Elements.{All-tail}
use Rattle.ns_code.specs.declared.program.CodeProgram.{CodeProgram}
use Rattle.ns_world.specs.declared.value.Value.{Value}
use Rattle.ns_world.specs.declared.value.Value.TheVariants.{Nil}
use Rattle.ns_world.specs.declared.cell.NewCell.TheVariants.{Object, Class, Block, Facet, Mirror, Message}
use Rattle.ns_world.specs.Cell.{Cell, ObjectCell, ClassCell, BlockCell, EnvironmentCell, ArrayCell, TextCell, FacetCell, MirrorCell, MessageCell, cell_size, shape_of}
use Rattle.ns_world.specs.Heap.{heap_size, find_cell, has_superclass}
use Rattle.ns_world.specs.World.{World, made}
use Rattle.ns_world.specs.Lawful.{CellIsLawful, IsLawful}
use Rattle.ns_world.specs.Keeping.{MayBeMade}
use Rattle.ns_world.specs.laws.Ordered.{ordered_more}
use Rattle.ns_world.specs.laws.Classes.{lawful_order}
use Rattle.ns_world.specs.laws.Twins.{KeepsCells, making_keeps_cells}
use Rattle.ns_world.specs.laws.Staying.{values_stay, environment_stays}
use Rattle.ns_world.specs.laws.Lawfully.{cell_lawful}
use Rattle.ns_world.specs.laws.Making.{making_keeps}
use Rattle.ns_kdata.specs.Lawful.{MayHold}

-- a heap with one cell more that is lawful once it is there
more_lawful : (world : World) (code : CodeProgram) (new : Cell) → IsLawful world code →
    CellIsLawful (new ∷ world.cells) code (heap_size world.cells) new → (number : ℕ) (cell : Cell) →
    find_cell (new ∷ world.cells) number ≡ Some cell → CellIsLawful (new ∷ world.cells) code number cell
more_lawful world code new lawful l number cell e = tested (eqb number (heap_size world.cells)) refl e
  where
    tested : (b : Bool) → eqb number (heap_size world.cells) ≡ b → cond b (Some new) (find_cell world.cells number) ≡ Some cell → CellIsLawful (new ∷ world.cells) code number cell
    tested true t e =
        let number_is : heap_size world.cells ≡ number = sym (eqb-true number (heap_size world.cells) t) in
        let cell_is : new ≡ cell = cc in
        subst (λ c. CellIsLawful (new ∷ world.cells) code number c) cell_is
        (subst (λ n. CellIsLawful (new ∷ world.cells) code n new) number_is l)
    tested false t e = cell_lawful world.cells (new ∷ world.cells) code number cell (making_keeps_cells world.cells new (lawful_order world code lawful)) e (lawful.cells number cell e)

-- a lawful world in which a cell is made that is lawful once it is there
lawful_cell_keeps : (world after : World) (code : CodeProgram) (new : Cell) → IsLawful world code → has_superclass world.cells new ≡ true →
    CellIsLawful (new ∷ world.cells) code (heap_size world.cells) new → made world new ≡ Some after → IsLawful after code
lawful_cell_keeps world after code new lawful s l e = tested (nat_le (heap_size world.cells + cell_size new) world.limits.cells) refl e
  where
    more : World
    more = record world { cells = new ∷ world.cells }

    lawfully : heap_size world.cells + cell_size new ≤ world.limits.cells → IsLawful more code
    lawfully fits = record {
      within = record { limits = lawful.within.limits; cells = fits; steps = lawful.within.steps; depth = lawful.within.depth; out = lawful.within.out };
      ordered = ordered_more world.cells new s lawful.ordered;
      fits = lawful.fits;
      parents = lawful.parents;
      classes = lawful.classes;
      cells = more_lawful world code new lawful l;
    }

    tested : (b : Bool) → nat_le (heap_size world.cells + cell_size new) world.limits.cells ≡ b → cond b (Some more) None ≡ Some after → IsLawful after code
    tested true t e = let is : more ≡ after = cc in subst (λ (w : World). IsLawful w code) is (lawfully (leb-true (heap_size world.cells + cell_size new) world.limits.cells t))
    tested false t e = absurd (cc)

-- entries that are all nil are as many nils
nils_are : (entries : List Value) → All (λ (value : Value). value ≡ Nil) entries → entries ≡ replicate (length entries) Nil
nils_are [] nils = refl
nils_are (value ∷ entries) nils =
    let first : value ≡ Nil = nils 0 value (omega arith) in
    rw first (ap (λ values. Nil ∷ values) (nils_are entries (All-tail (λ (v : Value). v ≡ Nil) value entries nils)))

-- a lawful world in which a cell is made that may be made, and may hold what it holds, is lawful
pub filled_keeps : (world after : World) (code : CodeProgram) (cell : Cell) → IsLawful world code → has_superclass world.cells cell ≡ true →
    MayBeMade world.cells code (shape_of cell) → MayHold world.cells code cell → made world cell ≡ Some after → IsLawful after code
filled_keeps world after code (ObjectCell class entries) lawful s m nils e =
    making_keeps world after code (Object class (length entries)) lawful refl m (subst (λ values. made world (ObjectCell class values) ≡ Some after) (nils_are entries nils) e)
filled_keeps world after code (EnvironmentCell parent locals) lawful s m live e =
    let k : KeepsCells world.cells (EnvironmentCell parent locals ∷ world.cells) = making_keeps_cells world.cells (EnvironmentCell parent locals) (lawful_order world code lawful) in
    lawful_cell_keeps world after code (EnvironmentCell parent locals) lawful s
    (environment_stays world.cells (EnvironmentCell parent locals ∷ world.cells) parent k m, values_stay world.cells (EnvironmentCell parent locals ∷ world.cells) code locals k live) e
filled_keeps world after code (ArrayCell items) lawful s m live e =
    let k : KeepsCells world.cells (ArrayCell items ∷ world.cells) = making_keeps_cells world.cells (ArrayCell items) (lawful_order world code lawful) in
    lawful_cell_keeps world after code (ArrayCell items) lawful s (values_stay world.cells (ArrayCell items ∷ world.cells) code items k live) e
filled_keeps world after code (TextCell bytes) lawful s m h e = lawful_cell_keeps world after code (TextCell bytes) lawful s tt e
filled_keeps world after code (ClassCell decl base encl holder over) lawful s m h e =
    making_keeps world after code (Class decl base encl holder over) lawful s m e
filled_keeps world after code (BlockCell body env home receiver holder) lawful s m h e =
    making_keeps world after code (Block body env home receiver holder) lawful s m e
filled_keeps world after code (FacetCell kind) lawful s m h e = making_keeps world after code (Facet kind) lawful s m e
filled_keeps world after code (MirrorCell mirrored) lawful s m h e = making_keeps world after code (Mirror mirrored) lawful s m e
filled_keeps world after code (MessageCell sel args) lawful s m h e = making_keeps world after code (Message sel args) lawful s m e
