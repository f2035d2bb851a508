-- A world in which a cell was made is lawful.
use Rattle.std.proofs.Common.{◌≡◌, ℕ, ◌+◌, ◌≤◌, ◌∷◌, length, slice_get, replicate, refl, ap, sym, ◌∙◌, subst, arith, Some, None, All, Bool, true, false, cond, eqb}
use Rattle.std.proofs.lemmas.Bool.{eqb-true, eq-eqb, leb-true}
use Rattle.std.proofs.lemmas.List.{length-replicate}
use Rattle.std.proofs.lemmas.List.Elements.{All-replicate}
use Rattle.std.proofs.lemmas.Option.{slice_get_within, get_or_from_slice_get}
use Rattle.std.specs.Prelude.{nat_le}
use Rattle.ns_code.specs.declared.program.CodeProgram.{CodeProgram}
use Rattle.ns_code.specs.declared.class.ClassCode.{ClassCode}
use Rattle.ns_world.specs.declared.value.Value.{Value}
use Rattle.ns_world.specs.declared.value.Value.TheVariants.{Nil}
use Rattle.ns_world.specs.declared.cell.NewCell.{NewCell}
use Rattle.ns_world.specs.declared.cell.NewCell.TheVariants.{Object, Class, Block, Environment, Array, Text, Facet, Mirror, Message}
use Rattle.ns_world.specs.Cell.{Cell, ClassCell, cell_size, fresh}
use Rattle.ns_world.specs.Heap.{Heap, heap_size, find_cell, has_superclass, is_superclass, chain_of, chain_above, superclass_in, declared_class}
use Rattle.ns_world.specs.World.{World, made}
use Rattle.ns_world.specs.Lawful.{IsLiveValue, IsKept, ObjectIsLawful, CellIsLawful, IsLawful}
use Rattle.ns_world.specs.Keeping.{MayBeMade}
use Rattle.ns_world.specs.Layout.{entries_along, entries_above, layout_of, layout_above}
use Rattle.ns_world.specs.laws.Above.{above, starts}
use Rattle.ns_world.specs.laws.Changing.{found_new}
use Rattle.ns_world.specs.laws.Ordered.{ordered_more}
use Rattle.ns_world.specs.laws.Classes.{IsInOrder, lawful_order, start_stays, layout_stays}
use Rattle.ns_world.specs.laws.Twins.{making_keeps_cells}
use Rattle.ns_world.specs.laws.Staying.{value_stays, environment_stays, enclosing_stays}
use Rattle.ns_world.specs.laws.Lawfully.{block_lawful, message_lawful, cell_lawful}

-- an entry of a new object is nil
nil_entry : (P : Value → Type 0) (words k : ℕ) (value : Value) → slice_get (replicate words Nil) k ≡ Some value → P Nil → P value
nil_entry P words k value e nil =
    subst P (get_or_from_slice_get (replicate words Nil) k value value e)
    (All-replicate P words Nil nil k value (slice_get_within (replicate words Nil) k value e))

nils_live : (heap : Heap) (code : CodeProgram) (words : ℕ) → All (IsLiveValue heap code) (replicate words Nil)
nils_live heap code words = All-replicate (IsLiveValue heap code) words Nil (tt, refl)

new_chain : (heap : Heap) (decl base : ℕ) (encl holder over : Value) →
    chain_of (ClassCell decl base encl holder over ∷ heap) (heap_size heap) ≡ heap_size heap ∷ chain_above over (chain_of heap)
new_chain heap decl base encl holder over = rw (eq-eqb (heap_size heap) (heap_size heap) refl) refl

-- the classes above a new class have the entries of its superclass
new_base : (heap : Heap) (code : CodeProgram) (cell : Cell) → IsInOrder heap → is_superclass heap (superclass_in (Some cell)) ≡ true
    → layout_above (cell ∷ heap) code (heap_size heap) ≡ entries_above heap code (superclass_in (Some cell))
new_base heap code cell order s =
    let over = superclass_in (Some cell) in
    ap (λ o. layout_of (cell ∷ heap) code (declared_class (superclass_in o))) (found_new heap cell)
    ∙ layout_stays heap (cell ∷ heap) code (declared_class over) order (making_keeps_cells heap cell order).same (starts heap over s)
    ∙ sym (ap (entries_along heap code) (above heap over (omega (arith, order.small)) s))

-- what is asked of a new cell holds once it is there
new_lawful : (heap : Heap) (code : CodeProgram) (new : NewCell) → IsInOrder heap → has_superclass heap (fresh new) ≡ true →
    MayBeMade heap code new → CellIsLawful (fresh new ∷ heap) code (heap_size heap) (fresh new)
new_lawful heap code (Object class words) order s m =
    let after : Heap = fresh (Object class words) ∷ heap in
    let k = making_keeps_cells heap (fresh (Object class words)) order in
    let object : ObjectIsLawful after code (heap_size heap) class (replicate words Nil) = record {
      class_is = start_stays heap after class k.same m.0;
      words = length-replicate words Nil ∙ (m.1 ∙ sym (layout_stays heap after code class order k.same m.0));
      kept = λ holder c declared d i nested value n v. nil_entry (IsKept after (heap_size heap) holder nested.class) words _ value v tt;
    } in
    (object, nils_live after code words)
new_lawful heap code (Class decl base encl holder over) order s m =
    let after : Heap = fresh (Class decl base encl holder over) ∷ heap in
    let k = making_keeps_cells heap (fresh (Class decl base encl holder over)) order in
    record {
      declared = m.0.0;
      based = m.1 ∙ sym (new_base heap code (ClassCell decl base encl holder over) order s);
      short = omega (arith, m.2, ap length (new_chain heap decl base encl holder over));
      enclosing = λ (class : ClassCode) e. enclosing_stays heap after code class.outer encl holder k (m.0.1 class e);
    }
new_lawful heap code (Block body env home receiver holder) order s m =
    block_lawful heap (fresh (Block body env home receiver holder) ∷ heap) code body env receiver holder (making_keeps_cells heap (fresh (Block body env home receiver holder)) order) m
new_lawful heap code (Environment parent locals) order s m =
    let k = making_keeps_cells heap (fresh (Environment parent locals)) order in
    (environment_stays heap (fresh (Environment parent locals) ∷ heap) parent k m, nils_live (fresh (Environment parent locals) ∷ heap) code locals)
new_lawful heap code (Array size) order s m = nils_live (fresh (Array size) ∷ heap) code size
new_lawful heap code (Text bytes) order s m = tt
new_lawful heap code (Facet kind) order s m = tt
new_lawful heap code (Mirror mirrored) order s m =
    value_stays heap (fresh (Mirror mirrored) ∷ heap) code mirrored (making_keeps_cells heap (fresh (Mirror mirrored)) order) m
new_lawful heap code (Message sel args) order s m =
    message_lawful heap (fresh (Message sel args) ∷ heap) code sel args (making_keeps_cells heap (fresh (Message sel args)) order) m

-- a heap with one lawful cell more
more_lawful : (world : World) (code : CodeProgram) (new : NewCell) → IsLawful world code → has_superclass world.cells (fresh new) ≡ true
    → MayBeMade world.cells code new → (number : ℕ) (cell : Cell) → find_cell (fresh new ∷ world.cells) number ≡ Some cell
    → CellIsLawful (fresh new ∷ world.cells) code number cell
more_lawful world code new lawful s m number cell e = tested (eqb number (heap_size world.cells)) refl e
  where
    order : IsInOrder world.cells
    order = lawful_order world code lawful

    tested : (b : Bool) → eqb number (heap_size world.cells) ≡ b → cond b (Some (fresh new)) (find_cell world.cells number) ≡ Some cell → CellIsLawful (fresh new ∷ world.cells) code number cell
    tested true t e =
        let number_is : heap_size world.cells ≡ number = sym (eqb-true number (heap_size world.cells) t) in
        let cell_is : fresh new ≡ cell = cc in
        subst (λ c. CellIsLawful (fresh new ∷ world.cells) code number c) cell_is
        (subst (λ n. CellIsLawful (fresh new ∷ world.cells) code n (fresh new)) number_is (new_lawful world.cells code new order s m))
    tested false t e = cell_lawful world.cells (fresh new ∷ world.cells) code number cell (making_keeps_cells world.cells (fresh new) order) e (lawful.cells number cell e)

-- a lawful world in which a cell is made that may be made is lawful
pub making_keeps : (world after : World) (code : CodeProgram) (new : NewCell) → IsLawful world code →
    has_superclass world.cells (fresh new) ≡ true → MayBeMade world.cells code new → made world (fresh new) ≡ Some after →
    IsLawful after code
making_keeps world after code new lawful s m e = tested (nat_le (heap_size world.cells + cell_size (fresh new)) world.limits.cells) refl e
  where
    more : World
    more = record world { cells = fresh new ∷ world.cells }

    lawfully : heap_size world.cells + cell_size (fresh new) ≤ world.limits.cells → IsLawful more code
    lawfully fits = record {
      within = record { limits = lawful.within.limits; cells = fits; steps = lawful.within.steps; depth = lawful.within.depth; out = lawful.within.out };
      ordered = ordered_more world.cells (fresh new) s lawful.ordered;
      fits = lawful.fits;
      parents = lawful.parents;
      classes = lawful.classes;
      cells = more_lawful world code new lawful s m;
    }

    tested : (b : Bool) → nat_le (heap_size world.cells + cell_size (fresh new)) world.limits.cells ≡ b → cond b (Some more) None ≡ Some after → IsLawful after code
    tested true t e = let is : more ≡ after = cc in subst (λ (w : World). IsLawful w code) is (lawfully (leb-true (heap_size world.cells + cell_size (fresh new)) world.limits.cells t))
    tested false t e = absurd (cc)

-- The cells of a world in which one was made are those before, and that cell.
pub made_cells : (world after : World) (cell : Cell) → made world cell ≡ Some after → after.cells ≡ cell ∷ world.cells
made_cells world after cell e = tested (nat_le (heap_size world.cells + cell_size cell) world.limits.cells) e
  where
    more : World
    more = record world { cells = cell ∷ world.cells }

    tested : (b : Bool) → cond b (Some more) None ≡ Some after → after.cells ≡ cell ∷ world.cells
    tested true e = let is : more ≡ after = cc in ap (λ (w : World). w.cells) (sym is)
    tested false e = absurd (cc)
