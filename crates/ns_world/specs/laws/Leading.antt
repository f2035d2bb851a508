-- Worlds that are later than others.
use Rattle.std.proofs.Common.{◌≡◌, ◌≢◌, ℕ, ◌+◌, ◌≤◌, List, [], ◌∷◌, ◌++◌, length, refl, ap, sym, ◌∙◌, subst, arith, append_assoc, append-nil, Option, Some, None, IsSome, Bool, true, false, cond, eqb}
use Rattle.std.specs.Prelude.{nat_le, nat_lt, is_none, ◌&&◌}
use Rattle.std.proofs.lemmas.Bool.{eqb-true, eq-eqb}
use Rattle.ns_code.specs.declared.program.CodeProgram.{CodeProgram}
use Rattle.ns_world.specs.declared.value.Value.{Value}
use Rattle.ns_world.specs.declared.seek.Sought.TheVariants.{Facet, Top}
use Rattle.ns_world.specs.declared.cell.FacetKind.{FacetKind}
use Rattle.ns_world.specs.Cell.{Cell, ObjectCell, ClassCell, BlockCell, EnvironmentCell, ArrayCell, TextCell, FacetCell, MirrorCell, MessageCell, cell_size, cell_bytes, shape_of, with_word}
use Rattle.ns_world.specs.Heap.{Heap, heap_size, find_cell, is_class, has_superclass, write_word, write_byte}
use Rattle.ns_world.specs.Seek.{first_such, is_facet, is_top, is_sought, is_nil, may_be_first}
use Rattle.ns_world.specs.World.{World, made, stepped, entered, left, printed, written, byte_written}
use Rattle.ns_world.specs.Later.{StaysThere, AreLater, SameFirsts, IsLater, MayCome, RunsOn}
use Rattle.ns_world.specs.laws.Chains.{both_of, class_below, found_below, found_in_more, chain_in_more}
use Rattle.ns_world.specs.laws.Changing.{changing_leaves, byte_leaves, word_plainly}
use Rattle.ns_world.specs.laws.Firsts.{first_without, first_behind, sought_after_word, sought_after_byte}
use Rattle.ns_world.specs.laws.Twins.{found_changed, word_shape}

stays_itself : (heap : Heap) (number : ℕ) (cell : Cell) → find_cell heap number ≡ Some cell → StaysThere heap number cell
stays_itself heap number cell e = record { now = cell; there = e; shape = refl; bytes = refl }

-- ---- each world, and one after another

cells_same : (heap : Heap) → AreLater heap heap
cells_same heap = record { size = omega arith; cells = stays_itself heap; chains = λ class is. refl; ordered = λ o. o }

-- the same cells, under other counters and with more output
recounted : (old new : World) → new.limits ≡ old.limits → old.steps ≤ new.steps → new.cells ≡ old.cells → (more : List ℕ) →
    new.output ≡ old.output ++ more → IsLater old new
recounted old new limits steps same more printed = record {
  limits = limits;
  steps = steps;
  cells = subst (AreLater old.cells) (sym same) (cells_same old.cells);
  firsts = λ sought. ap (first_such (is_sought sought)) same;
  more = more;
  printed = printed;
}

-- A world is no earlier than itself.
pub later_same : (world : World) → IsLater world world
later_same world = recounted world world refl (omega arith) refl [] (sym (append-nil world.output))

stays_on : (second third : Heap) (number : ℕ) (cell : Cell) → AreLater second third → StaysThere second number cell →
    StaysThere third number cell
stays_on second third number cell later one =
    let two = later.cells number one.now one.there in
    record { now = two.now; there = two.there; shape = two.shape ∙ one.shape; bytes = two.bytes ∙ one.bytes }

is_of_shape : (decl base : ℕ) (encl holder over : Value) (now : Cell) → shape_of now ≡ shape_of (ClassCell decl base encl holder over) →
    now ≡ ClassCell decl base encl holder over
is_of_shape decl base encl holder over (ClassCell decl' base' encl' holder' over') e = cc
is_of_shape decl base encl holder over (ObjectCell class entries) e = absurd (cc)
is_of_shape decl base encl holder over (BlockCell body env home receiver holder') e = absurd (cc)
is_of_shape decl base encl holder over (EnvironmentCell parent locals) e = absurd (cc)
is_of_shape decl base encl holder over (ArrayCell items) e = absurd (cc)
is_of_shape decl base encl holder over (TextCell bytes) e = absurd (cc)
is_of_shape decl base encl holder over (FacetCell kind) e = absurd (cc)
is_of_shape decl base encl holder over (MirrorCell mirrored) e = absurd (cc)
is_of_shape decl base encl holder over (MessageCell sel args) e = absurd (cc)

-- a class stays as it is
same_class : (cell now : Cell) → is_class (Some cell) ≡ true → shape_of now ≡ shape_of cell → now ≡ cell
same_class (ClassCell decl base encl holder over) now is e = is_of_shape decl base encl holder over now e
same_class (ObjectCell class entries) now is e = absurd (cc)
same_class (BlockCell body env home receiver holder) now is e = absurd (cc)
same_class (EnvironmentCell parent locals) now is e = absurd (cc)
same_class (ArrayCell items) now is e = absurd (cc)
same_class (TextCell bytes) now is e = absurd (cc)
same_class (FacetCell kind) now is e = absurd (cc)
same_class (MirrorCell mirrored) now is e = absurd (cc)
same_class (MessageCell sel args) now is e = absurd (cc)

-- A later heap has the same class at the same number.
pub class_same : (old new : Heap) (class : ℕ) → AreLater old new → is_class (find_cell old class) ≡ true →
    find_cell new class ≡ find_cell old class
class_same old new class later is = found (find_cell old class) refl is
  where
    found : (o : Option Cell) → find_cell old class ≡ o → is_class o ≡ true → find_cell new class ≡ find_cell old class
    found None e is = absurd (cc)
    found (Some cell) e is =
        let s = later.cells class cell e in
        s.there ∙ (ap (λ c. Some c) (same_class cell s.now is s.shape) ∙ sym e)

cells_on : (first second third : Heap) → AreLater first second → AreLater second third → AreLater first third
cells_on first second third one two = record {
  size = omega (arith, one.size, two.size);
  cells = λ number cell e. stays_on second third number cell two (one.cells number cell e);
  chains = λ class is. two.chains class (ap is_class (class_same first second class one is) ∙ is) ∙ one.chains class is;
  ordered = λ o. two.ordered (one.ordered o);
}

-- What is later than a later world is later.
pub later_on : (first second third : World) → IsLater first second → IsLater second third → IsLater first third
later_on first second third one two = record {
  limits = two.limits ∙ one.limits;
  steps = omega (arith, one.steps, two.steps);
  cells = cells_on first.cells second.cells third.cells one.cells two.cells;
  firsts = λ sought. two.firsts sought ∙ one.firsts sought;
  more = one.more ++ two.more;
  printed = two.printed ∙ (ap (λ output. output ++ two.more) one.printed ∙ append_assoc first.output one.more two.more);
}

pub run_on : (code : CodeProgram) (first second third : World) → RunsOn code first second → RunsOn code second third →
    RunsOn code first third
run_on code first second third one two =
    record { before = one.before; after = two.after; later = later_on first second third one.later two.later }

-- ---- one cell more

cells_after_making : (heap : Heap) (cell : Cell) → has_superclass heap cell ≡ true → AreLater heap (cell ∷ heap)
cells_after_making heap cell super = record {
  size = omega arith;
  cells = λ number old e. record { now = old; there = found_in_more cell heap number (found_below heap number old e) ∙ e; shape = refl; bytes = refl };
  chains = λ class is. chain_in_more cell heap class (class_below heap class is);
  ordered = λ o. rw (super, o) refl;
}

-- a cell that may be no first is no facet, and no first class
no_facet : (heap : Heap) (cell : Cell) (kind : FacetKind) → may_be_first heap (shape_of cell) ≡ false → is_facet kind cell ≡ false
no_facet heap (FacetCell other) kind e = absurd (cc)
no_facet heap (ObjectCell class entries) kind e = refl
no_facet heap (ClassCell decl base encl holder over) kind e = refl
no_facet heap (BlockCell body env home receiver holder) kind e = refl
no_facet heap (EnvironmentCell parent locals) kind e = refl
no_facet heap (ArrayCell items) kind e = refl
no_facet heap (TextCell bytes) kind e = refl
no_facet heap (MirrorCell mirrored) kind e = refl
no_facet heap (MessageCell sel args) kind e = refl

not_none : (nil : Bool) (o : Option ℕ) → (nil && is_none o) ≡ false → nil ≡ true → IsSome o
not_none true (Some number) e n = refl
not_none true None e n = absurd (cc)
not_none false o e n = absurd (cc)

behind : (heap : Heap) (cell : Cell) (decl : ℕ) → may_be_first heap (shape_of cell) ≡ false → is_top decl cell ≡ true →
    IsSome (first_such (is_top decl) heap)
behind heap (ClassCell other base encl holder over) decl e t =
    let both = both_of (eqb decl other) (is_nil encl) t in
    subst (λ n. IsSome (first_such (is_top n) heap)) (sym (eqb-true decl other both.0)) (not_none (is_nil encl) (first_such (is_top other) heap) e both.1)
behind heap (ObjectCell class entries) decl e t = absurd (cc)
behind heap (BlockCell body env home receiver holder) decl e t = absurd (cc)
behind heap (EnvironmentCell parent locals) decl e t = absurd (cc)
behind heap (ArrayCell items) decl e t = absurd (cc)
behind heap (TextCell bytes) decl e t = absurd (cc)
behind heap (FacetCell kind) decl e t = absurd (cc)
behind heap (MirrorCell mirrored) decl e t = absurd (cc)
behind heap (MessageCell sel args) decl e t = absurd (cc)

firsts_after_making : (heap : Heap) (cell : Cell) → may_be_first heap (shape_of cell) ≡ false → SameFirsts heap (cell ∷ heap)
firsts_after_making heap cell e (Facet kind) = first_without (is_facet kind) heap cell (no_facet heap cell kind e)
firsts_after_making heap cell e (Top decl) = tested (is_top decl cell) refl
  where
    tested : (b : Bool) → is_top decl cell ≡ b → first_such (is_top decl) (cell ∷ heap) ≡ first_such (is_top decl) heap
    tested true t = first_behind (is_top decl) heap cell (behind heap cell decl e t)
    tested false t = first_without (is_top decl) heap cell t

-- a world that a test gives is the one that it tests
tested_world : (old more after : World) (b : Bool) → cond b (Some more) None ≡ Some after → IsLater old more → IsLater old after
tested_world old more after true e later = let is : more ≡ after = cc in subst (λ (w : World). IsLater old w) is later
tested_world old more after false e later = absurd (cc)

-- A cell that may come leads to a later world.
pub later_made : (world after : World) (cell : Cell) → MayCome world.cells cell → made world cell ≡ Some after → IsLater world after
later_made world after cell may e =
    tested_world world (record world { cells = cell ∷ world.cells }) after (nat_le (heap_size world.cells + cell_size cell) world.limits.cells) e (record {
      limits = refl;
      steps = omega arith;
      cells = cells_after_making world.cells cell may.superclass;
      firsts = firsts_after_making world.cells cell may.no_first;
      more = [];
      printed = sym (append-nil world.output);
    })

-- ---- charges, and output

-- A step leads to a later world.
pub later_stepped : (world after : World) → stepped world ≡ Some after → IsLater world after
later_stepped world after e =
    tested_world world (record world { steps = world.steps + 1 }) after (nat_lt world.steps world.limits.steps) e
    (recounted world (record world { steps = world.steps + 1 }) refl (omega arith) refl [] (sym (append-nil world.output)))

-- A frame that is entered leads to a later world.
pub later_entered : (world after : World) → entered world ≡ Some after → IsLater world after
later_entered world after e =
    tested_world world (record world { depth = world.depth + 1 }) after (nat_lt world.depth world.limits.depth) e
    (recounted world (record world { depth = world.depth + 1 }) refl (omega arith) refl [] (sym (append-nil world.output)))

-- A frame that is left leads to a later world.
pub later_left : (world : World) → IsLater world (left world)
later_left world = recounted world (left world) refl (omega arith) refl [] (sym (append-nil world.output))

pub later_counted : (world : World) (steps depth : ℕ) → world.steps ≤ steps → IsLater world (record world { steps = steps; depth = depth })
later_counted world steps depth h =
    recounted world (record world { steps = steps; depth = depth }) refl h refl [] (sym (append-nil world.output))

-- What is printed leads to a later world.
pub later_printed : (world after : World) (bytes : List ℕ) → printed world bytes ≡ Some after → IsLater world after
later_printed world after bytes e =
    tested_world world (record world { output = world.output ++ bytes }) after (nat_le (length world.output + length bytes) world.limits.out) e
    (recounted world (record world { output = world.output ++ bytes }) refl (omega arith) refl bytes refl)

-- ---- a word that is written

word_bytes : (word : ℕ) (value : Value) (cell : Cell) → cell_bytes (with_word cell word value) ≡ cell_bytes cell
word_bytes word value (ObjectCell class entries) = refl
word_bytes word value (ClassCell decl base encl holder over) = refl
word_bytes word value (BlockCell body env home receiver holder) = refl
word_bytes word value (EnvironmentCell parent locals) = refl
word_bytes word value (ArrayCell items) = refl
word_bytes word value (TextCell bytes) = refl
word_bytes word value (FacetCell kind) = refl
word_bytes word value (MirrorCell mirrored) = refl
word_bytes word value (MessageCell sel args) = refl

stays_written : (heap : Heap) (at word : ℕ) (value : Value) (number : ℕ) (cell : Cell) → find_cell heap number ≡ Some cell →
    StaysThere (write_word heap at word value) number cell
stays_written heap at word value number cell e = tested (eqb number at) refl
  where
    tested : (b : Bool) → eqb number at ≡ b → StaysThere (write_word heap at word value) number cell
    tested true t =
        let here : number ≡ at = eqb-true number at t in
        let is : find_cell (write_word heap at word value) number ≡ Some (with_word cell word value) =
        ap (find_cell (write_word heap at word value)) here
        ∙ found_changed heap at (λ c. with_word c word value) cell (word_plainly word value) (ap (find_cell heap) (sym here) ∙ e) in
        record { now = with_word cell word value; there = is; shape = word_shape word value cell; bytes = word_bytes word value cell }
    tested false t =
        let other : number ≢ at = λ q. let s : eqb number at ≡ true = eq-eqb number at q in cc in
        let leaves = changing_leaves heap at (λ c. with_word c word value) (word_plainly word value) in
        record { now = cell; there = leaves.others number other ∙ e; shape = refl; bytes = refl }

-- A word that is written leads to a later world.
pub later_written : (world : World) (at word : ℕ) (value : Value) → IsLater world (written world at word value)
later_written world at word value =
    let leaves = changing_leaves world.cells at (λ c. with_word c word value) (word_plainly word value) in
    let cells : AreLater world.cells (write_word world.cells at word value) = record {
      size = omega (arith, leaves.size);
      cells = stays_written world.cells at word value;
      chains = λ class is. leaves.chains class;
      ordered = λ o. leaves.order ∙ o;
    } in
    record { limits = refl; steps = omega arith; cells = cells; firsts = sought_after_word world.cells at word value; more = []; printed = sym (append-nil world.output) }

-- ---- a byte that is written of a text that wasn't there

pub later_byte_written : (old new : World) (at place byte : ℕ) → IsLater old new → heap_size old.cells ≤ at →
    IsLater old (byte_written new at place byte)
later_byte_written old new at place byte later past =
    let leaves = byte_leaves new.cells at place byte in
    let other : (number : ℕ) (cell : Cell) → find_cell old.cells number ≡ Some cell → number ≢ at = λ number cell e q. omega (arith, found_below old.cells number cell e, past, q) in
    let cells : AreLater old.cells (write_byte new.cells at place byte) = record {
      size = omega (arith, leaves.size, later.cells.size);
      cells = λ number cell e. let s = later.cells.cells number cell e in record { now = s.now; there = leaves.others number (other number cell e) ∙ s.there; shape = s.shape; bytes = s.bytes };
      chains = λ class is. leaves.chains class ∙ later.cells.chains class is;
      ordered = λ o. leaves.order ∙ later.cells.ordered o;
    } in
    record {
      limits = later.limits;
      steps = later.steps;
      cells = cells;
      firsts = λ sought. sought_after_byte new.cells at place byte sought ∙ later.firsts sought;
      more = later.more;
      printed = later.printed;
    }
