-- Worlds that grow, and are later: by a cell, a charge, a print, or a word that is written.
use Rattle.std.proofs.Common.{◌≡◌, ℕ, ◌+◌, ◌<◌, ◌≤◌, List, [], ◌∷◌, ◌++◌, length, refl, ap, sym, ◌∙◌, subst, arith, append_assoc, append-nil, Option, Some, None, Bool, true, false, cond}
use Rattle.std.specs.Prelude.{IsSome, Contains, nat_le, nat_lt}
use Rattle.ns_world.specs.declared.value.Value.{Value}
use Rattle.ns_world.specs.declared.value.Value.TheVariants.{Nil, True, False, Int, Sym, Kernel, Ref}
use Rattle.ns_world.specs.Cell.{Cell, cell_size, shape_of}
use Rattle.ns_world.specs.Heap.{Heap, heap_size, find_cell}
use Rattle.ns_world.specs.World.{World, made, stepped, entered, left, printed, written, stored}
use Rattle.ns_world.specs.Later.{IsLater, MayCome}
use Rattle.ns_world.specs.laws.Leading.{later_same, later_on, later_made, later_stepped, later_entered, later_left, later_printed, later_written}
use Rattle.ns_world.specs.laws.Changing.{writing_leaves}
use Rattle.ns_world.specs.laws.Chains.{found_below, found_in_more}
use Rattle.ns_kdata.specs.Leading.{is_common}
use Rattle.ns_kdata.specs.laws.Leading.{Allows, Writes, writes_later}
use Rattle.ns_moves.specs.Onward.{Grown}
use Rattle.ns_moves.specs.Adding.{Adds}
use Rattle.ns_moves.specs.lemmas.Later.{entered_cells}
use Rattle.ns_moves.specs.laws.Adding.{adds_none, adds_on, made_adds, stored_adds, cells_same, printed_cells}

-- the same cells
unmoved : (named : List Value) (old new : World) → new.cells ≡ old.cells → new.limits ≡ old.limits → old.steps ≤ new.steps →
    (more : List ℕ) → new.output ≡ old.output ++ more → Grown named old new
unmoved named old new same limits steps more printed = record {
  limits = limits;
  steps = steps;
  cells = omega (arith, ap heap_size same);
  more = more;
  printed = printed;
  others = λ number there apart. ap (λ cells. find_cell cells number) same;
}

grown_not : (named : List Value) (world : World) → Grown named world world
grown_not named world = unmoved named world world refl refl (omega arith) [] (sym (append-nil world.output))

there_still : (o now : Option Cell) → now ≡ o → IsSome o → IsSome now
there_still o now e there = subst IsSome (sym e) there

-- one world after another
grown_on : (named : List Value) (first second third : World) → Grown named first second → Grown named second third → Grown named first third
grown_on named first second third one two = record {
  limits = two.limits ∙ one.limits;
  steps = omega (arith, one.steps, two.steps);
  cells = omega (arith, one.cells, two.cells);
  more = one.more ++ two.more;
  printed = two.printed ∙ (ap (λ output. output ++ two.more) one.printed ∙ append_assoc first.output one.more two.more);
  others = λ number there apart.
      let still = one.others number there apart in
      two.others number (there_still (find_cell first.cells number) (find_cell second.cells number) still there) apart ∙ still;
}

below : (heap : Heap) (number : ℕ) (o : Option Cell) → find_cell heap number ≡ o → IsSome o → number < heap_size heap
below heap number (Some cell) e there = found_below heap number cell e
below heap number None e there = absurd (cc)

-- a cell more
pub making_grows : (named : List Value) (world after : World) (cell : Cell) → made world cell ≡ Some after → Grown named world after
making_grows named world after cell e = tested (nat_le (heap_size world.cells + cell_size cell) world.limits.cells) e
  where
    more : World
    more = record world { cells = cell ∷ world.cells }

    grows : Grown named world more
    grows = record {
      limits = refl;
      steps = omega arith;
      cells = omega arith;
      more = [];
      printed = sym (append-nil world.output);
      others = λ number there apart. found_in_more cell world.cells number (below world.cells number (find_cell world.cells number) refl there);
    }

    tested : (b : Bool) → cond b (Some more) None ≡ Some after → Grown named world after
    tested true e = let is : more ≡ after = cc in subst (λ (w : World). Grown named world w) is grows
    tested false e = absurd (cc)

-- a step, a frame
step_grows : (named : List Value) (world after : World) → stepped world ≡ Some after → Grown named world after
step_grows named world after e = tested (nat_lt world.steps world.limits.steps) e
  where
    more : World
    more = record world { steps = world.steps + 1 }

    tested : (b : Bool) → cond b (Some more) None ≡ Some after → Grown named world after
    tested true e = let is : more ≡ after = cc in subst (λ (w : World). Grown named world w) is (unmoved named world more refl refl (omega arith) [] (sym (append-nil world.output)))
    tested false e = absurd (cc)

-- A step changes no cell.
pub step_cells : (world after : World) → stepped world ≡ Some after → after.cells ≡ world.cells
step_cells world after e = tested (nat_lt world.steps world.limits.steps) e
  where
    tested : (b : Bool) → cond b (Some (record world { steps = world.steps + 1 })) None ≡ Some after → after.cells ≡ world.cells
    tested true e = let is : (let w : World = record world { steps = world.steps + 1 } in w) ≡ after = cc in ap (λ (w : World). w.cells) (sym is)
    tested false e = absurd (cc)

frame_grows : (named : List Value) (world after : World) → entered world ≡ Some after → Grown named world after
frame_grows named world after e = tested (nat_lt world.depth world.limits.depth) e
  where
    more : World
    more = record world { depth = world.depth + 1 }

    tested : (b : Bool) → cond b (Some more) None ≡ Some after → Grown named world after
    tested true e = let is : more ≡ after = cc in subst (λ (w : World). Grown named world w) is (unmoved named world more refl refl (omega arith) [] (sym (append-nil world.output)))
    tested false e = absurd (cc)

-- a frame given back
leaving_grows : (named : List Value) (world : World) → Grown named world (left world)
leaving_grows named world = unmoved named world (left world) refl refl (omega arith) [] (sym (append-nil world.output))

-- bytes printed
printing_grows : (named : List Value) (world after : World) (bytes : List ℕ) → printed world bytes ≡ Some after → Grown named world after
printing_grows named world after bytes e = tested (nat_le (length world.output + length bytes) world.limits.out) e
  where
    more : World
    more = record world { output = world.output ++ bytes }

    tested : (b : Bool) → cond b (Some more) None ≡ Some after → Grown named world after
    tested true e = let is : more ≡ after = cc in subst (λ (w : World). Grown named world w) is (unmoved named world more refl refl (omega arith) bytes refl)
    tested false e = absurd (cc)

-- a word of a cell that is named
writing_grows : (named : List Value) (world : World) (at word : ℕ) (value : Value) → Contains named (Ref at) →
    Grown named world (written world at word value)
writing_grows named world at word value has =
    let leaves = writing_leaves world.cells at word value in
    let others : (number : ℕ) → IsSome (find_cell world.cells number) → (Contains named (Ref number) → ⊥) → find_cell (written world at word value).cells number ≡ find_cell world.cells number
    = λ number there apart. leaves.others number (λ is. apart (subst (λ n. Contains named (Ref n)) (sym is) has)) in
    record { limits = refl; steps = omega arith; cells = omega (arith, leaves.size); more = []; printed = sym (append-nil world.output); others = others }

-- a word of a value that is named, which may be no cell
storing_grows : (named : List Value) (world : World) (object : Value) (word : ℕ) (value : Value) → Contains named object →
    Grown named world (stored world object word value)
storing_grows named world (Ref at) word value has = writing_grows named world at word value has
storing_grows named world Nil word value has = grown_not named world
storing_grows named world True word value has = grown_not named world
storing_grows named world False word value has = grown_not named world
storing_grows named world (Int number) word value has = grown_not named world
storing_grows named world (Sym sel) word value has = grown_not named world
storing_grows named world (Kernel class) word value has = grown_not named world

-- ---- worlds that grow are later

-- What a step of an action leaves: a world that has grown, that is later in the run, and that has common cells more.
pub record Moving (named : List Value) (old new : World) : Type 0 where
  pub grown : Grown named old new
  pub later : IsLater old new
  pub adds : Adds is_common old.cells new.cells

pub moving_not : (named : List Value) (world : World) → Moving named world world
moving_not named world = record { grown = grown_not named world; later = later_same world; adds = adds_none is_common world.cells }

pub moving_on : (named : List Value) (first second third : World) → Moving named first second → Moving named second third →
    Moving named first third
moving_on named first second third one two = record {
  grown = grown_on named first second third one.grown two.grown;
  later = later_on first second third one.later two.later;
  adds = adds_on is_common first.cells second.cells third.cells one.adds two.adds;
}

pub making_moves : (named : List Value) (world after : World) (cell : Cell) → MayCome world.cells cell → is_common (shape_of cell) ≡ true →
    made world cell ≡ Some after → Moving named world after
making_moves named world after cell may common e =
    record { grown = making_grows named world after cell e; later = later_made world after cell may e; adds = made_adds is_common world after cell common e }

pub step_moves : (named : List Value) (world after : World) → stepped world ≡ Some after → Moving named world after
step_moves named world after e =
    record { grown = step_grows named world after e; later = later_stepped world after e; adds = cells_same is_common world after (step_cells world after e) }

pub frame_moves : (named : List Value) (world after : World) → entered world ≡ Some after → Moving named world after
frame_moves named world after e =
    record { grown = frame_grows named world after e; later = later_entered world after e; adds = cells_same is_common world after (entered_cells world after e) }

pub leaving_moves : (named : List Value) (world : World) → Moving named world (left world)
leaving_moves named world = record { grown = leaving_grows named world; later = later_left world; adds = adds_none is_common world.cells }

printing_moves : (named : List Value) (world after : World) (bytes : List ℕ) → printed world bytes ≡ Some after → Moving named world after
printing_moves named world after bytes e =
    record { grown = printing_grows named world after bytes e; later = later_printed world after bytes e; adds = cells_same is_common world after (printed_cells world after bytes e) }

pub writing_moves : (named : List Value) (world : World) (at word : ℕ) (value : Value) → Contains named (Ref at) →
    Moving named world (written world at word value)
writing_moves named world at word value has =
    record { grown = writing_grows named world at word value has; later = later_written world at word value; adds = stored_adds is_common world (Ref at) word value }

pub storing_moves : (named : List Value) (world : World) (object : Value) (word : ℕ) (value : Value) → Contains named object →
    Moving named world (stored world object word value)
storing_moves named world object word value has =
    record { grown = storing_grows named world object word value has; later = writes_later world object word value; adds = stored_adds is_common world object word value }

-- ---- what rows of the kernel may leave

pub allows : (named : List Value) (world : World) → Allows (Moving named world) world
allows named world =
    record { same = moving_not named world; cell = λ after cell may common e. making_moves named world after cell may common e; output = λ after bytes e. printing_moves named world after bytes e }

pub writes : (named : List Value) (world : World) (object : Value) → Contains named object → Writes (Moving named world) world object
writes named world object has = λ word item. storing_moves named world object word item has
