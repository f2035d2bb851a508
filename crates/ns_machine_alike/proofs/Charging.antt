-- Both runs charge or print, or neither has room to; and what they have used stays abreast.
use Rattle.std.proofs.Common.{◌≡◌, ℕ, suc, ◌+◌, ◌-◌, ◌≤◌, List, ◌∷◌, ◌++◌, length, length-append, append_assoc, Option, Some, None, Bool, true, false, cond, refl, sym, ap, ◌∙◌, subst, arith}
use Rattle.std.specs.Prelude.{nat_le, nat_lt, is_some}
use Rattle.std.proofs.lemmas.Bool.{ltb-true, lt-ltb, leb-true, le-leb}
use Rattle.ns_base.specs.declared.limits.Limits.{Limits}
use Rattle.ns_world.specs.declared.cell.FacetKind.TheVariants.{Board}
use Rattle.ns_world.specs.declared.ending.LimitKind.{LimitKind}
use Rattle.ns_world.specs.declared.ending.LimitKind.TheVariants.{Steps, Depth}
use Rattle.ns_world.specs.declared.ending.Fault.{Fault}
use Rattle.ns_world.specs.declared.ending.Fault.TheVariants as fault
use Rattle.ns_world.specs.declared.ending.Ending.{Ending}
use Rattle.ns_world.specs.declared.ending.Ending.TheVariants.{Limit}
use Rattle.ns_world.specs.Cell.{Cell, FacetCell, cell_size}
use Rattle.ns_world.specs.Heap.{heap_size, find_cell}
use Rattle.ns_world.specs.World.{World, made, stepped, entered, left, printed}
use Rattle.ns_facets.specs.declared.board.Board.{Board as BoardValue}
use Rattle.ns_moves.specs.declared.site.Site.{Site}
use Rattle.ns_moves.specs.Site.{fault_ending}
use Rattle.ns_moves.specs.Control.{Progress, in_world, charged}
use Rattle.ns_machine_alike.specs.Paired.{IsPairing, EndingPaired, HeapPaired, Abreast}

-- ---- charges

-- Two charges come to what they stop with where both find no next world, or to what they go on to.
pub charged_so : {A B : Type 0} (P : A → B → Type 0) (stop : Ending → Progress → A) (stop' : Ending → Progress → B) (limit : LimitKind) (o o' : Option World) (one two : Progress) (go : Progress → A) (go' : Progress → B)
    → is_some o ≡ is_some o' → P (stop (Limit limit) one) (stop' (Limit limit) two)
    → ((world world' : World) → o ≡ Some world → o' ≡ Some world' → P (go (in_world one world)) (go' (in_world two world')))
    → P (charged stop limit o one go) (charged stop' limit o' two go')
charged_so P stop stop' limit None None one two go go' e stopped goes = stopped
charged_so P stop stop' limit (Some world) (Some world') one two go go' e stopped goes = goes world world' refl refl
charged_so P stop stop' limit None (Some world') one two go go' e stopped goes = absurd (cc (e))
charged_so P stop stop' limit (Some world) None one two go go' e stopped goes = absurd (cc (e))

one_world : {A : Type 0} (b : Bool) (x y : A) → cond b (Some x) None ≡ Some y → y ≡ x
one_world true x y e = cc
one_world false x y e = absurd (cc (e))

tested : {A : Type 0} (b : Bool) (x y : A) → cond b (Some x) None ≡ Some y → b ≡ true
tested true x y e = refl
tested false x y e = absurd (cc (e))

pub some_if : {A B : Type 0} (b c : Bool) (x : A) (y : B) → b ≡ c → is_some (cond b (Some x) None) ≡ is_some (cond c (Some y) None)
some_if true true x y e = refl
some_if false false x y e = refl
some_if true false x y e = absurd (cc (e))
some_if false true x y e = absurd (cc (e))

pub made_is : (world : World) (cell : Cell) (new : World) → made world cell ≡ Some new → new ≡ record world { cells = cell ∷ world.cells }
made_is world cell new e =
    one_world (nat_le (heap_size world.cells + cell_size cell) world.limits.cells) (record world { cells = cell ∷ world.cells }) new e

pub made_fits : (world : World) (cell : Cell) (new : World) → made world cell ≡ Some new →
    nat_le (heap_size world.cells + cell_size cell) world.limits.cells ≡ true
made_fits world cell new e =
    tested (nat_le (heap_size world.cells + cell_size cell) world.limits.cells) (record world { cells = cell ∷ world.cells }) new e

pub stepped_is : (world new : World) → stepped world ≡ Some new → new ≡ record world { steps = world.steps + 1 }
stepped_is world new e = one_world (nat_lt world.steps world.limits.steps) (record world { steps = world.steps + 1 }) new e

pub entered_is : (world new : World) → entered world ≡ Some new → new ≡ record world { depth = world.depth + 1 }
entered_is world new e = one_world (nat_lt world.depth world.limits.depth) (record world { depth = world.depth + 1 }) new e

pub printed_is : (world new : World) (bytes : List ℕ) → printed world bytes ≡ Some new →
    new ≡ record world { output = world.output ++ bytes }
printed_is world new bytes e =
    one_world (nat_le (length world.output + length bytes) world.limits.out) (record world { output = world.output ++ bytes }) new e

printed_fits : (world new : World) (bytes : List ℕ) → printed world bytes ≡ Some new →
    nat_le (length world.output + length bytes) world.limits.out ≡ true
printed_fits world new bytes e =
    tested (nat_le (length world.output + length bytes) world.limits.out) (record world { output = world.output ++ bytes }) new e

-- ---- tests of counters

pub same_bool : (b c : Bool) → (b ≡ true → c ≡ true) → (c ≡ true → b ≡ true) → b ≡ c
same_bool true true f g = refl
same_bool false false f g = refl
same_bool true false f g = absurd (let x = f refl in cc)
same_bool false true f g = absurd (let x = g refl in cc)

pub same_lt : (a b c d : ℕ) → b - a ≡ d - c → nat_lt a b ≡ nat_lt c d
same_lt a b c d e =
    same_bool (nat_lt a b) (nat_lt c d) (λ t. lt-ltb c d (let x = ltb-true a b t in omega arith)) (λ t. lt-ltb a b (let x = ltb-true c d t in omega arith))

pub same_le : (a z b c d : ℕ) → b - a ≡ d - c → 1 ≤ z → nat_le (a + z) b ≡ nat_le (c + z) d
same_le a z b c d e h =
    same_bool (nat_le (a + z) b) (nat_le (c + z) d) (λ t. le-leb (c + z) d (let x = leb-true (a + z) b t in omega arith)) (λ t. le-leb (a + z) b (let x = leb-true (c + z) d t in omega arith))

same_le_within : (a z b c d : ℕ) → b - a ≡ d - c → a ≤ b → c ≤ d → nat_le (a + z) b ≡ nat_le (c + z) d
same_le_within a z b c d e h k =
    same_bool (nat_le (a + z) b) (nat_le (c + z) d) (λ t. le-leb (c + z) d (let x = leb-true (a + z) b t in omega arith)) (λ t. le-leb (a + z) b (let x = leb-true (c + z) d t in omega arith))

-- a fault ends both with the same
pub faulted : (Pair : ℕ → ℕ → Type 0) (fault : Fault) (site site' : Site) → site ≡ site' →
    EndingPaired Pair (fault_ending fault site) (fault_ending fault site')
faulted Pair (fault.Kind kind) site site' e = ap (λ s. record { kind = kind; place = s.place; class = s.class; sel = s.sel }) e
faulted Pair (fault.Limit limit) site site' e = refl

module _ (Pair : ℕ → ℕ → Type 0) (first second : Progress) (pairing : IsPairing Pair first.world second.world) where
  -- ---- charges

  -- the same cells, the same output and limits, and counters that stay level
  pub recounted : (one two : Progress) (world world' : World) → world.cells ≡ one.world.cells → world'.cells ≡ two.world.cells → world.output ≡ one.world.output → world'.output ≡ two.world.output
      → world.limits ≡ one.world.limits → world'.limits ≡ two.world.limits → world.limits.steps - world.steps ≡ world'.limits.steps - world'.steps → world.depth ≡ world'.depth
      → Abreast Pair first second one two → Abreast Pair first second (in_world one world) (in_world two world')
  recounted one two world world' cells cells' output output' limits limits' steps depth a = record {
    heaps = subst (λ heap. HeapPaired Pair first second heap world'.cells) (sym cells) (subst (λ heap. HeapPaired Pair first second one.world.cells heap) (sym cells') a.heaps);
    made = a.made;
    size = ap heap_size cells ∙ a.size;
    other_size = ap heap_size cells' ∙ a.other_size;
    begun = a.begun;
    begins = a.begins;
    other_begins = a.other_begins;
    printed = a.printed;
    prints = output ∙ a.prints;
    other_prints = output' ∙ a.other_prints;
    limits = limits ∙ a.limits;
    other_limits = limits' ∙ a.other_limits;
    steps = steps;
    room = let l = limits in let l' = limits' in let c = cells in let c' = cells' in let r = a.room in cc;
    depth = depth;
    deepest = let l = limits in let l' = limits' in let r = a.deepest in cc;
    out = let l = limits in let l' = limits' in let o = output in let o' = output' in let r = a.out in cc;
    within = subst (λ o. length o ≤ world.limits.out) (sym output) (subst (λ (l : Limits). length one.world.output ≤ l.out) (sym limits) a.within);
    other_within = subst (λ o. length o ≤ world'.limits.out) (sym output') (subst (λ (l : Limits). length two.world.output ≤ l.out) (sym limits') a.other_within);
    board = λ n m p e. a.board n m p (ap (λ h. find_cell h n) (sym cells) ∙ e);
  }

  pub step_charged : {A : Type 0} {B : Type 0} (P : A → B → Type 0) (stop : Ending → Progress → A) (stop' : Ending → Progress → B) (one two : Progress) (go : Progress → A) (go' : Progress → B)
      → Abreast Pair first second one two → P (stop (Limit Steps) one) (stop' (Limit Steps) two)
      → ((next next' : Progress) → next.world.cells ≡ one.world.cells → next'.world.cells ≡ two.world.cells → Abreast Pair first second next next' → P (go next) (go' next'))
      → P (charged stop Steps (stepped one.world) one go) (charged stop' Steps (stepped two.world) two go')
  step_charged P stop stop' one two go go' a stopped goes =
      charged_so P stop stop' Steps (stepped one.world) (stepped two.world) one two go go'
      (some_if (nat_lt one.world.steps one.world.limits.steps) (nat_lt two.world.steps two.world.limits.steps) (record one.world { steps = one.world.steps + 1 }) (record two.world { steps = two.world.steps + 1 })
      (same_lt one.world.steps one.world.limits.steps two.world.steps two.world.limits.steps a.steps)) stopped
      (λ world world' e e'. let is = stepped_is one.world world e in let is' = stepped_is two.world world' e' in
      goes (in_world one world) (in_world two world') (ap (λ (w : World). w.cells) is) (ap (λ (w : World). w.cells) is')
      (subst (λ w. Abreast Pair first second (in_world one w) (in_world two world')) (sym is) (subst (λ w. Abreast Pair first second (in_world one (record one.world { steps = one.world.steps + 1 })) (in_world two w)) (sym is')
      (recounted one two (record one.world { steps = one.world.steps + 1 }) (record two.world { steps = two.world.steps + 1 }) refl refl refl refl refl refl (omega (arith, a.steps)) a.depth a))))

  pub frame_charged : {A : Type 0} {B : Type 0} (P : A → B → Type 0) (stop : Ending → Progress → A) (stop' : Ending → Progress → B) (one two : Progress) (go : Progress → A) (go' : Progress → B)
      → Abreast Pair first second one two → P (stop (Limit Depth) one) (stop' (Limit Depth) two)
      → ((next next' : Progress) → next.world.cells ≡ one.world.cells → next'.world.cells ≡ two.world.cells → Abreast Pair first second next next' → P (go next) (go' next'))
      → P (charged stop Depth (entered one.world) one go) (charged stop' Depth (entered two.world) two go')
  frame_charged P stop stop' one two go go' a stopped goes =
      charged_so P stop stop' Depth (entered one.world) (entered two.world) one two go go'
      (some_if (nat_lt one.world.depth one.world.limits.depth) (nat_lt two.world.depth two.world.limits.depth) (record one.world { depth = one.world.depth + 1 }) (record two.world { depth = two.world.depth + 1 })
      (same_lt one.world.depth one.world.limits.depth two.world.depth two.world.limits.depth (omega (arith, a.depth, a.deepest)))) stopped
      (λ world world' e e'. let is = entered_is one.world world e in let is' = entered_is two.world world' e' in
      goes (in_world one world) (in_world two world') (ap (λ (w : World). w.cells) is) (ap (λ (w : World). w.cells) is')
      (subst (λ w. Abreast Pair first second (in_world one w) (in_world two world')) (sym is) (subst (λ w. Abreast Pair first second (in_world one (record one.world { depth = one.world.depth + 1 })) (in_world two w)) (sym is')
      (recounted one two (record one.world { depth = one.world.depth + 1 }) (record two.world { depth = two.world.depth + 1 }) refl refl refl refl refl refl a.steps (omega (arith, a.depth)) a))))

  pub left_abreast : (one two : Progress) → Abreast Pair first second one two → Abreast Pair first second (in_world one (left one.world)) (in_world two (left two.world))
  left_abreast one two a = recounted one two (left one.world) (left two.world) refl refl refl refl refl refl a.steps (omega (arith, a.depth)) a

  pub begun_abreast : (one two : Progress) → Abreast Pair first second one two → Abreast Pair first second (record one { begun = suc one.begun }) (record two { begun = suc two.begun })
  begun_abreast one two a = record {
    heaps = a.heaps;
    made = a.made;
    size = a.size;
    other_size = a.other_size;
    begun = a.begun + 1;
    begins = omega (arith, a.begins);
    other_begins = omega (arith, a.other_begins);
    printed = a.printed;
    prints = a.prints;
    other_prints = a.other_prints;
    limits = a.limits;
    other_limits = a.other_limits;
    steps = a.steps;
    room = a.room;
    depth = a.depth;
    deepest = a.deepest;
    out = a.out;
    within = a.within;
    other_within = a.other_within;
    board = a.board;
  }

  -- the same board where a Board is paired
  pub board_abreast : (one two : Progress) (board board' : BoardValue) → ((n m : ℕ) → Pair n m → find_cell one.world.cells n ≡ Some (FacetCell Board) → board ≡ board') → Abreast Pair first second one two
      → Abreast Pair first second (record one { board = board }) (record two { board = board' })
  board_abreast one two board board' same a = record {
    heaps = a.heaps;
    made = a.made;
    size = a.size;
    other_size = a.other_size;
    begun = a.begun;
    begins = a.begins;
    other_begins = a.other_begins;
    printed = a.printed;
    prints = a.prints;
    other_prints = a.other_prints;
    limits = a.limits;
    other_limits = a.other_limits;
    steps = a.steps;
    room = a.room;
    depth = a.depth;
    deepest = a.deepest;
    out = a.out;
    within = a.within;
    other_within = a.other_within;
    board = same;
  }

  -- ---- output

  pub bytes_printed : (one two : Progress) (bytes : List ℕ) (world world' : World) → printed one.world bytes ≡ Some world → printed two.world bytes ≡ Some world' → Abreast Pair first second one two
      → Abreast Pair first second (in_world one world) (in_world two world')
  bytes_printed one two bytes world world' e e' a =
      subst (λ w. Abreast Pair first second (in_world one w) (in_world two world')) (sym (printed_is one.world world bytes e))
      (subst (λ w. Abreast Pair first second (in_world one (record one.world { output = one.world.output ++ bytes })) (in_world two w)) (sym (printed_is two.world world' bytes e')) after)
    where
      fits : length one.world.output + length bytes ≤ one.world.limits.out
      fits = leb-true (length one.world.output + length bytes) one.world.limits.out (printed_fits one.world world bytes e)

      fits' : length two.world.output + length bytes ≤ two.world.limits.out
      fits' = leb-true (length two.world.output + length bytes) two.world.limits.out (printed_fits two.world world' bytes e')

      after : Abreast Pair first second (in_world one (record one.world { output = one.world.output ++ bytes })) (in_world two (record two.world { output = two.world.output ++ bytes }))
      after = record {
        heaps = a.heaps;
        made = a.made;
        size = a.size;
        other_size = a.other_size;
        begun = a.begun;
        begins = a.begins;
        other_begins = a.other_begins;
        printed = a.printed ++ bytes;
        prints = ap (λ o. o ++ bytes) a.prints ∙ append_assoc first.world.output a.printed bytes;
        other_prints = ap (λ o. o ++ bytes) a.other_prints ∙ append_assoc second.world.output a.printed bytes;
        limits = a.limits;
        other_limits = a.other_limits;
        steps = a.steps;
        room = a.room;
        depth = a.depth;
        deepest = a.deepest;
        out = omega (arith, a.out, length-append one.world.output bytes, length-append two.world.output bytes);
        within = omega (arith, fits, length-append one.world.output bytes);
        other_within = omega (arith, fits', length-append two.world.output bytes);
        board = a.board;
      }

  -- whether bytes can be printed
  pub same_print : (one two : Progress) (bytes : List ℕ) → Abreast Pair first second one two
      → nat_le (length one.world.output + length bytes) one.world.limits.out ≡ nat_le (length two.world.output + length bytes) two.world.limits.out
  same_print one two bytes a = same_le_within (length one.world.output) (length bytes) one.world.limits.out (length two.world.output) two.world.limits.out a.out a.within a.other_within
