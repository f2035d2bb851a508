-- The cells of a start: which are made, and what of them the invariant asks for.
use Rattle.std.proofs.Common.{◌≡◌, ℕ, ◌+◌, List, [], ◌∷◌, ◌++◌, map, reverse, All, refl, sym, ap, ◌∙◌, arith}
use Rattle.std.proofs.Common.{append_assoc, append-nil, Some, None, Bool, true, false, cond}
use Rattle.std.specs.Prelude.{nat_le}
use Rattle.std.proofs.lemmas.List.{reverse-append}
use Rattle.std.proofs.lemmas.List.Elements.{All-cons, All-nil}
use Rattle.ns_code.specs.declared.program.CodeProgram.{CodeProgram}
use Rattle.ns_world.specs.declared.value.Value.{Value}
use Rattle.ns_world.specs.declared.value.Value.TheVariants.{Ref}
use Rattle.ns_world.specs.declared.ending.Ending.{Ending}
use Rattle.ns_world.specs.declared.ending.Ending.TheVariants.{Limit}
use Rattle.ns_world.specs.declared.ending.LimitKind.TheVariants.{Cells}
use Rattle.ns_world.specs.Cell.{Cell, ArrayCell, TextCell, cell_size, shape_of}
use Rattle.ns_world.specs.Heap.{Heap, heap_size, find_cell, has_superclass}
use Rattle.ns_world.specs.World.{World, made}
use Rattle.ns_world.specs.Lawful.{IsLawful, IsLiveValue}
use Rattle.ns_world.specs.Keeping.{MayBeMade}
use Rattle.ns_world.specs.laws.Chains.{found_below, found_in_more}
use Rattle.ns_kdata.specs.Lawful.{MayHold}
use Rattle.ns_kdata.specs.laws.Filled.{filled_keeps}
use Rattle.ns_moves.specs.Control.{Progress, in_world, After, Gives, Halts, charged}
use Rattle.ns_moves.specs.Start.{numbers_from, size_of_cells, all_made}
use Rattle.ns_moves.specs.Valid.{fitting, array_behind, blocks_have_homes}

-- ---- a world in which a start is made

-- It is lawful, its blocks have homes, and nothing was begun.
pub record IsClean (code : CodeProgram) (p : Progress) : Type 0 where
  pub lawful : IsLawful p.world code
  pub homes : blocks_have_homes code 0 p.world.cells ≡ true
  pub begun : p.begun ≡ 0
  pub depth : p.world.depth ≡ 0

-- A cell may be made at a start: it may be made with what it holds, and is no block without a home.
pub record MayStart (code : CodeProgram) (heap : Heap) (cell : Cell) : Type 0 where
  pub superclass : has_superclass heap cell ≡ true
  pub made : MayBeMade heap code (shape_of cell)
  pub holds : MayHold heap code cell
  pub homes : blocks_have_homes code 0 heap ≡ true → blocks_have_homes code 0 (cell ∷ heap) ≡ true

-- the cells after these were made
abbrev pub made_all : List Cell → Heap → Heap
made_all [] heap = heap
made_all (cell ∷ cells) heap = made_all cells (cell ∷ heap)

-- each of these may be made behind those before it
abbrev pub AllMayStart : CodeProgram → Heap → List Cell → Type 0
AllMayStart code heap [] = Unit {0}
AllMayStart code heap (cell ∷ cells) = MayStart code heap cell × AllMayStart code (cell ∷ heap) cells

pub may_start_on : (code : CodeProgram) (heap : Heap) (first second : List Cell) → AllMayStart code heap first →
    AllMayStart code (made_all first heap) second
    → AllMayStart code heap (first ++ second)
may_start_on code heap [] second one two = two
may_start_on code heap (cell ∷ first) second one two = (one.0, may_start_on code (cell ∷ heap) first second one.1 two)

-- the value of the last cell of these, which are made from a number on
abbrev pub last_of : Value → ℕ → List Cell → Value
last_of last number [] = last
last_of last number (cell ∷ cells) = last_of (Ref number) (number + cell_size cell) cells

-- all cells were made, or those up to the first that didn't fit
pub record Whole (code : CodeProgram) (heap : Heap) (cells : List Cell) (last v : Value) (q : Progress) : Type 0 where
  pub clean : IsClean code q
  pub cells_are : reverse q.world.cells ≡ reverse heap ++ cells
  pub last_is : v ≡ last_of last (heap_size heap) cells

pub record Cut (code : CodeProgram) (room : ℕ) (heap : Heap) (cells : List Cell) (ending : Ending) (q : Progress) : Type 0 where
  pub clean : IsClean code q
  pub ending_is : ending ≡ Limit Cells
  pub room_is : q.world.limits.cells ≡ room
  pub cells_are : reverse q.world.cells ≡ reverse heap ++ fitting room (heap_size heap) cells

abbrev pub MadeAll : CodeProgram → ℕ → Heap → List Cell → Value → After → Type 0
MadeAll code room heap cells last (Gives v q) = Whole code heap cells last v q
MadeAll code room heap cells last (Halts ending q) = Cut code room heap cells ending q

reverse_more : (cell : Cell) (heap : Heap) (cells : List Cell) → reverse (cell ∷ heap) ++ cells ≡ reverse heap ++ cell ∷ cells
reverse_more cell heap cells =
    ap (λ front. front ++ cells) (reverse-append (cell ∷ []) heap) ∙ append_assoc (reverse heap) (cell ∷ []) cells

-- one more cell was made before these
more_made : (code : CodeProgram) (room : ℕ) (heap : Heap) (cell : Cell) (cells : List Cell) (last : Value) (after : After)
    → nat_le (heap_size heap + cell_size cell) room ≡ true → MadeAll code room (cell ∷ heap) cells (Ref (heap_size heap)) after
    → MadeAll code room heap (cell ∷ cells) last after
more_made code room heap cell cells last (Gives v q) e m =
    record { clean = m.clean; cells_are = m.cells_are ∙ reverse_more cell heap cells; last_is = m.last_is }
more_made code room heap cell cells last (Halts ending q) e m = record {
  clean = m.clean;
  ending_is = m.ending_is;
  room_is = m.room_is;
  cells_are = m.cells_are ∙ (reverse_more cell heap (fitting room (heap_size (cell ∷ heap)) cells) ∙ ap (λ cells. reverse heap ++ cells) (rw e refl));
}

pub all_made_all : (code : CodeProgram) (cells : List Cell) (last : Value) (p : Progress) → IsClean code p →
    AllMayStart code p.world.cells cells
    → MadeAll code p.world.limits.cells p.world.cells cells last (all_made cells last p)
all_made_all code [] last p clean may = record { clean = clean; cells_are = sym (append-nil (reverse p.world.cells)); last_is = refl }
all_made_all code (cell ∷ cells) last p clean may =
    tested (nat_le (heap_size p.world.cells + cell_size cell) p.world.limits.cells) refl
    (λ next. all_made_all code cells (Ref (heap_size p.world.cells)) (in_world p more) next may.1)
  where
    more : World
    more = record p.world { cells = cell ∷ p.world.cells }

    tested : (b : Bool) → nat_le (heap_size p.world.cells + cell_size cell) p.world.limits.cells ≡ b
        → (IsClean code (in_world p (record p.world { cells = cell ∷ p.world.cells }))
        → MadeAll code p.world.limits.cells (cell ∷ p.world.cells) cells (Ref (heap_size p.world.cells))
        (all_made cells (Ref (heap_size p.world.cells)) (in_world p (record p.world { cells = cell ∷ p.world.cells }))))
        → MadeAll code p.world.limits.cells p.world.cells (cell ∷ cells) last
        (charged Halts Cells (cond b (Some (record p.world { cells = cell ∷ p.world.cells })) None) p (all_made cells (Ref (heap_size p.world.cells))))
    tested true e below =
        let is : made p.world cell ≡ Some (record p.world { cells = cell ∷ p.world.cells }) = rw e refl in
        more_made code p.world.limits.cells p.world.cells cell cells last _ e
        (below (record {
          lawful = filled_keeps p.world _ code cell clean.lawful may.0.superclass may.0.made may.0.holds is;
          homes = may.0.homes clean.homes;
          begun = clean.begun;
          depth = clean.depth;
        }))
    tested false e below = record {
      clean = clean;
      ending_is = refl;
      room_is = refl;
      cells_are = sym (append-nil (reverse p.world.cells)) ∙ ap (λ cells. reverse p.world.cells ++ cells) (rw e refl);
    }

-- ---- where the cells of a start stand

pub sizes_add : (first second : List Cell) → size_of_cells (first ++ second) ≡ size_of_cells first + size_of_cells second
sizes_add [] second = omega arith
sizes_add (cell ∷ first) second = omega (arith, sizes_add first second)

pub made_size : (cells : List Cell) (heap : Heap) → heap_size (made_all cells heap) ≡ heap_size heap + size_of_cells cells
made_size [] heap = omega arith
made_size (cell ∷ cells) heap = omega (arith, made_size cells (cell ∷ heap))

pub last_at : (last : Value) (number : ℕ) (cells : List Cell) (cell : Cell) →
    last_of last number (cells ++ cell ∷ []) ≡ Ref (number + size_of_cells cells)
last_at last number [] cell = ap Ref (omega arith)
last_at last number (first ∷ cells) cell = last_at (Ref number) (number + cell_size first) cells cell ∙ ap Ref (omega arith)

pub behind_texts : (number : ℕ) (texts : List (List ℕ)) (items : List Value)
    → array_behind number (map TextCell texts ++ ArrayCell items ∷ []) ≡ Some (number + size_of_cells (map TextCell texts))
behind_texts number [] items = ap (λ n. Some n) (omega arith)
behind_texts number (text ∷ texts) items = behind_texts (number + cell_size (TextCell text)) texts items ∙ ap (λ n. Some n) (omega arith)

-- a cell that is there stays while others are made
found_still : (cells : List Cell) (heap : Heap) (number : ℕ) (cell : Cell) → find_cell heap number ≡ Some cell
    → find_cell (made_all cells heap) number ≡ Some cell
found_still [] heap number cell e = e
found_still (next ∷ cells) heap number cell e =
    found_still cells (next ∷ heap) number cell (found_in_more next heap number (found_below heap number cell e) ∙ e)

pub newest_found : (cell : Cell) (heap : Heap) → find_cell (cell ∷ heap) (heap_size heap) ≡ Some cell
newest_found cell heap = rw (Rattle.std.proofs.lemmas.Bool.eq-eqb (heap_size heap) (heap_size heap) refl) refl

-- the texts of a start are live
pub texts_live : (code : CodeProgram) (texts : List (List ℕ)) (heap : Heap)
    → All (IsLiveValue (made_all (map TextCell texts) heap) code) (map Ref (numbers_from (heap_size heap) (map TextCell texts)))
texts_live code [] heap = All-nil (IsLiveValue heap code)
texts_live code (text ∷ texts) heap =
    let whole : Heap = made_all (map TextCell texts) (TextCell text ∷ heap) in
    let found : find_cell whole (heap_size heap) ≡ Some (TextCell text) =
    found_still (map TextCell texts) (TextCell text ∷ heap) (heap_size heap) (TextCell text) (newest_found (TextCell text) heap) in
    All-cons (IsLiveValue whole code) (Ref (heap_size heap)) (map Ref (numbers_from (heap_size heap + cell_size (TextCell text)) (map TextCell texts)))
    (rw found refl, rw found refl) (texts_live code texts (TextCell text ∷ heap))
