-- The words of a heap stay laid out.
use Rattle.std.proofs.Common.{◌≡◌, ℕ, ◌≤◌, List, ◌∷◌, ◌++◌, length, ap, sym, ◌∙◌, arith, true}
use Rattle.ns_world.specs.declared.word.Word.{Word}
use Rattle.ns_world.specs.Cell.{Cell}
use Rattle.ns_world.specs.Heap.{Heap, heap_size, is_ordered, no_class}
use Rattle.ns_world.specs.Words.{words_of, laid_out, cells_in}
use Rattle.ns_world.specs.Seek.{first_such, is_sought}
use Rattle.ns_world.specs.View.{HeapView, AreFirstsBelow, IsLaidOut}
use Rattle.ns_world.proofs.LaidOut.{cells_in-laid_out, length-laid_out}

-- words of a heap stand for it
pub cells_in_words : (heap : Heap) (words : List Word) → laid_out heap ≡ words → cells_in words ≡ heap
cells_in_words heap words e = ap cells_in (sym e) ∙ cells_in-laid_out heap

-- a heap that was laid out, in order, with room
pub keeps : (heap : Heap) (words : List Word) (capacity room bound : ℕ) → laid_out heap ≡ words → is_ordered heap ≡ true → room ≤ capacity →
    length words ≤ 64000000 → bound ≤ heap_size heap → AreFirstsBelow heap bound → IsLaidOut words capacity room bound
keeps heap words capacity room bound laid ordered fits small within firsts =
    let is : cells_in words ≡ heap = cells_in_words heap words laid in
    record {
      whole = ap laid_out is ∙ laid;
      ordered = ap is_ordered is ∙ ordered;
      room_kept = fits;
      small = small;
      within = omega (arith, within, ap length laid, length-laid_out heap);
      firsts = λ sought number e. firsts sought number (sym (ap (first_such (is_sought sought)) is) ∙ e);
    }

-- one cell more
pub laid_out-more : (heap : Heap) (cell : Cell) (words : List Word) → laid_out heap ≡ words →
    laid_out (cell ∷ heap) ≡ words ++ words_of cell
laid_out-more heap cell words e = ap (λ ws. ws ++ words_of cell) e

-- what is seen of laid out words is laid out
pub seen_laid_out : (seen : HeapView) (words : List Word) (capacity room kept bound : ℕ) →
    (let shown : HeapView = record { cells = cells_in words; room = room } in shown) ≡ seen → IsLaidOut words capacity kept bound →
    laid_out seen.cells ≡ words
seen_laid_out seen words capacity room kept bound e l = ap (λ (v : HeapView). laid_out v.cells) (sym e) ∙ l.whole

pub seen_ordered : (seen : HeapView) (words : List Word) (capacity room kept bound : ℕ) →
    (let shown : HeapView = record { cells = cells_in words; room = room } in shown) ≡ seen → IsLaidOut words capacity kept bound →
    is_ordered seen.cells ≡ true
seen_ordered seen words capacity room kept bound e l = ap (λ (v : HeapView). is_ordered v.cells) (sym e) ∙ l.ordered

pub seen_size : (seen : HeapView) (words : List Word) (capacity room kept bound : ℕ) →
    (let shown : HeapView = record { cells = cells_in words; room = room } in shown) ≡ seen → IsLaidOut words capacity kept bound →
    length words ≡ heap_size seen.cells
seen_size seen words capacity room kept bound e l =
    ap length (sym (seen_laid_out seen words capacity room kept bound e l)) ∙ length-laid_out seen.cells

-- words that were laid out show their cells, in the room of before
pub shows : (seen : HeapView) (before : List Word) (heap : Heap) (words : List Word) (room : ℕ) →
    (let shown : HeapView = record { cells = cells_in before; room = room } in shown) ≡ seen → laid_out heap ≡ words →
    (let now : HeapView = record { cells = cells_in words; room = room } in now) ≡ (let shown : HeapView = record { cells = heap; room = seen.room } in shown)
shows seen before heap words room e laid =
    let first : HeapView → HeapView = λ v. record { cells = heap; room = v.room } in
    let f : Heap → HeapView = λ cells. record { cells = cells; room = room } in
    ap f (cells_in_words heap words laid) ∙ ap first e

-- the number of no class is past the cells used
pub seen_small : (seen : HeapView) (words : List Word) (capacity room kept bound : ℕ) →
    (let shown : HeapView = record { cells = cells_in words; room = room } in shown) ≡ seen → IsLaidOut words capacity kept bound →
    heap_size seen.cells ≤ no_class
seen_small seen words capacity room kept bound e l = omega (arith, seen_size seen words capacity room kept bound e l, l.small)

-- each first cell of a kind that is seen stands below the bound
pub seen_firsts : (seen : HeapView) (words : List Word) (capacity room kept bound : ℕ) →
    (let shown : HeapView = record { cells = cells_in words; room = room } in shown) ≡ seen → IsLaidOut words capacity kept bound →
    AreFirstsBelow seen.cells bound
seen_firsts seen words capacity room kept bound e l =
    λ sought number f. l.firsts sought number (ap (λ (v : HeapView). first_such (is_sought sought) v.cells) e ∙ f)

pub seen_within : (seen : HeapView) (words : List Word) (capacity room kept bound : ℕ) →
    (let shown : HeapView = record { cells = cells_in words; room = room } in shown) ≡ seen → IsLaidOut words capacity kept bound →
    bound ≤ heap_size seen.cells
seen_within seen words capacity room kept bound e l = omega (arith, l.within, seen_size seen words capacity room kept bound e l)

-- the same words with other room are laid out
pub same_words : (words after : List Word) (capacity more room roomier bound : ℕ) → after ≡ words → roomier ≤ more →
    IsLaidOut words capacity room bound → IsLaidOut after more roomier bound
same_words words after capacity more room roomier bound e fits l =
    let firsts : AreFirstsBelow (cells_in after) bound = λ sought number f. l.firsts sought number (sym (ap (λ ws. first_such (is_sought sought) (cells_in ws)) e) ∙ f) in
    record {
      whole = ap (λ ws. laid_out (cells_in ws)) e ∙ (l.whole ∙ sym e);
      ordered = ap (λ ws. is_ordered (cells_in ws)) e ∙ l.ordered;
      room_kept = fits;
      small = omega (arith, l.small, ap length e);
      within = omega (arith, l.within, ap length e);
      firsts = firsts;
    }
