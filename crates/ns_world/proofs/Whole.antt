-- A cell that is made with what it holds keeps the words of a heap laid out.
use Rattle.std.proofs.Common.{◌≡◌, ℕ, ◌+◌, ◌≤◌, List, [], ◌∷◌, ◌++◌, length, map, replicate, ap, sym, ◌∙◌, refl, arith, append_assoc, length-append, false, true}
use Rattle.std.proofs.lemmas.List.{length-replicate, map-append}
use Rattle.ns_world.specs.declared.cell.FacetKind.{FacetKind}
use Rattle.ns_world.specs.declared.value.Value.{Value}
use Rattle.ns_world.specs.declared.value.Value.TheVariants.{Nil}
use Rattle.ns_world.specs.declared.word.Word.{Word}
use Rattle.ns_world.specs.declared.word.Word.TheVariants.{Nil as NilWord}
use Rattle.ns_world.specs.Cell.{Cell, cell_size, filled_environment}
use Rattle.ns_world.specs.Heap.{heap_size, has_superclass}
use Rattle.ns_world.specs.Seek.{is_facet, is_top}
use Rattle.ns_world.specs.View.{HeapView, IsLaidOut}
use Rattle.ns_world.specs.Words.{word_of, word_beside, words_of, cells_in}
use Rattle.ns_world.proofs.Bounding.{no_first_cell}
use Rattle.ns_world.specs.laws.Chains.{size_above}
use Rattle.ns_world.proofs.Freshly.{nil_words}
use Rattle.ns_world.proofs.LaidOut.{length-words}
use Rattle.ns_world.specs.laws.Ordered.{ordered_more}
use Rattle.ns_world.proofs.Kept.{seen_laid_out, seen_ordered, seen_size, seen_firsts, seen_within, keeps, laid_out-more}

-- one cell more that is no facet and no class
pub laid_out_with : (seen : HeapView) (words after : List Word) (capacity more shown_room room bound : ℕ) (cell : Cell) →
    (let shown : HeapView = record { cells = cells_in words; room = shown_room } in shown) ≡ seen → IsLaidOut words capacity room bound →
    after ≡ words ++ words_of cell → capacity ≤ more → has_superclass seen.cells cell ≡ true →
    ((kind : FacetKind) → is_facet kind cell ≡ false) → ((decl : ℕ) → is_top decl cell ≡ false) →
    heap_size seen.cells + cell_size cell ≤ 64000000 → IsLaidOut after more room bound
laid_out_with seen words after capacity more shown_room room bound cell e l is fits super facet top small =
    keeps (cell ∷ seen.cells) after more room bound
    (laid_out-more seen.cells cell words (seen_laid_out seen words capacity shown_room room bound e l) ∙ sym is)
    (ordered_more seen.cells cell super (seen_ordered seen words capacity shown_room room bound e l))
    (omega (arith, l.room_kept, fits))
    (omega (arith, ap length is, length-append words (words_of cell), length-words cell, seen_size seen words capacity shown_room room bound e l, small))
    (omega (arith, seen_within seen words capacity shown_room room bound e l, size_above cell))
    (λ sought number f. seen_firsts seen words capacity shown_room room bound e l sought number (sym (no_first_cell seen.cells cell sought facet top) ∙ f))

-- the words of an environment, its first locals before the others
pub environment_words : (parent : Value) (first : List Value) (others : ℕ) →
    words_of (filled_environment parent first others) ≡ word_beside (length first + others) parent ∷ (map word_of first ++ replicate others NilWord)
environment_words parent first others =
    let size : length (first ++ replicate others Nil) ≡ length first + others = omega (arith, length-append first (replicate others Nil), length-replicate others Nil) in
    rw (size, map-append word_of first (replicate others Nil), nil_words others) refl

pub environment_size : (parent : Value) (first : List Value) (others : ℕ) →
    cell_size (filled_environment parent first others) ≡ 1 + (length first + others)
environment_size parent first others = omega (arith, length-append first (replicate others Nil), length-replicate others Nil)

-- what was put in three parts
pub three_parts : (before first rest : List Word) (head : Word) →
    ((before ++ head ∷ []) ++ first) ++ rest ≡ before ++ head ∷ (first ++ rest)
three_parts before first rest head = append_assoc (before ++ head ∷ []) first rest ∙ append_assoc before (head ∷ []) (first ++ rest)
