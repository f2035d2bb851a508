-- Where a cell stands in the heap and in its words.
use Rattle.std.proofs.Common.{◌≡◌, ℕ, ◌+◌, ◌-◌, ◌<◌, List, [], ◌∷◌, ◌++◌, length, get_or, set, ap, sym, ◌∙◌, arith, length-append, append_assoc, append-nil, Some}
use Rattle.std.proofs.lemmas.List.{get_or_append_left, set-append_left, set-append_right}
use Rattle.std.proofs.Math.Seq.{get_or-append-add}
use Rattle.ns_world.specs.declared.word.Word.{Word}
use Rattle.ns_world.specs.Cell.{Cell, cell_size}
use Rattle.ns_world.specs.Heap.{Heap, find_cell, set_cell}
use Rattle.ns_world.specs.Words.{words_of, laid_out}
use Rattle.ns_world.proofs.LaidOut.{length-laid_out, length-words}
use Rattle.ns_world.specs.laws.Standing.{stands}

pub laid_out-append : (later earlier : Heap) → laid_out (later ++ earlier) ≡ laid_out earlier ++ laid_out later
laid_out-append [] earlier = sym (append-nil (laid_out earlier))
laid_out-append (cell ∷ later) earlier =
    ap (λ ws. ws ++ words_of cell) (laid_out-append later earlier) ∙ append_assoc (laid_out earlier) (laid_out later) (words_of cell)

split : (before words after : List Word) (j : ℕ) (d : Word) → j < length words →
    get_or ((before ++ words) ++ after) (length before + j) d ≡ get_or words j d
split before words after j d h =
    let within : length before + j < length (before ++ words) = omega (arith, length-append before words) in
    get_or_append_left (before ++ words) after d (length before + j) within ∙ get_or-append-add before words j d

-- the words of a cell stand at its number
pub word_of_cell : (heap : Heap) (number : ℕ) (cell : Cell) (j : ℕ) (d : Word) → find_cell heap number ≡ Some cell → j < cell_size cell →
    get_or (laid_out heap) (number + j) d ≡ get_or (words_of cell) j d
word_of_cell heap number cell j d e h =
    let s = stands heap number cell e in
    let words : laid_out heap ≡ (laid_out s.earlier ++ words_of cell) ++ laid_out s.later = ap laid_out s.is ∙ laid_out-append s.later (cell ∷ s.earlier) in
    let at : length (laid_out s.earlier) ≡ number = length-laid_out s.earlier ∙ s.number_is in
    let here : j < length (words_of cell) = omega (arith, length-words cell) in
    ap (λ ws. get_or ws (number + j) d) words
    ∙ (ap (λ n. get_or ((laid_out s.earlier ++ words_of cell) ++ laid_out s.later) (n + j) d) (sym at) ∙ split (laid_out s.earlier) (words_of cell) (laid_out s.later) j d here)

join : (before words after : List Word) (n j : ℕ) (w : Word) → length before ≡ n → j < length words →
    set ((before ++ words) ++ after) (n + j) w ≡ (before ++ set words j w) ++ after
join before words after n j w e h =
    let within : n + j < length (before ++ words) = omega (arith, length-append before words) in
    let back : n + j - n ≡ j = omega arith in
    set-append_left (before ++ words) after (n + j) w within
    ∙ ap (λ ws. ws ++ after) (set-append_right before words n (n + j) w e (omega arith) ∙ ap (λ k. before ++ set words k w) back)

-- a word of a cell is written at its number
pub set_word_of_cell : (heap : Heap) (number : ℕ) (cell new : Cell) (j : ℕ) (w : Word) → find_cell heap number ≡ Some cell →
    j < cell_size cell → words_of new ≡ set (words_of cell) j w → laid_out (set_cell heap number new) ≡ set (laid_out heap) (number + j) w
set_word_of_cell heap number cell new j w e h same =
    let s = stands heap number cell e in
    let old : laid_out heap ≡ (laid_out s.earlier ++ words_of cell) ++ laid_out s.later = ap laid_out s.is ∙ laid_out-append s.later (cell ∷ s.earlier) in
    let now : laid_out (set_cell heap number new) ≡ (laid_out s.earlier ++ words_of new) ++ laid_out s.later = ap laid_out (s.replaced new) ∙ laid_out-append s.later (new ∷ s.earlier) in
    let at : length (laid_out s.earlier) ≡ number = length-laid_out s.earlier ∙ s.number_is in
    let here : j < length (words_of cell) = omega (arith, length-words cell) in
    now ∙ (ap (λ ws. (laid_out s.earlier ++ ws) ++ laid_out s.later) same
    ∙ (sym (join (laid_out s.earlier) (words_of cell) (laid_out s.later) number j w at here) ∙ ap (λ ws. set ws (number + j) w) (sym old)))
