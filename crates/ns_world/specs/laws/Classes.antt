-- Classes, their chains and the places of entries stay where cells are made and words are written.
use Rattle.std.proofs.Common.{◌≡◌, ◌≢◌, ℕ, zero, suc, ◌+◌, ◌<◌, ◌≤◌, List, [], ◌∷◌, length, get_or, refl, ap, sym, ◌∙◌, arith, Some, None, Bool, true, false, cond, eqb, ◌||◌}
use Rattle.std.specs.Option.{option_map_or}
use Rattle.std.proofs.lemmas.Bool.{eqb-true, eq-eqb}
use Rattle.ns_code.specs.declared.program.CodeProgram.{CodeProgram}
use Rattle.ns_world.specs.declared.value.Value.TheVariants.{Nil}
use Rattle.ns_world.specs.declared.cell.NewCell.TheVariants.{Mirror}
use Rattle.ns_world.specs.Cell.{Cell, shape_of}
use Rattle.ns_world.specs.Heap.{Heap, heap_size, find_cell, is_class, is_ordered, is_chain_start, chain_of, chain_at, change_cell, superclass_in, superclass_of, declared_class, no_class}
use Rattle.ns_world.specs.Starts.{declaration_in}
use Rattle.ns_world.specs.World.{World}
use Rattle.ns_world.specs.Lawful.{IsLawful}
use Rattle.ns_world.specs.Layout.{declaration_of, entries_of, entries_along, layout_of, layout_above, entry_word}
use Rattle.ns_world.specs.laws.Above.{ChainGoesOn, goes_on, chain_none, class_of_start}
use Rattle.ns_world.specs.laws.Chains.{class_below, found_in_more, chain_in_more}
use Rattle.ns_world.specs.laws.Changing.{ChangesPlainly, changing_leaves, found_old, differs}
use Rattle.ns_world.specs.laws.Firsts.{found_past}
use Rattle.ns_world.specs.lemmas.Replacing.{no_chain}

-- in a lawful world the cells used are below the number of no class
pub lawful_small : (world : World) (code : CodeProgram) → IsLawful world code → heap_size world.cells < no_class
lawful_small world code lawful = omega (arith, lawful.within.cells, lawful.within.limits.1.1)

-- A heap as it can be: each class has its superclass before it, and no cell has the number of no class.
pub record IsInOrder (heap : Heap) : Type 0 where
  pub ordered : is_ordered heap ≡ true
  pub small : heap_size heap < no_class

-- In a lawful world classes stand in order.
pub lawful_order : (world : World) (code : CodeProgram) → IsLawful world code → IsInOrder world.cells
lawful_order world code lawful = record { ordered = lawful.ordered; small = lawful_small world code lawful }

-- Each class and each chain of one heap is the same in another.
pub record SameClasses (before after : Heap) : Type 0 where
  pub classes : (n : ℕ) → is_class (find_cell before n) ≡ true → find_cell after n ≡ find_cell before n
  pub chains : (n : ℕ) → is_chain_start before n ≡ true → chain_of after n ≡ chain_of before n
  pub none : find_cell after no_class ≡ find_cell before no_class

-- A class stays one where classes stay the same.
pub class_stays : (before after : Heap) (n : ℕ) → SameClasses before after → is_class (find_cell before n) ≡ true →
    is_class (find_cell after n) ≡ true
class_stays before after n same e = ap is_class (same.classes n e) ∙ e

-- A cell that stays the same keeps its declaration.
pub declaration_stays : (before after : Heap) (n : ℕ) → find_cell after n ≡ find_cell before n →
    declaration_of after n ≡ declaration_of before n
declaration_stays before after n e = ap (λ o. declaration_in (option_map_or shape_of o (Mirror Nil))) e

superclass_stays : (before after : Heap) (n : ℕ) → find_cell after n ≡ find_cell before n → superclass_of after n ≡ superclass_of before n
superclass_stays before after n e = ap (λ o. declared_class (superclass_in o)) e

-- a chain can start where it could
pub start_stays : (before after : Heap) (n : ℕ) → SameClasses before after → is_chain_start before n ≡ true → is_chain_start after n ≡ true
start_stays before after n same s = tested (is_class (find_cell before n)) refl s
  where
    either : (c : Bool) → eqb n no_class ≡ true → (c || eqb n no_class) ≡ true
    either true s = refl
    either false s = s

    tested : (b : Bool) → is_class (find_cell before n) ≡ b → (b || eqb n no_class) ≡ true → is_chain_start after n ≡ true
    tested true e s = rw (class_stays before after n same e) refl
    tested false e s = either (is_class (find_cell after n)) s

-- What is known of the class at which a chain that isn't empty starts.
pub started : (heap : Heap) (class k : ℕ) → IsInOrder heap → is_chain_start heap class ≡ true → k < length (chain_of heap class) →
    ChainGoesOn heap class × (is_class (find_cell heap class) ≡ true)
started heap class k order s h = tested (eqb class no_class) refl
  where
    small : heap_size heap ≤ no_class
    small = omega (arith, order.small)

    tested : (b : Bool) → eqb class no_class ≡ b → ChainGoesOn heap class × (is_class (find_cell heap class) ≡ true)
    tested true e = absurd (omega (arith, h, ap length (chain_none heap class small e)))
    tested false e = let is : is_class (find_cell heap class) ≡ true = class_of_start heap class s (λ t. cc) in (goes_on heap class order.ordered small is, is)

-- each number in a chain is that of a class
pub class_in_chain : (heap : Heap) (k class holder : ℕ) → IsInOrder heap → is_chain_start heap class ≡ true →
    k < length (chain_of heap class) → get_or (chain_of heap class) k holder ≡ holder → is_class (find_cell heap holder) ≡ true
class_in_chain heap zero class holder order s h e =
    let f = started heap class zero order s h in
    let is : class ≡ holder = sym (ap (λ ms. get_or ms 0 holder) f.0.chain) ∙ e in
    ap (λ n. is_class (find_cell heap n)) (sym is) ∙ f.1
class_in_chain heap (suc k) class holder order s h e =
    let f = started heap class (suc k) order s h in
    let inside : k < length (chain_of heap (superclass_of heap class)) = omega (arith, h, ap length f.0.chain) in
    class_in_chain heap k (superclass_of heap class) holder order f.0.start inside (sym (ap (λ ms. get_or ms (suc k) holder) f.0.chain) ∙ e)

-- a chain that isn't empty starts at a class
pub chain_starts : (heap : Heap) (n k : ℕ) → k < length (chain_of heap n) → is_class (find_cell heap n) ≡ true
chain_starts [] n k h = absurd (omega arith)
chain_starts (cell ∷ earlier) n k h = tested (eqb n (heap_size earlier)) h (chain_starts earlier n k)
  where
    first : (b : Bool) → is_class (Some cell) ≡ b → k < length (chain_at cell n (chain_of earlier)) → is_class (Some cell) ≡ true
    first true e h = e
    first false e h = absurd (omega (arith, h, ap length (no_chain cell n (chain_of earlier) e)))

    tested : (b : Bool) → k < length (cond b (chain_at cell n (chain_of earlier)) (chain_of earlier n)) → (k < length (chain_of earlier n) → is_class (find_cell earlier n) ≡ true) → is_class (cond b (Some cell) (find_cell earlier n)) ≡ true
    tested true h below = first (is_class (Some cell)) refl h
    tested false h below = below h

entries_stay : (before after : Heap) (code : CodeProgram) → IsInOrder before → SameClasses before after → (chain : List ℕ) (class : ℕ) →
    chain_of before class ≡ chain → is_chain_start before class ≡ true → entries_along after code chain ≡ entries_along before code chain
entries_stay before after code order same [] class c s = refl
entries_stay before after code order same (head ∷ rest) class c s =
    let f = started before class 0 order s (omega (arith, ap length c)) in
    let both : class ∷ chain_of before (superclass_of before class) ≡ head ∷ rest = sym f.0.chain ∙ c in
    let is : class ≡ head = cc in
    let up : chain_of before (superclass_of before class) ≡ rest = cc in
    let d : declaration_of after head ≡ declaration_of before head = declaration_stays before after head (ap (find_cell after) (sym is) ∙ (same.classes class f.1 ∙ ap (find_cell before) is)) in
    ap (λ n. entries_of code n + entries_along after code rest) d
    ∙ ap (λ m. entries_of code (declaration_of before head) + m) (entries_stay before after code order same rest (superclass_of before class) up f.0.start)

-- an object has as many entries as before
pub layout_stays : (before after : Heap) (code : CodeProgram) (class : ℕ) → IsInOrder before → SameClasses before after →
    is_chain_start before class ≡ true → layout_of after code class ≡ layout_of before code class
layout_stays before after code class order same s =
    ap (entries_along after code) (same.chains class s) ∙ entries_stay before after code order same (chain_of before class) class refl s

-- the classes above a class have as many entries as before
pub base_stays : (before after : Heap) (code : CodeProgram) (class : ℕ) → IsInOrder before → SameClasses before after
    → is_class (find_cell before class) ≡ true
    → layout_above after code class ≡ layout_above before code class
base_stays before after code class order same h =
    let g = goes_on before class order.ordered (omega (arith, order.small)) h in
    ap (layout_of after code) (superclass_stays before after class (same.classes class h))
    ∙ layout_stays before after code (superclass_of before class) order same g.start

-- an entry has the word that it had
pub word_stays : (before after : Heap) (code : CodeProgram) (holder entry : ℕ) → IsInOrder before → SameClasses before after →
    is_class (find_cell before holder) ≡ true → entry_word after code holder entry ≡ entry_word before code holder entry
word_stays before after code holder entry order same h = ap (λ base. base + entry) (base_stays before after code holder order same h)

-- one cell more
pub same_after_making : (heap : Heap) (cell : Cell) → IsInOrder heap → SameClasses heap (cell ∷ heap)
same_after_making heap cell order = record {
  classes = λ n e. found_in_more cell heap n (class_below heap n e);
  chains = λ n s. chains n (is_class (find_cell heap n)) refl s;
  none = found_old heap cell no_class other;
}
  where
    other : no_class ≢ heap_size heap
    other e = omega (arith, e, order.small)

    chains : (n : ℕ) (b : Bool) → is_class (find_cell heap n) ≡ b → (b || eqb n no_class) ≡ true → chain_of (cell ∷ heap) n ≡ chain_of heap n
    chains n true e s = chain_in_more cell heap n (class_below heap n e)
    chains n false e s =
        let is : n ≡ no_class = eqb-true n no_class s in
        let past : eqb n (heap_size heap) ≡ false = differs n (heap_size heap) (λ q. other (sym is ∙ q)) in
        rw past refl

-- a word or a byte written
pub same_after_changing : (heap : Heap) (at : ℕ) (change : Cell → Cell) → ChangesPlainly change → IsInOrder heap →
    SameClasses heap (change_cell heap at change)
same_after_changing heap at change plainly order =
    let leaves = changing_leaves heap at change plainly in
    record {
      classes = leaves.classes;
      chains = λ n s. leaves.chains n;
      none = tested (eqb no_class at) refl leaves.others;
    }
  where
    past : find_cell heap no_class ≡ None
    past = found_past heap no_class (omega (arith, order.small))

    tested : (b : Bool) → eqb no_class at ≡ b → ((number : ℕ) → number ≢ at → find_cell (change_cell heap at change) number ≡ find_cell heap number) → find_cell (change_cell heap at change) no_class ≡ find_cell heap no_class
    tested true e others =
        let is : find_cell heap at ≡ None = ap (find_cell heap) (sym (eqb-true no_class at e)) ∙ past in
        let same : change_cell heap at change ≡ heap = rw is refl in
        ap (λ h. find_cell h no_class) same
    tested false e others = others no_class (λ q. let t : eqb no_class at ≡ true = eq-eqb no_class at q in cc)
