-- Chains of classes, one step after another.
use Rattle.std.proofs.Common.{◌≡◌, ℕ, ◌<◌, ◌≤◌, [], ◌∷◌, refl, ap, sym, ◌∙◌, arith, Option, Some, None, Bool, true, false, cond, eqb, ◌&&◌}
use Rattle.std.proofs.lemmas.Bool.{eqb-true}
use Rattle.ns_world.specs.declared.value.Value.{Value}
use Rattle.ns_world.specs.declared.value.Value.TheVariants.{Nil, True, False, Int, Sym, Kernel, Ref}
use Rattle.ns_world.specs.declared.value.KClass.TheVariants as kernel
use Rattle.ns_world.specs.Cell.{Cell, ObjectCell, ClassCell, BlockCell, EnvironmentCell, ArrayCell, TextCell, FacetCell, MirrorCell, MessageCell, cell_size}
use Rattle.ns_world.specs.Heap.{Heap, heap_size, find_cell, is_class, is_superclass, has_superclass, is_ordered, chain_of, chain_at, chain_above}
use Rattle.ns_world.specs.laws.Standing.{stands-within}

-- Where two tests hold together each holds.
pub both_of : (a b : Bool) → (a && b) ≡ true → (a ≡ true) × (b ≡ true)
both_of true true e = (refl, refl)
both_of true false e = absurd (cc)
both_of false b e = absurd (cc)

pub size_above : (cell : Cell) → 1 ≤ cell_size cell
size_above (ObjectCell class entries) = omega arith
size_above (ClassCell decl base encl holder over) = omega arith
size_above (BlockCell body env home receiver holder) = omega arith
size_above (EnvironmentCell parent locals) = omega arith
size_above (ArrayCell items) = omega arith
size_above (TextCell bytes) = omega arith
size_above (FacetCell kind) = omega arith
size_above (MirrorCell mirrored) = omega arith
size_above (MessageCell sel args) = omega arith

-- a cell's number is below the cells used
pub found_below : (heap : Heap) (n : ℕ) (cell : Cell) → find_cell heap n ≡ Some cell → n < heap_size heap
found_below heap n cell e = omega (arith, stands-within heap n cell e, size_above cell)

-- A class is a cell of the heap.
pub class_below : (heap : Heap) (n : ℕ) → is_class (find_cell heap n) ≡ true → n < heap_size heap
class_below heap n e = below (find_cell heap n) refl e
  where
    below : (o : Option Cell) → find_cell heap n ≡ o → is_class o ≡ true → n < heap_size heap
    below None f e = absurd (cc)
    below (Some cell) f e = found_below heap n cell f

-- no cell has the next cell's number
not_next : (heap : Heap) (n : ℕ) → n < heap_size heap → eqb n (heap_size heap) ≡ false
not_next heap n h = tested (eqb n (heap_size heap)) refl
  where
    tested : (b : Bool) → eqb n (heap_size heap) ≡ b → eqb n (heap_size heap) ≡ false
    tested true e = absurd (omega (arith, eqb-true n (heap_size heap) e))
    tested false e = e

-- a cell that was made is found among more
pub found_in_more : (cell : Cell) (earlier : Heap) (n : ℕ) → n < heap_size earlier → find_cell (cell ∷ earlier) n ≡ find_cell earlier n
found_in_more cell earlier n h = rw (not_next earlier n h) refl

-- a chain stays among more cells
pub chain_in_more : (cell : Cell) (earlier : Heap) (n : ℕ) → n < heap_size earlier → chain_of (cell ∷ earlier) n ≡ chain_of earlier n
chain_in_more cell earlier n h = rw (not_next earlier n h) refl

above_in_more : (cell : Cell) (earlier : Heap) (over : Value) → is_superclass earlier over ≡ true →
    chain_above over (chain_of (cell ∷ earlier)) ≡ chain_above over (chain_of earlier)
above_in_more cell earlier (Ref class) e = chain_in_more cell earlier class (class_below earlier class e)
above_in_more cell earlier Nil e = refl
above_in_more cell earlier True e = refl
above_in_more cell earlier False e = refl
above_in_more cell earlier (Int number) e = refl
above_in_more cell earlier (Sym sel) e = refl
above_in_more cell earlier (Kernel class) e = refl

-- a superclass stays one among more cells
superclass_in_more : (cell : Cell) (earlier : Heap) (over : Value) → is_superclass earlier over ≡ true →
    is_superclass (cell ∷ earlier) over ≡ true
superclass_in_more cell earlier (Ref class) e = ap is_class (found_in_more cell earlier class (class_below earlier class e)) ∙ e
superclass_in_more cell earlier Nil e = absurd (cc)
superclass_in_more cell earlier True e = absurd (cc)
superclass_in_more cell earlier False e = absurd (cc)
superclass_in_more cell earlier (Int number) e = absurd (cc)
superclass_in_more cell earlier (Sym sel) e = absurd (cc)
superclass_in_more cell earlier (Kernel kernel.Object) e = refl
superclass_in_more cell earlier (Kernel kernel.Array) e = absurd (cc)

-- What is known of a class in an ordered heap: its superclass, and its chain.
pub record Linked (heap : Heap) (n : ℕ) (over : Value) : Type 0 where
  pub superclass : is_superclass heap over ≡ true
  pub chain : chain_of heap n ≡ n ∷ chain_above over (chain_of heap)

-- The superclass of a class is one, and the class's chain is the class and then its superclass's.
pub linked : (heap : Heap) (n decl base : ℕ) (encl holder over : Value) → is_ordered heap ≡ true →
    find_cell heap n ≡ Some (ClassCell decl base encl holder over) → Linked heap n over
linked [] n decl base encl holder over o e = absurd (cc)
linked (first ∷ earlier) n decl base encl holder over o e =
    let parts = both_of (has_superclass earlier first) (is_ordered earlier) o in
    tested (eqb n (heap_size earlier)) refl e parts.0 (linked earlier n decl base encl holder over parts.1)
  where
    class : Cell
    class = ClassCell decl base encl holder over

    tested : (b : Bool) → eqb n (heap_size earlier) ≡ b → cond b (Some first) (find_cell earlier n) ≡ Some class → has_superclass earlier first ≡ true
        → (find_cell earlier n ≡ Some class → Linked earlier n over) → Linked (first ∷ earlier) n over
    tested true t e s below =
        let is : first ≡ class = cc in
        let super : is_superclass earlier over ≡ true = ap (has_superclass earlier) (sym is) ∙ s in
        record {
          superclass = superclass_in_more first earlier over super;
          chain = rw t (ap (λ cell. chain_at cell n (chain_of earlier)) is ∙ ap (λ ms. n ∷ ms) (sym (above_in_more first earlier over super)));
        }
    tested false t e s below =
        let l = below e in
        record {
          superclass = superclass_in_more first earlier over l.superclass;
          chain = rw t (l.chain ∙ ap (λ ms. n ∷ ms) (sym (above_in_more first earlier over l.superclass)));
        }
