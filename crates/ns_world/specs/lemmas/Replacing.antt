-- A cell that is no class is replaced by one of its size: all else about the heap stays.
use Rattle.std.proofs.Common.{◌≡◌, ℕ, ◌+◌, List, [], ◌∷◌, ◌++◌, refl, ap, sym, ◌∙◌, Some, Bool, true, false, cond, eqb, ◌&&◌}
use Rattle.ns_world.specs.declared.value.Value.{Value}
use Rattle.ns_world.specs.declared.value.Value.TheVariants.{Nil, True, False, Int, Sym, Kernel, Ref}
use Rattle.ns_world.specs.declared.value.KClass.TheVariants as kernel
use Rattle.ns_world.specs.Cell.{Cell, ObjectCell, ClassCell, BlockCell, EnvironmentCell, ArrayCell, TextCell, FacetCell, MirrorCell, MessageCell, cell_size}
use Rattle.ns_world.specs.Heap.{Heap, heap_size, find_cell, set_cell, is_class, is_superclass, has_superclass, is_ordered, chain_of, chain_at, chain_above}
use Rattle.ns_world.specs.laws.Standing.{stands}

-- a cell that is no class, and one of its size that may stand in its place
pub record Replaces (old new : Cell) : Type 0 where
  pub size_stays : cell_size new ≡ cell_size old
  pub old_plain : is_class (Some old) ≡ false
  pub new_plain : is_class (Some new) ≡ false

pub heap_size-replaced : (later earlier : Heap) (old new : Cell) → cell_size new ≡ cell_size old →
    heap_size (later ++ new ∷ earlier) ≡ heap_size (later ++ old ∷ earlier)
heap_size-replaced [] earlier old new e = ap (λ n. heap_size earlier + n) e
heap_size-replaced (cell ∷ later) earlier old new e = ap (λ n. n + cell_size cell) (heap_size-replaced later earlier old new e)

class_replaced : (later earlier : Heap) (old new : Cell) (n : ℕ) → Replaces old new →
    is_class (find_cell (later ++ new ∷ earlier) n) ≡ is_class (find_cell (later ++ old ∷ earlier) n)
class_replaced [] earlier old new n r = here (eqb n (heap_size earlier))
  where
    here : (b : Bool) → is_class (cond b (Some new) (find_cell earlier n)) ≡ is_class (cond b (Some old) (find_cell earlier n))
    here true = r.new_plain ∙ sym r.old_plain
    here false = refl
class_replaced (cell ∷ later) earlier old new n r =
    ap (λ size. is_class (cond (eqb n size) (Some cell) (find_cell (later ++ new ∷ earlier) n))) (heap_size-replaced later earlier old new r.size_stays)
    ∙ here (eqb n (heap_size (later ++ old ∷ earlier))) (class_replaced later earlier old new n r)
  where
    here : (b : Bool) → is_class (find_cell (later ++ new ∷ earlier) n) ≡ is_class (find_cell (later ++ old ∷ earlier) n) → is_class (cond b (Some cell) (find_cell (later ++ new ∷ earlier) n)) ≡ is_class (cond b (Some cell) (find_cell (later ++ old ∷ earlier) n))
    here true e = refl
    here false e = e

superclass_replaced : (later earlier : Heap) (old new : Cell) (over : Value) → Replaces old new →
    is_superclass (later ++ new ∷ earlier) over ≡ is_superclass (later ++ old ∷ earlier) over
superclass_replaced later earlier old new Nil r = refl
superclass_replaced later earlier old new True r = refl
superclass_replaced later earlier old new False r = refl
superclass_replaced later earlier old new (Int number) r = refl
superclass_replaced later earlier old new (Sym sel) r = refl
superclass_replaced later earlier old new (Kernel kernel.Object) r = refl
superclass_replaced later earlier old new (Kernel kernel.Array) r = refl
superclass_replaced later earlier old new (Ref class) r = class_replaced later earlier old new class r

has_superclass_replaced : (later earlier : Heap) (old new cell : Cell) → Replaces old new →
    has_superclass (later ++ new ∷ earlier) cell ≡ has_superclass (later ++ old ∷ earlier) cell
has_superclass_replaced later earlier old new (ClassCell decl base encl holder over) r = superclass_replaced later earlier old new over r
has_superclass_replaced later earlier old new (ObjectCell class entries) r = refl
has_superclass_replaced later earlier old new (BlockCell body env home receiver holder) r = refl
has_superclass_replaced later earlier old new (EnvironmentCell parent locals) r = refl
has_superclass_replaced later earlier old new (ArrayCell items) r = refl
has_superclass_replaced later earlier old new (TextCell bytes) r = refl
has_superclass_replaced later earlier old new (FacetCell kind) r = refl
has_superclass_replaced later earlier old new (MirrorCell mirrored) r = refl
has_superclass_replaced later earlier old new (MessageCell sel args) r = refl

-- a cell that is no class asks for no superclass
no_superclass : (earlier : Heap) (cell : Cell) → is_class (Some cell) ≡ false → has_superclass earlier cell ≡ true
no_superclass earlier (ClassCell decl base encl holder over) e = absurd (cc)
no_superclass earlier (ObjectCell class entries) e = refl
no_superclass earlier (BlockCell body env home receiver holder) e = refl
no_superclass earlier (EnvironmentCell parent locals) e = refl
no_superclass earlier (ArrayCell items) e = refl
no_superclass earlier (TextCell bytes) e = refl
no_superclass earlier (FacetCell kind) e = refl
no_superclass earlier (MirrorCell mirrored) e = refl
no_superclass earlier (MessageCell sel args) e = refl

ordered_replaced : (later earlier : Heap) (old new : Cell) → Replaces old new →
    is_ordered (later ++ new ∷ earlier) ≡ is_ordered (later ++ old ∷ earlier)
ordered_replaced [] earlier old new r =
    ap (λ b. b && is_ordered earlier) (no_superclass earlier new r.new_plain ∙ sym (no_superclass earlier old r.old_plain))
ordered_replaced (cell ∷ later) earlier old new r =
    ap (λ b. b && is_ordered (later ++ new ∷ earlier)) (has_superclass_replaced later earlier old new cell r)
    ∙ ap (λ b. has_superclass (later ++ old ∷ earlier) cell && b) (ordered_replaced later earlier old new r)

-- a cell that is no class has no chain
pub no_chain : (cell : Cell) (n : ℕ) (chain : ℕ → List ℕ) → is_class (Some cell) ≡ false → chain_at cell n chain ≡ []
no_chain (ClassCell decl base encl holder over) n chain e = absurd (cc)
no_chain (ObjectCell class entries) n chain e = refl
no_chain (BlockCell body env home receiver holder) n chain e = refl
no_chain (EnvironmentCell parent locals) n chain e = refl
no_chain (ArrayCell items) n chain e = refl
no_chain (TextCell bytes) n chain e = refl
no_chain (FacetCell kind) n chain e = refl
no_chain (MirrorCell mirrored) n chain e = refl
no_chain (MessageCell sel args) n chain e = refl

chain_at_same : (cell : Cell) (n : ℕ) (f g : ℕ → List ℕ) → ((m : ℕ) → f m ≡ g m) → chain_at cell n f ≡ chain_at cell n g
chain_at_same (ClassCell decl base encl holder over) n f g e = ap (λ ms. n ∷ ms) (above over)
  where
    above : (over : Value) → chain_above over f ≡ chain_above over g
    above (Ref class) = e class
    above Nil = refl
    above True = refl
    above False = refl
    above (Int number) = refl
    above (Sym sel) = refl
    above (Kernel class) = refl
chain_at_same (ObjectCell class entries) n f g e = refl
chain_at_same (BlockCell body env home receiver holder) n f g e = refl
chain_at_same (EnvironmentCell parent locals) n f g e = refl
chain_at_same (ArrayCell items) n f g e = refl
chain_at_same (TextCell bytes) n f g e = refl
chain_at_same (FacetCell kind) n f g e = refl
chain_at_same (MirrorCell mirrored) n f g e = refl
chain_at_same (MessageCell sel args) n f g e = refl

chain_replaced : (later earlier : Heap) (old new : Cell) (n : ℕ) → Replaces old new →
    chain_of (later ++ new ∷ earlier) n ≡ chain_of (later ++ old ∷ earlier) n
chain_replaced [] earlier old new n r = here (eqb n (heap_size earlier))
  where
    here : (b : Bool) → cond b (chain_at new n (chain_of earlier)) (chain_of earlier n) ≡ cond b (chain_at old n (chain_of earlier)) (chain_of earlier n)
    here true = no_chain new n (chain_of earlier) r.new_plain ∙ sym (no_chain old n (chain_of earlier) r.old_plain)
    here false = refl
chain_replaced (cell ∷ later) earlier old new n r =
    ap (λ size. cond (eqb n size) (chain_at cell n (chain_of (later ++ new ∷ earlier))) (chain_of (later ++ new ∷ earlier) n)) (heap_size-replaced later earlier old new r.size_stays)
    ∙ here (eqb n (heap_size (later ++ old ∷ earlier))) (λ m. chain_replaced later earlier old new m r)
  where
    here : (b : Bool) → ((m : ℕ) → chain_of (later ++ new ∷ earlier) m ≡ chain_of (later ++ old ∷ earlier) m) → cond b (chain_at cell n (chain_of (later ++ new ∷ earlier))) (chain_of (later ++ new ∷ earlier) n) ≡ cond b (chain_at cell n (chain_of (later ++ old ∷ earlier))) (chain_of (later ++ old ∷ earlier) n)
    here true e = chain_at_same cell n (chain_of (later ++ new ∷ earlier)) (chain_of (later ++ old ∷ earlier)) e
    here false e = e n

-- what stays where a cell is replaced
pub record StaysReplaced (before after : Heap) : Type 0 where
  pub size_stays : heap_size after ≡ heap_size before
  pub order_stays : is_ordered after ≡ is_ordered before
  pub classes_stay : (n : ℕ) → is_class (find_cell after n) ≡ is_class (find_cell before n)
  pub chains_stay : (n : ℕ) → chain_of after n ≡ chain_of before n

pub set_cell_stays : (heap : Heap) (number : ℕ) (old new : Cell) → find_cell heap number ≡ Some old → Replaces old new →
    StaysReplaced heap (set_cell heap number new)
set_cell_stays heap number old new e r =
    let s = stands heap number old e in
    record {
      size_stays = ap heap_size (s.replaced new) ∙ (heap_size-replaced s.later s.earlier old new r.size_stays ∙ ap heap_size (sym s.is));
      order_stays = ap is_ordered (s.replaced new) ∙ (ordered_replaced s.later s.earlier old new r ∙ ap is_ordered (sym s.is));
      classes_stay = λ n. ap (λ h. is_class (find_cell h n)) (s.replaced new) ∙ (class_replaced s.later s.earlier old new n r ∙ ap (λ h. is_class (find_cell h n)) (sym s.is));
      chains_stay = λ n. ap (λ h. chain_of h n) (s.replaced new) ∙ (chain_replaced s.later s.earlier old new n r ∙ ap (λ h. chain_of h n) (sym s.is));
    }
