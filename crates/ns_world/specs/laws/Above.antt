-- From a class to its superclass.
use Rattle.std.proofs.Common.{◌≡◌, ℕ, ◌≤◌, [], ◌∷◌, length, slice_get, refl, ap, sym, ◌∙◌, arith, Option, Some, None, Bool, true, false, eqb, ◌||◌}
use Rattle.std.proofs.lemmas.Bool.{eqb-true}
use Rattle.ns_world.specs.declared.value.Value.{Value}
use Rattle.ns_world.specs.declared.value.Value.TheVariants.{Nil, True, False, Int, Sym, Kernel, Ref}
use Rattle.ns_world.specs.Cell.{Cell, ObjectCell, ClassCell, BlockCell, EnvironmentCell, ArrayCell, TextCell, FacetCell, MirrorCell, MessageCell}
use Rattle.ns_world.specs.Heap.{Heap, heap_size, find_cell, is_class, is_superclass, is_ordered, chain_of, chain_above, words_at, word_at, superclass_in, no_class, is_chain_start, declared_class, superclass_of}
use Rattle.ns_world.specs.laws.Chains.{linked, size_above}

-- past the cells used there is no chain
pub chain_past : (heap : Heap) (n : ℕ) → heap_size heap ≤ n → chain_of heap n ≡ []
chain_past [] n h = refl
chain_past (cell ∷ earlier) n h = tested (eqb n (heap_size earlier)) refl (chain_past earlier n (omega arith))
  where
    tested : (b : Bool) → eqb n (heap_size earlier) ≡ b → chain_of earlier n ≡ [] → chain_of (cell ∷ earlier) n ≡ []
    tested true t e = absurd (omega (arith, eqb-true n (heap_size earlier) t, size_above cell))
    tested false t e = rw t e

-- What is known of a class: its superclass stands at its third word, and the chain goes on there.
pub record ChainGoesOn (heap : Heap) (class : ℕ) : Type 0 where
  pub words : length (words_at heap class) ≡ 3
  pub over : word_at heap class 2 ≡ superclass_in (find_cell heap class)
  pub chain : chain_of heap class ≡ class ∷ chain_of heap (superclass_of heap class)
  pub start : is_chain_start heap (superclass_of heap class) ≡ true

-- the chain above a class is that of the number of its superclass
pub above : (heap : Heap) (over : Value) → heap_size heap ≤ no_class → is_superclass heap over ≡ true →
    chain_above over (chain_of heap) ≡ chain_of heap (declared_class over)
above heap (Ref class) small e = refl
above heap Nil small e = absurd (cc)
above heap True small e = absurd (cc)
above heap False small e = absurd (cc)
above heap (Int number) small e = absurd (cc)
above heap (Sym sel) small e = absurd (cc)
above heap (Kernel class) small e = sym (chain_past heap no_class small)

-- a chain can start at a superclass
pub starts : (heap : Heap) (over : Value) → is_superclass heap over ≡ true → is_chain_start heap (declared_class over) ≡ true
starts heap (Ref class) e = rw e refl
starts heap Nil e = absurd (cc)
starts heap True e = absurd (cc)
starts heap False e = absurd (cc)
starts heap (Int number) e = absurd (cc)
starts heap (Sym sel) e = absurd (cc)
starts heap (Kernel class) e = no_start (is_class (find_cell heap no_class))
  where
    no_start : (b : Bool) → (b || true) ≡ true
    no_start true = refl
    no_start false = refl

class_goes_on : (heap : Heap) (class decl base : ℕ) (encl holder over : Value) → is_ordered heap ≡ true → heap_size heap ≤ no_class →
    find_cell heap class ≡ Some (ClassCell decl base encl holder over) → ChainGoesOn heap class
class_goes_on heap class decl base encl holder over ordered small e =
    let l = linked heap class decl base encl holder over ordered e in
    let is : superclass_in (find_cell heap class) ≡ over = rw e refl in
    record {
      words = rw e refl;
      over = rw e refl;
      chain = l.chain ∙ ap (λ ms. class ∷ ms) (above heap over small l.superclass ∙ ap (λ v. chain_of heap (declared_class v)) (sym is));
      start = ap (λ v. is_chain_start heap (declared_class v)) is ∙ starts heap over l.superclass;
    }

-- In an ordered heap a class's chain goes on with its superclass's.
pub goes_on : (heap : Heap) (class : ℕ) → is_ordered heap ≡ true → heap_size heap ≤ no_class → is_class (find_cell heap class) ≡ true →
    ChainGoesOn heap class
goes_on heap class ordered small h = found (find_cell heap class) refl h
  where
    found : (o : Option Cell) → find_cell heap class ≡ o → is_class o ≡ true → ChainGoesOn heap class
    found None e h = absurd (cc)
    found (Some (ClassCell decl base encl holder over)) e h = class_goes_on heap class decl base encl holder over ordered small e
    found (Some (ObjectCell class' entries)) e h = absurd (cc)
    found (Some (BlockCell body env home receiver holder)) e h = absurd (cc)
    found (Some (EnvironmentCell parent locals)) e h = absurd (cc)
    found (Some (ArrayCell items)) e h = absurd (cc)
    found (Some (TextCell bytes)) e h = absurd (cc)
    found (Some (FacetCell kind)) e h = absurd (cc)
    found (Some (MirrorCell mirrored)) e h = absurd (cc)
    found (Some (MessageCell sel args)) e h = absurd (cc)

-- a chain starts at a class where it isn't the number of none
pub class_of_start : (heap : Heap) (class : ℕ) → is_chain_start heap class ≡ true → (eqb class no_class ≡ true → ⊥) →
    is_class (find_cell heap class) ≡ true
class_of_start heap class s n = tested (is_class (find_cell heap class)) refl s
  where
    tested : (b : Bool) → is_class (find_cell heap class) ≡ b → (b || eqb class no_class) ≡ true → is_class (find_cell heap class) ≡ true
    tested true t s = t
    tested false t s = absurd (n s)

-- a chain begins with its class
pub chain_first : (heap : Heap) (class : ℕ) → is_ordered heap ≡ true → heap_size heap ≤ no_class → is_chain_start heap class ≡ true →
    eqb class no_class ≡ false → slice_get (chain_of heap class) 0 ≡ Some class
chain_first heap class ordered small s e =
    let g = goes_on heap class ordered small (class_of_start heap class s (λ t. cc)) in
    ap (λ ms. slice_get ms 0) g.chain

-- the number of no class has no chain
pub chain_none : (heap : Heap) (class : ℕ) → heap_size heap ≤ no_class → eqb class no_class ≡ true → chain_of heap class ≡ []
chain_none heap class small e = ap (chain_of heap) (eqb-true class no_class e) ∙ chain_past heap no_class small
