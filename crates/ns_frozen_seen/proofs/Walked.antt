-- The classes of a chain, from a class upwards.
use Rattle.std.proofs.Common.{◌≡◌, ℕ, zero, suc, ◌<◌, ◌≤◌, List, [], ◌∷◌, ◌+◌, length, refl, ap, sym, ◌∙◌, subst, arith, Option, Some, None, Bool, true, false, cond, eqb, ltb, ◌||◌, option_map}
use Rattle.std.specs.Prelude.{not, ◌==◌, nat_lt}
use Rattle.std.proofs.lemmas.Bool.{eqb-true, ltb-true, ltb-false}
use Rattle.ns_code.specs.declared.program.CodeProgram.{CodeProgram}
use Rattle.ns_world.specs.declared.value.Value.{Value}
use Rattle.ns_world.specs.declared.value.Value.TheVariants.{Nil, True, False, Int, Sym, Kernel, Ref}
use Rattle.ns_world.specs.Cell.{Cell, ObjectCell, ClassCell, BlockCell, EnvironmentCell, ArrayCell, TextCell, FacetCell, MirrorCell, MessageCell}
use Rattle.ns_world.specs.Heap.{Heap, heap_size, find_cell, is_class, chain_of, chain_at as chain_by, chain_above, superclass_in, superclass_of, declared_class, no_class}
use Rattle.ns_world.specs.laws.Above.{chain_past}
use Rattle.ns_world.specs.laws.Chains.{both_of, class_below, chain_in_more}
use Rattle.ns_world.specs.laws.Changing.{differs}
use Rattle.ns_frozen.specs.Freezing.{cell_frozen}
use Rattle.ns_frozen.specs.Live.{has_chain}
use Rattle.ns_frozen_tables.specs.Chain.{links_of, links_before, more_links, next_links}
use Rattle.ns_frozen_seen.specs.Keepers.{rest_of}
use Rattle.ns_frozen_seen.specs.Climbs.{Walks, holds}
use Rattle.ns_frozen_tables.specs.laws.Linked.{Below, below_raised, below_over, chain_below, chain_told, class_linked}

-- the chain of a class goes on with its superclass's, where that was made before it
pub chain_goes_on : (heap : Heap) (class : ℕ) → class ≤ no_class → is_class (find_cell heap class) ≡ true → chain_of heap class ≡ class ∷ rest_of heap class
chain_goes_on [] class small e = absurd (cc)
chain_goes_on (cell ∷ earlier) class small e = tested (eqb class (heap_size earlier)) refl e (chain_goes_on earlier class small)
  where
    above_rest : (number above : ℕ) (b : Bool) → ltb above number ≡ b → number ≡ heap_size earlier
        → chain_of earlier above ≡ cond b (chain_of (cell ∷ earlier) above) []
    above_rest number above true t at = sym (chain_in_more cell earlier above (omega (arith, at, ltb-true above number t)))
    above_rest number above false t at = chain_past earlier above (omega (arith, at, ltb-false above number t))

    no_rest : (number : ℕ) (b : Bool) → ltb no_class number ≡ b → number ≤ no_class → [] ≡ cond b (chain_of (cell ∷ earlier) no_class) []
    no_rest number true t small = absurd (omega (arith, small, ltb-true no_class number t))
    no_rest number false t small = refl

    over_rest : (number : ℕ) (over : Value) → number ≡ heap_size earlier → number ≤ no_class
        → chain_above over (chain_of earlier) ≡ cond (ltb (declared_class over) number) (chain_of (cell ∷ earlier) (declared_class over)) []
    over_rest number (Ref above) at small = above_rest number above (ltb above number) refl at
    over_rest number Nil at small = no_rest number (ltb no_class number) refl small
    over_rest number True at small = no_rest number (ltb no_class number) refl small
    over_rest number False at small = no_rest number (ltb no_class number) refl small
    over_rest number (Int n) at small = no_rest number (ltb no_class number) refl small
    over_rest number (Sym sel) at small = no_rest number (ltb no_class number) refl small
    over_rest number (Kernel k) at small = no_rest number (ltb no_class number) refl small

    here : (one : Cell) → cell ≡ one → is_class (Some one) ≡ true → class ≡ heap_size earlier
        → chain_by one class (chain_of earlier) ≡ class ∷ cond (ltb (declared_class (superclass_in (Some one))) class) (chain_of (cell ∷ earlier) (declared_class (superclass_in (Some one)))) []
    here (ClassCell decl base encl holder over) is e at = ap (λ (c : List ℕ). class ∷ c) (over_rest class over at small)
    here (ObjectCell class' entries) is e at = absurd (cc)
    here (BlockCell body env home receiver holder) is e at = absurd (cc)
    here (EnvironmentCell parent locals) is e at = absurd (cc)
    here (ArrayCell items) is e at = absurd (cc)
    here (TextCell bytes) is e at = absurd (cc)
    here (FacetCell kind) is e at = absurd (cc)
    here (MirrorCell mirrored) is e at = absurd (cc)
    here (MessageCell sel args) is e at = absurd (cc)

    Goal : Option Cell → List ℕ → Type 0
    Goal o chain = chain ≡ class ∷ cond (ltb (declared_class (superclass_in o)) class) (chain_of (cell ∷ earlier) (declared_class (superclass_in o))) []

    later : (above : ℕ) (b : Bool) → ltb above class ≡ b → class < heap_size earlier
        → cond b (chain_of earlier above) [] ≡ cond b (chain_of (cell ∷ earlier) above) []
    later above true t below = sym (chain_in_more cell earlier above (omega (arith, below, ltb-true above class t)))
    later above false t below = refl

    tested : (b : Bool) → eqb class (heap_size earlier) ≡ b → is_class (cond b (Some cell) (find_cell earlier class)) ≡ true
        → (is_class (find_cell earlier class) ≡ true → chain_of earlier class ≡ class ∷ rest_of earlier class)
        → Goal (cond b (Some cell) (find_cell earlier class)) (cond b (chain_by cell class (chain_of earlier)) (chain_of earlier class))
    tested true t e before = here cell refl e (eqb-true class (heap_size earlier) t)
    tested false t e before =
        before e
        ∙ ap (λ (c : List ℕ). class ∷ c) (later (superclass_of earlier class) (ltb (superclass_of earlier class) class) refl (class_below earlier class e))

-- a class with a chain is one
pub chained_class : (code : CodeProgram) (heap : Heap) (class : ℕ) → has_chain code heap class ≡ true → is_class (find_cell heap class) ≡ true
chained_class code heap class e = (both_of (is_class (find_cell heap class)) _ e).0

-- so has its superclass, where that was made before it
pub chain_on : (code : CodeProgram) (heap : Heap) (class : ℕ) → has_chain code heap class ≡ true → class ≤ no_class → superclass_of heap class < class
    → has_chain code heap (superclass_of heap class) ≡ true
chain_on code heap class e small h = of (find_cell heap class) refl (chained_class code heap class e)
  where
    linked : (d : Bool) (n : ℕ) → not (cond d (more_links n) 0 == 0) ≡ true → not (n == 0) ≡ true
    linked false n e = absurd (cc)
    linked true zero e = absurd (cc)
    linked true (suc n) e = rw (differs (suc n) 0 (λ q. absurd (omega (arith, q)))) refl

    over_on : (decl : ℕ) (over : Value) → declared_class over < class → not (next_links code decl over (links_before code heap class over) == 0) ≡ true
        → has_chain code heap (declared_class over) ≡ true
    over_on decl (Ref above) h e =
        let before : links_before code heap class (Ref above) ≡ links_of code heap above = rw (lt above class h) refl in
        chain_told code heap above
        ∙ linked (nat_lt decl (length code.classes)) (links_of code heap above)
        (sym (ap (λ (n : ℕ). not (next_links code decl (Ref above) n == 0)) before) ∙ e)
      where
        lt : (a b : ℕ) → a < b → ltb a b ≡ true
        lt a b h = tested (ltb a b) refl
          where
            tested : (t : Bool) → ltb a b ≡ t → ltb a b ≡ true
            tested true t = t
            tested false t = absurd (omega (arith, h, ltb-false a b t))
    over_on decl Nil h e = absurd (omega (arith, h, small))
    over_on decl True h e = absurd (omega (arith, h, small))
    over_on decl False h e = absurd (omega (arith, h, small))
    over_on decl (Int n) h e = absurd (omega (arith, h, small))
    over_on decl (Sym sel) h e = absurd (omega (arith, h, small))
    over_on decl (Kernel k) h e = absurd (omega (arith, h, small))

    of : (o : Option Cell) → find_cell heap class ≡ o → is_class o ≡ true → has_chain code heap (superclass_of heap class) ≡ true
    of (Some (ClassCell decl base encl holder over)) f c =
        let is : superclass_of heap class ≡ declared_class over = ap (λ o. declared_class (superclass_in o)) f in
        subst (λ (n : ℕ). has_chain code heap n ≡ true) (sym is)
        (over_on decl over (subst (λ (n : ℕ). n < class) is h)
        (class_linked code heap class decl encl holder over (ap (option_map cell_frozen) f) ∙ e))
    of None f c = absurd (cc)
    of (Some (ObjectCell class' entries)) f c = absurd (cc)
    of (Some (BlockCell body env home receiver holder)) f c = absurd (cc)
    of (Some (EnvironmentCell parent locals)) f c = absurd (cc)
    of (Some (ArrayCell items)) f c = absurd (cc)
    of (Some (TextCell bytes)) f c = absurd (cc)
    of (Some (FacetCell kind)) f c = absurd (cc)
    of (Some (MirrorCell mirrored)) f c = absurd (cc)
    of (Some (MessageCell sel args)) f c = absurd (cc)

-- ---- the walk

-- a step upwards, where the rest tells as much as the whole
pub walks_on : (code : CodeProgram) (heap : Heap) (class at above : ℕ) (all : List ℕ → Bool) → at ≤ no_class → Walks code heap class at all
    → above ≡ superclass_of heap at → above < at → all (at ∷ chain_of heap above) ≡ all (chain_of heap above) → Walks code heap class above all
walks_on code heap class at above all small walks is h same = record {
  low = omega (arith, walks.low, h);
  chain = subst (λ (n : ℕ). has_chain code heap n ≡ true) (sym is) (chain_on code heap at walks.chain small (subst (λ (n : ℕ). n < at) is h));
  same = sym same ∙ (sym (ap all (chain_step code heap at above walks.chain small is h)) ∙ walks.same);
}
  where
    chain_step : (code : CodeProgram) (heap : Heap) (at above : ℕ) → has_chain code heap at ≡ true → at ≤ no_class → above ≡ superclass_of heap at → above < at
        → chain_of heap at ≡ at ∷ chain_of heap above
    chain_step code heap at above e small is h =
        chain_goes_on heap at small (chained_class code heap at e)
        ∙ ap (λ (c : List ℕ). at ∷ c) (ap (λ (n : ℕ). cond (ltb n at) (chain_of heap n) []) (sym is) ∙ rw (lt above at h) refl)
      where
        lt : (a b : ℕ) → a < b → ltb a b ≡ true
        lt a b h = tested (ltb a b) refl
          where
            tested : (t : Bool) → ltb a b ≡ t → ltb a b ≡ true
            tested true t = t
            tested false t = absurd (omega (arith, h, ltb-false a b t))

-- the topmost class
pub walk_top : (code : CodeProgram) (heap : Heap) (class at above : ℕ) (all : List ℕ → Bool) → at ≤ no_class → Walks code heap class at all
    → above ≡ superclass_of heap at → at ≤ above → all (chain_of heap class) ≡ all (at ∷ [])
walk_top code heap class at above all small walks is h =
    sym walks.same
    ∙ ap all (chain_goes_on heap at small (chained_class code heap at walks.chain)
    ∙ ap (λ (c : List ℕ). at ∷ c) (ap (λ (n : ℕ). cond (ltb n at) (chain_of heap n) []) (sym is) ∙ none (ltb above at) refl))
  where
    none : (b : Bool) → ltb above at ≡ b → cond b (chain_of heap above) [] ≡ []
    none true t = absurd (omega (arith, h, ltb-true above at t))
    none false t = refl

-- the class at which a walk stands
pub walk_here : (code : CodeProgram) (heap : Heap) (class at : ℕ) (all : List ℕ → Bool) → at ≤ no_class → Walks code heap class at all
    → all (chain_of heap class) ≡ all (at ∷ rest_of heap at)
walk_here code heap class at all small walks = sym walks.same ∙ ap all (chain_goes_on heap at small (chained_class code heap at walks.chain))

-- ---- a holder

-- classes above one are no later one
none_later : (classes : List ℕ) (bound holder : ℕ) → Below bound classes → bound ≤ holder → holds holder classes ≡ false
none_later [] bound holder all h = refl
none_later (class ∷ classes) bound holder all h =
    rw (differs class holder (λ q. absurd (omega (arith, all.0, h, q)))) (none_later classes bound holder all.1 h)

-- no class of a chain was made after the first
chain_falls : (heap : Heap) (class : ℕ) → Below (class + 1) (chain_of heap class)
chain_falls [] class = tt
chain_falls (cell ∷ earlier) class = tested (eqb class (heap_size earlier)) refl (chain_falls earlier class)
  where
    here : (one : Cell) → class ≡ heap_size earlier → Below (class + 1) (chain_by one class (chain_of earlier))
    here (ClassCell decl base encl holder over) e =
        (omega arith, below_raised (heap_size earlier) (class + 1) (chain_above over (chain_of earlier)) (omega (arith, e)) (below_over earlier over (chain_below earlier)))
    here (ObjectCell class' entries) e = tt
    here (BlockCell body env home receiver holder) e = tt
    here (EnvironmentCell parent locals) e = tt
    here (ArrayCell items) e = tt
    here (TextCell bytes) e = tt
    here (FacetCell kind) e = tt
    here (MirrorCell mirrored) e = tt
    here (MessageCell sel args) e = tt

    tested : (b : Bool) → eqb class (heap_size earlier) ≡ b → Below (class + 1) (chain_of earlier class)
        → Below (class + 1) (cond b (chain_by cell class (chain_of earlier)) (chain_of earlier class))
    tested true t before = here cell (eqb-true class (heap_size earlier) t)
    tested false t before = before

-- the classes above one were made before it
rest_below : (heap : Heap) (class : ℕ) → Below class (rest_of heap class)
rest_below heap class = tested (ltb (superclass_of heap class) class) refl
  where
    tested : (b : Bool) → ltb (superclass_of heap class) class ≡ b → Below class (cond b (chain_of heap (superclass_of heap class)) [])
    tested true t = below_raised (superclass_of heap class + 1) class (chain_of heap (superclass_of heap class)) (omega (arith, ltb-true (superclass_of heap class) class t)) (chain_falls heap (superclass_of heap class))
    tested false t = tt

-- what a walk comes to at the holder, or below it
pub holder_there : (code : CodeProgram) (heap : Heap) (class at holder : ℕ) → at ≤ no_class → Walks code heap class at (holds holder) → at ≤ holder
    → (at == holder) ≡ holds holder (chain_of heap class)
holder_there code heap class at holder small walks h =
    either (eqb at holder) refl ∙ sym (walk_here code heap class at (holds holder) small walks)
  where
    either : (b : Bool) → eqb at holder ≡ b → b ≡ (b || holds holder (rest_of heap at))
    either true t = refl
    either false t = sym (none_later (rest_of heap at) at holder (rest_below heap at) h)

pub holder_on : (code : CodeProgram) (heap : Heap) (class at above holder : ℕ) → at ≤ no_class → Walks code heap class at (holds holder)
    → above ≡ superclass_of heap at → above < at → holder < at → Walks code heap class above (holds holder)
holder_on code heap class at above holder small walks is h lower =
    walks_on code heap class at above (holds holder) small walks is h (rw (differs at holder (λ q. absurd (omega (arith, lower, q)))) refl)

pub holder_nowhere : (code : CodeProgram) (heap : Heap) (class at above holder : ℕ) → at ≤ no_class → Walks code heap class at (holds holder)
    → above ≡ superclass_of heap at → at ≤ above → holder < at → false ≡ holds holder (chain_of heap class)
holder_nowhere code heap class at above holder small walks is h lower =
    sym (walk_top code heap class at above (holds holder) small walks is h ∙ rw (differs at holder (λ q. absurd (omega (arith, lower, q)))) refl)
