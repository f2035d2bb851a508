-- No first cell stands behind the bound with a cell more.
use Rattle.std.proofs.Common.{◌≡◌, ℕ, ◌+◌, ◌<◌, ◌≤◌, ◌∷◌, refl, ap, sym, ◌∙◌, arith, Option, Some, None, IsSome, is_some, is_none, Bool, true, false, cond, eqb, ◌&&◌}
use Rattle.std.proofs.lemmas.Bool.{eqb-true}
use Rattle.ns_world.specs.declared.value.Value.{Value}
use Rattle.ns_world.specs.declared.cell.FacetKind.{FacetKind}
use Rattle.ns_world.specs.declared.cell.NewCell.{NewCell}
use Rattle.ns_world.specs.declared.cell.NewCell.TheVariants.{Object, Class, Block, Environment, Array, Text, Facet, Mirror, Message}
use Rattle.ns_world.specs.declared.seek.Sought.{Sought}
use Rattle.ns_world.specs.declared.seek.Sought.TheVariants as sought
use Rattle.ns_world.specs.Cell.{Cell, ClassCell, fresh, cell_size}
use Rattle.ns_world.specs.Heap.{Heap, heap_size}
use Rattle.ns_world.specs.Seek.{is_nil, is_facet, is_top, is_sought, earlier_or, first_such, may_be_first}
use Rattle.ns_world.specs.View.{AreFirstsBelow}
use Rattle.ns_world.specs.laws.Chains.{both_of, size_above}
use Rattle.ns_world.specs.laws.Firsts.{first_without, first_behind, first_within}

class_no_first : (heap : Heap) (decl base : ℕ) (encl holder over : Value) (s : Sought) →
    (is_nil encl && is_none (first_such (is_top decl) heap)) ≡ false →
    first_such (is_sought s) (ClassCell decl base encl holder over ∷ heap) ≡ first_such (is_sought s) heap
class_no_first heap decl base encl holder over (sought.Facet kind) e =
    first_without (is_sought (sought.Facet kind)) heap (ClassCell decl base encl holder over) refl
class_no_first heap decl base encl holder over (sought.Top other) e = tested (is_top other (ClassCell decl base encl holder over)) refl
  where
    some : (o : Option ℕ) → is_none o ≡ false → IsSome o
    some None e = absurd (cc)
    some (Some n) e = refl

    tested : (b : Bool) → is_top other (ClassCell decl base encl holder over) ≡ b → first_such (is_top other) (ClassCell decl base encl holder over ∷ heap) ≡ first_such (is_top other) heap
    tested false t = first_without (is_top other) heap (ClassCell decl base encl holder over) t
    tested true t =
        let parts = both_of (eqb other decl) (is_nil encl) t in
        let is : other ≡ decl = eqb-true other decl parts.0 in
        let there : is_none (first_such (is_top decl) heap) ≡ false = ap (λ b. b && is_none (first_such (is_top decl) heap)) (sym parts.1) ∙ e in
        first_behind (is_top other) heap (ClassCell decl base encl holder over) (ap (λ d. is_some (first_such (is_top d) heap)) is ∙ some (first_such (is_top decl) heap) there)

-- a cell that is no facet and no class is never sought
pub no_first_cell : (heap : Heap) (cell : Cell) (s : Sought) → ((kind : FacetKind) → is_facet kind cell ≡ false) →
    ((decl : ℕ) → is_top decl cell ≡ false) → first_such (is_sought s) (cell ∷ heap) ≡ first_such (is_sought s) heap
no_first_cell heap cell (sought.Facet kind) f t = first_without (is_facet kind) heap cell (f kind)
no_first_cell heap cell (sought.Top decl) f t = first_without (is_top decl) heap cell (t decl)

-- a cell that can't be a first one changes none
no_first : (heap : Heap) (new : NewCell) (s : Sought) → may_be_first heap new ≡ false →
    first_such (is_sought s) (fresh new ∷ heap) ≡ first_such (is_sought s) heap
no_first heap (Class decl base encl holder over) s e = class_no_first heap decl base encl holder over s e
no_first heap (Facet kind) s e = absurd (cc)
no_first heap (Object class words) s e = no_first_cell heap (fresh (Object class words)) s (λ kind. refl) (λ decl. refl)
no_first heap (Block body env home receiver holder) s e =
    no_first_cell heap (fresh (Block body env home receiver holder)) s (λ kind. refl) (λ decl. refl)
no_first heap (Environment parent locals) s e = no_first_cell heap (fresh (Environment parent locals)) s (λ kind. refl) (λ decl. refl)
no_first heap (Array size) s e = no_first_cell heap (fresh (Array size)) s (λ kind. refl) (λ decl. refl)
no_first heap (Text bytes) s e = no_first_cell heap (fresh (Text bytes)) s (λ kind. refl) (λ decl. refl)
no_first heap (Mirror mirrored) s e = no_first_cell heap (fresh (Mirror mirrored)) s (λ kind. refl) (λ decl. refl)
no_first heap (Message sel args) s e = no_first_cell heap (fresh (Message sel args)) s (λ kind. refl) (λ decl. refl)

-- the bound with a cell more
pub firsts_with : (heap : Heap) (new : NewCell) (bound after : ℕ) → AreFirstsBelow heap bound →
    after ≡ cond (may_be_first heap new) (heap_size heap + 1) bound → AreFirstsBelow (fresh new ∷ heap) after
firsts_with heap new bound after firsts e s number f = tested (may_be_first heap new) refl e
  where
    tested : (b : Bool) → may_be_first heap new ≡ b → after ≡ cond b (heap_size heap + 1) bound → number < after
    tested true t e = omega (arith, e, newest (first_such (is_sought s) heap) refl (is_sought s (fresh new)) f)
      where
        newest : (o : Option ℕ) → first_such (is_sought s) heap ≡ o → (b : Bool) → earlier_or o (cond b (Some (heap_size heap)) None) ≡ Some number → number ≤ heap_size heap
        newest (Some n) g b h = let is : n ≡ number = cc in omega (arith, is, first_within (is_sought s) heap n g)
        newest None g true h = let is : heap_size heap ≡ number = cc in omega (arith, is)
        newest None g false h = absurd (cc)
    tested false t e = omega (arith, e, firsts s number (sym (no_first heap new s t) ∙ f))

pub bound_within : (heap : Heap) (new : NewCell) (bound after : ℕ) → bound ≤ heap_size heap →
    after ≡ cond (may_be_first heap new) (heap_size heap + 1) bound → after ≤ heap_size (fresh new ∷ heap)
bound_within heap new bound after h e = tested (may_be_first heap new) e
  where
    tested : (b : Bool) → after ≡ cond b (heap_size heap + 1) bound → after ≤ heap_size heap + cell_size (fresh new)
    tested true e = omega (arith, e, size_above (fresh new))
    tested false e = omega (arith, e, h)
