-- Which classes are nested in which, one after another.
use Rattle.std.proofs.Common.{◌≡◌, ℕ, zero, suc, ◌<◌, List, [], ◌∷◌, length, get_or, slice_get, replicate, refl, ap, sym, ◌∙◌, subst, arith, Option, Some, None, Bool, true, false, ◌||◌}
use Rattle.std.specs.Prelude.{slice_set, ◌==◌}
use Rattle.std.specs.Option.{option_map_or}
use Rattle.std.specs.List.{list_any}
use Rattle.std.proofs.lemmas.Bool.{eq-eqb}
use Rattle.ns_code.specs.declared.program.CodeProgram.{CodeProgram}
use Rattle.ns_code.specs.declared.class.ClassCode.{ClassCode}
use Rattle.ns_code.specs.declared.class.NestedCode.{NestedCode}
use Rattle.ns_frozen.specs.Frames.{has_nested}
use Rattle.ns_frozen_tables.specs.Nested.{AreOuters}
use Rattle.ns_frozen_tables.specs.laws.Lists.{set_each}

-- one of some is among them
any_item : (xs : List NestedCode) (k : ℕ) (d : NestedCode) → k < length xs → list_any (λ (one : NestedCode). one.class == (get_or xs k d).class) xs ≡ true
any_item [] k d h = absurd (omega (arith, h))
any_item (first ∷ rest) zero d h =
    ap (λ (b : Bool). b || list_any (λ (one : NestedCode). one.class == first.class) rest) (eq-eqb first.class first.class refl)
any_item (first ∷ rest) (suc k) d h =
    ap (λ (b : Bool). (first.class == (get_or rest k d).class) || b) (any_item rest k d (omega (arith, h))) ∙ or_true (first.class == (get_or rest k d).class)
  where
    or_true : (b : Bool) → (b || true) ≡ true
    or_true true = refl
    or_true false = refl

-- one more is known
pub outers_more : (code : CodeProgram) (outers after : List (Option ℕ)) (decl k : ℕ) (class : ClassCode) (nested : List NestedCode) (d : NestedCode)
    → AreOuters code outers → slice_get code.classes decl ≡ Some class → nested ≡ class.nested → k < length nested
    → after ≡ slice_set outers (get_or nested k d).class (Some decl) → AreOuters code after
outers_more code outers after decl k class nested d are there these within e = subst (AreOuters code) (sym e) all
  where
    one : NestedCode
    one = get_or nested k d

    here : has_nested code decl one.class ≡ true
    here =
        ap (λ o. option_map_or (λ (declared : ClassCode). list_any (λ (n : NestedCode). n.class == one.class) declared.nested) o false) there
        ∙ (ap (λ (ns : List NestedCode). list_any (λ (n : NestedCode). n.class == one.class) ns) (sym these)
        ∙ any_item nested k d within)

    all : AreOuters code (slice_set outers one.class (Some decl))
    all number outer f =
        set_each outers one.class (Some decl) (λ i y. (w : ℕ) → y ≡ Some w → has_nested code w i ≡ true)
        (λ i y g w q. are i w (g ∙ ap Some q))
        (λ w q. let same : decl ≡ w = cc in subst (λ (n : ℕ). has_nested code n one.class ≡ true) same here)
        number (Some outer) f outer refl

-- nothing is known
pub no_outers : (code : CodeProgram) (outers : List (Option ℕ)) (count : ℕ) → outers ≡ replicate count None → AreOuters code outers
no_outers code outers count e class decl there = absurd (nowhere count class (sym (ap (λ os. slice_get os class) e) ∙ there))
  where
    nowhere : (n k : ℕ) → slice_get (replicate n None) k ≡ Some (Some decl) → ⊥
    nowhere zero k f = absurd (cc)
    nowhere (suc n) zero f = absurd (cc)
    nowhere (suc n) (suc k) f = nowhere n k f
