-- The class records of generated code have no fault.
use Rattle.std.proofs.Common.{◌≡◌, ◌<◌, ℕ, List, [], ◌∷◌, ◌++◌, refl, sym, ap, ◌∙◌, arith}
use Rattle.std.specs.Prelude.{Bool, true, false, ◌&&◌, ◌||◌, not, Option, Some, None, slice_get, map, flat_map, nat_lt, ◌==◌, is_none, unwrap_or, if◌then◌else◌}
use Rattle.std.specs.Option.{option_map_or}
use Rattle.std.specs.List.{list_any, list_all}
use Rattle.ns_base.specs.Names.{has}
use Rattle.ns_base.specs.Spelling.{is_identifier}
use Rattle.ns_scope.specs.declared.scope.CodeSide.{CodeSide}
use Rattle.ns_code.specs.declared.class.ClassCode.{ClassCode}
use Rattle.ns_code.specs.declared.class.SlotCode.{SlotCode}
use Rattle.ns_code.specs.declared.class.NestedCode.{NestedCode}
use Rattle.ns_code.specs.declared.class.MethodCode.{MethodCode}
use Rattle.ns_code.specs.declared.body.BodyCode.{BodyCode}
use Rattle.ns_code.specs.Selector.{text_arity, selector_arity}
use Rattle.ns_code.specs.Soundness as s
use Rattle.ns_resolved.specs.Program as m
use Rattle.ns_resolved.specs.Tables.{slot_code, nested_code, method_code, side_number, names_of, sel_of, kind_of}
use Rattle.ns_resolved.specs.There.{slot_selectors, nested_names}
use Rattle.ns_resolved.specs.Right as r
use Rattle.ns_gen_code.specs.Code.{code_of}
use Rattle.ns_gen_code.specs.Stated.{AreThere}
use Rattle.ns_gen_code.proofs.Around.{class_there, body_there}
use Rattle.ns_gen_code.proofs.Named.{text_named, is_named, arity_named}
use Rattle.ns_gen_code.proofs.Privates.{slot_same, text_step, nested_one}

pub less : (a b : ℕ) → a < b → nat_lt a b ≡ true
less a b h = grind (arith, h)

same : (n : ℕ) → (n == n) ≡ true
same n = grind (arith)

pub equal : (a b : ℕ) → a ≡ b → (a == b) ≡ true
equal a b e = ap (λ x. x == b) e ∙ same b

pub both : (a b : Bool) → a ≡ true → b ≡ true → (a && b) ≡ true
both a b e f = ap (λ x. x && b) e ∙ f

pub neither : (a b : Bool) → a ≡ false → b ≡ false → (a || b) ≡ false
neither a b e f = ap (λ x. x || b) e ∙ f

-- ---- the selectors of members

pub slots_all : (meant : m.Meant) (slots : List m.Slot) → AreThere (names_of meant) (map (λ slot. slot.name) slots) →
    s.all_slot_selectors (code_of meant) (map (slot_code (names_of meant)) slots) ≡ flat_map slot_selectors slots
slots_all meant [] h = refl
slots_all meant (slot ∷ slots) h =
    ap (λ x. x ++ s.all_slot_selectors (code_of meant) (map (slot_code (names_of meant)) slots)) (slot_same meant slot h.0)
    ∙ ap (slot_selectors slot ++◌) (slots_all meant slots h.1)

pub methods_all : (meant : m.Meant) (methods : List m.Method) → AreThere (names_of meant) (map (λ method. method.selector) methods) →
    s.texts_of (code_of meant) (map (λ (method : MethodCode). method.sel.0) (map (method_code (names_of meant)) methods))
    ≡ map (λ (method : m.Method). method.selector) methods
methods_all meant [] h = refl
methods_all meant (method ∷ methods) h =
    text_step meant method.selector (map (λ (method : MethodCode). method.sel.0) (map (method_code (names_of meant)) methods))
    (map (λ (method : m.Method). method.selector) methods) h.0 (methods_all meant methods h.1)

pub nested_all : (meant : m.Meant) (nested : List m.Nested) →
    s.texts_of (code_of meant) (s.nested_names (code_of meant) (map nested_code nested)) ≡ nested_names meant nested
nested_all meant [] = refl
nested_all meant (nested ∷ others) =
    nested_one meant nested.class (s.nested_names (code_of meant) (map nested_code others)) (nested_names meant others) (nested_all meant others)

-- ---- bodies that a record names

pub body_is : (meant : m.Meant) (number : ℕ) (body : m.Body) (kind side class : ℕ) (has_params : ℕ → Bool) →
    slice_get meant.bodies number ≡ Some body →
    kind_of body.does ≡ kind → side_number body.side ≡ side → body.class ≡ class → has_params body.params ≡ true →
    s.is_body_of (code_of meant) number kind side class has_params ≡ true
body_is meant number body kind side class has_params here k d c p =
    ap (λ o. option_map_or (λ (b : BodyCode). (b.kind == kind && b.side == side) && (b.class == class && has_params b.params)) o false)
    (body_there meant number body here)
    ∙ both _ _ (both _ _ (equal (kind_of body.does) kind k) (equal (side_number body.side) side d)) (both _ _ (equal body.class class c) p)

-- a number of parameters that is the arity of a selector
pub params_named : (meant : m.Meant) (selector : List ℕ) (params : ℕ) → has (names_of meant) selector ≡ true →
    params ≡ text_arity selector →
    s.has_params_of (code_of meant) (sel_of (names_of meant) selector) params ≡ true
params_named meant selector params h e =
    ap (λ b. not b || params == selector_arity (code_of meant) (sel_of (names_of meant) selector).0) (is_named meant selector h)
    ∙ equal params (selector_arity (code_of meant) (sel_of (names_of meant) selector).0) (e ∙ sym (arity_named meant selector h))

pub methods_there : (meant : m.Meant) (side : CodeSide) (number : ℕ) (methods : List m.Method) → r.HaveMethods meant side number methods →
    AreThere (names_of meant) (map (λ method. method.selector) methods) →
    s.have_bodies (code_of meant) (side_number side) number (map (method_code (names_of meant)) methods) ≡ true
methods_there meant side number [] right h = refl
methods_there meant side number (method ∷ methods) ((body, values, steps, here, kind, of_side, class, params), right) h =
    both _ _ (body_is meant method.body body s.method_kind (side_number side) number
    (s.has_params_of (code_of meant) (sel_of (names_of meant) method.selector)) here (ap kind_of kind) (ap side_number of_side) class
    (params_named meant method.selector body.params h.0 params))
    (methods_there meant side number methods right h.1)

pub clause_there : (meant : m.Meant) (number : ℕ) (class : m.Declaration) (clause : Option ℕ) → r.HasClause meant class clause →
    option_map_or (λ clause. s.is_body_of (code_of meant) clause s.clause_kind s.instance_side (unwrap_or class.outer number) (λ params. params == 0)) clause true
    ≡ true
clause_there meant number class None right = refl
clause_there meant number class (Some clause) (body, head, here, kind, of_side, outer, params) =
    body_is meant clause body s.clause_kind s.instance_side (unwrap_or class.outer number) (λ params. params == 0) here (ap kind_of kind)
    (ap side_number of_side) (sym (ap (λ o. unwrap_or o number) outer)) (equal body.params 0 params)

-- ---- places

pub place_right : (number : ℕ) (class : m.Declaration) → r.StandsIn number class class.outer →
    ((if is_none class.outer then is_none class.clause else option_map_or (λ outer. nat_lt outer number) class.outer false)
    && (not (number == 0) || is_none class.outer)) ≡ true
place_right number class h = by_outer class.outer h where
  or_true : (a : Bool) → (a || true) ≡ true
  or_true true = refl
  or_true false = refl

  not_zero : (outer number : ℕ) → outer < number → (number == 0) ≡ false
  not_zero outer number h = grind (arith, h)

  by_outer : (outer : Option ℕ) → r.StandsIn number class outer →
      ((if is_none outer then is_none class.clause else option_map_or (λ outer. nat_lt outer number) outer false)
      && (not (number == 0) || is_none outer)) ≡ true
  by_outer None h = both _ _ (ap is_none h) (or_true (not (number == 0)))
  by_outer (Some outer) h = both _ _ (less outer number h) (ap (λ b. not b || false) (not_zero outer number h))

pub nested_there : (meant : m.Meant) (number : ℕ) (nested : List m.Nested) → r.HaveNested meant number nested →
    list_all (λ (nested : NestedCode). option_map_or (λ (inner : ClassCode). option_map_or (λ outer. outer == number) inner.outer false)
    (slice_get (code_of meant).classes nested.class) false) (map nested_code nested) ≡ true
nested_there meant number [] right = refl
nested_there meant number (nested ∷ others) ((inner, here, outer), right) =
    both _ _ (ap (λ o. option_map_or (λ (inner : ClassCode). option_map_or (λ outer. outer == number) inner.outer false) o false)
    (class_there meant nested.class inner here)
    ∙ ap (λ o. option_map_or (λ outer. outer == number) o false) outer ∙ same number)
    (nested_there meant number others right)

-- ---- names

pub identifier : (meant : m.Meant) (name : List ℕ) → has (names_of meant) name ≡ true → is_identifier name ≡ true →
    s.is_identifier_name (code_of meant) (sel_of (names_of meant) name) ≡ true
identifier meant name h e = ap (λ o. option_map_or is_identifier o false) (text_named meant name h) ∙ e

pub slots_named : (meant : m.Meant) (slots : List m.Slot) → r.AreIdentifiers slots →
    AreThere (names_of meant) (map (λ slot. slot.name) slots) →
    list_any (λ (slot : SlotCode). not (s.is_identifier_name (code_of meant) slot.name)) (map (slot_code (names_of meant)) slots) ≡ false
slots_named meant [] right h = refl
slots_named meant (slot ∷ slots) right h =
    neither _ _ (ap not (identifier meant slot.name h.0 right.0)) (slots_named meant slots right.1 h.1)

pub methods_named : (meant : m.Meant) (methods : List m.Method) → AreThere (names_of meant) (map (λ method. method.selector) methods) →
    list_any (λ (method : MethodCode). not (s.is_name (code_of meant) method.sel)) (map (method_code (names_of meant)) methods) ≡ false
methods_named meant [] h = refl
methods_named meant (method ∷ methods) h = neither _ _ (ap not (is_named meant method.selector h.0)) (methods_named meant methods h.1)
