-- The numbers of class records fit their fields.
use Rattle.std.proofs.Common.{◌≡◌, ◌≤◌, ◌<◌, ℕ, ◌-◌, List, [], ◌∷◌, length, ◌^◌, arith}
use Rattle.std.specs.Prelude.{Option, Some, None, All, map, slice_get}
use Rattle.std.specs.Option.{ForSome}
use Rattle.std.proofs.lemmas.List.{length-map}
use Rattle.std.proofs.lemmas.List.Elements.{All-nil, All-cons, All-map}
use Rattle.std.proofs.lemmas.Option.{same_Some, slice_get_within}
use Rattle.ns_tree.specs.declared.tree.Access.{Access}
use Rattle.ns_tree.specs.declared.tree.Access.TheVariants as a
use Rattle.ns_scope.specs.declared.scope.CodeSide.{CodeSide}
use Rattle.ns_scope.specs.declared.scope.CodeSide.TheVariants as side
use Rattle.ns_code.specs.Fits.{SlotFits, NestedFits, MethodFits, ClassFits}
use Rattle.ns_resolved.specs.Program as m
use Rattle.ns_resolved.specs.Right.{StandsIn, HasClause, HaveNested, HaveMethods, IsRightClass}
use Rattle.ns_resolved.specs.Tables.{access_number, slot_code, nested_code, method_code, class_code}
use Rattle.ns_link.specs.Differ.{HasFewMembers}
use Rattle.ns_link.proofs.Small.{all_got, place_small}

access_small : (access : Access) → access_number access ≤ 2
access_small a.Public = omega arith
access_small a.Protected = omega arith
access_small a.Private = omega arith

outer_small : (number : ℕ) (class : m.Declaration) (outer : Option ℕ) → number < 4096 → StandsIn number class outer →
    ForSome outer (λ k. k < 2 ^ 32 - 1)
outer_small number class None few h = λ k e. absurd (let f : None ≡ Some k = e in cc)
outer_small number class (Some outer) few h = λ k e. let same = same_Some outer k e in omega (few, h, same, arith)

module _ (meant : m.Meant) (names : List (List ℕ)) (few_names : length names ≤ 65536) (few_bodies : length meant.bodies ≤ 65536)
    (few_classes : length meant.classes ≤ 4096) where
  clause_small : (class : m.Declaration) (clause : Option ℕ) → HasClause meant class clause → ForSome clause (λ k. k < 2 ^ 32 - 1)
  clause_small class None h = λ k e. absurd (let f : None ≡ Some k = e in cc)
  clause_small class (Some clause) h =
      λ k e. let same = same_Some clause k e in
      let below = slice_get_within meant.bodies clause h.0 h.2 in
      omega (below, same, few_bodies, arith)

  nested_fit : (number : ℕ) (nested : List m.Nested) → HaveNested meant number nested → All NestedFits (map nested_code nested)
  nested_fit number [] h = All-nil NestedFits
  nested_fit number (one ∷ others) h =
      let below = slice_get_within meant.classes one.class h.0.0 h.0.1 in
      All-cons NestedFits (nested_code one) (map nested_code others) (record { class = omega (below, few_classes, arith); access = access_small one.access })
      (nested_fit number others h.1)

  methods_fit : (side : CodeSide) (number : ℕ) (methods : List m.Method) → HaveMethods meant side number methods → All MethodFits (map (method_code names) methods)
  methods_fit side number [] h = All-nil MethodFits
  methods_fit side number (method ∷ methods) h =
      let below = slice_get_within meant.bodies method.body h.0.0 h.0.3 in
      All-cons MethodFits (method_code names method) (map (method_code names) methods)
      (record { sel = place_small names method.selector few_names; access = access_small method.access; body = omega (below, few_bodies, arith) })
      (methods_fit side number methods h.1)

  pub record_fits : (number : ℕ) (class : m.Declaration) → slice_get meant.classes number ≡ Some class → IsRightClass meant number class →
      HasFewMembers class → ClassFits (class_code names class)
  record_fits number class here right few =
      let below = slice_get_within meant.classes number class here in
      let small : number < 4096 = omega (below, few_classes, arith) in
      let params = right.few_params in
      let start = slice_get_within meant.bodies class.initialiser right.initialiser.0 right.initialiser.2 in
      let slots = few.few_slots in
      let nested = few.few_nested in
      let methods = few.few_methods in
      let side_methods = few.few_side_methods in
      record {
        name = place_small names class.name few_names;
        outer = outer_small number class class.outer small right.nesting.place;
        factory = place_small names class.factory few_names;
        params = omega (params, arith);
        clause = clause_small class class.clause right.clause;
        init = omega (start, few_bodies, arith);
        super_sel = place_small names class.super_selector few_names;
        slot_count = omega (slots, length-map class.slots (slot_code names), arith);
        slots = All-map SlotFits (slot_code names) class.slots
            (all_got (λ (slot : m.Slot). SlotFits (slot_code names slot)) class.slots
            (λ n slot e. record { name = place_small names slot.name few_names; access = access_small slot.access }));
        nested_count = omega (nested, length-map class.nested nested_code, arith);
        nested = nested_fit number class.nested right.nesting.nested;
        method_count = omega (methods, length-map class.methods (method_code names), arith);
        methods = methods_fit side.Instance number class.methods right.methods;
        side_method_count = omega (side_methods, length-map class.side_methods (method_code names), arith);
        side_methods = methods_fit side.Class number class.side_methods right.side_methods;
      }
