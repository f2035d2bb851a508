-- The private members of a declaration are those that its scope tells of.
use Rattle.std.proofs.Common.{◌≡◌, ℕ, ◌+◌, List, [], ◌∷◌, ◌++◌, length, refl, sym, ap, ◌∙◌, subst}
use Rattle.std.specs.Prelude.{Bool, true, false, cond, ◌||◌, Some, map, flat_map, filter, slice_get, codes}
use Rattle.std.specs.List.{list_any}
use Rattle.std.specs.Option.{option_map_or}
use Rattle.std.specs.Str.{bytes_eq}
use Rattle.ns_tree.specs.declared.tree.Access.TheVariants as a
use Rattle.ns_tree.specs.Plain as p
use Rattle.ns_scope.specs.declared.scope.CodeSide.TheVariants as side
use Rattle.ns_scope.specs.Bodies as b
use Rattle.ns_scope.specs.Names.{access_or, selector_of, slot_members, bars_members, members_named, side_members, class_members}
use Rattle.ns_scope.specs.Resolve.{is_private}
use Rattle.ns_scope.specs.Scopes.{class_scope}
use Rattle.ns_resolved.specs.Program as m
use Rattle.ns_resolved.specs.There.{slot_selectors, nested_names}
use Rattle.ns_resolved.specs.Classes.{Around, within, slots_of, bars_slots, members_nested, side_nested, methods_listed, side_listed, class_side_listed}
use Rattle.ns_resolved.specs.Classes.{class_declared, side_declared, members_declared, declaration_of, class_count}
use Rattle.ns_resolved.specs.laws.Counting.{class_listed}
use Rattle.ns_link.specs.Spelled.{AreMethods, HasMethodsAlone, HasSpelledNames}
use Rattle.ns_link.proofs.AmongNames.{Among, Either, If, or_else, first_one, left_first, left_more, right_first, right_more}
use Rattle.ns_link.proofs.Around.{TellsPrivate}
use Rattle.ns_link.proofs.Members.{any_both}
use Rattle.ns_resolved.specs.laws.Sits.{Sits, sits_left, sits_right, sits_first, sits_behind}
use Rattle.ns_link.proofs.Tables.{AllAre, IsHidden, all_both, private_told, hidden_moved}

-- ---- slots

abbrev hidden_slots : List m.Slot → List (List ℕ)
hidden_slots slots = flat_map slot_selectors (filter (λ (slot : m.Slot). is_private slot.access) slots)

slot_first : (there : Bool) (slot : m.Slot) (slots : List m.Slot) (name : List ℕ) → there ≡ true → Among (slot_selectors slot) name →
    Among (flat_map slot_selectors (cond there (slot ∷ slots) slots)) name
slot_first true slot slots name e h =
    any_both (bytes_eq name) (slot_selectors slot) (flat_map slot_selectors slots) ∙ ap (λ x. x || list_any (bytes_eq name) (flat_map slot_selectors slots)) h
slot_first false slot slots name e h = absurd (let f : false ≡ true = e in cc)

slot_more : (there : Bool) (slot : m.Slot) (slots : List m.Slot) (name : List ℕ) → Among (flat_map slot_selectors slots) name →
    Among (flat_map slot_selectors (cond there (slot ∷ slots) slots)) name
slot_more true slot slots name h =
    any_both (bytes_eq name) (slot_selectors slot) (flat_map slot_selectors slots)
    ∙ or_else (list_any (bytes_eq name) (slot_selectors slot)) (list_any (bytes_eq name) (flat_map slot_selectors slots)) h
slot_more false slot slots name h = h

second_one : (name setter : List ℕ) → Among (name ∷ setter ∷ []) setter
second_one name setter = or_else (bytes_eq setter name) (list_any (bytes_eq setter) (setter ∷ [])) (first_one setter [])

slots_hidden : (slots : p.Slots) → AllAre (IsHidden (Among (hidden_slots (slots_of slots)))) (slot_members slots)
slots_hidden p.no_slots = tt
slots_hidden (p.more_slots (p.slot_with access name (p.bare stop)) rest) =
    let slot : m.Slot = record { name = name.text; access = access_or a.Protected access; mutable = true } in
    let others = filter (λ (slot : m.Slot). is_private slot.access) (slots_of rest) in
    let there = is_private (access_or a.Protected access) in (
      λ e. slot_first there slot others name.text e (first_one name.text ((name.text ++ codes ":") ∷ [])),
      (
        λ e. slot_first there slot others (name.text ++ codes ":") e (second_one name.text (name.text ++ codes ":")),
        hidden_moved (Among (flat_map slot_selectors others)) _ (slot_more there slot others) (slot_members rest) (slots_hidden rest),
      ),
    )
slots_hidden (p.more_slots (p.slot_with access name (p.fixed value)) rest) =
    let slot : m.Slot = record { name = name.text; access = access_or a.Protected access; mutable = false } in
    let others = filter (λ (slot : m.Slot). is_private slot.access) (slots_of rest) in
    let there = is_private (access_or a.Protected access) in (
      λ e. slot_first there slot others name.text e (first_one name.text []),
      hidden_moved (Among (flat_map slot_selectors others)) _ (slot_more there slot others) (slot_members rest) (slots_hidden rest),
    )
slots_hidden (p.more_slots (p.slot_with access name (p.mutable value)) rest) =
    let slot : m.Slot = record { name = name.text; access = access_or a.Protected access; mutable = true } in
    let others = filter (λ (slot : m.Slot). is_private slot.access) (slots_of rest) in
    let there = is_private (access_or a.Protected access) in (
      λ e. slot_first there slot others name.text e (first_one name.text ((name.text ++ codes ":") ∷ [])),
      (
        λ e. slot_first there slot others (name.text ++ codes ":") e (second_one name.text (name.text ++ codes ":")),
        hidden_moved (Among (flat_map slot_selectors others)) _ (slot_more there slot others) (slot_members rest) (slots_hidden rest),
      ),
    )

bars_hidden : (bars : p.Bars) → AllAre (IsHidden (Among (hidden_slots (bars_slots bars)))) (bars_members bars)
bars_hidden p.no_bars = tt
bars_hidden (p.bars_around slots) = slots_hidden slots

-- ---- methods and nested classes

abbrev hidden_methods : List m.Method → List (List ℕ)
hidden_methods methods = map (λ (method : m.Method). method.selector) (filter (λ (method : m.Method). is_private method.access) methods)

method_step : (there : Bool) (method : m.Method) (methods : List m.Method) →
    map (λ (method : m.Method). method.selector) (cond there (method ∷ methods) methods)
    ≡ If there method.selector (map (λ (method : m.Method). method.selector) methods)
method_step true method methods = refl
method_step false method methods = refl

module _ (meant : m.Meant) where
  abbrev hidden_nested : List m.Nested → List (List ℕ)
  hidden_nested nested = nested_names meant (filter (λ (nested : m.Nested). is_private nested.access) nested)

  nested_step : (there : Bool) (nested : m.Nested) (others : List m.Nested) (inner : m.Declaration) → slice_get meant.classes nested.class ≡ Some inner →
      nested_names meant (cond there (nested ∷ others) others) ≡ If there inner.name (nested_names meant others)
  nested_step true nested others inner e =
      ap (λ found. option_map_or (λ (inner : m.Declaration). inner.name ∷ nested_names meant others) found (nested_names meant others)) e
  nested_step false nested others inner e = refl

  members_hidden : (members : p.Members) (around : Around) (number next methods_next : ℕ) → Sits meant.classes number (members_declared around number next members) →
      AllAre (IsHidden (Either (hidden_nested (members_nested number members)) (hidden_methods (methods_listed around side.Instance methods_next a.Protected members))))
      (members_named a.Protected members)
  members_hidden p.no_members around number next methods_next sits = tt
  members_hidden (p.more_members (p.member_with categories access (p.class_member (p.class_with name factory clause bars body members others))) rest)
      around number next methods_next sits =
      let class = p.class_with name factory clause bars body members others in
      let rest_next = next + length (b.class_bodies around.classes class) in
      let here = class_declared around number next class in
      let behind = members_declared around (number + class_count class) rest_next rest in
      let first = sits_first meant.classes number _ _ (sits_left meant.classes number here behind sits) in
      let there = is_private (access_or a.Protected access) in
      let nested : m.Nested = record { class = number; access = access_or a.Protected access } in
      let further = members_nested (number + class_count class) rest in
      let others_nested = filter (λ (nested : m.Nested). is_private nested.access) further in
      let methods = hidden_methods (methods_listed around side.Instance (methods_next + 0) a.Protected rest) in
      let step = nested_step there nested others_nested _ first in (
        λ e. subst (λ l. Either l methods name.text) (sym step) (left_first there name.text (nested_names meant others_nested) methods e),
        hidden_moved (Either (nested_names meant others_nested) methods) _
            (λ text h. subst (λ l. Either l methods text) (sym step) (left_more there name.text (nested_names meant others_nested) methods text h)) (members_named a.Protected rest)
            (members_hidden rest around (number + class_count class) rest_next (methods_next + 0)
            (sits_right meant.classes number (class_count class) here behind (class_listed class around number next) sits)),
      )
  members_hidden (p.more_members (p.member_with categories access (p.method_member (p.method_with (p.pattern_with parts params) bars body))) rest)
      around number next methods_next sits =
      let method = p.method_with (p.pattern_with parts params) bars body in
      let there = is_private (access_or a.Protected access) in
      let one : m.Method = record { selector = selector_of parts; access = access_or a.Protected access; body = methods_next } in
      let rest_next = methods_next + length (b.member_methods around.classes side.Instance (p.method_member method)) in
      let listed = methods_listed around side.Instance rest_next a.Protected rest in
      let others = filter (λ (method : m.Method). is_private method.access) listed in
      let nested = hidden_nested (members_nested (number + 0) rest) in
      let step = method_step there one others in (
        λ e. subst (λ l. Either nested l (selector_of parts)) (sym step) (right_first there (selector_of parts) nested (hidden_methods listed) e),
        hidden_moved (Either nested (hidden_methods listed)) _
            (λ text h. subst (λ l. Either nested l text) (sym step) (right_more there (selector_of parts) nested (hidden_methods listed) text h)) (members_named a.Protected rest)
            (members_hidden rest around (number + 0) (next + 0) rest_next
            (sits_right meant.classes number 0 [] (members_declared around (number + 0) (next + 0) rest) refl sits)),
      )

  side_hidden : (members : p.Side) (around : Around) (number next methods_next : ℕ) → Sits meant.classes number (side_declared around number next members) →
      AllAre (IsHidden (Either (hidden_nested (side_nested number members)) (hidden_methods (side_listed around side.Instance methods_next a.Protected members))))
      (side_members a.Protected members)
  side_hidden (p.side_with members tail) around number next methods_next sits = members_hidden members around number next methods_next sits

methods_hidden : (members : p.Members) (around : Around) (next : ℕ) → AreMethods members →
    AllAre (IsHidden (Among (hidden_methods (methods_listed around side.Class next a.Public members)))) (members_named a.Public members)
methods_hidden p.no_members around next methods = tt
methods_hidden (p.more_members (p.member_with categories access (p.class_member class)) rest) around next methods = absurd methods.0
methods_hidden (p.more_members (p.member_with categories access (p.method_member (p.method_with (p.pattern_with parts params) bars body))) rest) around next methods =
    let method = p.method_with (p.pattern_with parts params) bars body in
    let there = is_private (access_or a.Public access) in
    let one : m.Method = record { selector = selector_of parts; access = access_or a.Public access; body = next } in
    let rest_next = next + length (b.member_methods around.classes side.Class (p.method_member method)) in
    let listed = methods_listed around side.Class rest_next a.Public rest in
    let others = filter (λ (method : m.Method). is_private method.access) listed in
    let step = method_step there one others in (
      λ e. subst (λ l. Among l (selector_of parts)) (sym step) (right_first there (selector_of parts) [] (hidden_methods listed) e),
      hidden_moved (Among (hidden_methods listed)) _
          (λ text h. subst (λ l. Among l text) (sym step) (right_more there (selector_of parts) [] (hidden_methods listed) text h)) (members_named a.Public rest)
          (methods_hidden rest around rest_next methods.1),
    )

class_side_hidden : (others : p.ClassSide) (around : Around) (next : ℕ) → HasMethodsAlone others →
    AllAre (IsHidden (Among (hidden_methods (class_side_listed around next others)))) (class_members others)
class_side_hidden p.no_class_side around next methods = tt
class_side_hidden (p.class_side_with (p.side_with members tail)) around next methods = methods_hidden members around next methods

-- ---- a class

module _ (meant : m.Meant) where
  in_slots : (slots nested methods : List (List ℕ)) (name : List ℕ) → Among slots name → Among (slots ++ (nested ++ methods)) name
  in_slots slots nested methods name h =
      any_both (bytes_eq name) slots (nested ++ methods) ∙ ap (λ x. x || list_any (bytes_eq name) (nested ++ methods)) h

  in_others : (slots nested methods : List (List ℕ)) (name : List ℕ) → Either nested methods name → Among (slots ++ (nested ++ methods)) name
  in_others slots nested methods name h =
      any_both (bytes_eq name) slots (nested ++ methods)
      ∙ or_else (list_any (bytes_eq name) slots) (list_any (bytes_eq name) (nested ++ methods)) (any_both (bytes_eq name) nested methods ∙ h)

  pub class_tells : (class : p.Class) (around : Around) (number next : ℕ) → HasSpelledNames class →
      Sits meant.classes number (class_declared around number next class) → TellsPrivate meant (class_scope class) (declaration_of around number next class)
  class_tells (p.class_with name factory clause bars body members others) around number next spelled sits =
      let class = p.class_with name factory clause bars body members others in
      let declared = declaration_of around number next class in
      let inner = within around number class in
      let initialiser = next + length (b.clause_bodies around.classes clause) in
      let methods_next = initialiser + length (b.initialiser_bodies inner.classes class) in
      let inner_next = initialiser + length (b.own_bodies inner.classes class) in
      let side_next = methods_next + length (b.side_bodies inner.classes side.Instance members) in
      let behind = sits_behind meant.classes number declared (side_declared inner (number + 1) inner_next members) sits in
      let slots = hidden_slots (bars_slots bars) in
      let nested = hidden_nested meant (side_nested (number + 1) members) in
      let listed = hidden_methods (side_listed inner side.Instance methods_next a.Protected members) in
      record {
        of_instances = private_told (Among (slots ++ (nested ++ listed))) (bars_members bars ++ side_members a.Protected members)
            (all_both (IsHidden (Among (slots ++ (nested ++ listed)))) (bars_members bars) (side_members a.Protected members)
            (hidden_moved (Among slots) (Among (slots ++ (nested ++ listed))) (in_slots slots nested listed) (bars_members bars) (bars_hidden bars))
            (hidden_moved (Either nested listed) (Among (slots ++ (nested ++ listed))) (in_others slots nested listed) (side_members a.Protected members)
            (side_hidden meant members inner (number + 1) inner_next methods_next behind)));
        of_class = private_told (Among (hidden_methods (class_side_listed inner side_next others))) (class_members others)
            (class_side_hidden others inner side_next spelled.5);
      }
