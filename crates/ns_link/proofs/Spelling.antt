-- The names and patterns of each class of a tree are spelled as the grammar has them.
use Rattle.std.proofs.Common.{ℕ, zero, suc, ◌+◌, List, [], ◌∷◌, ◌++◌}
use Rattle.std.specs.Prelude.{Option, Some, None, map, ◌⊎◌}
use Rattle.ns_base.specs.declared.place.Place.{Place}
use Rattle.ns_tree.specs.declared.token.Kind.TheVariants as k
use Rattle.ns_tree.specs.declared.tree.Named.{Named}
use Rattle.ns_tree.specs.Flat.{equals, bar, ident, flat_access, flat_init, flat_slots, flat_bars, flat_statements, flat_factory, flat_super}
use Rattle.ns_tree.specs.Flat.{flat_method, flat_pattern, head, flat_class, flat_class_side, flat_side, flat_members, flat_what}
use Rattle.ns_tree.specs.Flat.{flat_marker, flat_category}
use Rattle.ns_tree.specs.Forms.{pattern_form, factory_form, ParamsForm, class_side_form}
use Rattle.ns_tree.specs.Lists.{member_list}
use Rattle.ns_tree.specs.Grammar as g
use Rattle.ns_tree.specs.Plain as p
use Rattle.ns_tree.specs.Rule.{Rule, GoodAll, GoodOption, ◌▸◌, ◌&◌, either, once_or_more}
use Rattle.ns_tree.specs.Tree.{AllHaveText, Tree}
use Rattle.ns_scope.specs.declared.scope.ClassScope.{ClassScope}
use Rattle.ns_scope.specs.Scopes.{class_scope}
use Rattle.ns_scope.specs.Whole.{AreWholeUnits}
use Rattle.ns_tree.specs.Parts.{unit_class}
use Rattle.ns_link.specs.Each.{EachClass, EachSide, EachMember, EachWhat, EachUnit}
use Rattle.ns_link.specs.Named.{SpelledIn}
use Rattle.ns_link.specs.Spelled.{HasSpelledNames, FactoryTakes, MethodTakes, MembersTake, SideTakes, ClassSideTakes, AreMethods, HasMethodsAlone, SlotsNamed, BarsNamed}
use Rattle.ns_link.proofs.Patterns.{texts_left, texts_right, form_there, factory_there, pattern_takes}

-- ---- slots

slots_named : (slots : p.Slots) → AllHaveText (flat_slots slots) → SlotsNamed slots
slots_named p.no_slots texts = tt
slots_named (p.more_slots (p.slot_with access name init) rest) texts =
    let here = texts_left (flat_access access ++ ident name ∷ flat_init init) (flat_slots rest) texts in
    let named = texts_right (flat_access access) (ident name ∷ flat_init init) here in
    (named.0.0, slots_named rest (texts_right (flat_access access ++ ident name ∷ flat_init init) (flat_slots rest) texts))

bars_named : (bars : p.Bars) → AllHaveText (flat_bars bars) → BarsNamed bars
bars_named p.no_bars texts = tt
bars_named (p.bars_around slots) texts = slots_named slots (texts_left (flat_slots slots) (bar ∷ []) texts.1)

-- ---- patterns

abbrev params_rule : Rule ParamsForm
params_rule = once_or_more (g.part_key & g.ident)

abbrev pattern_rule : Rule (Named ⊎ ((Named × Named) ⊎ ParamsForm))
pattern_rule = either g.ident (either (g.part_oper & g.ident) params_rule)

abbrev factory_rule : Rule (Named ⊎ ParamsForm)
factory_rule = either g.ident params_rule

module _ (primary : Rule p.Primary) where
  factory_takes : (factory : Option p.Pattern) (n : ℕ) → GoodOption g.factory n factory → AllHaveText (flat_factory factory) → FactoryTakes factory
  factory_takes None n good texts = tt
  factory_takes (Some pattern) n good texts =
      pattern_takes pattern (factory_there (pattern_form pattern) (form_there factory_form factory_rule n (factory_form pattern) good)) texts

  method_takes : (method : p.Method) (n : ℕ) → (g.method primary).Good n method → AllHaveText (flat_method method) → MethodTakes method
  method_takes (p.method_with pattern bars body) n good texts =
      pattern_takes pattern (form_there pattern_form pattern_rule n (pattern_form pattern) good.0) (texts_left (flat_pattern pattern) _ texts)

  members_take : (depth : ℕ) (members : p.Members) (n : ℕ) → GoodAll (g.member primary (g.what primary depth)) n (member_list members) →
      AllHaveText (flat_members members) → MembersTake members
  members_take depth p.no_members n good texts = tt
  members_take depth (p.more_members (p.member_with categories access (p.class_member class)) rest) n good texts =
      (tt, members_take depth rest _ good.1 (texts_right (map k.Str categories ++ (flat_access access ++ flat_class class)) (flat_members rest) texts))
  members_take depth (p.more_members (p.member_with categories access (p.method_member method)) rest) n good texts =
      let here = texts_left (map k.Str categories ++ (flat_access access ++ flat_method method)) (flat_members rest) texts in
      let told = texts_right (flat_access access) (flat_method method) (texts_right (map k.Str categories) (flat_access access ++ flat_method method) here) in (
        by depth method _ good.0.1.1 told,
        members_take depth rest _ good.1 (texts_right (map k.Str categories ++ (flat_access access ++ flat_method method)) (flat_members rest) texts),
      ) where
        by : (depth : ℕ) (method : p.Method) (n : ℕ) → (g.what primary depth).Good n (p.method_member method) → AllHaveText (flat_method method) → MethodTakes method
        by zero method n good texts = method_takes method n good texts
        by (suc depth) method n good texts = method_takes method n good texts

  side_takes : (depth : ℕ) (members : p.Side) (n : ℕ) → (g.side primary (g.what primary depth)).Good n members → AllHaveText (flat_side members) →
      SideTakes members
  side_takes depth (p.side_with members tail) n good texts = members_take depth members _ good.1.0 (texts_left (flat_members members) _ texts.1)

  class_side_takes : (others : p.ClassSide) (n : ℕ) → GoodOption (k.Colon ▸ g.side primary (g.method_member primary)) n (class_side_form others) →
      AllHaveText (flat_class_side others) → ClassSideTakes others
  class_side_takes p.no_class_side n good texts = tt
  class_side_takes (p.class_side_with others) n good texts = side_takes zero others _ good.1 texts.1

  -- no class stands on a class side
  methods_alone : (members : p.Members) (n : ℕ) → GoodAll (g.member primary (g.method_member primary)) n (member_list members) → AreMethods members
  methods_alone p.no_members n good = tt
  methods_alone (p.more_members (p.member_with categories access (p.class_member class)) rest) n good = absurd good.0.1.1
  methods_alone (p.more_members (p.member_with categories access (p.method_member method)) rest) n good = (tt, methods_alone rest _ good.1)

  class_side_methods : (others : p.ClassSide) (n : ℕ) → GoodOption (k.Colon ▸ g.side primary (g.method_member primary)) n (class_side_form others) →
      HasMethodsAlone others
  class_side_methods p.no_class_side n good = tt
  class_side_methods (p.class_side_with (p.side_with members tail)) n good = methods_alone members _ good.1.1.0

  -- ---- classes

  own_spelled : (class : p.Class) (depth n : ℕ) → (g.class primary (g.what primary depth)).Good n class → AllHaveText (flat_class class) → HasSpelledNames class
  own_spelled (p.class_with name factory clause bars body members others) depth n good texts =
      let class = p.class_with name factory clause bars body members others in
      let sides = flat_side members ++ flat_class_side others in
      let block = flat_bars bars ++ (flat_statements body ++ k.Close ∷ []) in
      let behind = equals ∷ (flat_super clause ++ k.Open ∷ block) in
      let heads = texts_left (head class) sides texts in
      let further = texts_right (head class) sides texts in
      let inner = texts_right (flat_super clause) (k.Open ∷ block) (texts_right (flat_factory factory) behind heads.1.1).1 in (
        heads.1.0.0,
        factory_takes factory _ good.1.1.0 (texts_left (flat_factory factory) behind heads.1.1),
        bars_named bars (texts_left (flat_bars bars) (flat_statements body ++ k.Close ∷ []) inner.1),
        side_takes depth members _ good.1.1.1.1.1.1.0 (texts_left (flat_side members) (flat_class_side others) further),
        class_side_takes others _ good.1.1.1.1.1.1.1 (texts_right (flat_side members) (flat_class_side others) further),
        class_side_methods others _ good.1.1.1.1.1.1.1,
      )

  mutual
    class_spelled : (class : p.Class) (outer : List ClassScope) (depth n : ℕ) → (g.class primary (g.what primary depth)).Good n class →
        AllHaveText (flat_class class) → EachClass SpelledIn outer class
    class_spelled (p.class_with name factory clause bars body members others) outer depth n good texts =
        let class = p.class_with name factory clause bars body members others in
        let further = texts_right (head class) (flat_side members ++ flat_class_side others) texts in (
          own_spelled class depth n good texts,
          side_spelled members (class_scope class ∷ outer) depth _ good.1.1.1.1.1.1.0 (texts_left (flat_side members) (flat_class_side others) further),
        )

    side_spelled : (members : p.Side) (classes : List ClassScope) (depth n : ℕ) → (g.side primary (g.what primary depth)).Good n members →
        AllHaveText (flat_side members) → EachSide SpelledIn classes members
    side_spelled (p.side_with members tail) classes depth n good texts =
        members_spelled members classes depth _ good.1.0 (texts_left (flat_members members) _ texts.1)

    members_spelled : (members : p.Members) (classes : List ClassScope) (depth n : ℕ) → GoodAll (g.member primary (g.what primary depth)) n (member_list members) →
        AllHaveText (flat_members members) → EachMember SpelledIn classes members
    members_spelled p.no_members classes depth n good texts = tt
    members_spelled (p.more_members (p.member_with categories access what) rest) classes depth n good texts =
        let here = texts_left (map k.Str categories ++ (flat_access access ++ flat_what what)) (flat_members rest) texts in (
          what_spelled what classes depth _ good.0.1.1
              (texts_right (flat_access access) (flat_what what) (texts_right (map k.Str categories) (flat_access access ++ flat_what what) here)),
          members_spelled rest classes depth _ good.1 (texts_right (map k.Str categories ++ (flat_access access ++ flat_what what)) (flat_members rest) texts),
        )

    what_spelled : (what : p.What) (classes : List ClassScope) (depth n : ℕ) → (g.what primary depth).Good n what → AllHaveText (flat_what what) →
        EachWhat SpelledIn classes what
    what_spelled (p.class_member class) classes zero n good texts = absurd good
    what_spelled (p.class_member class) classes (suc depth) n good texts = class_spelled class classes depth n good texts
    what_spelled (p.method_member method) classes depth n good texts = tt

-- ---- units

pub unit_spelled : (unit : p.SourceUnit) → Tree unit → EachClass SpelledIn [] (unit_class unit)
unit_spelled (p.unit_with marker category class) tree =
    class_spelled (g.primary tree.depth) class [] tree.depth _ tree.given.1.1
    (texts_right (flat_category category) (flat_class class) (texts_right (flat_marker marker) (flat_category category ++ flat_class class) tree.told))

pub units_spelled : (number : ℕ) (units : List p.SourceUnit) (marks : List (List Place)) → AreWholeUnits number units marks →
    EachUnit SpelledIn units
units_spelled number [] marks whole = tt
units_spelled number (unit ∷ units) [] whole = absurd whole
units_spelled number (unit ∷ units) (places ∷ marks) whole =
    (unit_spelled unit whole.0.tree, units_spelled (number + 1) units marks whole.1)
