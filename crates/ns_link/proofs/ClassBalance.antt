-- Each declaration of a tree closes the brackets that it opens.
use Rattle.std.proofs.Common.{◌≡◌, ℕ, List, [], ◌∷◌, ◌++◌, refl}
use Rattle.std.specs.Prelude.{Bool, true, false, Option, Some, None, map, flat_map, zip, if◌then◌else◌}
use Rattle.ns_base.specs.Spelling.{starts_name}
use Rattle.ns_tree.specs.declared.token.Kind.{Kind}
use Rattle.ns_tree.specs.declared.token.Kind.TheVariants as k
use Rattle.ns_tree.specs.declared.tree.Named.{Named}
use Rattle.ns_tree.specs.declared.tree.Base.{Base}
use Rattle.ns_tree.specs.declared.tree.Origin.{Origin}
use Rattle.ns_tree.specs.declared.tree.Origin.TheVariants as o
use Rattle.ns_tree.specs.Flat as f
use Rattle.ns_tree.specs.Plain as p
use Rattle.ns_link.proofs.Balance.{nothing, idents, access_balanced, message_balanced, bars_balanced, statements_balanced}
use Rattle.ns_link.proofs.Tokens.{Balanced, Closes, open_after, both, closes, one_less}

turns_balanced : (pairs : List (Named × Named)) →
    Balanced (flat_map (λ (x : Named × Named). f.part_before x.0.text ∷ f.ident x.1 ∷ []) pairs)
turns_balanced [] depth = refl
turns_balanced (pair ∷ pairs) depth = by (starts_name pair.0.text) (turns_balanced pairs) where
  rest : List Kind
  rest = flat_map (λ (x : Named × Named). f.part_before x.0.text ∷ f.ident x.1 ∷ []) pairs

  by : (starts : Bool) → Balanced rest → open_after depth ((if starts then k.Key pair.0.text else k.Oper pair.0.text) ∷ f.ident pair.1 ∷ rest) ≡ depth
  by true further = further depth
  by false further = further depth

pub pattern_balanced : (pattern : p.Pattern) → Balanced (f.flat_pattern pattern)
pattern_balanced (p.pattern_with parts []) = idents parts
pattern_balanced (p.pattern_with parts (n ∷ ns)) = turns_balanced (zip parts (n ∷ ns))

pub factory_balanced : (factory : Option p.Pattern) → Balanced (f.flat_factory factory)
factory_balanced None = nothing
factory_balanced (Some pattern) = pattern_balanced pattern

origin_balanced : (origin : Origin) → Balanced (f.flat_origin origin)
origin_balanced o.Here = nothing
origin_balanced o.Super = nothing
origin_balanced (o.Outer name) = nothing

pub base_balanced : (base : Base) → Balanced (f.flat_base base)
base_balanced base = both (f.flat_origin base.origin) (f.ident base.name ∷ []) (origin_balanced base.origin) nothing

pub over_balanced : (over : Option Base) → Balanced (f.flat_over over)
over_balanced None = nothing
over_balanced (Some base) = base_balanced base

pub super_message_balanced : (message : Option p.Message) → Balanced (f.flat_super_message message)
super_message_balanced None = nothing
super_message_balanced (Some message) = message_balanced message

pub super_balanced : (clause : Option p.SuperClause) → Balanced (f.flat_super clause)
super_balanced None = nothing
super_balanced (Some (p.clause_with head over message)) =
    both (f.flat_base head) (f.flat_over over ++ f.flat_super_message message) (base_balanced head)
    (both (f.flat_over over) (f.flat_super_message message) (over_balanced over) (super_message_balanced message))

-- slots and statements between brackets
pub inner_closes : (bars : p.Bars) (body : p.Statements) → Closes (f.flat_bars bars ++ (f.flat_statements body ++ k.Close ∷ []))
inner_closes bars body =
    closes (f.flat_bars bars) (f.flat_statements body ++ k.Close ∷ []) (bars_balanced bars)
    (closes (f.flat_statements body) (k.Close ∷ []) (statements_balanced body) one_less)

pub method_balanced : (method : p.Method) → Balanced (f.flat_method method)
method_balanced (p.method_with pattern bars body) =
    both (f.flat_pattern pattern) (f.equals ∷ k.Open ∷ (f.flat_bars bars ++ (f.flat_statements body ++ k.Close ∷ []))) (pattern_balanced pattern)
    (inner_closes bars body)

strings_balanced : (texts : List (List ℕ)) → Balanced (map k.Str texts)
strings_balanced [] depth = refl
strings_balanced (text ∷ texts) depth = strings_balanced texts depth

pub head_balanced : (class : p.Class) → Balanced (f.head class)
head_balanced (p.class_with name factory clause bars body members others) =
    let block = f.flat_bars bars ++ (f.flat_statements body ++ k.Close ∷ []) in
    both (f.flat_factory factory) (f.equals ∷ (f.flat_super clause ++ k.Open ∷ block)) (factory_balanced factory)
    (both (f.flat_super clause) (k.Open ∷ block) (super_balanced clause) (inner_closes bars body))

mutual
  pub class_balanced : (class : p.Class) → Balanced (f.flat_class class)
  class_balanced (p.class_with name factory clause bars body members others) =
      let class = p.class_with name factory clause bars body members others in
      both (f.head class) (f.flat_side members ++ f.flat_class_side others) (head_balanced class)
      (both (f.flat_side members) (f.flat_class_side others) (side_balanced members) (class_side_balanced others))

  pub class_side_balanced : (others : p.ClassSide) → Balanced (f.flat_class_side others)
  class_side_balanced p.no_class_side = nothing
  class_side_balanced (p.class_side_with others) = side_balanced others

  pub side_balanced : (members : p.Side) → Balanced (f.flat_side members)
  side_balanced (p.side_with members tail) =
      closes (f.flat_members members) (map k.Str tail ++ k.Close ∷ []) (members_balanced members)
      (closes (map k.Str tail) (k.Close ∷ []) (strings_balanced tail) one_less)

  pub members_balanced : (members : p.Members) → Balanced (f.flat_members members)
  members_balanced p.no_members = nothing
  members_balanced (p.more_members member rest) = both (f.flat_member member) (f.flat_members rest) (member_balanced member) (members_balanced rest)

  pub member_balanced : (member : p.Member) → Balanced (f.flat_member member)
  member_balanced (p.member_with categories access what) =
      both (map k.Str categories) (f.flat_access access ++ f.flat_what what) (strings_balanced categories)
      (both (f.flat_access access) (f.flat_what what) (access_balanced access) (what_balanced what))

  pub what_balanced : (what : p.What) → Balanced (f.flat_what what)
  what_balanced (p.class_member class) = class_balanced class
  what_balanced (p.method_member method) = method_balanced method

pub categories_balanced : (texts : List (List ℕ)) → Balanced (map k.Str texts)
categories_balanced texts = strings_balanced texts

pub marker_balanced : (marker : Bool) → Balanced (f.flat_marker marker)
marker_balanced true depth = refl
marker_balanced false depth = refl

pub category_balanced : (category : Option (List ℕ)) → Balanced (f.flat_category category)
category_balanced None depth = refl
category_balanced (Some text) depth = refl
