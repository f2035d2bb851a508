-- What holds of each class of a program, where it stands in the declarations around it.
use Rattle.std.specs.Prelude.{List, [], ◌∷◌}
use Rattle.ns_tree.specs.Plain as p
use Rattle.ns_scope.specs.declared.scope.ClassScope.{ClassScope}
use Rattle.ns_scope.specs.Scopes.{class_scope}
use Rattle.ns_tree.specs.Parts.{unit_class}

module _ (Has : List ClassScope → p.Class → Type 0) where
  abbrev mutual
    -- it holds of a class in these declarations, and of those in it
    pub EachClass : List ClassScope → p.Class → Type 0
    EachClass outer (p.class_with name factory clause bars body members others) =
        let class = p.class_with name factory clause bars body members others in Has outer class × EachSide (class_scope class ∷ outer) members

    pub EachSide : List ClassScope → p.Side → Type 0
    EachSide classes (p.side_with members tail) = EachMember classes members

    pub EachMember : List ClassScope → p.Members → Type 0
    EachMember classes p.no_members = Unit {0}
    EachMember classes (p.more_members member rest) = EachIn classes member × EachMember classes rest

    pub EachIn : List ClassScope → p.Member → Type 0
    EachIn classes (p.member_with categories access what) = EachWhat classes what

    pub EachWhat : List ClassScope → p.What → Type 0
    EachWhat classes (p.class_member class) = EachClass classes class
    EachWhat classes (p.method_member method) = Unit {0}

  abbrev pub EachUnit : List p.SourceUnit → Type 0
  EachUnit [] = Unit {0}
  EachUnit (unit ∷ units) = EachClass [] (unit_class unit) × EachUnit units
