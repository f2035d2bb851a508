-- Classes and their records, from where they stand.
use Rattle.std.specs.Prelude.{ℕ, ◌+◌, List, length, Option}
use Rattle.ns_tree.specs.declared.tree.Access.TheVariants as a
use Rattle.ns_tree.specs.Plain as p
use Rattle.ns_scope.specs.declared.scope.CodeSide.TheVariants as side
use Rattle.ns_scope.specs.Scopes.{factory_params}
use Rattle.ns_scope.specs.Bodies as b
use Rattle.ns_resolved.specs.Program as m
use Rattle.ns_resolved.specs.Classes as c

-- the methods of a class, which is the innermost around, whose initialiser is the body of that number
abbrev pub methods_in : c.Around → ℕ → p.Class → List m.Method
methods_in inside first (p.class_with name factory clause bars body members others) =
    let class = p.class_with name factory clause bars body members others in
    c.side_listed inside side.Instance (first + length (b.initialiser_bodies inside.classes class)) a.Protected members

-- those of its class side
abbrev pub side_methods_in : c.Around → ℕ → p.Class → List m.Method
side_methods_in inside first (p.class_with name factory clause bars body members others) =
    let class = p.class_with name factory clause bars body members others in
    c.class_side_listed inside
    (first + length (b.initialiser_bodies inside.classes class) + length (b.side_bodies inside.classes side.Instance members)) others

-- The declaration of a class of that number, which is the innermost around: what stands around it, the number of its
-- clause's body, and that of its initialiser's.
abbrev pub declaration_in : c.Around → Option ℕ → Option ℕ → ℕ → ℕ → p.Class → m.Declaration
declaration_in inside outer clause_number number initialiser (p.class_with name factory clause bars body members others) =
    let class = p.class_with name factory clause bars body members others in
    let methods_next = initialiser + length (b.initialiser_bodies inside.classes class) in
    record {
      name = name.text;
      outer = outer;
      factory = c.factory_selector factory;
      params = length (factory_params factory);
      clause = clause_number;
      initialiser = initialiser;
      super_selector = c.super_selector clause;
      slots = c.bars_slots bars;
      nested = c.side_nested (number + 1) members;
      methods = c.side_listed inside side.Instance methods_next a.Protected members;
      side_methods = c.class_side_listed inside (methods_next + length (b.side_bodies inside.classes side.Instance members)) others;
    }
