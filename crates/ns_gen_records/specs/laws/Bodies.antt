-- How many bodies the parts of a class have.
use Rattle.std.proofs.Common.{◌≡◌, ◌∙◌, ℕ, ◌+◌, List, [], ◌∷◌, ◌++◌, length, ap, refl, length-append, arith}
use Rattle.std.specs.Prelude.{Some, true, false}
use Rattle.ns_tree.specs.Plain as p
use Rattle.ns_tree.specs.declared.tree.Class.{Class, out-Class}
use Rattle.ns_tree.specs.PlainOf.{class_of, side_of, class_side_of}
use Rattle.ns_tree.specs.laws.Nodes.{class_out}
use Rattle.ns_scope.specs.declared.scope.ClassScope.{ClassScope}
use Rattle.ns_scope.specs.declared.scope.CodeSide.TheVariants as side
use Rattle.ns_scope.specs.Scopes.{is_outside}
use Rattle.ns_scope.specs.Bodies as b

-- The clause of an outermost class is no body.
pub none_outside : (classes : List ClassScope) (clause : p.SuperClause) → is_outside classes ≡ true →
    length (b.clause_bodies classes (Some clause)) ≡ 0
none_outside [] clause h = refl
none_outside (class ∷ outer) clause h = absurd (let f : false ≡ true = h in cc)

-- Where a declaration stands around it a clause is one.
pub one_inside : (classes : List ClassScope) (clause : p.SuperClause) → is_outside classes ≡ false →
    length (b.clause_bodies classes (Some clause)) ≡ 1
one_inside [] clause h = absurd (let f : true ≡ false = h in cc)
one_inside (class ∷ outer) clause h = refl

-- The number behind the bodies of a class is that behind its initialiser, its side and its class side.
pub own_number : (classes : List ClassScope) (first n1 n2 last : ℕ) (class : Class) →
    n1 ≡ first + length (b.initialiser_bodies classes (class_of class)) →
    n2 ≡ n1 + length (b.side_bodies classes side.Instance (side_of (out-Class class).side)) →
    last ≡ n2 + length (b.class_side_bodies classes (class_side_of (out-Class class).class_side)) → last ≡ first + length (b.own_bodies classes (class_of class))
own_number classes first n1 n2 last class e1 e2 e3 =
    let start = b.initialiser_bodies classes (class_of class) in
    let methods = b.side_bodies classes side.Instance (side_of (out-Class class).side) in
    let others = b.class_side_bodies classes (class_side_of (out-Class class).class_side) in
    let parts : start ++ (methods ++ others) ≡ b.own_bodies classes (class_of class) = rw (class_out class) refl in
    let whole : last ≡ first + length (start ++ (methods ++ others)) =
    omega (e1, e2, e3, length-append start (methods ++ others), length-append methods others, arith) in
    whole ∙ ap (λ all. first + length all) parts
