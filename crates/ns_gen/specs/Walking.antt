-- The bodies of declarations, part by part.
use Rattle.std.specs.Prelude.{◌≡◌, ℕ, ◌+◌, List, ◌∷◌, ◌++◌, length, Option, is_none}
use Rattle.ns_tree.specs.Plain as p
use Rattle.ns_scope.specs.Scopes.{initialiser_scope, is_outside}
use Rattle.ns_scope.specs.Bodies as b
use Rattle.ns_resolved.specs.Program as m
use Rattle.ns_resolved.specs.Expressions as e
use Rattle.ns_resolved.specs.Statements.{bars_bodies, statements_bodies}
use Rattle.ns_resolved.specs.Classes as c
use Rattle.ns_gen_draft.specs.declared.around.Around.{Around}

-- The innermost declaration around has a number, where there is one.
abbrev pub StandsAround : Around → Type 0
StandsAround around = is_outside around.classes.now ≡ is_none around.outer

-- the bodies of the blocks in locals and statements
abbrev pub routine_inside : e.Standing → ℕ → p.Bars → p.Statements → List m.Body
routine_inside here next bars body =
    bars_bodies here next bars ++ statements_bodies here (next + length (b.bars_blocks here.scope bars)) body

-- the bodies of the blocks in an initialiser
abbrev pub start_inside : e.Standing → ℕ → Option p.SuperClause → p.Bars → p.Statements → List m.Body
start_inside here next clause bars body =
    c.super_bodies here next clause
    ++ (bars_bodies here (next + length (b.super_blocks here.scope clause)) bars
    ++ statements_bodies here (next + length (b.super_blocks here.scope clause) + length (b.bars_blocks here.scope bars)) body)

-- an initialiser and its blocks
abbrev pub start_bodies : c.Around → ℕ → ℕ → p.Class → List m.Body
start_bodies around number next (p.class_with name factory clause bars body members others) =
    let class = p.class_with name factory clause bars body members others in
    let here = c.standing around (initialiser_scope around.classes factory) number next in
    c.initialiser_body here class ∷ c.initialiser_inside here class

-- the bodies that stand in a class of this number, which is the innermost around
abbrev pub inside_class : c.Around → ℕ → ℕ → p.Class → List m.Body
inside_class around number next (p.class_with name factory clause bars body members others) =
    let class = p.class_with name factory clause bars body members others in
    c.own_bodies around number next class
    ++ c.nested_bodies around (number + 1) (next + length (b.own_bodies around.classes class)) members
