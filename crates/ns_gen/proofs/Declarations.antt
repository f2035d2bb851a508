-- The parts of a class, and of what stands in it.
use Rattle.std.proofs.Common.{◌≡◌, ◌∙◌, ℕ, ◌+◌, List, [], ◌∷◌, ◌++◌, length, ap, refl, sym, length-append, arith}
use Rattle.std.specs.Prelude.{Option, Some, None, option_map}
use Rattle.std.specs.Option.{option_map_or}
use Rattle.ns_tree.specs.declared.tree.Class.{Class, out-Class}
use Rattle.ns_tree.specs.declared.tree.Method.{Method}
use Rattle.ns_tree.specs.PlainOf.{class_of, method_of, bars_of, statements_of, clause_of, pattern_of, side_of, class_side_of}
use Rattle.ns_tree.specs.Plain as p
use Rattle.ns_tree.specs.laws.Nodes.{class_out}
use Rattle.ns_scope.specs.declared.scope.ClassScope.{ClassScope}
use Rattle.ns_scope.specs.declared.scope.Scope.{Scope}
use Rattle.ns_scope.specs.declared.scope.CodeSide.{CodeSide}
use Rattle.ns_scope.specs.declared.scope.CodeSide.TheVariants as side
use Rattle.ns_scope.specs.Scopes.{class_scope, clause_scope, initialiser_scope, method_scope}
use Rattle.ns_scope.specs.Bodies as b
use Rattle.ns_resolved.specs.Program as m
use Rattle.ns_resolved.specs.Expressions as e
use Rattle.ns_resolved.specs.Statements.{routine}
use Rattle.ns_resolved.specs.Classes as c
use Rattle.ns_gen_bodies.specs.Coding.{Coded, with_one, with_bodies}
use Rattle.ns_gen.specs.Walking.{routine_inside, start_inside, start_bodies, inside_class}
use Rattle.ns_gen.proofs.Onward.{with_more, both_put}

-- ---- a class

pub class_put : (around : c.Around) (number next next' : ℕ) (class : Class) (classes : List ClassScope) (s0 s1 s2 : Coded) →
    s1 ≡ with_bodies (c.clause_bodies around next (option_map clause_of (out-Class class).clause)) s0 →
    next' ≡ next + length (b.clause_bodies around.classes (option_map clause_of (out-Class class).clause)) →
    classes ≡ class_scope (class_of class) ∷ around.classes →
    s2 ≡ with_bodies (inside_class (record { classes = classes; outer = Some number; marks = around.marks }) number next' (class_of class)) s1 →
    s2 ≡ with_bodies (c.class_bodies around number next (class_of class)) s0
class_put around number next next' class classes s0 s1 s2 one behind seen two =
    let clause = option_map clause_of (out-Class class).clause in
    let there : List ClassScope → c.Around = λ all. record { classes = all; outer = Some number; marks = around.marks } in
    let parts : c.clause_bodies around next clause ++ inside_class (c.within around number (class_of class)) number (next + length (b.clause_bodies around.classes clause)) (class_of class)
    ≡ c.class_bodies around number next (class_of class) = rw (class_out class) refl in
    both_put (c.clause_bodies around next clause) (λ n. inside_class (c.within around number (class_of class)) number n (class_of class))
    (next + length (b.clause_bodies around.classes clause)) next' s0 s1 s2 one behind
    (two ∙ ap (λ all. with_bodies (inside_class (there all) number next' (class_of class)) s1) seen)
    ∙ ap (λ all. with_bodies all s0) parts

pub class_number : (outer classes : List ClassScope) (next next' last : ℕ) (class : Class) →
    next' ≡ next + length (b.clause_bodies outer (option_map clause_of (out-Class class).clause)) →
    classes ≡ class_scope (class_of class) ∷ outer →
    last ≡ next' + length (b.class_inside classes (class_of class)) → last ≡ next + length (b.class_bodies outer (class_of class))
class_number outer classes next next' last class one seen two =
    let clause = b.clause_bodies outer (option_map clause_of (out-Class class).clause) in
    let rest = b.class_inside (class_scope (class_of class) ∷ outer) (class_of class) in
    let parts : clause ++ rest ≡ b.class_bodies outer (class_of class) = rw (class_out class) refl in
    let behind : last ≡ next' + length rest = two ∙ ap (λ all. next' + length (b.class_inside all (class_of class))) seen in
    let whole : last ≡ next + length (clause ++ rest) = omega (one, behind, length-append clause rest, arith) in
    whole ∙ ap (λ all. next + length all) parts

-- ---- what stands in a class

pub inside_put : (around : c.Around) (number number' next next' : ℕ) (class : Class) (s0 s1 s2 : Coded) →
    s1 ≡ with_bodies (c.own_bodies around number next (class_of class)) s0 → next' ≡ next + length (b.own_bodies around.classes (class_of class)) →
    number' ≡ number + 1 → s2 ≡ with_bodies (c.nested_bodies around number' next' (side_of (out-Class class).side)) s1 →
    s2 ≡ with_bodies (inside_class around number next (class_of class)) s0
inside_put around number number' next next' class s0 s1 s2 one behind inner two =
    let own = c.own_bodies around number next (class_of class) in
    let at = next + length (b.own_bodies around.classes (class_of class)) in
    let parts : own ++ c.nested_bodies around (number + 1) at (side_of (out-Class class).side) ≡ inside_class around number next (class_of class) =
    rw (class_out class) refl in
    both_put own (λ n. c.nested_bodies around (number + 1) n (side_of (out-Class class).side)) at next' s0 s1 s2 one behind
    (two ∙ ap (λ i. with_bodies (c.nested_bodies around i next' (side_of (out-Class class).side)) s1) inner)
    ∙ ap (λ all. with_bodies all s0) parts

pub inside_number : (classes : List ClassScope) (next next' last : ℕ) (class : Class) →
    next' ≡ next + length (b.own_bodies classes (class_of class)) →
    last ≡ next' + length (b.nested_bodies classes (side_of (out-Class class).side)) → last ≡ next + length (b.class_inside classes (class_of class))
inside_number classes next next' last class one two =
    let own = b.own_bodies classes (class_of class) in
    let nested = b.nested_bodies classes (side_of (out-Class class).side) in
    let parts : own ++ nested ≡ b.class_inside classes (class_of class) = rw (class_out class) refl in
    let whole : last ≡ next + length (own ++ nested) = omega (one, two, length-append own nested, arith) in
    whole ∙ ap (λ all. next + length all) parts

pub inside_classes : (number number' last : ℕ) (class : Class) → number' ≡ number + 1 →
    last ≡ number' + c.side_count (side_of (out-Class class).side) →
    last ≡ number + c.class_count (class_of class)
inside_classes number number' last class one two =
    let parts : c.class_count (class_of class) ≡ 1 + c.side_count (side_of (out-Class class).side) = rw (class_out class) refl in
    omega (one, two, parts, arith)

-- ---- the initialiser and the methods of a class

pub own_put : (around : c.Around) (number next n1 n2 : ℕ) (class : Class) (s0 s1 s2 s3 : Coded) →
    s1 ≡ with_bodies (start_bodies around number next (class_of class)) s0 → n1 ≡ next + length (b.initialiser_bodies around.classes (class_of class)) →
    s2 ≡ with_bodies (c.side_methods around side.Instance number n1 (side_of (out-Class class).side)) s1 →
    n2 ≡ n1 + length (b.side_bodies around.classes side.Instance (side_of (out-Class class).side)) →
    s3 ≡ with_bodies (c.class_side_methods around number n2 (class_side_of (out-Class class).class_side)) s2 →
    s3 ≡ with_bodies (c.own_bodies around number next (class_of class)) s0
own_put around number next n1 n2 class s0 s1 s2 s3 one e1 two e2 three =
    let members = side_of (out-Class class).side in
    let others = class_side_of (out-Class class).class_side in
    let m1 = next + length (b.initialiser_bodies around.classes (class_of class)) in
    let m2 = m1 + length (b.side_bodies around.classes side.Instance members) in
    let start = start_bodies around number next (class_of class) in
    let methods : ℕ → List m.Body = λ n. c.side_methods around side.Instance number n members in
    let class_methods : ℕ → List m.Body = λ n. c.class_side_methods around number n others in
    let parts : start ++ (methods m1 ++ class_methods m2) ≡ c.own_bodies around number next (class_of class) = rw (class_out class) refl in
    let at : n2 ≡ m2 = omega (e1, e2, arith) in
    let behind : s3 ≡ with_bodies (methods m1 ++ class_methods m2) s1 =
    both_put (methods m1) class_methods m2 n2 s1 s2 s3 (two ∙ ap (λ n. with_bodies (methods n) s1) e1) at three in
    behind ∙ ap (with_bodies (methods m1 ++ class_methods m2)) one ∙ sym (with_more start (methods m1 ++ class_methods m2) s0)
    ∙ ap (λ all. with_bodies all s0) parts

-- ---- an initialiser

pub start_put : (around : c.Around) (number next next' : ℕ) (class : Class) (scope : Scope) (s0 s1 s2 : Coded) →
    scope ≡ initialiser_scope around.classes (option_map pattern_of (out-Class class).factory) →
    s1 ≡ with_one (c.initialiser_body (c.standing around scope number next) (class_of class)) s0 → next' ≡ next + 1 →
    s2 ≡ with_bodies (start_inside (c.standing around scope number next) next' (option_map clause_of (out-Class class).clause) (bars_of (out-Class class).slots) (statements_of (out-Class class).body)) s1 →
    s2 ≡ with_bodies (start_bodies around number next (class_of class)) s0
start_put around number next next' class scope s0 s1 s2 seen one behind two =
    let there = initialiser_scope around.classes (option_map pattern_of (out-Class class).factory) in
    let here : Scope → e.Standing = λ seen. c.standing around seen number next in
    let clause = option_map clause_of (out-Class class).clause in
    let bars = bars_of (out-Class class).slots in
    let body = statements_of (out-Class class).body in
    let parts : with_bodies (start_inside (here there) (next + 1) clause bars body) (with_one (c.initialiser_body (here there) (class_of class)) s0)
    ≡ with_bodies (start_bodies around number next (class_of class)) s0 = rw (class_out class) refl in
    two
    ∙ ap (λ n. with_bodies (start_inside (here scope) n clause bars body) s1) behind
    ∙ ap (with_bodies (start_inside (here scope) (next + 1) clause bars body)) one
    ∙ ap (λ s. with_bodies (start_inside (here s) (next + 1) clause bars body) (with_one (c.initialiser_body (here s) (class_of class)) s0)) seen
    ∙ parts

pub start_number : (classes : List ClassScope) (here : e.Standing) (next next' last : ℕ) (class : Class) →
    here.scope ≡ initialiser_scope classes (option_map pattern_of (out-Class class).factory) → next' ≡ next + 1 →
    last ≡ next' + length (b.super_blocks here.scope (option_map clause_of (out-Class class).clause) ++ (b.bars_blocks here.scope (bars_of (out-Class class).slots) ++ b.statements_blocks here.scope (statements_of (out-Class class).body))) →
    last ≡ next + length (b.initialiser_bodies classes (class_of class))
start_number classes here next next' last class seen one two =
    let clause = option_map clause_of (out-Class class).clause in
    let bars = bars_of (out-Class class).slots in
    let body = statements_of (out-Class class).body in
    let blocks : Scope → List Scope = λ s. b.super_blocks s clause ++ (b.bars_blocks s bars ++ b.statements_blocks s body) in
    let there = initialiser_scope classes (option_map pattern_of (out-Class class).factory) in
    let parts : there ∷ blocks there ≡ b.initialiser_bodies classes (class_of class) = rw (class_out class) refl in
    let behind : last ≡ next' + length (blocks there) = two ∙ ap (λ s. next' + length (blocks s)) seen in
    let whole : last ≡ next + length (there ∷ blocks there) = omega (one, behind, arith) in
    whole ∙ ap (λ all. next + length all) parts

pub inner_put : (here : e.Standing) (next next' : ℕ) (clause : Option p.SuperClause) (bars : p.Bars) (body : p.Statements) (s0 s1 s2 : Coded) →
    s1 ≡ with_bodies (c.super_bodies here next clause) s0 → next' ≡ next + length (b.super_blocks here.scope clause) →
    s2 ≡ with_bodies (routine_inside here next' bars body) s1 → s2 ≡ with_bodies (start_inside here next clause bars body) s0
inner_put here next next' clause bars body s0 s1 s2 one behind two =
    both_put (c.super_bodies here next clause) (λ n. routine_inside here n bars body) (next + length (b.super_blocks here.scope clause)) next' s0 s1 s2 one behind two

-- ---- clauses

-- ---- methods

pub method_put : (around : c.Around) (side : CodeSide) (number next next' : ℕ) (method : Method) (scope : Scope) (s0 s1 s2 : Coded) →
    scope ≡ method_scope around.classes side method.pattern.params.items (bars_of method.slots) →
    s1 ≡ with_one (routine (c.standing around scope number next) None m.as_method method.pattern.params.items (bars_of method.slots) (statements_of method.body)) s0 →
    next' ≡ next + 1 → s2 ≡ with_bodies (routine_inside (c.standing around scope number next) next' (bars_of method.slots) (statements_of method.body)) s1 →
    s2 ≡ with_bodies (c.method_bodies around side number next (method_of method)) s0
method_put around side number next next' method scope s0 s1 s2 seen one behind two =
    let params = method.pattern.params.items in
    let bars = bars_of method.slots in
    let body = statements_of method.body in
    let here : Scope → e.Standing = λ seen. c.standing around seen number next in
    two
    ∙ ap (λ n. with_bodies (routine_inside (here scope) n bars body) s1) behind
    ∙ ap (with_bodies (routine_inside (here scope) (next + 1) bars body)) one
    ∙ ap (λ s. with_bodies (routine_inside (here s) (next + 1) bars body) (with_one (routine (here s) None m.as_method params bars body) s0)) seen

pub method_number : (classes : List ClassScope) (side : CodeSide) (next next' last : ℕ) (method : Method) (scope : Scope) →
    scope ≡ method_scope classes side method.pattern.params.items (bars_of method.slots) → next' ≡ next + 1 →
    last ≡ next' + length (b.bars_blocks scope (bars_of method.slots) ++ b.statements_blocks scope (statements_of method.body)) →
    last ≡ next + length (b.method_bodies classes side (method_of method))
method_number classes side next next' last method scope seen one two =
    let bars = bars_of method.slots in
    let body = statements_of method.body in
    let there = method_scope classes side method.pattern.params.items bars in
    let behind : last ≡ next' + length (b.bars_blocks there bars ++ b.statements_blocks there body) =
    two ∙ ap (λ s. next' + length (b.bars_blocks s bars ++ b.statements_blocks s body)) seen in
    omega (one, behind, arith)

-- ---- clauses

-- a clause in a declaration of that number
pub head_put : (around : c.Around) (outer next : ℕ) (clause : p.SuperClause) (scope : Scope) (s0 s1 : Coded) → around.outer ≡ Some outer →
    scope ≡ clause_scope around.classes → s1 ≡ with_one (c.clause_body (c.standing around scope outer next) clause) s0 →
    s1 ≡ with_bodies (c.clause_bodies around next (Some clause)) s0
head_put around outer next clause scope s0 s1 inside seen one =
    let bodies : Option ℕ → List m.Body = λ o. option_map_or (λ n. c.clause_body (c.standing around (clause_scope around.classes) n next) clause ∷ []) o [] in
    one ∙ ap (λ s. with_one (c.clause_body (c.standing around s outer next) clause) s0) seen ∙ ap (λ o. with_bodies (bodies o) s0) (sym inside)

pub no_head_put : (around : c.Around) (next : ℕ) (clause : p.SuperClause) (s0 : Coded) → around.outer ≡ None →
    s0 ≡ with_bodies (c.clause_bodies around next (Some clause)) s0
no_head_put around next clause s0 outside =
    let bodies : Option ℕ → List m.Body = λ o. option_map_or (λ n. c.clause_body (c.standing around (clause_scope around.classes) n next) clause ∷ []) o [] in
    ap (λ o. with_bodies (bodies o) s0) (sym outside)
