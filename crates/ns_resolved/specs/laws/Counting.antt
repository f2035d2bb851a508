-- A program has as many bodies as scopes, and as many declarations as are counted, so that the numbers beside the walks are
-- places in the lists.
use Rattle.std.proofs.Common.{◌≡◌, ℕ, suc, ◌+◌, List, [], ◌∷◌, length, refl, ap, ◌∙◌, length-append, arith}
use Rattle.std.specs.Prelude.{Option, Some, None}
use Rattle.std.specs.Option.{option_map_or}
use Rattle.ns_base.specs.declared.place.Place.{Place}
use Rattle.ns_tree.specs.Plain as p
use Rattle.ns_scope.specs.declared.scope.ClassScope.{ClassScope}
use Rattle.ns_scope.specs.declared.scope.CodeSide.{CodeSide}
use Rattle.ns_scope.specs.declared.scope.CodeSide.TheVariants as side
use Rattle.ns_scope.specs.Scopes.{clause_scope, initialiser_scope}
use Rattle.ns_scope.specs.Bodies as b
use Rattle.ns_resolved.specs.Program as m
use Rattle.ns_resolved.specs.Expressions.{Standing}
use Rattle.ns_resolved.specs.Classes.{Around, in_file, within, standing, in_method, clause_body, clause_bodies, super_bodies, method_bodies}
use Rattle.ns_resolved.specs.Classes.{what_methods, members_methods, side_methods, class_side_methods, own_bodies, class_bodies, nested_bodies}
use Rattle.ns_resolved.specs.Classes.{members_bodies, member_bodies, what_bodies, class_count, side_count, members_count, member_count, what_count}
use Rattle.ns_resolved.specs.Classes.{class_declared, side_declared, members_declared, member_declared, what_declared, units_bodies, units_declared, units_count}
use Rattle.ns_resolved.specs.laws.Numbering.{both, message_counted, bars_counted, statements_counted}

-- ---- the bodies of a declaration

-- The arguments of a superclass clause have as many bodies as blocks are counted in them.
pub super_counted : (clause : Option p.SuperClause) (here : Standing) (next : ℕ) →
    length (super_bodies here next clause) ≡ length (b.super_blocks here.scope clause)
super_counted (Some (p.clause_with head over (Some message))) here next = message_counted message here next
super_counted (Some (p.clause_with head over None)) here next = refl
super_counted None here next = refl

method_counted : (method : p.Method) (around : Around) (side : CodeSide) (class number : ℕ) →
    length (method_bodies around side class number method) ≡ length (b.method_bodies around.classes side method)
method_counted (p.method_with (p.pattern_with parts params) bars body) around side class number =
    let here = in_method around side class number params bars in
    ap suc (both _ _ _ _ (bars_counted bars here (number + 1)) (statements_counted body here (number + 1 + length (b.bars_blocks here.scope bars))))

-- A member has as many bodies of methods as are counted in it.
pub what_methods_counted : (what : p.What) (around : Around) (side : CodeSide) (class next : ℕ) →
    length (what_methods around side class next what) ≡ length (b.member_methods around.classes side what)
what_methods_counted (p.class_member inner) around side class next = refl
what_methods_counted (p.method_member method) around side class next = method_counted method around side class next

members_methods_counted : (members : p.Members) (around : Around) (side : CodeSide) (class next : ℕ) →
    length (members_methods around side class next members) ≡ length (b.methods_bodies around.classes side members)
members_methods_counted p.no_members around side class next = refl
members_methods_counted (p.more_members (p.member_with categories access what) rest) around side class next =
    both _ _ _ _ (what_methods_counted what around side class next)
    (members_methods_counted rest around side class (next + length (b.member_methods around.classes side what)))

-- A side has as many bodies as are counted in it.
pub side_counted : (members : p.Side) (around : Around) (side : CodeSide) (class next : ℕ) →
    length (side_methods around side class next members) ≡ length (b.side_bodies around.classes side members)
side_counted (p.side_with members tail) around side class next = members_methods_counted members around side class next

class_side_counted : (others : p.ClassSide) (around : Around) (class next : ℕ) →
    length (class_side_methods around class next others) ≡ length (b.class_side_bodies around.classes others)
class_side_counted p.no_class_side around class next = refl
class_side_counted (p.class_side_with others) around class next = side_counted others around side.Class class next

-- A class has as many bodies of its own as are counted.
pub own_counted : (class : p.Class) (around : Around) (number next : ℕ) →
    length (own_bodies around number next class) ≡ length (b.own_bodies around.classes class)
own_counted (p.class_with name factory clause bars body members others) around number next =
    let class = p.class_with name factory clause bars body members others in
    let here = standing around (initialiser_scope around.classes factory) number next in
    let supers = length (b.super_blocks here.scope clause) in
    let slots = length (b.bars_blocks here.scope bars) in
    let methods_next = next + length (b.initialiser_bodies around.classes class) in
    ap suc
    (both _ _ _ _
    (both _ _ _ _ (super_counted clause here (next + 1))
    (both _ _ _ _ (bars_counted bars here (next + 1 + supers)) (statements_counted body here (next + 1 + supers + slots))))
    (both _ _ _ _ (side_counted members around side.Instance number methods_next)
    (class_side_counted others around number (methods_next + length (b.side_bodies around.classes side.Instance members)))))

-- ---- clauses

-- there is a number of the innermost declaration where there is one
abbrev pub HasNumber : Option ℕ → List ClassScope → Type 0
HasNumber None [] = Unit {0}
HasNumber None (class ∷ classes) = ⊥
HasNumber (Some number) [] = ⊥
HasNumber (Some number) (class ∷ classes) = Unit {0}

clause_length : (outer : Option ℕ) (classes : List ClassScope) (body : ℕ → m.Body) (clause : p.SuperClause) → HasNumber outer classes →
    length (option_map_or (λ number. body number ∷ []) outer []) ≡ length (b.clause_bodies classes (Some clause))
clause_length None [] body clause h = refl
clause_length None (class ∷ classes) body clause h = absurd h
clause_length (Some number) [] body clause h = absurd h
clause_length (Some number) (class ∷ classes) body clause h = refl

-- A superclass clause has as many bodies as blocks are counted in it, and its own.
pub clause_counted : (clause : Option p.SuperClause) (around : Around) (number : ℕ) → HasNumber around.outer around.classes →
    length (clause_bodies around number clause) ≡ length (b.clause_bodies around.classes clause)
clause_counted None around number h = refl
clause_counted (Some clause) around number h =
    clause_length around.outer around.classes (λ outer. clause_body (standing around (clause_scope around.classes) outer number) clause) clause h

-- ---- classes

mutual
  -- A class has as many bodies as are counted in it.
  pub class_counted : (class : p.Class) (around : Around) (number next : ℕ) → HasNumber around.outer around.classes →
      length (class_bodies around number next class) ≡ length (b.class_bodies around.classes class)
  class_counted (p.class_with name factory clause bars body members others) around number next h =
      let class = p.class_with name factory clause bars body members others in
      let own_next = next + length (b.clause_bodies around.classes clause) in
      let inside = within around number class in
      both _ _ _ _ (clause_counted clause around next h)
      (both (own_bodies inside number own_next class) _ (b.own_bodies inside.classes class) _ (own_counted class inside number own_next)
      (nested_counted members inside (number + 1) (own_next + length (b.own_bodies inside.classes class)) tt))

  nested_counted : (members : p.Side) (around : Around) (number next : ℕ) → HasNumber around.outer around.classes →
      length (nested_bodies around number next members) ≡ length (b.nested_bodies around.classes members)
  nested_counted (p.side_with members tail) around number next h = members_counted members around number next h

  members_counted : (members : p.Members) (around : Around) (number next : ℕ) → HasNumber around.outer around.classes →
      length (members_bodies around number next members) ≡ length (b.members_bodies around.classes members)
  members_counted p.no_members around number next h = refl
  members_counted (p.more_members member rest) around number next h =
      both _ _ _ _ (member_counted member around number next h)
      (members_counted rest around (number + member_count member) (next + length (b.member_nested around.classes member)) h)

  -- A member has as many bodies as are counted in it.
  pub member_counted : (member : p.Member) (around : Around) (number next : ℕ) → HasNumber around.outer around.classes →
      length (member_bodies around number next member) ≡ length (b.member_nested around.classes member)
  member_counted (p.member_with categories access what) around number next h = what_counted what around number next h

  what_counted : (what : p.What) (around : Around) (number next : ℕ) → HasNumber around.outer around.classes →
      length (what_bodies around number next what) ≡ length (b.what_bodies around.classes what)
  what_counted (p.class_member class) around number next h = class_counted class around number next h
  what_counted (p.method_member method) around number next h = refl

-- ---- declarations

mutual
  -- A class declares as many classes as are counted in it.
  pub class_listed : (class : p.Class) (around : Around) (number next : ℕ) → length (class_declared around number next class) ≡ class_count class
  class_listed (p.class_with name factory clause bars body members others) around number next =
      let class = p.class_with name factory clause bars body members others in
      let inside = within around number class in
      let inner_next = next + length (b.clause_bodies around.classes clause) + length (b.own_bodies inside.classes class) in
      let e : length (side_declared inside (number + 1) inner_next members) ≡ side_count members = side_listed_all members inside (number + 1) inner_next in
      omega (e, arith)

  side_listed_all : (members : p.Side) (around : Around) (number next : ℕ) → length (side_declared around number next members) ≡ side_count members
  side_listed_all (p.side_with members tail) around number next = members_listed members around number next

  members_listed : (members : p.Members) (around : Around) (number next : ℕ) → length (members_declared around number next members) ≡ members_count members
  members_listed p.no_members around number next = refl
  members_listed (p.more_members member rest) around number next =
      let rest_next = next + length (b.member_nested around.classes member) in
      length-append (member_declared around number next member) (members_declared around (number + member_count member) rest_next rest)
      ∙ ap (λ n. n + length (members_declared around (number + member_count member) rest_next rest)) (member_listed member around number next)
      ∙ ap (member_count member +◌) (members_listed rest around (number + member_count member) rest_next)

  -- A member declares as many classes as are counted in it.
  pub member_listed : (member : p.Member) (around : Around) (number next : ℕ) → length (member_declared around number next member) ≡ member_count member
  member_listed (p.member_with categories access what) around number next = what_listed_all what around number next

  what_listed_all : (what : p.What) (around : Around) (number next : ℕ) → length (what_declared around number next what) ≡ what_count what
  what_listed_all (p.class_member class) around number next = class_listed class around number next
  what_listed_all (p.method_member method) around number next = refl

-- ---- programs

-- as many bodies as scopes
pub units_counted : (units : List p.SourceUnit) (marks : List (List Place)) (number next : ℕ) → length units ≡ length marks →
    length (units_bodies number next units marks) ≡ length (b.bodies_of units)
units_counted [] marks number next e = refl
units_counted (unit ∷ units) [] number next e = absurd (let f : suc (length units) ≡ 0 = e in omega (f, arith))
units_counted (p.unit_with marker category class ∷ units) (places ∷ marks) number next e =
    both _ _ _ _ (class_counted class (in_file places) number next tt)
    (units_counted units marks (number + class_count class) (next + length (b.class_bodies [] class))
    (let f : suc (length units) ≡ suc (length marks) = e in omega (f, arith)))

-- as many declarations as are counted
pub units_listed : (units : List p.SourceUnit) (marks : List (List Place)) (number next : ℕ) → length units ≡ length marks →
    length (units_declared number next units marks) ≡ units_count units
units_listed [] marks number next e = refl
units_listed (unit ∷ units) [] number next e = absurd (let f : suc (length units) ≡ 0 = e in omega (f, arith))
units_listed (p.unit_with marker category class ∷ units) (places ∷ marks) number next e =
    let rest_next = next + length (b.class_bodies [] class) in
    let f : suc (length units) ≡ suc (length marks) = e in
    length-append (class_declared (in_file places) number next class) (units_declared (number + class_count class) rest_next units marks)
    ∙ ap (λ n. n + length (units_declared (number + class_count class) rest_next units marks)) (class_listed class (in_file places) number next)
    ∙ ap (class_count class +◌) (units_listed units marks (number + class_count class) rest_next (omega (f, arith)))
