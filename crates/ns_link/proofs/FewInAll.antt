-- In a program without faults the locals of each body are few.
use Rattle.std.proofs.Common.{◌≡◌, ◌<◌, ℕ, zero, suc, ◌+◌, List, [], ◌∷◌, ◌++◌, length, ◌^◌, subst, arith}
use Rattle.std.specs.Prelude.{Option, Some, None, slice_get}
use Rattle.std.specs.Option.{option_map_or}
use Rattle.std.proofs.lemmas.Option.{same_Some}
use Rattle.ns_base.specs.declared.place.Place.{Place}
use Rattle.ns_tree.specs.Plain as p
use Rattle.ns_scope.specs.declared.scope.CodeSide.{CodeSide}
use Rattle.ns_scope.specs.declared.scope.CodeSide.TheVariants as side
use Rattle.ns_scope.specs.Names.{locals_of}
use Rattle.ns_scope.specs.Scopes.{clause_scope, initialiser_scope, factory_params}
use Rattle.ns_scope.specs.Bodies as b
use Rattle.ns_scope.specs.Whole.{AreWholeUnits}
use Rattle.ns_static_rules.specs.Rules.{params_found, locals_found}
use Rattle.ns_static_rules.specs.Faults as f
use Rattle.ns_static_rules.specs.Least.{least, faults}
use Rattle.ns_resolved.specs.Program as m
use Rattle.ns_resolved.specs.Expressions.{Standing}
use Rattle.ns_resolved.specs.Classes.{Around, in_file, within, standing, in_method, clause_body, clause_bodies, super_bodies, method_bodies, what_methods, members_methods}
use Rattle.ns_resolved.specs.Classes.{side_methods, class_side_methods, own_bodies, class_bodies, nested_bodies, members_bodies, what_bodies, units_bodies}
use Rattle.ns_resolved.specs.Classes.{what_count, class_count, meant_of}
use Rattle.ns_link.specs.Each.{EachUnit}
use Rattle.ns_link.specs.Faultless.{Faultless}
use Rattle.ns_link.proofs.Faults.{empty_left, empty_right, program_faultless, class_alone}
use Rattle.ns_link.proofs.FewLocals.{AllFew, few_both, few_locals, message_few, bars_few, statements_few}

-- ---- the bodies of a declaration

super_few : (clause : Option p.SuperClause) (here : Standing) (next : ℕ) → f.super_faults here.scope clause ≡ [] →
    AllFew (super_bodies here next clause)
super_few (Some (p.clause_with head over (Some message))) here next e = message_few message here next e
super_few (Some (p.clause_with head over None)) here next e = tt
super_few None here next e = tt

method_few : (method : p.Method) (around : Around) (side : CodeSide) (class number : ℕ) → f.method_faults around.classes side method ≡ [] →
    AllFew (method_bodies around side class number method)
method_few (p.method_with (p.pattern_with parts params) bars body) around side class number e =
    let here = in_method around side class number params bars in
    let inner = f.bars_faults here.scope bars ++ f.statements_faults here.scope body in
    let further = empty_right (params_found params) (locals_found (locals_of params bars) ++ inner) e in
    let both = empty_right (locals_found (locals_of params bars)) inner further in (
      few_locals params bars (empty_left (locals_found (locals_of params bars)) inner further),
      few_both _ _ (bars_few bars here (number + 1) (empty_left (f.bars_faults here.scope bars) (f.statements_faults here.scope body) both))
          (statements_few body here (number + 1 + length (b.bars_blocks here.scope bars))
          (empty_right (f.bars_faults here.scope bars) (f.statements_faults here.scope body) both)),
    )

what_methods_few : (what : p.What) (around : Around) (side : CodeSide) (class next : ℕ) → f.what_faults around.classes side what ≡ [] →
    AllFew (what_methods around side class next what)
what_methods_few (p.class_member inner) around side class next e = tt
what_methods_few (p.method_member method) around side class next e = method_few method around side class next e

members_methods_few : (members : p.Members) (around : Around) (side : CodeSide) (class next : ℕ) →
    f.members_faults around.classes side members ≡ [] →
    AllFew (members_methods around side class next members)
members_methods_few p.no_members around side class next e = tt
members_methods_few (p.more_members (p.member_with categories access what) rest) around side class next e =
    few_both _ _ (what_methods_few what around side class next (empty_left (f.what_faults around.classes side what) (f.members_faults around.classes side rest) e))
    (members_methods_few rest around side class (next + length (b.member_methods around.classes side what))
    (empty_right (f.what_faults around.classes side what) (f.members_faults around.classes side rest) e))

side_few : (members : p.Side) (around : Around) (side : CodeSide) (class next : ℕ) → f.side_faults around.classes side members ≡ [] →
    AllFew (side_methods around side class next members)
side_few (p.side_with members tail) around side class next e = members_methods_few members around side class next e

class_side_few : (others : p.ClassSide) (around : Around) (class next : ℕ) → f.class_side_faults around.classes others ≡ [] →
    AllFew (class_side_methods around class next others)
class_side_few p.no_class_side around class next e = tt
class_side_few (p.class_side_with others) around class next e = side_few others around side.Class class next e

clause_few : (clause : Option p.SuperClause) (around : Around) (next : ℕ) → AllFew (clause_bodies around next clause)
clause_few None around next = tt
clause_few (Some clause) around next = by around.outer clause where
  by : (outer : Option ℕ) (clause : p.SuperClause) →
      AllFew (option_map_or (λ outer. clause_body (standing around (clause_scope around.classes) outer next) clause ∷ []) outer [])
  by None clause = tt
  by (Some outer) (p.clause_with head over message) = (omega arith, tt)

own_few : (class : p.Class) (around : Around) (number next : ℕ) →
    f.class_inside_faults around.classes class ≡ [] → AllFew (own_bodies around number next class)
own_few (p.class_with name factory clause bars body members others) around number next e =
    let class = p.class_with name factory clause bars body members others in
    let here = standing around (initialiser_scope around.classes factory) number next in
    let params = factory_params factory in
    let start = f.initialiser_faults around.classes factory clause bars body in
    let instances = f.side_faults around.classes side.Instance members in
    let sides = instances ++ f.class_side_faults around.classes others in
    let supers = length (b.super_blocks here.scope clause) in
    let methods_next = next + length (b.initialiser_bodies around.classes class) in
    let steps = f.bars_faults here.scope bars ++ f.statements_faults here.scope body in
    let inner = f.super_faults here.scope clause ++ steps in
    let started = empty_right (params_found params) (locals_found (locals_of params p.no_bars) ++ inner) (empty_left start sides e) in
    let further = empty_right (locals_found (locals_of params p.no_bars)) inner started in
    let last = empty_right (f.super_faults here.scope clause) steps further in
    let both = empty_right start sides e in (
      few_locals params p.no_bars (empty_left (locals_found (locals_of params p.no_bars)) inner started),
      few_both _ _
          (few_both _ _ (super_few clause here (next + 1) (empty_left (f.super_faults here.scope clause) steps further))
          (few_both _ _ (bars_few bars here (next + 1 + supers) (empty_left (f.bars_faults here.scope bars) (f.statements_faults here.scope body) last))
          (statements_few body here (next + 1 + supers + length (b.bars_blocks here.scope bars))
          (empty_right (f.bars_faults here.scope bars) (f.statements_faults here.scope body) last))))
          (few_both _ _ (side_few members around side.Instance number methods_next (empty_left instances (f.class_side_faults around.classes others) both))
          (class_side_few others around number (methods_next + length (b.side_bodies around.classes side.Instance members))
          (empty_right instances (f.class_side_faults around.classes others) both))),
    )

-- ---- classes

mutual
  class_few : (class : p.Class) (around : Around) (number next : ℕ) → f.class_faults around.classes class ≡ [] → AllFew (class_bodies around number next class)
  class_few (p.class_with name factory clause bars body members others) around number next e =
      let class = p.class_with name factory clause bars body members others in
      let inner = within around number class in
      let own_next = next + length (b.clause_bodies around.classes clause) in
      let start = f.initialiser_faults inner.classes factory clause bars body in
      let instances = f.side_faults inner.classes side.Instance members in
      let sides = instances ++ f.class_side_faults inner.classes others in
      let inside = empty_right (f.class_found around.classes class) (start ++ sides) e in
      few_both _ _ (clause_few clause around next)
      (few_both (own_bodies inner number own_next class) _ (own_few class inner number own_next inside)
      (nested_few members inner (number + 1) (own_next + length (b.own_bodies inner.classes class))
      (empty_left instances (f.class_side_faults inner.classes others) (empty_right start sides inside))))

  nested_few : (members : p.Side) (around : Around) (number next : ℕ) → f.side_faults around.classes side.Instance members ≡ [] →
      AllFew (nested_bodies around number next members)
  nested_few (p.side_with members tail) around number next e = members_few members around number next e

  members_few : (members : p.Members) (around : Around) (number next : ℕ) → f.members_faults around.classes side.Instance members ≡ [] →
      AllFew (members_bodies around number next members)
  members_few p.no_members around number next e = tt
  members_few (p.more_members (p.member_with categories access what) rest) around number next e =
      few_both _ _ (what_few what around number next (empty_left (f.what_faults around.classes side.Instance what) (f.members_faults around.classes side.Instance rest) e))
      (members_few rest around (number + what_count what) (next + length (b.what_bodies around.classes what))
      (empty_right (f.what_faults around.classes side.Instance what) (f.members_faults around.classes side.Instance rest) e))

  what_few : (what : p.What) (around : Around) (number next : ℕ) → f.what_faults around.classes side.Instance what ≡ [] →
      AllFew (what_bodies around number next what)
  what_few (p.class_member class) around number next e = class_few class around number next e
  what_few (p.method_member method) around number next e = tt

-- ---- programs

units_few : (units : List p.SourceUnit) (marks : List (List Place)) (number next : ℕ) → EachUnit Faultless units →
    AllFew (units_bodies number next units marks)
units_few [] marks number next each = tt
units_few (unit ∷ units) [] number next each = tt
units_few (p.unit_with marker category class ∷ units) (places ∷ marks) number next each =
    few_both _ _ (class_few class (in_file places) number next (class_alone class [] each.0))
    (units_few units marks (number + class_count class) (next + length (b.class_bodies [] class)) each.1)

few_at : (bodies : List m.Body) (k : ℕ) (body : m.Body) → AllFew bodies → slice_get bodies k ≡ Some body → length body.locals < 2 ^ 8
few_at [] k body few e = absurd (let g : None ≡ Some body = e in cc)
few_at (first ∷ bodies) zero body few e = subst (λ (b : m.Body). length b.locals < 2 ^ 8) (same_Some first body e) few.0
few_at (first ∷ bodies) (suc k) body few e = few_at bodies k body few.1 e

pub bodies_have_few_locals : (files : List (List ℕ)) (units : List p.SourceUnit) (marks : List (List Place)) → AreWholeUnits 0 units marks →
    least (faults units marks) ≡ None → (number : ℕ) (body : m.Body) → slice_get (meant_of files units marks).bodies number ≡ Some body →
    length body.locals < 2 ^ 8
bodies_have_few_locals files units marks whole e number body here =
    few_at (units_bodies 0 0 units marks) number body (units_few units marks 0 0 (program_faultless units marks whole e)) here
