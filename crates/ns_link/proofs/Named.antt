-- What the record of a class names is there.
use Rattle.std.proofs.Common.{◌≡◌, ℕ, suc, ◌+◌, List, ◌∷◌, ◌++◌, length, refl, ap}
use Rattle.std.specs.Prelude.{Option, Some, None, slice_get}
use Rattle.ns_base.specs.declared.place.Place.{Place}
use Rattle.ns_tree.specs.declared.tree.Access.TheVariants as a
use Rattle.ns_tree.specs.Plain as p
use Rattle.ns_scope.specs.declared.scope.CodeSide.TheVariants as side
use Rattle.ns_scope.specs.Scopes.{initialiser_scope, factory_params}
use Rattle.ns_scope.specs.Bodies as b
use Rattle.ns_scope.specs.Whole.{AreWholeUnits}
use Rattle.ns_code.specs.Selector.{text_arity}
use Rattle.ns_resolved.specs.Program as m
use Rattle.ns_resolved.specs.Expressions.{Standing}
use Rattle.ns_resolved.specs.Statements.{bars_bodies, statements_bodies}
use Rattle.ns_resolved.specs.Classes.{within, standing, clause_bodies, initialiser_body, initialiser_inside, super_bodies, side_methods}
use Rattle.ns_resolved.specs.Classes.{class_side_methods, own_bodies, nested_bodies, declaration_of, factory_selector, bars_slots, slots_of, meant_of}
use Rattle.ns_resolved.specs.Right.{AreIdentifiers}
use Rattle.ns_resolved.specs.laws.Numbering.{both, bars_counted, statements_counted}
use Rattle.ns_resolved.specs.laws.Counting.{super_counted, clause_counted, side_counted}
use Rattle.ns_link.specs.Named.{NamesWhatIsThere, SpelledIn}
use Rattle.ns_link.specs.Spelled.{FactoryTakes, SlotsNamed, BarsNamed}
use Rattle.ns_resolved.specs.laws.Sits.{Sits, sits_left, sits_right}
use Rattle.ns_link.proofs.Spelling.{units_spelled}
use Rattle.ns_link.proofs.Walk.{Gives, classes_are}
use Rattle.ns_link.proofs.Bodies.{clause_there, initialiser_there, side_there, class_side_there}

-- ---- names

factory_takes : (factory : Option p.Pattern) → FactoryTakes factory →
    length (factory_params factory) ≡ text_arity (factory_selector factory)
factory_takes None h = refl
factory_takes (Some (p.pattern_with parts params)) h = h

slots_named : (slots : p.Slots) → SlotsNamed slots → AreIdentifiers (slots_of slots)
slots_named p.no_slots h = tt
slots_named (p.more_slots (p.slot_with access name init) rest) h = (h.0, slots_named rest h.1)

bars_named : (bars : p.Bars) → BarsNamed bars → AreIdentifiers (bars_slots bars)
bars_named p.no_bars h = tt
bars_named (p.bars_around slots) h = slots_named slots h

-- ---- where the methods sit

-- an initialiser and the blocks in it are as many bodies as scopes
pub initialiser_counted : (clause : Option p.SuperClause) (bars : p.Bars) (body : p.Statements) (here : Standing) →
    length (super_bodies here (here.body + 1) clause
    ++ (bars_bodies here (here.body + 1 + length (b.super_blocks here.scope clause)) bars
    ++ statements_bodies here (here.body + 1 + length (b.super_blocks here.scope clause) + length (b.bars_blocks here.scope bars)) body))
    ≡ length (b.super_blocks here.scope clause ++ (b.bars_blocks here.scope bars ++ b.statements_blocks here.scope body))
initialiser_counted clause bars body here =
    let next = here.body + 1 in
    let supers = length (b.super_blocks here.scope clause) in
    both _ _ _ _ (super_counted clause here next)
    (both _ _ _ _ (bars_counted bars here (next + supers)) (statements_counted body here (next + supers + length (b.bars_blocks here.scope bars))))

-- ---- a class

module _ (meant : m.Meant) where
  named_there : Gives meant SpelledIn (NamesWhatIsThere meant)
  named_there (p.class_with name factory clause bars body members others) around number next h spelled classes bodies =
      let class = p.class_with name factory clause bars body members others in
      let inner = within around number class in
      let clauses = length (b.clause_bodies around.classes clause) in
      let own_next = next + clauses in
      let here = standing inner (initialiser_scope inner.classes factory) number own_next in
      let start = initialiser_body here class ∷ initialiser_inside here class in
      let starts = length (b.initialiser_bodies inner.classes class) in
      let methods_next = own_next + starts in
      let sides = length (b.side_bodies inner.classes side.Instance members) in
      let methods = side_methods inner side.Instance number methods_next members in
      let others_methods = class_side_methods inner number (methods_next + sides) others in
      let own = own_bodies inner number own_next class in
      let nested = nested_bodies inner (number + 1) (own_next + length (b.own_bodies inner.classes class)) members in
      let behind : Sits meant.bodies own_next (own ++ nested) =
      sits_right meant.bodies next clauses (clause_bodies around next clause) (own ++ nested) (clause_counted clause around next h) bodies in
      let all_own : Sits meant.bodies own_next (start ++ (methods ++ others_methods)) = sits_left meant.bodies own_next own nested behind in
      let all_methods = sits_right meant.bodies own_next starts start (methods ++ others_methods) (ap suc (initialiser_counted clause bars body here)) all_own in
      record {
        name = spelled.0;
        factory = factory_takes factory spelled.1;
        initialiser = initialiser_there meant class around number next h bodies;
        clause = clause_there meant (declaration_of around number next class) clause around next refl (sits_left meant.bodies next (clause_bodies around next clause) (own ++ nested) bodies);
        slots = bars_named bars spelled.2;
        methods = side_there meant members inner side.Instance number methods_next a.Protected spelled.3 (sits_left meant.bodies methods_next methods others_methods all_methods);
        side_methods = class_side_there meant others inner number (methods_next + sides) spelled.4
            (sits_right meant.bodies methods_next sides methods others_methods (side_counted members inner side.Instance number methods_next) all_methods);
      }

pub classes_name_what_is_there : (files : List (List ℕ)) (units : List p.SourceUnit) (marks : List (List Place)) →
    AreWholeUnits 0 units marks →
    (number : ℕ) (class : m.Declaration) → slice_get (meant_of files units marks).classes number ≡ Some class → NamesWhatIsThere (meant_of files units marks) number class
classes_name_what_is_there files units marks whole number class here =
    let meant = meant_of files units marks in
    classes_are files units marks SpelledIn (NamesWhatIsThere meant) (named_there meant) (units_spelled 0 units marks whole) number class here
