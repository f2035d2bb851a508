use Rattle.std.proofs.Common.{ap, sym, ◌∙◌}
use Rattle.ns_find.specs.declared.found.Found.{Found}
use Rattle.ns_moves.specs.Sends.{Listed, done_with}
use Rattle.ns_moves.specs.Run.{progress_of}
use Rattle.ns_moves.proofs.Members.{slot_read, slot_written, class_there}
use Rattle.ns_moves.proofs.answering.done_with.Goals as goal

pub get-requires : goal.get-requires
get-requires c = slot_read c.entries_are_inside.ensures.slots c.entries_are_inside.ensures.same c.args.run.now.world.world c.args.code.now c.args.receiver _ _ _ c.requires.lawful c.requires.suits c.in-Getter.is

pub set-requires : goal.set-requires
set-requires c = slot_written c.entries_are_inside.ensures.slots c.args.run.now.world.world c.args.code.now c.args.receiver _ _ _ c.requires.lawful c.requires.suits c.in-Setter.is

pub nested_in-requires-clause-class : goal.nested_in-requires-clause-class
nested_in-requires-clause-class c = class_there c.args.run.now.world.world.cells c.args.code.now c.args.receiver _ _ _ c.requires.suits c.in-Nested.is

pub returns-in-Setter-clause-answered : goal.returns-in-Setter-clause-answered
returns-in-Setter-clause-answered c = λ site sel.
    c.set.ensures.reached c.args.code.now site (progress_of c.args.run.now)
    ∙ ap (λ (f : Found). done_with c.args.code.now f sel c.args.receiver (Listed c.args.values.now) site (progress_of c.args.run.now)) (sym c.in-Setter.is)

pub returns-in-Nested-clause-answered : goal.returns-in-Nested-clause-answered
returns-in-Nested-clause-answered c = λ site sel.
    c.nested_in.ensures.reached site (progress_of c.args.run.now) c.args.values.now
    ∙ ap (λ (f : Found). done_with c.args.code.now f sel c.args.receiver (Listed c.args.values.now) site (progress_of c.args.run.now)) (sym c.in-Nested.is)

pub returns-in-Factory-clause-answered : goal.returns-in-Factory-clause-answered
returns-in-Factory-clause-answered c = λ site sel.
    c.enter_factory.ensures.reached site (progress_of c.args.run.now)
    ∙ ap (λ (f : Found). done_with c.args.code.now f sel c.args.receiver (Listed c.args.values.now) site (progress_of c.args.run.now)) (sym c.in-Factory.is)
