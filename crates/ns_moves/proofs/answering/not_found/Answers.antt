use Rattle.std.proofs.Common.{ap, sym, ◌∙◌}
use Rattle.ns_find.specs.declared.found.Found.{Found}
use Rattle.ns_moves.specs.Sends.{not_found}
use Rattle.ns_moves.specs.Run.{progress_of}
use Rattle.ns_moves.proofs.Members.{slot_read, slot_written, class_there}
use Rattle.ns_moves.proofs.answering.not_found.Goals as goal

pub get-requires : goal.get-requires
get-requires c = slot_read c.entries_are_inside.ensures.slots c.entries_are_inside.ensures.same c.args.run.now.world.world c.args.code.now c.args.receiver _ _ _ c.requires.lawful c.requires.suits c.in-Getter.is

pub set_with_message-requires-clause-word : goal.set_with_message-requires-clause-word
set_with_message-requires-clause-word c = slot_written c.entries_are_inside.ensures.slots c.args.run.now.world.world c.args.code.now c.args.receiver _ _ _ c.requires.lawful c.requires.suits c.in-Setter.is

pub nested_in-requires-clause-class : goal.nested_in-requires-clause-class
nested_in-requires-clause-class c = class_there c.args.run.now.world.world.cells c.args.code.now c.args.receiver _ _ _ c.requires.suits c.in-Nested.is

pub returns-in-Setter-clause-reached : goal.returns-in-Setter-clause-reached
returns-in-Setter-clause-reached c = λ site.
    c.set_with_message.ensures.reached site (progress_of c.args.run.now) c.args.values.now
    ∙ ap (λ (f : Found). not_found c.args.code.now f c.args.sel c.args.receiver c.args.values.now site (progress_of c.args.run.now)) (sym c.in-Setter.is)

pub returns-in-Nested-clause-reached : goal.returns-in-Nested-clause-reached
returns-in-Nested-clause-reached c = λ site.
    c.nested_in.ensures.reached site (progress_of c.args.run.now) c.args.values.now
    ∙ ap (λ (f : Found). not_found c.args.code.now f c.args.sel c.args.receiver c.args.values.now site (progress_of c.args.run.now)) (sym c.in-Nested.is)

pub returns-in-Factory-clause-reached : goal.returns-in-Factory-clause-reached
returns-in-Factory-clause-reached c = λ site.
    c.enter_factory_with_message.ensures.reached site (progress_of c.args.run.now) c.args.values.now
    ∙ ap (λ (f : Found). not_found c.args.code.now f c.args.sel c.args.receiver c.args.values.now site (progress_of c.args.run.now)) (sym c.in-Factory.is)
