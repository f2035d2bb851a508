use Rattle.ns_moves.proofs.sends.nested_in.Goals as goal

pub nested_class-requires-clause-class : goal.nested_class-requires-clause-class
nested_class-requires-clause-class c = c.requires.class c.in-Ref.object c.in-Ref.is
