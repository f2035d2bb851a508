use Rattle.ns_classes.proofs.Lawfully.{applied}
use Rattle.ns_classes.proofs.apply.apply.Goals as goal

pub returns-clause-class : goal.returns-clause-class
returns-clause-class c =
    (applied c.args.code.now c.args.decl c.args.encl c.args.holder c.args.over c.args.world.now c.make_class.result c.make_class.new.world c.requires.lawful c.requires.enclosed c.make_class.ensures.applies).class

pub returns-clause-lawful : goal.returns-clause-lawful
returns-clause-lawful c =
    (applied c.args.code.now c.args.decl c.args.encl c.args.holder c.args.over c.args.world.now c.make_class.result c.make_class.new.world c.requires.lawful c.requires.enclosed c.make_class.ensures.applies).lawful
