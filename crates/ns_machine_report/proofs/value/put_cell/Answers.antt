use Rattle.ns_world.specs.declared.value.Value.TheVariants.{Ref}
use Rattle.ns_world.specs.laws.Starts.{class_named}
use Rattle.ns_machine_report.proofs.value.put_cell.Goals as goal

pub put_object-requires-clause-class : goal.put_object-requires-clause-class
put_object-requires-clause-class c = class_named c.args.world.now.world c.args.code.now (Ref c.args.at) c.requires.lawful
