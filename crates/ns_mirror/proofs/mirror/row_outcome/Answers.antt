use Rattle.ns_mirror.proofs.Found.{class_there}
use Rattle.ns_world.specs.laws.Starts.{class_named}
use Rattle.ns_mirror.proofs.Reflecting.{class_cell_there}
use Rattle.ns_mirror.proofs.mirror.row_outcome.Goals as goal

pub class_name-requires-clause-class : goal.class_name-requires-clause-class
class_name-requires-clause-class c = class_named c.args.world.now.world c.args.code.now c.args.value c.requires.lawful

pub selectors-requires-clause-class : goal.selectors-requires-clause-class
selectors-requires-clause-class c = λ h. class_there c.args.world.now.world c.args.code.now c.args.value c.requires.lawful h

pub enclosing-requires-clause-class : goal.enclosing-requires-clause-class
enclosing-requires-clause-class c = λ h. class_cell_there _ (class_there c.args.world.now.world c.args.code.now c.args.value c.requires.lawful h)
