use Rattle.ns_world.specs.laws.Changing.{writing_leaves}
use Rattle.ns_world.proofs.laws.writing_changes_no_class.Goals as goal

pub returns-clause-others : goal.returns-clause-others
returns-clause-others c = λ heap at word number value. (writing_leaves heap at word value).others number

pub returns-clause-classes : goal.returns-clause-classes
returns-clause-classes c = λ heap at word number value. (writing_leaves heap at word value).classes number

pub returns-clause-chains : goal.returns-clause-chains
returns-clause-chains c = λ heap at word class value. (writing_leaves heap at word value).chains class

pub returns-clause-size : goal.returns-clause-size
returns-clause-size c = λ heap at word value. (writing_leaves heap at word value).size
