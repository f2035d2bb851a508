use Rattle.ns_world.specs.laws.Changing.{byte_leaves}
use Rattle.ns_world.proofs.laws.writing_a_byte_changes_no_class.Goals as goal

pub returns-clause-others : goal.returns-clause-others
returns-clause-others c = λ heap at place number byte. (byte_leaves heap at place byte).others number

pub returns-clause-classes : goal.returns-clause-classes
returns-clause-classes c = λ heap at place number byte. (byte_leaves heap at place byte).classes number

pub returns-clause-chains : goal.returns-clause-chains
returns-clause-chains c = λ heap at place class byte. (byte_leaves heap at place byte).chains class

pub returns-clause-size : goal.returns-clause-size
returns-clause-size c = λ heap at place byte. (byte_leaves heap at place byte).size
