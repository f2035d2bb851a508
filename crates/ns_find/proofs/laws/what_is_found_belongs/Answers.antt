use Rattle.ns_find.specs.laws.Belonging.{instance_belongs, class_belongs, kernel_belongs, private_belongs}
use Rattle.ns_find.proofs.laws.what_is_found_belongs.Goals as goal

pub returns-clause-instance : goal.returns-clause-instance
returns-clause-instance c = instance_belongs

pub returns-clause-class : goal.returns-clause-class
returns-clause-class c = class_belongs

pub returns-clause-kernel : goal.returns-clause-kernel
returns-clause-kernel c = kernel_belongs

pub returns-clause-private : goal.returns-clause-private
returns-clause-private c = private_belongs
