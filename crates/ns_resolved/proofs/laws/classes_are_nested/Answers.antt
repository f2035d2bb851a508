use Rattle.ns_resolved.proofs.Nesting.{classes_nested}
use Rattle.ns_resolved.proofs.laws.classes_are_nested.Goals as goal

pub returns : goal.returns
returns c = classes_nested
