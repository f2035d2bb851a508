use Rattle.std.proofs.Common.{pos}
use Rattle.ns_world.specs.declared.value.Value.TheVariants.{Nil}
use Rattle.ns_kcode.specs.laws.OneAfterAnother.{while_true_is, while_false_is}
use Rattle.ns_kcode.proofs.laws.while_loops_are_their_rows.Goals as goal

pub returns-clause-while_true : goal.returns-clause-while_true
returns-clause-while_true g c = λ host n receiver block w. while_true_is host n receiver block Nil (pos 0) w

pub returns-clause-while_false : goal.returns-clause-while_false
returns-clause-while_false g c = λ host n receiver block w. while_false_is host n receiver block Nil (pos 0) w
