use Rattle.std.proofs.Common.{pos}
use Rattle.ns_world.specs.declared.value.Value.TheVariants.{Nil}
use Rattle.ns_kcode.specs.laws.OneAfterAnother.{to_do_is, times_is, no_times, do_is}
use Rattle.ns_kcode.proofs.laws.counted_loops_are_their_rows.Goals as goal

pub returns-clause-to_do : goal.returns-clause-to_do
returns-clause-to_do g c = λ host n start end block fits few w. to_do_is host n start end block (pos 0) w fits few

pub returns-clause-times : goal.returns-clause-times
returns-clause-times g c = λ host n times block w. times_is host n times block Nil (pos 0) w

pub returns-clause-no_times : goal.returns-clause-no_times
returns-clause-no_times g c = λ host n below block w. no_times host n below block Nil (pos 0) w

pub returns-clause-items : goal.returns-clause-items
returns-clause-items g c = λ host n size array block w. do_is host n size array block Nil w
