use Rattle.std.proofs.Common.{subst}
use Rattle.ns_kdata.specs.Outcome.{Gives}
use Rattle.ns_mirror.proofs.Reflecting.{answers, refuses}
use Rattle.ns_mirror.proofs.mirror.answered.Goals as goal

pub returns-in-Ok : goal.returns-in-Ok
returns-in-Ok c = λ outcome old new g. answers outcome old new c.in-Ok.value (subst (λ r. Gives outcome old r new) c.in-Ok.is g)

pub returns-in-Err : goal.returns-in-Err
returns-in-Err c = λ outcome old new g. refuses outcome old new c.in-Err.fault (subst (λ r. Gives outcome old r new) c.in-Err.is g)
