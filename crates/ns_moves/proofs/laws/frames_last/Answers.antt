use Rattle.ns_moves.specs.lemmas.Lasting.{activation_lasts, exit_lasts}
use Rattle.ns_moves.proofs.Lasting.{locals_last, target_lasts, slot_lasts}
use Rattle.ns_moves.proofs.LocalsLast.{local_lasts}
use Rattle.ns_moves.proofs.laws.frames_last.Goals as goal

pub returns-clause-fits : goal.returns-clause-fits
returns-clause-fits c = activation_lasts

pub returns-clause-live : goal.returns-clause-live
returns-clause-live c = locals_last

pub returns-clause-exits : goal.returns-clause-exits
returns-clause-exits c = exit_lasts

pub returns-clause-targets : goal.returns-clause-targets
returns-clause-targets c = target_lasts

pub returns-clause-slots : goal.returns-clause-slots
returns-clause-slots c = slot_lasts

pub returns-clause-locals : goal.returns-clause-locals
returns-clause-locals c = local_lasts
