use Rattle.std.proofs.Common.{◌∙◌}
use Rattle.nspk.proofs.process.ended.Goals as goal

pub returns-clause-told : goal.returns-clause-told
returns-clause-told g c = λ told w texts a files h.
    (c.status-status.result, c.from.ensures ∙ c.exit_code.ensures, (c.status-status.new.err, c.status-status.ensures.told told w texts a files h, c.tell_fault.ensures))

pub returns-clause-cut : goal.returns-clause-cut
returns-clause-cut g c = λ told w texts a.
    (c.status-status.result, c.from.ensures ∙ c.exit_code.ensures, (c.status-status.new.err, c.status-status.ensures.cut told w texts a, c.tell_fault.ensures))
