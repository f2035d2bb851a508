use Rattle.ns_opened.proofs.Opening.{ends_with}
use Rattle.ns_opened.proofs.host.host_open.Goals as goal

pub returns-in-Ok-clause-ends : goal.returns-in-Ok-clause-ends
returns-in-Ok-clause-ends c =
    ends_with _ _ c.in-Ok.reply c.tell.result c.args.room.now c.tell.new.room c.tell.new.told c.in-Ok.ensures c.tell.ensures
