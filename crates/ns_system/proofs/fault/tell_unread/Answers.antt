use Rattle.ns_system.proofs.fault.tell_unread.Goals as goal

pub returns-in-None : goal.returns-in-None
returns-in-None g c = rw c.in-None.is c.tell.ensures
