use Rattle.ns_moves.proofs.Following.{message_follows}
use Rattle.ns_moves.proofs.finding.messages_follow.Goals as goal

pub returns : goal.returns
returns c = message_follows
