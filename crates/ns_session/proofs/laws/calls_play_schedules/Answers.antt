use Rattle.ns_session.proofs.Playing.{adding_plays, turns_play}
use Rattle.ns_session.proofs.laws.calls_play_schedules.Goals as goal

pub returns-clause-adding : goal.returns-clause-adding
returns-clause-adding c = adding_plays

pub returns-clause-turns : goal.returns-clause-turns
returns-clause-turns c = turns_play
