use Rattle.ns_replay.proofs.PutBack.{stands_kept}
use Rattle.ns_replay.proofs.standing.stand_at.Goals as goal

pub returns-clause-here : goal.returns-clause-here
returns-clause-here c =
    stands_kept c.args.machine.now c.put_back.new.machine c.args.start.now c.args.kept.now c.args.asked c.args.one.now c.requires.here c.requires.kept c.put_back.ensures
