use Rattle.std.proofs.Common.{suc}
use Rattle.ns_session.proofs.Rounding.{round_more}
use Rattle.ns_session.proofs.rounds.run_round_robin.Goals as goal

pub rounds-preserved : goal.rounds-preserved
rounds-preserved c =
    let far = c.rounds.invariant in
    record {
      count = suc far.count;
      rounds = round_more c.args.quantum far.count c.args.session.now c.rounds.session c.round.new.session far.rounds c.round.ensures.round;
    }

pub returns : goal.returns
returns c =
    let far = c.rounds.invariant in
    record {
      count = suc far.count;
      rounds = round_more c.args.quantum far.count c.args.session.now c.rounds.session c.round.new.session far.rounds c.round.ensures.round;
      ended = c.round.ensures.ended c.rounds-test.false;
    }
