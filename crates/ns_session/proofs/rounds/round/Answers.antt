use Rattle.std.proofs.Common.{◌<◌, length, ◌∙◌, arith}
use Rattle.ns_session.proofs.Rounding.{round_step, found_next}
use Rattle.ns_session.proofs.rounds.round.Goals as goal

pub members-preserved : goal.members-preserved
members-preserved c =
    let all = c.members.invariant.all in
    let test = c.members-test.true in
    let less : c.members.number < length c.args.session.now.members = omega (arith, test, all) in
    record {
      rest = λ last others.
          c.members.invariant.rest last
          (round_step c.args.quantum (length c.args.session.now.members) c.members.number c.members.session c.give-some.new.session last less
          c.give-some.ensures.given others);
      count = c.give-some.ensures.count ∙ c.members.invariant.count;
      all = all;
      found = found_next c.members.some c.give-some.result c.members.number c.args.session.now c.members.session c.give-some.new.session
          c.members.invariant.found
          (record { less = c.give-some.ensures.less; same = c.give-some.ensures.same; over = c.give-some.ensures.ended });
    }
