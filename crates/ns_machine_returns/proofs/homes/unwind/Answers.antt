use Rattle.ns_machine_returns.proofs.HomeFound.{few_frames, few_depth}
use Rattle.ns_machine_returns.proofs.Unwound.{gone_takes, gone_live, unwound_so}
use Rattle.ns_machine_returns.proofs.homes.unwind.Goals as goal

pub give_back-requires : goal.give_back-requires
give_back-requires c = few_depth c.args.code.now c.args.core.now c.args.at c.args.home c.args.count c.args.value c.requires.can

pub unwind-here-requires-clause-some : goal.unwind-here-requires-clause-some
unwind-here-requires-clause-some c = few_frames c.args.code.now c.args.core.now c.args.at c.args.home c.args.count c.args.value c.requires.can

pub hand-requires-clause-can : goal.hand-requires-clause-can
hand-requires-clause-can c =
    gone_takes c.charging_keeps_lawful.ensures.left c.args.code.now c.args.core.now c.args.at c.unwind-here.result c.args.home c.args.count c.args.value
    c.give_back.new.world c.unwind-here.new.self c.requires.can
    (record {
      ended = c.give_back.ensures.ended;
      rest = c.give_back.ensures.rest;
      stands = c.unwind-here.ensures.stood;
      laid = c.unwind-here.ensures.laid;
      values = c.unwind-here.ensures.values;
      frames = c.unwind-here.ensures.frames;
    })

pub hand-requires-clause-live : goal.hand-requires-clause-live
hand-requires-clause-live c =
    gone_live c.args.code.now c.args.core.now c.args.at c.unwind-here.result c.args.home c.args.count c.args.value
    c.give_back.new.world c.unwind-here.new.self c.requires.can
    (record {
      ended = c.give_back.ensures.ended;
      rest = c.give_back.ensures.rest;
      stands = c.unwind-here.ensures.stood;
      laid = c.unwind-here.ensures.laid;
      values = c.unwind-here.ensures.values;
      frames = c.unwind-here.ensures.frames;
    })

pub returns : goal.returns
returns c =
    unwound_so c.returns_unwind.ensures.unwinds c.args.code.now c.args.core.now c.hand.new.core c.args.at c.unwind-here.result c.args.home c.args.count c.args.value
    c.give_back.new.world c.unwind-here.new.self c.hand.result c.requires.can
    (record {
      ended = c.give_back.ensures.ended;
      rest = c.give_back.ensures.rest;
      stands = c.unwind-here.ensures.stood;
      laid = c.unwind-here.ensures.laid;
      values = c.unwind-here.ensures.values;
      frames = c.unwind-here.ensures.frames;
    })
    c.hand.ensures
