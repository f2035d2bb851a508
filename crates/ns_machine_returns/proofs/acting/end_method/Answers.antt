use Rattle.std.proofs.Common.{refl}
use Rattle.ns_moves.specs.declared.methods.Waited.TheVariants.{Ends}
use Rattle.ns_machine_returns.proofs.Acted.{asked_lawful, asked_takes, asked_ends}
use Rattle.ns_machine_returns.proofs.acting.end_method.Goals as goal

pub bring-requires-clause-can : goal.bring-requires-clause-can
bring-requires-clause-can c =
    asked_takes c.args.code.now c.requires.asked.0 c.args.at c.args.looping c.args.core.now (Ends c.args.answer) c.leave-here.new.self c.leave-here.result
    c.requires.asked.1
    (asked_lawful c.args.code.now c.requires.asked.0 c.args.at c.args.looping c.actions_keep_lawful.ensures.method_next c.args.core.now c.args.answer c.requires.asked.1).0
    (record {
      rest = record { limits = refl; room = (refl, refl) };
      stood = c.leave-here.ensures.stood;
      laid = c.leave-here.ensures.laid;
      values = c.leave-here.ensures.values;
      frames = c.leave-here.ensures.frames;
    })

pub bring-requires-clause-live : goal.bring-requires-clause-live
bring-requires-clause-live c =
    (asked_lawful c.args.code.now c.requires.asked.0 c.args.at c.args.looping c.actions_keep_lawful.ensures.method_next c.args.core.now c.args.answer c.requires.asked.1).1

pub returns : goal.returns
returns c = λ first asked.
    asked_ends c.args.code.now first c.args.at c.args.looping c.args.core.now c.bring.new.core c.args.answer c.leave-here.new.self c.leave-here.result c.bring.result asked
    (record {
      rest = record { limits = refl; room = (refl, refl) };
      stood = c.leave-here.ensures.stood;
      laid = c.leave-here.ensures.laid;
      values = c.leave-here.ensures.values;
      frames = c.leave-here.ensures.frames;
    })
    c.bring.ensures
