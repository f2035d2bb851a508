use Rattle.std.proofs.Common.{◌≡◌, subst}
use Rattle.ns_moves.specs.declared.site.Site.{Site}
use Rattle.ns_moves.specs.declared.control.Exit.TheVariants as exit
use Rattle.ns_moves.specs.Control.{Progress, in_world}
use Rattle.ns_moves.specs.Classes.{body_ended}
use Rattle.ns_moves.specs.Shown.{answer_shown, exit_shown}
use Rattle.ns_moves.specs.declared.running.Running.{Running}
use Rattle.ns_moves.specs.Running.{activation_at}
use Rattle.ns_machine_returns.proofs.Left.{left_takes}
use Rattle.ns_machine_returns.proofs.Clauses.{clause_room, clause_after, clause_over}
use Rattle.ns_machine_returns.proofs.ending.end_clause.Goals as goal

pub bring-requires-clause-can : goal.bring-requires-clause-can
bring-requires-clause-can c =
    left_takes c.args.code.now c.args.core.now c.args.at c.leave-here.result c.body_ended-answer.new.world c.leave-here.new.self c.requires.can.stands
    (clause_room c.args.code.now c.args.core.now c.args.at c.args.frame c.args.value c.args.class c.requires.can c.requires.clause)
    (clause_after c.actions_keep_lawful.ensures.body_ended c.args.code.now c.args.core.now c.args.at c.body_ended-answer.new.world c.args.frame c.args.value c.args.class
    c.body_ended-answer.result c.requires.can c.requires.clause
    (subst (λ (running : Running). (site : Site) (rest : Progress) → answer_shown site c.body_ended-answer.result (in_world rest c.body_ended-answer.new.world.world)
    ≡ body_ended c.args.code.now (exit_shown (exit.Clause c.args.class) running.me running.holder) (activation_at site running) c.args.value (in_world rest c.args.core.now.run.world.world))
    c.running_code.ensures c.body_ended-answer.ensures.answer)).0
    (record {
      rest = c.body_ended-answer.ensures.rest;
      stood = c.leave-here.ensures.stood;
      laid = c.leave-here.ensures.laid;
      values = c.leave-here.ensures.values;
      frames = c.leave-here.ensures.frames;
    })

pub bring-requires-clause-live : goal.bring-requires-clause-live
bring-requires-clause-live c =
    (clause_after c.actions_keep_lawful.ensures.body_ended c.args.code.now c.args.core.now c.args.at c.body_ended-answer.new.world c.args.frame c.args.value c.args.class
    c.body_ended-answer.result c.requires.can c.requires.clause
    (subst (λ (running : Running). (site : Site) (rest : Progress) → answer_shown site c.body_ended-answer.result (in_world rest c.body_ended-answer.new.world.world)
    ≡ body_ended c.args.code.now (exit_shown (exit.Clause c.args.class) running.me running.holder) (activation_at site running) c.args.value (in_world rest c.args.core.now.run.world.world))
    c.running_code.ensures c.body_ended-answer.ensures.answer)).1

pub returns : goal.returns
returns c =
    clause_over c.args.code.now c.args.core.now c.bring.new.core c.args.at c.leave-here.result c.body_ended-answer.new.world c.leave-here.new.self c.args.frame c.args.value
    c.args.class c.body_ended-answer.result c.bring.result c.requires.can c.requires.clause
    (record {
      rest = c.body_ended-answer.ensures.rest;
      stood = c.leave-here.ensures.stood;
      laid = c.leave-here.ensures.laid;
      values = c.leave-here.ensures.values;
      frames = c.leave-here.ensures.frames;
    })
    (subst (λ (running : Running). (site : Site) (rest : Progress) → answer_shown site c.body_ended-answer.result (in_world rest c.body_ended-answer.new.world.world)
    ≡ body_ended c.args.code.now (exit_shown (exit.Clause c.args.class) running.me running.holder) (activation_at site running) c.args.value (in_world rest c.args.core.now.run.world.world))
    c.running_code.ensures c.body_ended-answer.ensures.answer)
    c.bring.ensures
