use Rattle.std.proofs.Common.{◌<◌, length, arith}
use Rattle.std.proofs.lemmas.Bool.Decides.{nat_tests}
use Rattle.std.proofs.lemmas.Result.{IfOk-weaker}
use Rattle.ns_session_files.proofs.TellingLaws.{alone_next, status_next, told_next}
use Rattle.ns_session_files.proofs.telling.+tell.Goals as goal

pub returns-in-Ok-clause-out : goal.returns-in-Ok-clause-out
returns-in-Ok-clause-out m c =
    let l : c.args.number < length c.args.session.now.members = grind (arith, nat_tests, c.if-number-count.false, c.count.ensures.count) in
    IfOk-weaker c.tell.result _ _ (λ all h. told_next c.args.number c.args.session.now.members c.args.told c.in-Ok.more all l c.in-Ok.ensures.told h) c.tell.ensures.out

pub returns-in-Ok-clause-status : goal.returns-in-Ok-clause-status
returns-in-Ok-clause-status m c =
    let l : c.args.number < length c.args.session.now.members = grind (arith, nat_tests, c.if-number-count.false, c.count.ensures.count) in
    IfOk-weaker c.tell.result _ _ (λ all h. status_next c.args.number c.args.session.now.members c.args.told c.in-Ok.more all l c.in-Ok.ensures.told h) c.tell.ensures.status

pub returns-in-Ok-clause-alone : goal.returns-in-Ok-clause-alone
returns-in-Ok-clause-alone m c =
    let l : c.args.number < length c.args.session.now.members = grind (arith, nat_tests, c.if-number-count.false, c.count.ensures.count) in
    IfOk-weaker c.tell.result _ _ (λ all h. alone_next c.args.number c.args.session.now.members l c.in-Ok.ensures.alone h) c.tell.ensures.alone
