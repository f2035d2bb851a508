use Rattle.std.proofs.Common.{◌≡◌, ◌∙◌, ap}
use Rattle.std.proofs.lemmas.Result.{IfOk-weaker}
use Rattle.ns_base.specs.declared.selector.Sel.{Sel}
use Rattle.ns_opened.proofs.ask.ask_machine.Goals as goal
use Rattle.ns_opened.specs.Opened.{AnswersBy, asked_on, printed_by, shown}
use Rattle.ns_reply.specs.Reply.{reply_of}

pub returns-in-Some : goal.returns-in-Some
returns-in-Some c =
    let question = c.args.question in
    let old = c.args.machine.now in
    let told = λ (sel : Sel). reply_of question.name (printed_by old) (asked_on question.steps c.args.receiver sel c.args.arguments.now old) in
    IfOk-weaker c.ask_selector.result (λ reply. reply ≡ told c.in-Some.sel)
    (λ reply. AnswersBy (shown question) c.args.receiver c.args.arguments.now old reply)
    (λ reply is. record { may = λ _. is ∙ ap told c.in-Some.ensures.may.1; may_not = λ not. absurd (not c.in-Some.ensures.may.0) }) c.ask_selector.ensures
