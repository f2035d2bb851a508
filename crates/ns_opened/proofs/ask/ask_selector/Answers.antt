use Rattle.std.proofs.Common.{List, ℕ, ap, length}
use Rattle.ns_opened.proofs.Turning.{told_alike}
use Rattle.ns_opened.proofs.ask.ask_selector.Goals as goal
use Rattle.ns_opened.specs.Opened.{asked_on, printed_by}

pub returns : goal.returns
returns c =
    let question = c.args.question in
    let old = c.args.machine.now in
    told_alike c.reply_of.result question.name (length c.output-before.result.now) (printed_by old) c.ask_on.new.machine
    (asked_on question.steps c.args.receiver c.args.sel c.args.arguments.now old)
    (ap (λ (bytes : List ℕ). length bytes) c.output-before.ensures) c.ask_on.ensures c.reply_of.ensures
