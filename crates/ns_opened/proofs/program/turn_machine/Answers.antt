use Rattle.std.proofs.Common.{List, ℕ, ap, length}
use Rattle.ns_opened.proofs.Turning.{told_alike}
use Rattle.ns_opened.proofs.program.turn_machine.Goals as goal
use Rattle.ns_opened.specs.Opened.{gone_on, printed_by}

pub returns : goal.returns
returns c =
    let old = c.args.machine.now in
    told_alike c.reply_of.result c.args.name (length c.output-before.result.now) (printed_by old) c.go_on.new.machine (gone_on c.args.steps old)
    (ap (λ (bytes : List ℕ). length bytes) c.output-before.ensures) c.go_on.ensures c.reply_of.ensures
