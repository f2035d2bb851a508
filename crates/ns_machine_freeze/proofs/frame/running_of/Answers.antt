use Rattle.std.proofs.Common.{sym, ◌∙◌, take, drop}
use Rattle.std.proofs.lemmas.List.{reverse-reverse}
use Rattle.ns_machine_freeze.proofs.Below.{own_locals, running_frozen}
use Rattle.ns_machine_freeze.proofs.frame.running_of.Goals as goal

pub returns : goal.returns
returns c =
    let values = c.args.core.now.stack.values.items in
    running_frozen c.args.code.now c.args.core.now.places c.args.frame c.args.waits (take c.args.end values) c.kind.result c.instr.result c.in_ok-locals.locals
    c.in_ok-operands.operands c.site_of.result c.kind.ensures c.instr.ensures
    (c.in_ok-locals.ensures ∙ (c.between.ensures ∙ own_locals values c.args.frame.base c.args.frame.operands c.args.end c.requires.0 c.requires.1))
    (c.in_ok-operands.ensures ∙ (c.between-2.ensures ∙ sym (reverse-reverse (drop c.args.frame.operands (take c.args.end values)))))
    c.site_of.ensures
