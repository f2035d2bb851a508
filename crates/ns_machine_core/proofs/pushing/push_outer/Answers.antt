use Rattle.std.proofs.Common.{◌≡◌, subst}
use Rattle.ns_code.specs.declared.instruction.Instr.TheVariants as instr
use Rattle.ns_moves.specs.declared.site.Site.{Site}
use Rattle.ns_moves.specs.Bodies.{enclosing}
use Rattle.ns_moves.specs.declared.running.Running.{Running}
use Rattle.ns_moves.specs.Running.{activation_at}
use Rattle.ns_machine_core.specs.declared.state.Next.TheVariants as next
use Rattle.ns_machine_core.proofs.Enclosed.{outer_pushed}
use Rattle.ns_machine_core.proofs.Remembered.{with_memo, can_do_with, done_with}
use Rattle.ns_machine_core.proofs.pushing.push_outer.Goals as goal

pub returns : goal.returns
returns c place =
    let core = c.args.core.now in
    let code = c.args.code.now in
    let memo = c.enclosing_object-object.new.memo in
    done_with code core c.push.new.core c.args.at (instr.PushOuter c.args.level) place (next.On c.push.result) memo
    (outer_pushed code (with_memo core memo) c.push.new.core c.args.at c.push.result c.args.level c.running.result c.enclosing_object-object.result place
    (can_do_with code core c.args.at (instr.PushOuter c.args.level) memo c.enclosing_object-object.ensures.keeps c.requires)
    c.running.ensures
    (subst (λ (here : Running). (site : Site) → c.enclosing_object-object.result ≡ (enclosing core.run.world.world.cells (activation_at site here) c.args.level).object)
    c.running_code-here.ensures c.enclosing_object-object.ensures.object)
    c.push.ensures)
