use Rattle.std.proofs.Common.{◌≡◌, false, ap, sym, ◌∙◌, subst}
use Rattle.ns_code.specs.declared.instruction.Instr.TheVariants as instrs
use Rattle.ns_moves.specs.declared.run.Run.{Run}
use Rattle.ns_moves.specs.declared.site.Site.{Site}
use Rattle.ns_moves.specs.Control.{Progress, in_world}
use Rattle.ns_moves.specs.Bodies.{has_environment, is_beside, local_stored}
use Rattle.ns_moves.specs.declared.running.Running.{Running}
use Rattle.ns_moves.specs.Locals.{LocalIsReadable}
use Rattle.ns_moves.specs.Running.{activation_at, code_of, nowhere}
use Rattle.ns_machine_core.specs.declared.state.Core.{Core}
use Rattle.ns_machine_core.specs.declared.state.Next.TheVariants as next
use Rattle.ns_machine_core.specs.Doing.{IsDone}
use Rattle.ns_machine_core.specs.laws.Worlds.{in_other}
use Rattle.ns_machine_core.proofs.LocalsDone.{stored_there, outside_stored, known_there}
use Rattle.ns_machine_core.proofs.Remembered.{with_memo, can_do_with, done_with}
use Rattle.ns_machine_core.proofs.locals.store_local_of.Goals as goal

pub stands_beside-requires : goal.stands_beside-requires
stands_beside-requires c =
    subst (λ (here : Running). c.args.top.environment ≡ has_environment c.args.code.now here.body) (sym c.running_code-here.ensures)
    (known_there c.args.code.now c.args.top c.args.core.now.stack.frames.items c.running.result c.requires.top c.running.ensures)

pub store_outside-requires-clause-readable : goal.store_outside-requires-clause-readable
store_outside-requires-clause-readable c =
    let core = c.args.core.now in
    subst (λ (here : Running). LocalIsReadable core.run.world.world.cells c.args.code.now (code_of here) c.args.hops c.args.index) (sym c.running_code-here.ensures)
    (stored_there c.args.code.now core c.args.at c.args.hops c.args.index c.running.result c.requires.can c.running.ensures).outside

pub store_outside-requires-clause-outside : goal.store_outside-requires-clause-outside
store_outside-requires-clause-outside c = sym (c.stands_beside.ensures nowhere) ∙ c.if-stands_beside.false

pub returns : goal.returns
returns c place =
    let core = c.args.core.now in
    let code = c.args.code.now in
    let run = c.store_outside.new.run in
    let instr = instrs.StoreLocal c.args.hops c.args.index in
    subst (λ (new : Core). IsDone code instr place core c.args.at new (next.On c.args.at))
    (sym (ap (λ (r : Run). record core { run = r }) c.store_outside.ensures.others))
    (done_with code core (in_other (with_memo core run.memo) run.world) c.args.at instr place (next.On c.args.at) run.memo
    (outside_stored code (with_memo core run.memo) run.world c.args.at c.args.hops c.args.index c.running.result c.operand-value.result place
    (can_do_with code core c.args.at instr run.memo c.store_outside.ensures.keeps c.requires.can) c.running.ensures
    c.operand-value.ensures
    (subst (λ (here : Running). (site : Site) → is_beside code (activation_at site here) c.args.hops ≡ false) c.running_code-here.ensures
    (λ site. sym (c.stands_beside.ensures site) ∙ c.if-stands_beside.false))
    (subst (λ (here : Running). (site : Site) (rest : Progress) → in_world rest run.world.world
    ≡ local_stored code (activation_at site here) c.args.hops c.args.index c.operand-value.result (in_world rest core.run.world.world))
    c.running_code-here.ensures c.store_outside.ensures.stored)
    c.store_outside.ensures.rest))
