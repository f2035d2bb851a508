use Rattle.std.proofs.Common.{◌≡◌, ap, sym, subst}
use Rattle.ns_code.specs.declared.instruction.Instr.TheVariants as instr
use Rattle.ns_moves.specs.declared.site.Site.{Site}
use Rattle.ns_moves.specs.Bodies.{has_environment, local_at}
use Rattle.ns_moves.specs.declared.run.Run.{Run}
use Rattle.ns_moves.specs.declared.running.Running.{Running}
use Rattle.ns_moves.specs.Running.{activation_at}
use Rattle.ns_machine_frames.specs.Standing.{locals_in}
use Rattle.ns_machine_frames.specs.Stack.{stood}
use Rattle.ns_machine_core.specs.declared.state.Core.{Core}
use Rattle.ns_machine_core.specs.Doing.{Pushed}
use Rattle.ns_machine_core.specs.Locals.{LocalIsThere}
use Rattle.ns_machine_core.specs.declared.state.Next.TheVariants as next
use Rattle.ns_machine_core.proofs.LocalsDone.{read_there, known_there, local_pushed}
use Rattle.ns_machine_core.proofs.Remembered.{with_memo, can_do_with, done_with}
use Rattle.ns_machine_core.proofs.locals.push_local_of.Goals as goal

pub local-value-requires-clause-there : goal.local-value-requires-clause-there
local-value-requires-clause-there c =
    let core = c.args.core.now in
    subst (λ (here : Running). LocalIsThere c.args.code.now core.stack c.args.at core.run.world.world.cells here c.args.hops c.args.index)
    (sym c.running_code-here.ensures)
    (read_there c.args.code.now core c.args.at c.args.hops c.args.index c.running.result c.requires.can c.running.ensures)

pub local-value-requires-clause-top : goal.local-value-requires-clause-top
local-value-requires-clause-top c =
    subst (λ (here : Running). c.args.top.environment ≡ has_environment c.args.code.now here.body) (sym c.running_code-here.ensures)
    (known_there c.args.code.now c.args.top c.args.core.now.stack.frames.items c.running.result c.requires.top c.running.ensures)

pub returns : goal.returns
returns c place =
    let core = c.args.core.now in
    let code = c.args.code.now in
    let run = c.local-value.new.run in
    let same = ap (λ (r : Run). record core { run = r }) c.local-value.ensures.rest in
    done_with code core c.push.new.core c.args.at (instr.PushLocal c.args.hops c.args.index) place (next.On c.push.result) run.memo
    (local_pushed code (with_memo core run.memo) c.push.new.core c.args.at c.push.result c.args.hops c.args.index c.running.result c.local-value.result place
    (can_do_with code core c.args.at (instr.PushLocal c.args.hops c.args.index) run.memo c.local-value.ensures.keeps c.requires.can)
    c.running.ensures
    (subst (λ (here : Running). (site : Site) → c.local-value.result
    ≡ local_at core.run.world.world.cells code (activation_at site here) (locals_in (stood core.stack c.args.at)) c.args.hops c.args.index)
    c.running_code-here.ensures c.local-value.ensures.value)
    (subst (λ (old : Core). Pushed code old c.args.at c.local-value.result c.push.new.core c.push.result) same c.push.ensures))
