use Rattle.std.proofs.Common.{subst, sym, arith}
use Rattle.ns_world.specs.declared.value.Value.{Value}
use Rattle.ns_machine_core.specs.declared.state.Core.{Core}
use Rattle.ns_machine_core.specs.declared.state.Next.{Next}
use Rattle.ns_machine_core.specs.declared.state.Next.TheVariants.{On, Waits}
use Rattle.ns_machine_core.specs.Ready.{MakesMove}
use Rattle.ns_machine_returns.specs.Acting.{awaiting}
use Rattle.ns_machine_turns.proofs.Looped.{topmost_loops}
use Rattle.ns_machine_turns.proofs.acting.act_on.Goals as goal

pub prepare-above-requires : goal.prepare-above-requires
prepare-above-requires c = (c.args.core.now, c.in-Evaluates.ensures)

pub let_wait-requires : goal.let_wait-requires
let_wait-requires c = topmost_loops c.looping_by-frame.result c.prepare-above.new.core.stack.frames.items c.prepare-above.ensures.top

pub returns-then-left-lt2 : goal.returns-then-left-lt2
returns-then-left-lt2 c =
    subst (λ (next : Next). MakesMove c.args.code.now c.args.core.now (On c.args.at) c.let_wait.new.core next) (sym c.let_wait.ensures.at)
    (subst (λ (core : Core). MakesMove c.args.code.now c.args.core.now (On c.args.at) core (Waits c.prepare-above.result))
    (sym (c.let_wait.ensures.waits c.looping_by-frame.result c.prepare-above.ensures.top))
    (subst (λ (block : Value). MakesMove c.args.code.now c.args.core.now (On c.args.at) (awaiting c.looping_by-frame.result block c.prepare-above.new.core)
    (Waits c.prepare-above.result)) c.in-Ref.is (c.prepare-above.ensures.moves c.args.core.now c.in-Evaluates.ensures)))

pub returns-else-left-lt2 : goal.returns-else-left-lt2
returns-else-left-lt2 c =
    record {
      looping = c.looping_by-frame.result;
      moves = subst (λ (block : Value). MakesMove c.args.code.now c.args.core.now (On c.args.at)
          (awaiting c.looping_by-frame.result block c.prepare-above.new.core) (Waits c.prepare-above.result)) c.in-Ref.is
          (c.prepare-above.ensures.moves c.args.core.now c.in-Evaluates.ensures);
      some = omega (arith, c.if-left-lt2.false);
      top = c.prepare-above.ensures.top;
      place = c.prepare-above.ensures.place;
    }

pub let_wait-requires-in_default : goal.let_wait-requires-in_default
let_wait-requires-in_default c = topmost_loops c.looping_by-frame.result c.prepare-above.new.core.stack.frames.items c.prepare-above.ensures.top

pub returns-in_default : goal.returns-in_default
returns-in_default c =
    subst (λ (next : Next). MakesMove c.args.code.now c.args.core.now (On c.args.at) c.let_wait-in_default.new.core next)
    (sym c.let_wait-in_default.ensures.at)
    (subst (λ (core : Core). MakesMove c.args.code.now c.args.core.now (On c.args.at) core (Waits c.prepare-above.result))
    (sym (c.let_wait-in_default.ensures.waits c.looping_by-frame.result c.prepare-above.ensures.top))
    (c.prepare-above.ensures.moves c.args.core.now c.in-Evaluates.ensures))

pub end_method-requires-clause-asked : goal.end_method-requires-clause-asked
end_method-requires-clause-asked c = (c.args.core.now, c.in-Ends.ensures)

pub returns-in-Ends : goal.returns-in-Ends
returns-in-Ends c = c.end_method.ensures c.args.core.now c.in-Ends.ensures
