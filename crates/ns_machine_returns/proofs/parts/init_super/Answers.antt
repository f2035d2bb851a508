use Rattle.std.proofs.Common.{ℕ, subst}
use Rattle.ns_code.specs.declared.instruction.Instr.TheVariants as instr
use Rattle.ns_machine_core.specs.Doing.{IsDone}
use Rattle.ns_machine_returns.proofs.parts.init_super.Goals as goal

pub returns : goal.returns
returns c place =
    subst (λ (count : ℕ). IsDone c.args.code.now (instr.InitSuper count) place c.args.core.now c.args.at c.begin_part.new.core c.begin_part.result) c.from.ensures
    (c.begin_part.ensures place)
