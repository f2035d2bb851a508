use Rattle.std.proofs.Common.{ap, ◌∙◌, arith}
use Rattle.ns_scope.specs.Resolve.{resolve}
use Rattle.ns_gen_draft.specs.Standing.{standing}
use Rattle.ns_gen_exprs.specs.Setting.{with_set}
use Rattle.ns_gen_exprs.proofs.Setting.{one_more}
use Rattle.ns_gen_exprs.proofs.sets.put_sets.Goals as goal

pub names-preserved : goal.names-preserved
names-preserved c =
    let name = c.index-names-left.result in
    let here = standing c.args.here.now in (
      omega (arith, c.names.invariant.0),
      c.in_ok-put_set.ensures ∙ (ap (with_set here name (resolve here.scope name.text)) c.names.invariant.1
          ∙ one_more here c.args.names.now c.names.left name c.args.writer.now (omega (arith, c.names-test.true)) c.names.invariant.0 c.index-names-left.is),
    )
