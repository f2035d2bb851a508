use Rattle.ns_frozen_tables.proofs.Outers.{outers_more}
use Rattle.ns_frozen_tables.proofs.nested.add_nested.Goals as goal

pub nested-preserved : goal.nested-preserved
nested-preserved c =
    outers_more c.args.code.now c.nested.outers.items _ c.args.decl c.nested.one-index c.args.class.now c.as_slice-one-items.result.now _
    c.nested.invariant c.requires.there c.as_slice-one-items.ensures c.nested-test.true c.set_outer.ensures
