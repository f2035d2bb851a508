use Rattle.std.proofs.Common.{arith, ap, length}
use Rattle.ns_classes.specs.laws.Entries.{nested_entry_past}
use Rattle.ns_classes.proofs.nested.nested_entry.Goals as goal

pub returns-in-None : goal.returns-in-None
returns-in-None c =
    nested_entry_past c.args.code.now c.args.decl c.args.class (omega (arith, c.in-None.ensures.lookup, ap length c.as_slice.ensures))
