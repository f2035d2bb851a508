use Rattle.std.proofs.Common.{◌≡◌, ◌++◌, drop, map}
use Rattle.ns_print.specs.Printed.{lines}
use Rattle.ns_tree.specs.Flat.{ident}
use Rattle.ns_print.proofs.tokens.put_names.Given as goal

abbrev pub invariant-loop-name : goal.invariant-loop-name
invariant-loop-name l = l.out.items ++ lines (map ident (drop l.name-index l.names)) ≡ l.fn.out.items ++ lines (map ident l.names)
