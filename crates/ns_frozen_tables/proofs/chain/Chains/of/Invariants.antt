use Rattle.std.proofs.Common.{drop}
use Rattle.ns_frozen_tables.proofs.Built.{Built}
use Rattle.ns_frozen_tables.proofs.chain.Chains.of.Given as goal

abbrev pub invariant-cells : goal.invariant-cells
invariant-cells l = Built l.code l.cells (drop l.place l.cells) l.number l.chains
