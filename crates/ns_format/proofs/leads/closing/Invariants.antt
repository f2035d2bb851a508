use Rattle.std.proofs.Common.{◌≡◌, ◌+◌, drop}
use Rattle.ns_format.specs.Leads.{closing}
use Rattle.ns_format.proofs.leads.closing.Given as goal

abbrev pub invariant-closing : goal.invariant-closing
invariant-closing l = (l.n ≡ l.piece-index) × (l.n + closing (drop l.piece-index l.pieces) ≡ closing l.pieces)
