use Rattle.std.proofs.Common.{◌≡◌, drop}
use Rattle.ns_base.specs.Stored.{file_at}
use Rattle.ns_base.proofs.stored.find.Given as goal

abbrev pub invariant-loop-text : goal.invariant-loop-text
invariant-loop-text l = file_at (drop l.text-index l.files) l.name ≡ file_at l.files l.name
