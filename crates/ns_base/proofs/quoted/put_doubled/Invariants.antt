use Rattle.std.proofs.Common.{◌≡◌, ◌++◌, drop}
use Rattle.ns_base.specs.Quoted.{doubled}
use Rattle.ns_base.proofs.quoted.put_doubled.Given as goal

abbrev pub invariant-bytes : goal.invariant-bytes
invariant-bytes l = l.out.items ++ doubled (drop l.byte-index l.text) ≡ l.fn.out.items ++ doubled l.text
