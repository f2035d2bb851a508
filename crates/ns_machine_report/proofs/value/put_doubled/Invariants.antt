use Rattle.std.proofs.Common.{◌≡◌, ◌++◌, drop}
use Rattle.ns_kdata.specs.Arguments.{bytes_of}
use Rattle.ns_base.specs.Quoted.{doubled}
use Rattle.ns_machine_report.proofs.value.put_doubled.Given as goal

abbrev pub invariant-bytes : goal.invariant-bytes
invariant-bytes l = l.out.items ++ doubled (drop l.place (bytes_of l.world.world.cells l.text)) ≡ l.fn.out.items ++ doubled (bytes_of l.world.world.cells l.text)
