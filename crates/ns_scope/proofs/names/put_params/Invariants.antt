use Rattle.std.proofs.Common.{◌≡◌, ◌++◌, length, drop}
use Rattle.ns_scope.specs.Names.{numbered, param_settings}
use Rattle.ns_scope.proofs.names.put_params.Given as goal

abbrev pub invariant-loop-param : goal.invariant-loop-param
invariant-loop-param l = l.all.items ++ numbered (length l.all.items) (param_settings (drop l.param-index l.params)) ≡ l.fn.all.items ++ numbered (length l.fn.all.items) (param_settings l.params)
