use Rattle.std.proofs.Common.{◌≡◌, ◌++◌, ◌∷◌, [], drop}
use Rattle.std.specs.Prelude.{flat_map}
use Rattle.ns_tree.specs.declared.token.Kind.TheVariants as k
use Rattle.ns_tree.specs.Flat.{ident}
use Rattle.ns_print.specs.Printed.{lines}
use Rattle.ns_print.proofs.expressions.put_params.Given as goal

abbrev pub invariant-loop-param : goal.invariant-loop-param
invariant-loop-param l = l.out.items ++ lines (flat_map (λ n. k.Colon ∷ ident n ∷ []) (drop l.param-index l.params)) ≡ l.fn.out.items ++ lines (flat_map (λ n. k.Colon ∷ ident n ∷ []) l.params)
