use Rattle.std.proofs.Common.{◌≡◌, ◌++◌, ◌∷◌, []}
use Rattle.std.specs.Prelude.{flat_map, zip}
use Rattle.ns_tree.specs.Flat.{ident, part_before}
use Rattle.ns_print.specs.Printed.{lines}
use Rattle.ns_print.proofs.declarations.put_parts.Given as goal

abbrev pub invariant-loop-part : goal.invariant-loop-part
invariant-loop-part l = l.out.items ++ lines (flat_map (λ x. part_before x.0.text ∷ ident x.1 ∷ []) (zip l.part-iterator.a.rest.now l.part-iterator.b.rest.now)) ≡ l.fn.out.items ++ lines (flat_map (λ x. part_before x.0.text ∷ ident x.1 ∷ []) (zip l.parts l.params))
