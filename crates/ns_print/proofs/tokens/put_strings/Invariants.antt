use Rattle.std.proofs.Common.{◌≡◌, ◌++◌, drop, map}
use Rattle.ns_print.specs.Printed.{lines}
use Rattle.ns_tree.specs.declared.token.Kind.TheVariants as k
use Rattle.ns_print.proofs.tokens.put_strings.Given as goal

abbrev pub invariant-loop-text : goal.invariant-loop-text
invariant-loop-text l = l.out.items ++ lines (map k.Str (drop l.text-index l.texts)) ≡ l.fn.out.items ++ lines (map k.Str l.texts)
