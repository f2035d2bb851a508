use Rattle.std.proofs.Common.{◌≡◌, ◌++◌, map, drop, string_bytes}
use Rattle.ns_run_words.specs.Options.{denied_by}
use Rattle.ns_run_words.proofs.options.denied_texts.Given as goal

abbrev pub invariant-options : goal.invariant-options
invariant-options l =
    l.denied.items ++ denied_by (map string_bytes (drop l.option-index l.options)) ≡ denied_by (map string_bytes l.options)
