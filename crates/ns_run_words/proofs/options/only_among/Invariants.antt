use Rattle.std.proofs.Common.{◌≡◌, map, drop, string_bytes}
use Rattle.ns_run_words.specs.Options.{only_among}
use Rattle.ns_run_words.proofs.options.only_among.Given as goal

abbrev pub invariant-options : goal.invariant-options
invariant-options l = only_among (map string_bytes (drop l.option-index l.options)) ≡ only_among (map string_bytes l.options)
