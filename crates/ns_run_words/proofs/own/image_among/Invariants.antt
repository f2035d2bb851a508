use Rattle.std.proofs.Common.{◌≡◌, map, drop, string_bytes}
use Rattle.ns_run_words.specs.Own.{image_among}
use Rattle.ns_run_words.proofs.own.image_among.Given as goal

abbrev pub invariant-options : goal.invariant-options
invariant-options l = image_among (map string_bytes (drop l.option-index l.options)) ≡ image_among (map string_bytes l.options)
