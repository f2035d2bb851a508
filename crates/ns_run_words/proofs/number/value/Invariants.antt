use Rattle.std.proofs.Common.{◌≡◌, drop}
use Rattle.std.specs.Prelude.{option_and_then}
use Rattle.ns_run_words.specs.Words.{in_range, value_from}
use Rattle.ns_run_words.proofs.number.value.Given as goal

abbrev pub invariant-loop-b : goal.invariant-loop-b
invariant-loop-b l =
    option_and_then (in_range l.greatest) (value_from l.n (drop l.b-index l.text)) ≡ option_and_then (in_range l.greatest) (value_from 0 l.text)
