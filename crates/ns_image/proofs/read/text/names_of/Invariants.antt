use Rattle.std.proofs.Common.{◌≡◌, ◌-◌}
use Rattle.ns_image.specs.Read.{chained}
use Rattle.ns_image.specs.Reading.{name_after, with_name}
use Rattle.ns_image.specs.laws.Loop.{with_front}
use Rattle.ns_image.proofs.read.text.names_of.Given as goal

abbrev pub invariant-names : goal.invariant-names
invariant-names l = with_front l.names.items (chained name_after with_name (l.count - l.counter) l.earlier l.input.rest.now) ≡ chained name_after with_name l.count l.fn.earlier l.fn.input.rest.now
