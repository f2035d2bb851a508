use Rattle.std.proofs.Common.{refl, sym, ◌∙◌}
use Rattle.ns_load.specs.Source.{read}
use Rattle.ns_load_laws.proofs.laws.sources_are_read_one_way.Goals as goal

pub returns-clause-some : goal.returns-clause-some
returns-clause-some c = λ file source. (read file source, (c.sources_are_read_by_the_grammar.ensures file source (read file source)).0 refl)

pub returns-clause-one : goal.returns-clause-one
returns-clause-one c = λ file source first second x y.
    sym ((c.sources_are_read_by_the_grammar.ensures file source first).1 x) ∙ (c.sources_are_read_by_the_grammar.ensures file source second).1 y
