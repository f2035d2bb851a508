use Rattle.std.proofs.Common.{sym, ◌∙◌}
use Rattle.ns_parse_tokens.specs.Name.{is_name, name}
use Rattle.ns_parse_tokens.specs.laws.Loops.{goes_on, goes_end}
use Rattle.ns_parse_tokens.specs.laws.Takes.{fewer}
use Rattle.ns_parse_tokens.specs.laws.TakesTokens.{takes_name}
use Rattle.ns_parse_tokens.proofs.name.names.Goals as goal

pub names-preserved : goal.names-preserved
names-preserved c =
    goes_on (is_name c.args.sort) (name c.args.sort) c.names.names.items c.push.new.self.items c.names.tokens _ c.in_ok-item.item c.name.new.tokens (takes_name c.args.sort)
    c.names.invariant (sym c.sees_name.ensures ∙ c.names-test.true) c.in_ok-item.ensures c.in_ok-push.ensures.items

pub names-smaller : goal.names-smaller
names-smaller c = fewer (name c.args.sort) c.names.tokens c.name.new.tokens c.in_ok-item.item (takes_name c.args.sort) c.in_ok-item.ensures

pub returns : goal.returns
returns c = goes_end (is_name c.args.sort) (name c.args.sort) c.names.names.items c.names.tokens _ c.names.invariant (sym c.sees_name.ensures ∙ c.names-test.false)
