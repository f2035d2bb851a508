use Rattle.std.proofs.Common.{sym, ◌∙◌}
use Rattle.ns_parse_tokens.specs.Mark.{is_mark}
use Rattle.ns_parse_tokens.specs.Pattern.{param}
use Rattle.ns_parse_tokens.specs.declared.mark.Mark.TheVariants.{Colon}
use Rattle.ns_parse_tokens.specs.laws.Loops.{goes_on, goes_end}
use Rattle.ns_parse_tokens.specs.laws.Takes.{fewer}
use Rattle.ns_parse_tokens.specs.laws.TakesTokens.{takes_param}
use Rattle.ns_parse_tokens.proofs.pattern.colon_params.Goals as goal

pub names-preserved : goal.names-preserved
names-preserved c =
    goes_on (is_mark Colon) param c.names.names.items c.push.new.self.items c.names.tokens _ c.in_ok-item.item c.param.new.tokens takes_param
    c.names.invariant (sym c.sees.ensures ∙ c.names-test.true) c.in_ok-item.ensures c.in_ok-push.ensures.items

pub names-smaller : goal.names-smaller
names-smaller c = fewer param c.names.tokens c.param.new.tokens c.in_ok-item.item takes_param c.in_ok-item.ensures

pub returns : goal.returns
returns c = goes_end (is_mark Colon) param c.names.names.items c.names.tokens _ c.names.invariant (sym c.sees.ensures ∙ c.names-test.false)
