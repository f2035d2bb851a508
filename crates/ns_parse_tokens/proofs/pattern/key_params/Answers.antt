use Rattle.std.proofs.Common.{sym, ◌∙◌}
use Rattle.ns_parse_tokens.specs.Name.{is_name}
use Rattle.ns_parse_tokens.specs.Pattern.{key_param}
use Rattle.ns_parse_tokens.specs.declared.name.Sort.TheVariants.{Key}
use Rattle.ns_parse_tokens.specs.laws.Loops.{goes_on, goes_end}
use Rattle.ns_parse_tokens.specs.laws.Takes.{fewer}
use Rattle.ns_parse_tokens.specs.laws.TakesTokens.{takes_key_param}
use Rattle.ns_parse_tokens.proofs.pattern.key_params.Goals as goal

pub pairs-preserved : goal.pairs-preserved
pairs-preserved c =
    goes_on (is_name Key) key_param c.pairs.pairs.items c.push.new.self.items c.pairs.tokens _ c.in_ok-item.item c.key_param.new.tokens takes_key_param
    c.pairs.invariant (sym c.sees_name.ensures ∙ c.pairs-test.true) c.in_ok-item.ensures c.in_ok-push.ensures.items

pub pairs-smaller : goal.pairs-smaller
pairs-smaller c = fewer key_param c.pairs.tokens c.key_param.new.tokens c.in_ok-item.item takes_key_param c.in_ok-item.ensures

pub returns : goal.returns
returns c = goes_end (is_name Key) key_param c.pairs.pairs.items c.pairs.tokens _ c.pairs.invariant (sym c.sees_name.ensures ∙ c.pairs-test.false)
