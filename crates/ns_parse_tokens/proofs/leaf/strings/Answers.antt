use Rattle.std.proofs.Common.{sym, ◌∙◌}
use Rattle.ns_parse_tokens.specs.Leaf.{is_string, string}
use Rattle.ns_parse_tokens.specs.laws.Loops.{goes_on, goes_end}
use Rattle.ns_parse_tokens.specs.laws.Takes.{fewer}
use Rattle.ns_parse_tokens.specs.laws.TakesTokens.{takes_string}
use Rattle.ns_parse_tokens.proofs.leaf.strings.Goals as goal

pub texts-preserved : goal.texts-preserved
texts-preserved c =
    goes_on is_string string c.texts.texts.items c.push.new.self.items c.texts.tokens _ c.in_ok-item.item c.string.new.tokens takes_string
    c.texts.invariant (sym c.sees_string.ensures ∙ c.texts-test.true) c.in_ok-item.ensures c.in_ok-push.ensures.items

pub texts-smaller : goal.texts-smaller
texts-smaller c = fewer string c.texts.tokens c.string.new.tokens c.in_ok-item.item takes_string c.in_ok-item.ensures

pub returns : goal.returns
returns c = goes_end is_string string c.texts.texts.items c.texts.tokens _ c.texts.invariant (sym c.sees_string.ensures ∙ c.texts-test.false)
