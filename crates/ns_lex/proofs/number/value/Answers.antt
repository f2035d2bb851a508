use Rattle.ns_lex.proofs.Digits.{above}
use Rattle.ns_lex.proofs.number.value.Goals as goal

pub returns-then-value-digit : goal.returns-then-value-digit
returns-then-value-digit c = above c.args.digits.now c.loop-b.b-index c.loop-b.value c.loop-b-test.true c.if-value-digit.true c.loop-b.invariant.0
