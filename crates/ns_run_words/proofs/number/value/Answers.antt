use Rattle.ns_run_words.proofs.NumberLaws.{digit_more}
use Rattle.ns_run_words.proofs.number.value.Goals as goal

pub returns-then-n-gt922337203685477580-clause-is : goal.returns-then-n-gt922337203685477580-clause-is
returns-then-n-gt922337203685477580-clause-is c =
    digit_more c.args.greatest c.args.text.now c.loop-b.b-index c.loop-b.n c.loop-b-test.true c.requires c.if-n-gt922337203685477580.true c.loop-b.invariant
