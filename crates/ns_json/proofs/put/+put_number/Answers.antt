use Rattle.std.proofs.Common.{arith}
use Rattle.std.proofs.lemmas.List.{append_assoc}
use Rattle.ns_json.proofs.Numbers.{number_text_step}
use Rattle.ns_json.proofs.put.+put_number.Goals as goal

pub returns : goal.returns
returns t c = grind (arith, append_assoc, number_text_step c.args.n)
