use Rattle.std.proofs.Common.{codes}
use Rattle.ns_run_words.proofs.OwnLaws.{stripped}
use Rattle.ns_run_words.proofs.own.image_in.Goals as goal

pub returns : goal.returns
returns c = stripped (codes "--to=") c.args.option.now c.strip_prefix.result c.strip_prefix.ensures.cases
